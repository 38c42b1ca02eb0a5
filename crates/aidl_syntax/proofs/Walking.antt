-- What a walk collects stands in the same order as the tokens do, for any relation between both that holds of each leaf
-- and of lists one after another.
use Rattle.std.proofs.Common.{◌≡◌, ℕ, List, [], ◌∷◌, ◌++◌, Option, Some, None, refl, sym, ap, subst, ◌∙◌, append-nil, append_assoc}
use Rattle.aidl_base.specs.declared.reserved.Reserved.{Reserved}
use Rattle.aidl_base.specs.declared.reserved.Reserved.TheVariants as word
use Rattle.aidl_syntax.specs.declared.token.Symbol.{Symbol}
use Rattle.aidl_syntax.specs.declared.token.Symbol.TheVariants as mark
use Rattle.aidl_syntax.specs.declared.token.Token.{Token}
use Rattle.aidl_syntax.specs.declared.tree.NameTree.{NameTree}
use Rattle.aidl_syntax.specs.declared.tree.DottedTree.{DottedTree}
use Rattle.aidl_syntax.specs.Parts.{Form, Then, Maybe, Many, Quoted, Worded, Behind, Before, Listed, MaybeListed, Trailing, MaybeTrailing, first}
use Rattle.aidl_syntax.specs.Productions.{IsIdent, IsDotted, IsExpr, IsArray, IsType, IsInit, IsParam, AreParams, listed, IsAnnot, AreAnnots, IsField, IsConstant, IsEnumerator, IsWay, IsArg, IsReturned, IsOneway, IsNumberToken, IsMethod, Opens, IsDecl, IsBody, AreMembers, AreInterfaceMembers, Named, IsFile}
use Rattle.aidl_syntax.specs.Trees.{Expr, Param, Arg, Decl, Body, Members}
use Rattle.aidl_syntax.specs.Trees.Init.{single, braces}
use Rattle.aidl_syntax.specs.Trees.Decl.{decl}
use Rattle.aidl_syntax.specs.Trees.Body.{parcelable, union, enum, interface}
use Rattle.aidl_syntax.specs.Trees.Members.{none, field, constant, method, nested}
use Rattle.aidl_syntax.specs.Walks.{Walk, of_option, of_each, in_type, in_init, in_param, in_annot, in_annots, in_field, in_constant, in_enumerator, in_arg, in_method, in_decl, in_body, in_members, in_file}

-- the relation holds of each leaf, and of lists one after another
pub record Kept {A : Type 0} (w : Walk A) (R : List A → List Token → Type 0) : Type 0 where
  pub nothing : (ts : List Token) → R [] ts
  pub append : (xs ys : List A) (front back : List Token) → R xs front → R ys back → R (xs ++ ys) (front ++ back)
  pub named : (ts : List Token) (n : NameTree) → IsIdent ts n → R (w.named n) ts
  pub dotted : (ts : List Token) (d : DottedTree) → IsDotted ts d → R (w.dotted d) ts
  pub valued : (ts : List Token) (e : Expr) → IsExpr ts e → R (w.valued e) ts
  pub numbered : (ts : List Token) (t : Token) → IsNumberToken ts t → R (w.numbered t) ts
  pub marked : (ts : List Token) (o : ℕ) (t : Token) → ts ≡ t ∷ [] → o ≡ t.offset → R (w.marked o) ts

-- "<" dotted ">"
abbrev Element : Form DottedTree
Element = Behind mark.Less (Before IsDotted mark.Greater)

-- "(" [arg {"," arg}] ")"
abbrev Args : Form (List Arg)
Args = Behind mark.OpenParen (Before (MaybeListed IsArg) mark.CloseParen)

-- ["=" number] ";"
abbrev Number : Form (Option Token)
Number = Before (Maybe (Behind mark.Equal IsNumberToken)) mark.Semicolon

module _ {A : Type 0} (w : Walk A) (R : List A → List Token → Type 0) (k : Kept w R) where
  -- what a form stands for is collected from its tokens
  abbrev pub Covers : {X : Type 0} → Form X → (X → List A) → Type 0
  Covers {X} P g = (ts : List Token) (x : X) → P ts x → R (g x) ts

  both : {X Y : Type 0} (P : Form X) (Q : Form Y) (g : X → List A) (h : Y → List A) → Covers P g → Covers Q h → Covers (Then P Q) (λ x. g x.0 ++ h x.1)
  both P Q g h a b ts x (front, back, is, p, q) = subst (λ us. R (g x.0 ++ h x.1) us) (sym is) (k.append (g x.0) (h x.1) front back (a front x.0 p) (b back x.1 q))

  -- the other part collects nothing
  fore : {X Y : Type 0} (P : Form X) (Q : Form Y) (g : X → List A) → Covers P g → Covers (Then P Q) (λ x. g x.0)
  fore P Q g a ts x p = subst (λ xs. R xs ts) (append-nil (g x.0)) (both P Q g (λ y. []) a (λ us y q. k.nothing us) ts x p)

  back_of : {X Y : Type 0} (P : Form X) (Q : Form Y) (h : Y → List A) → Covers Q h → Covers (Then P Q) (λ x. h x.1)
  back_of P Q h b ts x p = both P Q (λ y. []) h (λ us y q. k.nothing us) b ts x p

  behind : {X : Type 0} (s : Symbol) (P : Form X) (g : X → List A) → Covers P g → Covers (Behind s P) g
  behind s P g a ts x p = back_of (Quoted s) P g a ts (tt, x) p

  before : {X : Type 0} (P : Form X) (s : Symbol) (g : X → List A) → Covers P g → Covers (Before P s) g
  before P s g a ts x p = fore P (Quoted s) g a ts (x, tt) p

  maybe : {X : Type 0} (P : Form X) (g : X → List A) → Covers P g → Covers (Maybe P) (of_option g)
  maybe P g a ts None p = k.nothing ts
  maybe P g a ts (Some x) p = a ts x p

  many : {X : Type 0} (P : Form X) (g : X → List A) → Covers P g → Covers (Many P) (of_each g)
  many P g a ts [] p = k.nothing ts
  many P g a ts (x ∷ xs) (front, back, is, p, q) = subst (λ us. R (g x ++ of_each g xs) us) (sym is) (k.append (g x) (of_each g xs) front back (a front x p) (many P g a back xs q))

  listed_of : {X : Type 0} (P : Form X) (g : X → List A) → Covers P g → Covers (Listed P) (of_each g)
  listed_of P g a ts [] p = absurd p
  listed_of P g a ts (x ∷ xs) p = both P (Many (Behind mark.Comma P)) g (of_each g) a (many (Behind mark.Comma P) g (behind mark.Comma P g a)) ts (x, xs) p

  maybe_listed : {X : Type 0} (P : Form X) (g : X → List A) → Covers P g → Covers (MaybeListed P) (of_each g)
  maybe_listed P g a ts [] p = k.nothing ts
  maybe_listed P g a ts (x ∷ xs) p = listed_of P g a ts (x ∷ xs) p

  trailing : {X : Type 0} (P : Form X) (g : X → List A) → Covers P g → Covers (Trailing P) (of_each g)
  trailing P g a ts xs (comma, p) = fore (Listed P) (Maybe (Quoted mark.Comma)) (of_each g) (listed_of P g a) ts (xs, comma) p

  maybe_trailing : {X : Type 0} (P : Form X) (g : X → List A) → Covers P g → Covers (MaybeTrailing P) (of_each g)
  maybe_trailing P g a ts [] p = k.nothing ts
  maybe_trailing P g a ts (x ∷ xs) p = trailing P g a ts (x ∷ xs) p

  typed : Covers IsType (in_type w)
  typed ts t (p, o) =
      both IsDotted (Then (Maybe Element) IsArray) w.dotted (λ x. of_option w.dotted x.0) k.dotted
      (fore (Maybe Element) IsArray (of_option w.dotted) (maybe Element w.dotted (behind mark.Less (Before IsDotted mark.Greater) w.dotted (before IsDotted mark.Greater w.dotted k.dotted))))
      ts (t.name, (t.element, t.array)) p

  -- a part that begins by a symbol, at whose offset it stands
  at_mark : {X : Type 0} (s : Symbol) (P : Form X) (g : X → List A) (o : ℕ) → Covers P g → (ts : List Token) (x : X) → Behind s P ts x → o ≡ first ts → R (w.marked o ++ g x) ts
  at_mark s P g o a ts x (front, back, is, (t, one, same), p) e =
      let f : o ≡ t.offset = e ∙ ap first is ∙ ap (λ us. first (us ++ back)) one in
      subst (λ us. R (w.marked o ++ g x) us) (sym is) (k.append (w.marked o) (g x) front back (k.marked front o t one f) (a back x p))

  initial : Covers IsInit (in_init w)
  initial ts (single e) p = k.valued ts e p
  initial ts (braces o es) (p, e) =
      at_mark mark.OpenBrace (Before (MaybeTrailing IsExpr) mark.CloseBrace) (of_each w.valued) o
      (before (MaybeTrailing IsExpr) mark.CloseBrace (of_each w.valued) (maybe_trailing IsExpr w.valued k.valued)) ts es p e

  param : Covers IsParam (in_param w)
  param ts p (q, o) =
      both (Maybe (Before IsIdent mark.Equal)) IsInit (of_option w.named) (in_init w)
      (maybe (Before IsIdent mark.Equal) w.named (before IsIdent mark.Equal w.named k.named)) initial ts (p.name, p.value) q

  params_listed : (params : Option (List Param)) → of_option (of_each (in_param w)) params ≡ of_each (in_param w) (listed params)
  params_listed None = refl
  params_listed (Some params) = refl

  annot : Covers IsAnnot (in_annot w)
  annot ts a (params, p, is, o) =
      subst (λ ps. R (w.marked a.offset ++ (w.named a.name ++ of_each (in_param w) ps)) ts) (sym is)
      (subst (λ xs. R (w.marked a.offset ++ (w.named a.name ++ xs)) ts) (params_listed params)
      (at_mark mark.At (Then IsIdent (Maybe AreParams)) (λ x. w.named x.0 ++ of_option (of_each (in_param w)) x.1) a.offset
      (both IsIdent (Maybe AreParams) w.named (of_option (of_each (in_param w))) k.named
      (maybe AreParams (of_each (in_param w)) (behind mark.OpenParen (Before (MaybeListed IsParam) mark.CloseParen) (of_each (in_param w))
      (before (MaybeListed IsParam) mark.CloseParen (of_each (in_param w)) (maybe_listed IsParam (in_param w) param)))))
      ts (a.name, params) p o))

  annots : Covers AreAnnots (in_annots w)
  annots = many IsAnnot (in_annot w) annot

  member_field : Covers IsField (in_field w)
  member_field ts f (p, o) =
      both AreAnnots (Then IsType (Then IsIdent (Before (Maybe (Behind mark.Equal IsInit)) mark.Semicolon))) (in_annots w) (λ x. in_type w x.0 ++ (w.named x.1.0 ++ of_option (in_init w) x.1.1)) annots
      (both IsType (Then IsIdent (Before (Maybe (Behind mark.Equal IsInit)) mark.Semicolon)) (in_type w) (λ x. w.named x.0 ++ of_option (in_init w) x.1) typed
      (both IsIdent (Before (Maybe (Behind mark.Equal IsInit)) mark.Semicolon) w.named (of_option (in_init w)) k.named
      (before (Maybe (Behind mark.Equal IsInit)) mark.Semicolon (of_option (in_init w)) (maybe (Behind mark.Equal IsInit) (in_init w) (behind mark.Equal IsInit (in_init w) initial)))))
      ts (f.annots, (f.ty, (f.name, f.initial))) p

  member_constant : Covers IsConstant (in_constant w)
  member_constant ts c (p, o) =
      both AreAnnots (Then (Worded word.Const) (Then IsType (Then IsIdent (Behind mark.Equal (Before IsExpr mark.Semicolon))))) (in_annots w) (λ x. in_type w x.1.0 ++ (w.named x.1.1.0 ++ w.valued x.1.1.1)) annots
      (back_of (Worded word.Const) (Then IsType (Then IsIdent (Behind mark.Equal (Before IsExpr mark.Semicolon)))) (λ x. in_type w x.0 ++ (w.named x.1.0 ++ w.valued x.1.1))
      (both IsType (Then IsIdent (Behind mark.Equal (Before IsExpr mark.Semicolon))) (in_type w) (λ x. w.named x.0 ++ w.valued x.1) typed
      (both IsIdent (Behind mark.Equal (Before IsExpr mark.Semicolon)) w.named w.valued k.named
      (behind mark.Equal (Before IsExpr mark.Semicolon) w.valued (before IsExpr mark.Semicolon w.valued k.valued)))))
      ts (c.annots, (tt, (c.ty, (c.name, c.value)))) p

  enumerator : Covers IsEnumerator (in_enumerator w)
  enumerator ts e (p, o) =
      both IsIdent (Maybe (Behind mark.Equal IsExpr)) w.named (of_option w.valued) k.named (maybe (Behind mark.Equal IsExpr) w.valued (behind mark.Equal IsExpr w.valued k.valued)) ts (e.name, e.value) p

  each_append : {X : Type 0} (g : X → List A) (xs ys : List X) (zs : List A) → of_each g xs ++ (of_each g ys ++ zs) ≡ of_each g (xs ++ ys) ++ zs
  each_append g [] ys zs = refl
  each_append g (x ∷ xs) ys zs = append_assoc (g x) (of_each g xs) (of_each g ys ++ zs) ∙ ap (λ us. g x ++ us) (each_append g xs ys zs) ∙ sym (append_assoc (g x) (of_each g (xs ++ ys)) zs)

  arg : Covers IsArg (in_arg w)
  arg ts a (first_annots, more_annots, is, p, o) =
      subst (λ xs. R (in_annots w xs ++ (in_type w a.ty ++ w.named a.name)) ts) (sym is)
      (subst (λ xs. R xs ts) (each_append (in_annot w) first_annots more_annots (in_type w a.ty ++ w.named a.name))
      (both AreAnnots (Then (Maybe IsWay) (Then AreAnnots (Then IsType IsIdent))) (in_annots w) (λ x. in_annots w x.1.0 ++ (in_type w x.1.1.0 ++ w.named x.1.1.1)) annots
      (back_of (Maybe IsWay) (Then AreAnnots (Then IsType IsIdent)) (λ x. in_annots w x.0 ++ (in_type w x.1.0 ++ w.named x.1.1))
      (both AreAnnots (Then IsType IsIdent) (in_annots w) (λ x. in_type w x.0 ++ w.named x.1) annots (both IsType IsIdent (in_type w) w.named typed k.named)))
      ts (first_annots, (a.way, (more_annots, (a.ty, a.name)))) p))

  returned : Covers IsReturned (of_option (in_type w))
  returned ts None p = k.nothing ts
  returned ts (Some t) p = typed ts t p

  member_method : Covers IsMethod (in_method w)
  member_method ts m (p, o) =
      both AreAnnots (Then IsOneway (Then IsReturned (Then IsIdent (Then Args Number)))) (in_annots w) (λ x. of_option (in_type w) x.1.0 ++ (w.named x.1.1.0 ++ (of_each (in_arg w) x.1.1.1.0 ++ of_option w.numbered x.1.1.1.1))) annots
      (back_of IsOneway (Then IsReturned (Then IsIdent (Then Args Number))) (λ x. of_option (in_type w) x.0 ++ (w.named x.1.0 ++ (of_each (in_arg w) x.1.1.0 ++ of_option w.numbered x.1.1.1)))
      (both IsReturned (Then IsIdent (Then Args Number)) (of_option (in_type w)) (λ x. w.named x.0 ++ (of_each (in_arg w) x.1.0 ++ of_option w.numbered x.1.1)) returned
      (both IsIdent (Then Args Number) w.named (λ x. of_each (in_arg w) x.0 ++ of_option w.numbered x.1) k.named
      (both Args Number (of_each (in_arg w)) (of_option w.numbered)
      (behind mark.OpenParen (Before (MaybeListed IsArg) mark.CloseParen) (of_each (in_arg w)) (before (MaybeListed IsArg) mark.CloseParen (of_each (in_arg w)) (maybe_listed IsArg (in_arg w) arg)))
      (before (Maybe (Behind mark.Equal IsNumberToken)) mark.Semicolon (of_option w.numbered) (maybe (Behind mark.Equal IsNumberToken) w.numbered (behind mark.Equal IsNumberToken w.numbered k.numbered)))))))
      ts (m.annots, (m.oneway, (m.returned, (m.name, (m.args, m.id))))) p

  opened : (word : Reserved) → Covers (Then (Worded word) (Opens IsIdent)) (λ x. w.named x.1)
  opened word = back_of (Worded word) (Opens IsIdent) w.named (before IsIdent mark.OpenBrace w.named k.named)

  -- a head, what stands in braces, and the closing brace
  braced : (xs ys : List A) (ts head inner tail : List Token) → ts ≡ head ++ inner ++ tail → R xs head → R ys inner → R (xs ++ ys) ts
  braced xs ys ts head inner tail is a b =
      subst (λ us. R (xs ++ ys) us) (sym is) (subst (λ zs. R zs (head ++ inner ++ tail)) (append-nil (xs ++ ys)) (k.append (xs ++ ys) [] (head ++ inner) tail (k.append xs ys head inner a b) (k.nothing tail)))

  mutual
    pub declared : (ts : List Token) (d : Decl) → IsDecl ts d → R (in_decl w d) ts
    declared ts (decl o list n body) (front, back, is, p, q, e) =
        subst (λ us. R (in_annots w list ++ (w.named n ++ in_body w body)) us) (sym is)
        (k.append (in_annots w list) (w.named n ++ in_body w body) front back (annots front list p) (body_of back n body q))

    body_of : (ts : List Token) (n : NameTree) (body : Body) → IsBody ts n body → R (w.named n ++ in_body w body) ts
    body_of ts n (parcelable ms) (head, inner, tail, is, p, q, e) = braced (w.named n) (in_members w ms) ts head inner tail is (opened word.Parcelable head (tt, n) p) (members inner ms q)
    body_of ts n (union ms) (head, inner, tail, is, p, q, e) = braced (w.named n) (in_members w ms) ts head inner tail is (opened word.Union head (tt, n) p) (members inner ms q)
    body_of ts n (enum es) p =
        both (Then (Worded word.Enum) (Opens IsIdent)) (Before (Trailing IsEnumerator) mark.CloseBrace) (λ x. w.named x.1) (of_each (in_enumerator w)) (opened word.Enum)
        (before (Trailing IsEnumerator) mark.CloseBrace (of_each (in_enumerator w)) (trailing IsEnumerator (in_enumerator w) enumerator)) ts ((tt, n), es) p
    body_of ts n (interface oneway ms) (head, inner, tail, is, p, q, e) =
        braced (w.named n) (in_members w ms) ts head inner tail is
        (back_of IsOneway (Then (Worded word.Interface) (Opens IsIdent)) (λ x. w.named x.1) (opened word.Interface) head (oneway, (tt, n)) p) (interface_members inner ms q)

    members : (ts : List Token) (ms : Members) → AreMembers ts ms → R (in_members w ms) ts
    members ts none p = k.nothing ts
    members ts (field f ms) (front, back, is, p, q) = subst (λ us. R (in_field w f ++ in_members w ms) us) (sym is) (k.append (in_field w f) (in_members w ms) front back (member_field front f p) (members back ms q))
    members ts (constant c ms) (front, back, is, p, q) = subst (λ us. R (in_constant w c ++ in_members w ms) us) (sym is) (k.append (in_constant w c) (in_members w ms) front back (member_constant front c p) (members back ms q))
    members ts (method m ms) p = absurd p
    members ts (nested d ms) (front, back, is, p, q) = subst (λ us. R (in_decl w d ++ in_members w ms) us) (sym is) (k.append (in_decl w d) (in_members w ms) front back (declared front d p) (members back ms q))

    interface_members : (ts : List Token) (ms : Members) → AreInterfaceMembers ts ms → R (in_members w ms) ts
    interface_members ts none p = k.nothing ts
    interface_members ts (field f ms) p = absurd p
    interface_members ts (constant c ms) (front, back, is, p, q) = subst (λ us. R (in_constant w c ++ in_members w ms) us) (sym is) (k.append (in_constant w c) (in_members w ms) front back (member_constant front c p) (interface_members back ms q))
    interface_members ts (method m ms) (front, back, is, p, q) = subst (λ us. R (in_method w m ++ in_members w ms) us) (sym is) (k.append (in_method w m) (in_members w ms) front back (member_method front m p) (interface_members back ms q))
    interface_members ts (nested d ms) (front, back, is, p, q) = subst (λ us. R (in_decl w d ++ in_members w ms) us) (sym is) (k.append (in_decl w d) (in_members w ms) front back (declared front d p) (interface_members back ms q))

  statement : (word : Reserved) → Covers (Named word) w.dotted
  statement word ts d p = back_of (Worded word) (Before IsDotted mark.Semicolon) w.dotted (before IsDotted mark.Semicolon w.dotted k.dotted) ts (tt, d) p

  pub whole : Covers IsFile (in_file w)
  whole ts f (p, o) =
      both (Maybe (Named word.Package)) (Then (Many (Named word.Import)) IsDecl) (of_option w.dotted) (λ x. of_each w.dotted x.0 ++ in_decl w x.1) (maybe (Named word.Package) w.dotted (statement word.Package))
      (both (Many (Named word.Import)) IsDecl (of_each w.dotted) (in_decl w) (many (Named word.Import) w.dotted (statement word.Import)) declared)
      ts (f.package, (f.imports, f.declared)) p
