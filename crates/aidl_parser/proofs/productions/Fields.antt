-- The laws of what stands in a declaration: fields, constants, enumerators, arguments and methods.
use Rattle.std.proofs.Common.{◌⊎◌, inl, inr, ◌≡◌, ℕ, suc, ◌+◌, Bool, true, false, cond, List, [], ◌∷◌, ◌++◌, length, Option, Some, None, refl, sym, ap, subst, ◌∙◌, arith, append_assoc, append-nil, length-append}
use Rattle.aidl_base.specs.declared.reserved.Reserved.{Reserved}
use Rattle.aidl_base.specs.declared.reserved.Reserved.TheVariants as word
use Rattle.aidl_syntax.specs.declared.token.Symbol.TheVariants as mark
use Rattle.aidl_syntax.specs.declared.token.TokenKind.{TokenKind}
use Rattle.aidl_syntax.specs.declared.token.TokenKind.TheVariants as kind
use Rattle.aidl_syntax.specs.declared.token.Token.{Token}
use Rattle.aidl_syntax.specs.declared.tree.NameTree.{NameTree}
use Rattle.aidl_syntax.specs.declared.tree.TypeTree.{TypeTree}
use Rattle.aidl_syntax.specs.declared.tree.WayTree.{WayTree}
use Rattle.aidl_syntax.specs.declared.tree.WayTree.TheVariants as way
use Rattle.aidl_syntax.specs.Parts.{Form, Then, Maybe, Many, Worded, Behind, Before, MaybeListed, Trailing, first}
use Rattle.aidl_syntax.specs.Trees.{Expr, Init, Annot, Arg}
use Rattle.aidl_syntax.specs.Productions.{IsIdent, IsExpr, IsType, IsInit, IsAnnot, AreAnnots, IsEnumerator, IsWay, IsArg, IsReturned, IsOneway, IsNumberToken}
use Rattle.expr_parser.specs.Reading.{Read, ◌>>=◌}
use Rattle.aidl_parser.specs.steps.Parts.{same_symbol, same_word, begins, begins_word, worded, both, altered, alter, second, upto, as_some, maybe, with_items}
use Rattle.aidl_parser.specs.steps.Types.{ident, as_true, type_at}
use Rattle.aidl_parser.specs.steps.Inits.{expr_at, init_at, annots_at, maybe_listed, trailing}
use Rattle.aidl_parser.specs.steps.Members.{initial_at, field_at, value_at, constant_at, args_at, oneway_at, as_none, returned_at, id_at, method_at}
use Rattle.aidl_parser.specs.steps.Items.{given_at, enumerator_made, enumerator_at, way_of, way_by, way_at, arg_made, arg_ends, arg_goes_on, arg_begins, arg_at, is_number, number_at}
use Rattle.expr_parser.proofs.lemmas.Told.{bind_some, pair_some, chosen}
use Rattle.expr_parser.proofs.lemmas.Found.{starts_name}
use Rattle.aidl_parser.proofs.productions.Laws.{IsTold, IsFound, Law, MayFollow, any, both_law, placed_law, alter_law, worded_law, worded_begins, behind_law, behind_begins, upto_law, then_starts, unless, unless_parts, maybe_law, same_self}
use Rattle.aidl_parser.proofs.productions.Types.{ident_law, ident_starts, expr_law, ends_expr, type_law, type_starts, no_type, ident_follows}
use Rattle.aidl_parser.proofs.productions.Inits.{Avoids, Allows, maybe_listed_law, trailing_law}
use Rattle.aidl_parser.proofs.productions.Annots.{init_law, annots_law, no_annot}

-- Fields and constants, behind their annotations.

abbrev pub FieldRest : Form (TypeTree × (NameTree × Option Init))
FieldRest = Then IsType (Then IsIdent (Before (Maybe (Behind mark.Equal IsInit)) mark.Semicolon))

semicolon_ends : (t : Token) (us : List Token) → t.kind ≡ kind.Mark mark.Semicolon → unless (begins mark.Equal) ends_expr (t ∷ us) ≡ true
unfolding same_symbol
semicolon_ends t us k = rw k refl

initial_law : (n : ℕ) → Law n (initial_at (suc n)) (Behind mark.Equal IsInit) ends_expr
unfolding initial_at
initial_law n = behind_law n mark.Equal (init_at (suc n)) IsInit ends_expr (init_law n)

pub field_law : (n : ℕ) (F : List Token → Bool) → Law n (field_at (suc n)) FieldRest F
unfolding field_at
field_law n F =
    both_law n type_at (both ident (upto (maybe (begins mark.Equal) (initial_at (suc n))) mark.Semicolon)) IsType (Then IsIdent (Before (Maybe (Behind mark.Equal IsInit)) mark.Semicolon)) no_type F (type_law n)
    (both_law n ident (upto (maybe (begins mark.Equal) (initial_at (suc n))) mark.Semicolon) IsIdent (Before (Maybe (Behind mark.Equal IsInit)) mark.Semicolon) any F (ident_law n any)
    (upto_law n (maybe (begins mark.Equal) (initial_at (suc n))) mark.Semicolon (Maybe (Behind mark.Equal IsInit)) (unless (begins mark.Equal) ends_expr) F
    (maybe_law n (begins mark.Equal) (initial_at (suc n)) (Behind mark.Equal IsInit) ends_expr (behind_begins mark.Equal IsInit) (initial_law n)) semicolon_ends)
    (λ ts y rest q ok. refl))
    (ident_follows (Before (Maybe (Behind mark.Equal IsInit)) mark.Semicolon) F)

abbrev pub ConstantRest : Form (TypeTree × (NameTree × Expr))
ConstantRest ts x = Then (Worded word.Const) (Then IsType (Then IsIdent (Behind mark.Equal (Before IsExpr mark.Semicolon)))) ts (tt, x)

value_law : (n : ℕ) (F : List Token → Bool) → Law n (value_at (suc n)) (Behind mark.Equal (Before IsExpr mark.Semicolon)) F
unfolding value_at
value_law n F = behind_law n mark.Equal (upto (expr_at (suc n)) mark.Semicolon) (Before IsExpr mark.Semicolon) F (upto_law n (expr_at (suc n)) mark.Semicolon IsExpr ends_expr F (expr_law n) (λ t us k. rw k refl))

pub constant_law : (n : ℕ) (F : List Token → Bool) → Law n (constant_at (suc n)) ConstantRest F
unfolding constant_at
constant_law n F =
    alter_law n second (λ y. (tt, y)) (both (worded word.Const) (both type_at (both ident (value_at (suc n))))) (Then (Worded word.Const) (Then IsType (Then IsIdent (Behind mark.Equal (Before IsExpr mark.Semicolon))))) F (λ x. refl) (λ y. refl)
    (both_law n (worded word.Const) (both type_at (both ident (value_at (suc n)))) (Worded word.Const) (Then IsType (Then IsIdent (Behind mark.Equal (Before IsExpr mark.Semicolon)))) any F (worded_law n word.Const any)
    (both_law n type_at (both ident (value_at (suc n))) IsType (Then IsIdent (Behind mark.Equal (Before IsExpr mark.Semicolon))) no_type F (type_law n)
    (both_law n ident (value_at (suc n)) IsIdent (Behind mark.Equal (Before IsExpr mark.Semicolon)) any F (ident_law n any) (value_law n F) (λ ts y rest q ok. refl))
    (ident_follows (Behind mark.Equal (Before IsExpr mark.Semicolon)) F))
    (λ ts y rest q ok. refl))

-- Enumerators.

given_law : (n : ℕ) → Law n (given_at (suc n)) (Behind mark.Equal IsExpr) ends_expr
unfolding given_at
given_law n = behind_law n mark.Equal (expr_at (suc n)) IsExpr ends_expr (expr_law n)

abbrev ends_enumerator : List Token → Bool
ends_enumerator rest = unless (begins mark.Equal) ends_expr rest

enumerator_law : (n : ℕ) → Law n (enumerator_at (suc n)) IsEnumerator ends_enumerator
unfolding enumerator_at
enumerator_law n =
    placed_law n enumerator_made (λ e. (e.name, e.value)) (λ e. e.offset) (both ident (maybe (begins mark.Equal) (given_at (suc n)))) (Then IsIdent (Maybe (Behind mark.Equal IsExpr))) ends_enumerator
    (λ o x. refl) (λ o x. refl) (λ y. refl) (then_starts IsIdent (Maybe (Behind mark.Equal IsExpr)) ident_starts)
    (both_law n ident (maybe (begins mark.Equal) (given_at (suc n))) IsIdent (Maybe (Behind mark.Equal IsExpr)) any ends_enumerator (ident_law n any)
    (maybe_law n (begins mark.Equal) (given_at (suc n)) (Behind mark.Equal IsExpr) ends_expr (behind_begins mark.Equal IsExpr) (given_law n)) (λ ts y rest q ok. refl))

enumerator_no_close : Avoids IsEnumerator (begins mark.CloseBrace)
enumerator_no_close ts e rest ((front, back, is, (t, js, k, o), q), p) = rw (is, js, k) refl

enumerator_comma : Allows ends_enumerator mark.Comma
unfolding same_symbol
enumerator_comma t us k = rw k refl

enumerator_close : Allows ends_enumerator mark.CloseBrace
unfolding same_symbol
enumerator_close t us k = rw k refl

pub enumerators_law : (n : ℕ) → Law n (trailing (suc n) (enumerator_at (suc n))) (Trailing IsEnumerator) (begins mark.CloseBrace)
enumerators_law n = trailing_law n (suc n) (enumerator_at (suc n)) IsEnumerator ends_enumerator (omega arith) enumerator_no_close enumerator_comma enumerator_close (enumerator_law n)

-- Arguments.

abbrev ArgRest : Form (TypeTree × NameTree)
ArgRest = Then IsType IsIdent

arg_rest_law : (n : ℕ) (F : List Token → Bool) → Law n (both type_at ident) ArgRest F
arg_rest_law n F = both_law n type_at ident IsType IsIdent no_type F (type_law n) (ident_law n F) (λ ts y rest (t, is, k, o) ok. rw (is, k) refl)

-- the annotations before a type end there
pub type_no_annot : {B : Type 0} (Q : Form B) (F : List Token → Bool) → MayFollow no_annot (Then IsType Q) F
type_no_annot Q F ts y rest (front, back, is, ((f, g, js, d, r), o), q) ok =
    let s = starts_name y.0.name.name.0 f d.1 in rw (is, js, s.3, s.4) refl

way_is : (t : Token) (w : WayTree) → way_of t.kind ≡ Some w → IsWay (t ∷ []) w
way_is t w k = go t.kind refl w k where
  go : (q : TokenKind) → t.kind ≡ q → (w : WayTree) → way_of q ≡ Some w → IsWay (t ∷ []) w
  go (kind.Word word.In) e way.In k = (t, refl, e)
  go (kind.Word word.In) e _ k = cc
  go (kind.Word word.Out) e way.Out k = (t, refl, e)
  go (kind.Word word.Out) e _ k = cc
  go (kind.Word word.InOut) e way.InOut k = (t, refl, e)
  go (kind.Word word.InOut) e _ k = cc
  go (kind.Word _) e w k = cc
  go (kind.Name x) e w k = cc
  go (kind.Number b h l) e w k = cc
  go (kind.Character c) e w k = cc
  go (kind.Str x) e w k = cc
  go (kind.Mark s) e w k = cc

way_told : IsTold way_at (Maybe IsWay)
way_told [] x rest e = let p = pair_some {A = Option WayTree} None x [] rest e in ([], p.1, subst (Maybe IsWay []) p.0 refl)
way_told (t ∷ ts) x rest e = go (way_of t.kind) refl e where
  go : (w : Option WayTree) → way_of t.kind ≡ w → way_by w t ts ≡ Some (x, rest) → (front : List Token) × (t ∷ ts ≡ front ++ rest) × Maybe IsWay front x
  go None k e = let p = pair_some {A = Option WayTree} None x (t ∷ ts) rest e in ([], p.1, subst (Maybe IsWay []) p.0 refl)
  go (Some w) k e =
      let p = pair_some {A = Option WayTree} (Some w) x ts rest e in
      (t ∷ [], ap (λ us. t ∷ us) p.1, subst (Maybe IsWay (t ∷ [])) p.0 (way_is t w k))

way_found : (ts : List Token) (w : WayTree) (rest : List Token) → IsWay ts w → way_at (ts ++ rest) ≡ Some (Some w, rest)
way_found ts way.In rest (t, is, k) = rw (is, k) refl
way_found ts way.Out rest (t, is, k) = rw (is, k) refl
way_found ts way.InOut rest (t, is, k) = rw (is, k) refl

-- a direction begins no annotation
way_no_annot : (ts : List Token) (w : WayTree) (rest : List Token) → IsWay ts w → no_annot (ts ++ rest) ≡ true
way_no_annot ts way.In rest (t, is, k) = rw (is, k) refl
way_no_annot ts way.Out rest (t, is, k) = rw (is, k) refl
way_no_annot ts way.InOut rest (t, is, k) = rw (is, k) refl

many_join : {A : Type 0} (P : Form A) (ts us : List Token) (xs ys : List A) → Many P ts xs → Many P us ys → Many P (ts ++ us) (xs ++ ys)
many_join P ts us [] ys p q = subst (λ vs. Many P vs ys) (ap (λ vs. vs ++ us) (sym p)) q
many_join P ts us (x ∷ xs) ys (front, back, is, p, r) q = (front, back ++ us, ap (λ vs. vs ++ us) is ∙ append_assoc front back us, p, many_join P back us xs ys r q)

with_some : {A : Type 0} (items : List A) (r : Read (List A)) (y : List A) (rest : List Token) → with_items items r ≡ Some (y, rest) → (xs : List A) × (r ≡ Some (xs, rest)) × (items ++ xs ≡ y)
with_some items None y rest e = cc
with_some {A = A} items (Some (xs, us)) y rest e = let p = pair_some {A = List A} (items ++ xs) y us rest e in (xs, ap (λ vs. Some (xs, vs)) p.1, p.0)

type_starts_in : (x : TypeTree × NameTree) (ts : List Token) → ArgRest ts x → (t : Token) × (us : List Token) × (ts ≡ t ∷ us)
type_starts_in x ts h = then_starts IsType IsIdent type_starts ts x h

all_starts : (f g h k : List Token) → ((t : Token) × (us : List Token) × (k ≡ t ∷ us)) → (t : Token) × (us : List Token) × (f ++ (g ++ (h ++ k)) ≡ t ∷ us)
all_starts (t ∷ f) g h k s = (t, f ++ (g ++ (h ++ k)), refl)
all_starts [] (t ∷ g) h k s = (t, g ++ (h ++ k), refl)
all_starts [] [] (t ∷ h) k s = (t, h ++ k, refl)
all_starts [] [] [] k s = s

some_first : (ts rest : List Token) → ((t : Token) × (us : List Token) × (ts ≡ t ∷ us)) → first (ts ++ rest) ≡ first ts
some_first ts rest s = rw s.2 refl

arg_told : (n : ℕ) → IsTold (arg_at (suc n)) IsArg
unfolding arg_at
arg_told n ts x rest e =
    let a = bind_some (annots_at (suc n) ts) (arg_begins (suc n) (first ts)) (x, rest) e in
    let b = bind_some (way_at a.0.1) (arg_goes_on (suc n) (first ts) a.0.0) (x, rest) a.2 in
    let c = bind_some (with_items a.0.0 (annots_at (suc n) b.0.1)) (arg_ends (first ts) b.0.0) (x, rest) b.2 in
    let d = bind_some (both type_at ident c.0.1) (altered (arg_made (first ts) c.0.0 b.0.0)) (x, rest) c.2 in
    let p = pair_some {A = Arg} (arg_made (first ts) c.0.0 b.0.0 d.0.0) x d.0.1 rest d.2 in
    let i = with_some a.0.0 (annots_at (suc n) b.0.1) c.0.0 c.0.1 c.1 in
    let f = (annots_law n).told ts a.0.0 a.0.1 a.1 in
    let g = way_told a.0.1 b.0.0 b.0.1 b.1 in
    let h = (annots_law n).told b.0.1 i.0 c.0.1 i.1 in
    let k = (arg_rest_law n any).told c.0.1 d.0.0 d.0.1 d.1 in
    let all : List Token = f.0 ++ (g.0 ++ (h.0 ++ k.0)) in
    let is : ts ≡ all ++ d.0.1 = f.1 ∙ ap (λ us. f.0 ++ us) (g.1 ∙ ap (λ us. g.0 ++ us) (h.1 ∙ ap (λ us. h.0 ++ us) k.1 ∙ sym (append_assoc h.0 k.0 d.0.1)) ∙ sym (append_assoc g.0 (h.0 ++ k.0) d.0.1)) ∙ sym (append_assoc f.0 (g.0 ++ (h.0 ++ k.0)) d.0.1) in
    let s = type_starts_in d.0.0 k.0 k.2 in
    let o : first ts ≡ first all = ap first is ∙ some_first all d.0.1 (all_starts f.0 g.0 h.0 k.0 s) in
    let w : IsArg all (arg_made (first ts) c.0.0 b.0.0 d.0.0) = (a.0.0, i.0, sym i.2, (f.0, g.0 ++ (h.0 ++ k.0), refl, f.2, (g.0, h.0 ++ k.0, refl, g.2, (h.0, k.0, refl, h.2, k.2))), o) in
    (all, is ∙ ap (λ us. all ++ us) p.1, subst (IsArg all) p.0 w)

-- no direction: nothing is read, and no annotation behind it
no_way : (ts : List Token) (x : TypeTree × NameTree) (rest : List Token) → ArgRest ts x → way_at (ts ++ rest) ≡ Some (None, ts ++ rest)
no_way ts x rest (front, back, is, ((f, g, js, d, r), o), q) = let s = starts_name x.0.name.name.0 f d.1 in rw (is, js, s.3, s.4) refl

arg_steps : (m o : ℕ) (ts us vs ws rest : List Token) (a b : List Annot) (w : Option WayTree) (y : TypeTree × NameTree)
    → annots_at m ts ≡ Some (a, us) → way_at us ≡ Some (w, vs) → annots_at m vs ≡ Some (b, ws) → both type_at ident ws ≡ Some (y, rest)
    → (annots_at m ts >>= arg_begins m o) ≡ Some (arg_made o (a ++ b) w y, rest)
arg_steps m o ts us vs ws rest a b w y e f g h =
    ap (λ z. z >>= arg_begins m o) e ∙ ap (λ z. z >>= arg_goes_on m o a) f ∙ ap (λ z. with_items a z >>= arg_ends o w) g ∙ ap (λ z. z >>= altered (arg_made o (a ++ b) w)) h

arg_same : (x : Arg) (o : ℕ) (annots : List Annot) (rest : List Token) → o ≡ x.offset → annots ≡ x.annots → ◌≡◌ {A = Read Arg} (Some (arg_made o annots x.way (x.ty, x.name), rest)) (Some (x, rest))
arg_same x o annots rest e f = ap (λ k. Some (arg_made k annots x.way (x.ty, x.name), rest)) e ∙ ap (λ as_. Some (arg_made x.offset as_ x.way (x.ty, x.name), rest)) f

arg_begun : (ts rest : List Token) (x : Arg) → IsArg ts x → first (ts ++ rest) ≡ first ts
arg_begun ts rest x (before, after, joined, (f, b1, is1, pa, (w, b2, is2, pw, (g, b3, is3, pb, pt))), o) =
    let s = type_starts_in (x.ty, x.name) b3 pt in
    let a = all_starts f w g b3 s in
    some_first ts rest (a.0, a.1, is1 ∙ ap (λ us. f ++ us) (is2 ∙ ap (λ us. w ++ us) is3) ∙ a.2)

arg_found : (n : ℕ) → IsFound n (arg_at (suc n)) IsArg any
unfolding arg_at
arg_found n ts x rest len (before, after, joined, (f, b1, is1, pa, (w, b2, is2, pw, (g, b3, is3, pb, pt))), o) ok = go x.way pw refl where
  first_is : first (ts ++ rest) ≡ x.offset
  first_is = arg_begun ts rest x (before, after, joined, (f, b1, is1, pa, (w, b2, is2, pw, (g, b3, is3, pb, pt))), o) ∙ sym o

  whole : ts ≡ f ++ (w ++ (g ++ b3))
  whole = is1 ∙ ap (λ us. f ++ us) (is2 ∙ ap (λ us. w ++ us) is3)

  sizes : length ts ≡ length f + (length w + (length g + length b3))
  sizes = ap length whole ∙ length-append f (w ++ (g ++ b3)) ∙ ap (λ k. length f + k) (length-append w (g ++ b3) ∙ ap (λ k. length w + k) (length-append g b3))

  after_type : no_annot (b3 ++ rest) ≡ true
  after_type = type_no_annot IsIdent any b3 (x.ty, x.name) rest pt refl

  ends : both type_at ident (b3 ++ rest) ≡ Some ((x.ty, x.name), rest)
  ends = (arg_rest_law n any).found b3 (x.ty, x.name) rest (omega (arith, sizes)) pt refl

  go : (v : Option WayTree) → Maybe IsWay w v → x.way ≡ v → (annots_at (suc n) (ts ++ rest) >>= arg_begins (suc n) (first (ts ++ rest))) ≡ Some (x, rest)
  go None e is =
      let w0 : length w ≡ 0 = ap length e in
      let split : ts ++ rest ≡ (f ++ g) ++ (b3 ++ rest) = ap (λ us. us ++ rest) (whole ∙ ap (λ us. f ++ (us ++ (g ++ b3))) e ∙ sym (append_assoc f g b3)) ∙ append_assoc (f ++ g) b3 rest in
      let l : length (f ++ g) ≡ length f + length g = length-append f g in
      let a : annots_at (suc n) (ts ++ rest) ≡ Some (before ++ after, b3 ++ rest) = ap (annots_at (suc n)) split ∙ (annots_law n).found (f ++ g) (before ++ after) (b3 ++ rest) (omega (arith, sizes)) (many_join IsAnnot f g before after pa pb) after_type in
      let c : annots_at (suc n) (b3 ++ rest) ≡ Some ([], b3 ++ rest) = (annots_law n).found [] [] (b3 ++ rest) (omega arith) refl after_type in
      arg_steps (suc n) (first (ts ++ rest)) (ts ++ rest) (b3 ++ rest) (b3 ++ rest) (b3 ++ rest) rest (before ++ after) [] None (x.ty, x.name) a (no_way b3 (x.ty, x.name) rest pt) c ends
      ∙ ap (λ v. Some (arg_made (first (ts ++ rest)) ((before ++ after) ++ []) v (x.ty, x.name), rest)) (sym is)
      ∙ arg_same x (first (ts ++ rest)) ((before ++ after) ++ []) rest first_is (append-nil (before ++ after) ∙ sym joined)
  go (Some v) e is =
      let split : ts ++ rest ≡ f ++ (w ++ (g ++ (b3 ++ rest))) = ap (λ us. us ++ rest) whole ∙ append_assoc f (w ++ (g ++ b3)) rest ∙ ap (λ us. f ++ us) (append_assoc w (g ++ b3) rest ∙ ap (λ us. w ++ us) (append_assoc g b3 rest)) in
      let a : annots_at (suc n) (ts ++ rest) ≡ Some (before, w ++ (g ++ (b3 ++ rest))) = ap (annots_at (suc n)) split ∙ (annots_law n).found f before (w ++ (g ++ (b3 ++ rest))) (omega (arith, sizes)) pa (way_no_annot w v (g ++ (b3 ++ rest)) e) in
      let c : annots_at (suc n) (g ++ (b3 ++ rest)) ≡ Some (after, b3 ++ rest) = (annots_law n).found g after (b3 ++ rest) (omega (arith, sizes)) pb after_type in
      arg_steps (suc n) (first (ts ++ rest)) (ts ++ rest) (w ++ (g ++ (b3 ++ rest))) (g ++ (b3 ++ rest)) (b3 ++ rest) rest before after (Some v) (x.ty, x.name) a (way_found w v (g ++ (b3 ++ rest)) e) c ends
      ∙ ap (λ u. Some (arg_made (first (ts ++ rest)) (before ++ after) u (x.ty, x.name), rest)) (sym is)
      ∙ arg_same x (first (ts ++ rest)) (before ++ after) rest first_is (sym joined)

arg_law : (n : ℕ) → Law n (arg_at (suc n)) IsArg any
arg_law n = record { told = arg_told n; found = arg_found n }

many_no_paren : (ts : List Token) (xs : List Annot) (rest : List Token) → AreAnnots ts xs → begins mark.CloseParen rest ≡ false → begins mark.CloseParen (ts ++ rest) ≡ false
unfolding same_symbol
many_no_paren ts [] rest e ok = rw e ok
many_no_paren ts (a ∷ xs) rest (front, back, is, (params, (h, i, js, (t, ks, k), q), p, o), m) ok = rw (is, js, ks, k) refl

way_no_paren : (ts : List Token) (w : Option WayTree) (rest : List Token) → Maybe IsWay ts w → begins mark.CloseParen rest ≡ false → begins mark.CloseParen (ts ++ rest) ≡ false
way_no_paren ts None rest e ok = rw e ok
way_no_paren ts (Some way.In) rest (t, is, k) ok = rw (is, k) refl
way_no_paren ts (Some way.Out) rest (t, is, k) ok = rw (is, k) refl
way_no_paren ts (Some way.InOut) rest (t, is, k) ok = rw (is, k) refl

rest_no_paren : (ts : List Token) (x : TypeTree × NameTree) (rest : List Token) → ArgRest ts x → begins mark.CloseParen (ts ++ rest) ≡ false
rest_no_paren ts x rest (front, back, is, ((f, g, js, d, r), o), q) = let s = starts_name x.0.name.name.0 f d.1 in rw (is, js, s.3, s.4) refl

-- an argument begins with an annotation, a direction or a name
arg_no_paren : Avoids IsArg (begins mark.CloseParen)
unfolding same_symbol
arg_no_paren ts x rest (before, after, joined, (f, b1, is1, pa, (w, b2, is2, pw, (g, b3, is3, pb, pt))), o) =
    let whole : ts ++ rest ≡ f ++ (w ++ (g ++ (b3 ++ rest))) = ap (λ us. us ++ rest) (is1 ∙ ap (λ us. f ++ us) (is2 ∙ ap (λ us. w ++ us) is3)) ∙ append_assoc f (w ++ (g ++ b3)) rest ∙ ap (λ us. f ++ us) (append_assoc w (g ++ b3) rest ∙ ap (λ us. w ++ us) (append_assoc g b3 rest)) in
    ap (begins mark.CloseParen) whole ∙ many_no_paren f before (w ++ (g ++ (b3 ++ rest))) pa (way_no_paren w x.way (g ++ (b3 ++ rest)) pw (many_no_paren g after (b3 ++ rest) pb (rest_no_paren b3 (x.ty, x.name) rest pt)))

-- Methods, behind their annotations.

abbrev Args : Form (List Arg)
Args = Behind mark.OpenParen (Before (MaybeListed IsArg) mark.CloseParen)

args_law : (n : ℕ) (F : List Token → Bool) → Law n (args_at (suc n)) Args F
unfolding args_at
args_law n F =
    behind_law n mark.OpenParen (upto (maybe_listed (suc n) (arg_at (suc n))) mark.CloseParen) (Before (MaybeListed IsArg) mark.CloseParen) F
    (upto_law n (maybe_listed (suc n) (arg_at (suc n))) mark.CloseParen (MaybeListed IsArg) (begins mark.CloseParen) F
    (maybe_listed_law n (suc n) (arg_at (suc n)) IsArg any (omega arith) arg_no_paren (λ t us k. refl) (λ t us k. refl) (arg_law n))
    (λ t us k. rw (k, same_self mark.CloseParen) refl))

number_is : (k : TokenKind) → is_number k ≡ true → (bits : ℕ) × (hexadecimal long : Bool) × (k ≡ kind.Number bits hexadecimal long)
number_is (kind.Number b h l) e = (b, h, l, refl)
number_is (kind.Name x) e = cc
number_is (kind.Word r) e = cc
number_is (kind.Character c) e = cc
number_is (kind.Str x) e = cc
number_is (kind.Mark s) e = cc

number_law : (n : ℕ) (F : List Token → Bool) → Law n number_at IsNumberToken F
number_law n F = record { told = told; found = found } where
  told : IsTold number_at IsNumberToken
  told [] x rest e = cc
  told (t ∷ ts) x rest e = go (chosen (is_number t.kind) (Some (t, ts)) None (Some (x, rest)) e) where
    go : ((is_number t.kind ≡ true) × (◌≡◌ {A = Read Token} (Some (t, ts)) (Some (x, rest)))) ⊎ ((is_number t.kind ≡ false) × (◌≡◌ {A = Read Token} None (Some (x, rest)))) → (front : List Token) × (t ∷ ts ≡ front ++ rest) × IsNumberToken front x
    go (inl (y, d)) = let p = pair_some {A = Token} t x ts rest d in let m = number_is t.kind y in (t ∷ [], ap (λ us. t ∷ us) p.1, subst (IsNumberToken (t ∷ [])) p.0 (refl, m.0, m.1, m.2, m.3))
    go (inr (y, d)) = cc

  found : IsFound n number_at IsNumberToken F
  found ts t rest len (is, b, h, l, k) ok = rw (is, k) refl

id_law : (n : ℕ) → Law n id_at (Behind mark.Equal IsNumberToken) any
unfolding id_at
id_law n = behind_law n mark.Equal number_at IsNumberToken any (number_law n any)

semicolon_id : (t : Token) (us : List Token) → t.kind ≡ kind.Mark mark.Semicolon → unless (begins mark.Equal) any (t ∷ us) ≡ true
unfolding same_symbol
semicolon_id t us k = rw k refl

pub oneway_told : IsTold oneway_at IsOneway
unfolding oneway_at
oneway_told ts x rest e = go (chosen (begins_word word.Oneway ts) (alter as_true (worded word.Oneway) ts) (Some (false, ts)) (Some (x, rest)) e) where
  go : ((begins_word word.Oneway ts ≡ true) × (alter as_true (worded word.Oneway) ts ≡ Some (x, rest))) ⊎ ((begins_word word.Oneway ts ≡ false) × (◌≡◌ {A = Read Bool} (Some (false, ts)) (Some (x, rest)))) → (front : List Token) × (ts ≡ front ++ rest) × IsOneway front x
  go (inl (y, d)) =
      let b = bind_some (worded word.Oneway ts) (altered as_true) (x, rest) d in
      let f = (worded_law 0 word.Oneway any).told ts b.0.0 b.0.1 b.1 in
      let p = pair_some {A = Bool} true x b.0.1 rest b.2 in
      (f.0, f.1 ∙ ap (λ z. f.0 ++ z) p.1, subst (IsOneway f.0) p.0 f.2)
  go (inr (y, d)) = let p = pair_some {A = Bool} false x ts rest d in ([], p.1, subst (IsOneway []) p.0 refl)

abbrev no_oneway : List Token → Bool
no_oneway rest = unless (begins_word word.Oneway) any rest

pub oneway_law : (n : ℕ) → Law n oneway_at IsOneway (unless (begins_word word.Oneway) any)
unfolding oneway_at
oneway_law n = record { told = oneway_told; found = found } where
  found : IsFound n oneway_at IsOneway (unless (begins_word word.Oneway) any)
  found ts false rest len is ok = rw (is, (unless_parts (begins_word word.Oneway rest) true ok).0) refl
  found ts true rest len h ok = rw (worded_begins word.Oneway ts tt rest h) (ap (λ z. z >>= altered as_true) ((worded_law n word.Oneway any).found ts tt rest len h refl))

pub type_no_word : (r : Reserved) (ts : List Token) (x : TypeTree) (rest : List Token) → IsType ts x → begins_word r (ts ++ rest) ≡ false
type_no_word r ts x rest ((f, g, js, d, q), o) = let s = starts_name x.name.name.0 f d.1 in rw (js, s.3, s.4) refl

returned_law : (n : ℕ) → Law n returned_at IsReturned no_type
unfolding returned_at
returned_law n = record { told = told; found = found } where
  told : IsTold (λ ts. cond (begins_word word.Void ts) (alter as_none (worded word.Void) ts) (alter as_some type_at ts)) IsReturned
  told ts x rest e = go (chosen (begins_word word.Void ts) (alter as_none (worded word.Void) ts) (alter as_some type_at ts) (Some (x, rest)) e) where
    go : ((begins_word word.Void ts ≡ true) × (alter as_none (worded word.Void) ts ≡ Some (x, rest))) ⊎ ((begins_word word.Void ts ≡ false) × (alter as_some type_at ts ≡ Some (x, rest))) → (front : List Token) × (ts ≡ front ++ rest) × IsReturned front x
    go (inl (y, d)) =
        let b = bind_some (worded word.Void ts) (altered as_none) (x, rest) d in
        let f = (worded_law n word.Void any).told ts b.0.0 b.0.1 b.1 in
        let p = pair_some {A = Option TypeTree} None x b.0.1 rest b.2 in
        (f.0, f.1 ∙ ap (λ z. f.0 ++ z) p.1, subst (IsReturned f.0) p.0 f.2)
    go (inr (y, d)) =
        let b = bind_some (type_at ts) (altered as_some) (x, rest) d in
        let f = (type_law n).told ts b.0.0 b.0.1 b.1 in
        let p = pair_some {A = Option TypeTree} (Some b.0.0) x b.0.1 rest b.2 in
        (f.0, f.1 ∙ ap (λ z. f.0 ++ z) p.1, subst (IsReturned f.0) p.0 f.2)

  found : IsFound n (λ ts. cond (begins_word word.Void ts) (alter as_none (worded word.Void) ts) (alter as_some type_at ts)) IsReturned no_type
  found ts None rest len h ok = rw (worded_begins word.Void ts tt rest h) (ap (λ z. z >>= altered as_none) ((worded_law n word.Void any).found ts tt rest len h refl))
  found ts (Some x) rest len h ok = rw (type_no_word word.Void ts x rest h) (ap (λ z. z >>= altered as_some) ((type_law n).found ts x rest len h ok))

-- what is returned begins with a word `void` or a name
returned_follows : {B : Type 0} (Q : Form B) (F : List Token → Bool) → MayFollow (unless (begins_word word.Oneway) any) (Then IsReturned Q) F
unfolding same_word
returned_follows Q F ts (None, y) rest (front, back, is, (t, js, k), q) ok = rw (is, js, k) refl
returned_follows Q F ts (Some x, y) rest (front, back, is, h, q) ok =
    let no : begins_word word.Oneway (ts ++ rest) ≡ false = ap (λ us. begins_word word.Oneway (us ++ rest)) is ∙ ap (begins_word word.Oneway) (append_assoc front back rest) ∙ type_no_word word.Oneway front x (back ++ rest) h in
    rw no refl

abbrev pub MethodRest : Form (Bool × (Option TypeTree × (NameTree × (List Arg × Option Token))))
MethodRest = Then IsOneway (Then IsReturned (Then IsIdent (Then (Behind mark.OpenParen (Before (MaybeListed IsArg) mark.CloseParen)) (Before (Maybe (Behind mark.Equal IsNumberToken)) mark.Semicolon))))

abbrev IdEnd : Form (Option Token)
IdEnd = Before (Maybe (Behind mark.Equal IsNumberToken)) mark.Semicolon

pub method_law : (n : ℕ) (F : List Token → Bool) → Law n (method_at (suc n)) MethodRest F
unfolding method_at
method_law n F =
    both_law n oneway_at (both returned_at (both ident (both (args_at (suc n)) (upto (maybe (begins mark.Equal) id_at) mark.Semicolon)))) IsOneway (Then IsReturned (Then IsIdent (Then Args IdEnd))) (unless (begins_word word.Oneway) any) F (oneway_law n)
    (both_law n returned_at (both ident (both (args_at (suc n)) (upto (maybe (begins mark.Equal) id_at) mark.Semicolon))) IsReturned (Then IsIdent (Then Args IdEnd)) no_type F (returned_law n)
    (both_law n ident (both (args_at (suc n)) (upto (maybe (begins mark.Equal) id_at) mark.Semicolon)) IsIdent (Then Args IdEnd) any F (ident_law n any)
    (both_law n (args_at (suc n)) (upto (maybe (begins mark.Equal) id_at) mark.Semicolon) Args IdEnd any F (args_law n any)
    (upto_law n (maybe (begins mark.Equal) id_at) mark.Semicolon (Maybe (Behind mark.Equal IsNumberToken)) (unless (begins mark.Equal) any) F
    (maybe_law n (begins mark.Equal) id_at (Behind mark.Equal IsNumberToken) any (behind_begins mark.Equal IsNumberToken) (id_law n)) semicolon_id)
    (λ ts y rest q ok. refl)) (λ ts y rest q ok. refl))
    (ident_follows (Then Args IdEnd) F))
    (returned_follows (Then IsIdent (Then Args IdEnd)) F)
