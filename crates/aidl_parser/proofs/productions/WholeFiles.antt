-- The laws of files: what is read is a tree of all of the tokens, and a tree of the tokens is what is read.
use Rattle.std.proofs.Common.{◌≡◌, ℕ, suc, ◌+◌, Bool, true, false, List, [], ◌∷◌, ◌++◌, length, Option, Some, refl, sym, ap, subst, ◌∙◌, arith, append_assoc, append-nil, length-append}
use Rattle.aidl_base.specs.declared.reserved.Reserved.{Reserved}
use Rattle.aidl_base.specs.declared.reserved.Reserved.TheVariants as word
use Rattle.aidl_syntax.specs.declared.token.Symbol.TheVariants as mark
use Rattle.aidl_syntax.specs.declared.token.Token.{Token}
use Rattle.aidl_syntax.specs.declared.tree.NameTree.{NameTree}
use Rattle.aidl_syntax.specs.declared.tree.DottedTree.{DottedTree}
use Rattle.aidl_syntax.specs.Parts.{Form, Then, Maybe, Many, Worded, Before, first}
use Rattle.aidl_syntax.specs.Trees.{Decl, Body, File}
use Rattle.aidl_syntax.specs.Trees.Decl.{decl}
use Rattle.aidl_syntax.specs.Trees.Body.{parcelable, union, enum, interface}
use Rattle.aidl_syntax.specs.Productions.{IsDotted, IsDecl, IsBody, IsFile, Named}
use Rattle.expr_parser.specs.Reading.{dotted, ◌>>=◌}
use Rattle.aidl_parser.specs.steps.Parts.{same_word, begins_word, worded, both, second, upto, maybe}
use Rattle.aidl_parser.specs.steps.Inits.{annots_at}
use Rattle.aidl_parser.specs.steps.Decls.{decl_at, named_at, top_behind, top_at, file_made, imports_at, file_at, ended_by, ended, whole_of}
use Rattle.expr_parser.proofs.lemmas.Told.{bind_some}
use Rattle.aidl_parser.proofs.productions.Laws.{IsTold, IsFound, Law, MayFollow, Begins, Starts, any, both_law, alter_law, placed_law, worded_law, upto_law, maybe_law, many_law, unless, word_self}
use Rattle.aidl_parser.proofs.productions.Types.{dotted_law}
use Rattle.aidl_parser.proofs.productions.Annots.{annots_law}
use Rattle.aidl_parser.proofs.productions.Decls.{DeclRest, body_begun, some_first, join_starts}
use Rattle.aidl_parser.proofs.productions.Bodies.{decl_law}

-- decl

top_told : (n : ℕ) → IsTold (top_at (suc n)) IsDecl
unfolding top_at
top_told n ts d rest e =
    let a = bind_some (annots_at (suc n) ts) (top_behind (suc n) (first ts)) (d, rest) e in
    let f = (annots_law n).told ts a.0.0 a.0.1 a.1 in
    let g = (decl_law n (first ts) a.0.0).told a.0.1 d rest a.2 in
    let h : DeclRest (first ts) a.0.0 g.0 d = g.2 in
    let s = body_begun g.0 h.0 h.1 [] h.3 in
    let j = join_starts f.0 g.0 s.3 in
    let is : ts ≡ (f.0 ++ g.0) ++ rest = f.1 ∙ ap (λ us. f.0 ++ us) g.1 ∙ sym (append_assoc f.0 g.0 rest) in
    let o : first ts ≡ first (f.0 ++ g.0) = ap first is ∙ some_first (f.0 ++ g.0) rest j.0 j.1 j.2 in
    let w : IsDecl (f.0 ++ g.0) (decl (first ts) a.0.0 h.0 h.1) = (f.0, g.0, refl, f.2, h.3, o) in
    (f.0 ++ g.0, is, subst (IsDecl (f.0 ++ g.0)) (sym h.2) w)

top_law : (n : ℕ) → Law n (top_at (suc n)) IsDecl any
unfolding top_at
top_law n = record { told = top_told n; found = found } where
  found : IsFound n (λ ts. annots_at (suc n) ts >>= top_behind (suc n) (first ts)) IsDecl any
  found ts (decl o annots nm body) rest len (f, g, is, a, h, o_is) ok =
      let l : length ts ≡ length f + length g = ap length is ∙ length-append f g in
      let b = body_begun g nm body rest h in
      let w : ts ++ rest ≡ f ++ (g ++ rest) = ap (λ us. us ++ rest) is ∙ append_assoc f g rest in
      let j = join_starts f g b.3 in
      let first_is : first (ts ++ rest) ≡ o = some_first ts rest j.0 j.1 (is ∙ j.2) ∙ sym o_is in
      let c : annots_at (suc n) (ts ++ rest) ≡ Some (annots, g ++ rest) = ap (annots_at (suc n)) w ∙ (annots_law n).found f annots (g ++ rest) (omega arith) a b.0 in
      ap (λ z. z >>= top_behind (suc n) (first (ts ++ rest))) c ∙ ap (λ p. decl_at (suc n) p annots (g ++ rest)) first_is
      ∙ (decl_law n o annots).found g (decl o annots nm body) rest (omega arith) (nm, body, refl, h) refl

decl_starts : Starts IsDecl
decl_starts ts (decl o annots nm body) (f, g, is, a, h, o_is) = let b = body_begun g nm body [] h in let j = join_starts f g b.3 in (j.0, j.1, is ∙ j.2)

-- neither a package nor an import begins a declaration
abbrev NoWord : List Token → Type 0
NoWord ts = (begins_word word.Package ts ≡ false) × (begins_word word.Import ts ≡ false)

body_no_word : (ts : List Token) (n : NameTree) (b : Body) (rest : List Token) → IsBody ts n b → NoWord (ts ++ rest)
unfolding same_word
body_no_word ts n (parcelable ms) rest (head, inner, tail, is, (f, g, js, (t, ks, k), q), m, e) = (rw (is, js, ks, k) refl, rw (is, js, ks, k) refl)
body_no_word ts n (union ms) rest (head, inner, tail, is, (f, g, js, (t, ks, k), q), m, e) = (rw (is, js, ks, k) refl, rw (is, js, ks, k) refl)
body_no_word ts n (enum es) rest (front, back, is, (f, g, js, (t, ks, k), q), m) = (rw (is, js, ks, k) refl, rw (is, js, ks, k) refl)
body_no_word ts n (interface false ms) rest (head, inner, tail, is, (o, h, hs, oe, (f, g, js, (t, ks, k), q)), m, e) = (rw (is, hs, oe, js, ks, k) refl, rw (is, hs, oe, js, ks, k) refl)
body_no_word ts n (interface true ms) rest (head, inner, tail, is, (o, h, hs, (s, os, l), q), m, e) = (rw (is, hs, os, l) refl, rw (is, hs, os, l) refl)

decl_no_word : (ts : List Token) (d : Decl) (rest : List Token) → IsDecl ts d → NoWord (ts ++ rest)
decl_no_word ts (decl o [] nm body) rest (f, g, is, a, h, o_is) =
    let w : ts ++ rest ≡ g ++ rest = ap (λ us. us ++ rest) (is ∙ ap (λ us. us ++ g) a) in
    let b = body_no_word g nm body rest h in (ap (begins_word word.Package) w ∙ b.0, ap (begins_word word.Import) w ∙ b.1)
decl_no_word ts (decl o (x ∷ annots) nm body) rest (f, g, is, (fr, bk, js, (params, (h0, i0, ks, (t, ls, k), q), p, oo), m), h, o_is) = (rw (is, js, ks, ls, k) refl, rw (is, js, ks, ls, k) refl)

-- package and imports

named_law : (n : ℕ) (w : Reserved) (F : List Token → Bool) → Law n (named_at w) (Named w) F
unfolding named_at
named_law n w F =
    alter_law n second (λ y. (tt, y)) (both (worded w) (upto dotted mark.Semicolon)) (Then (Worded w) (Before IsDotted mark.Semicolon)) F (λ x. refl) (λ y. refl)
    (both_law n (worded w) (upto dotted mark.Semicolon) (Worded w) (Before IsDotted mark.Semicolon) any F (worded_law n w any) (upto_law n dotted mark.Semicolon IsDotted _ F (dotted_law n) (λ t us k. rw k refl)) (λ ts y rest q ok. refl))

named_begins : (w : Reserved) → Begins (Named w) (begins_word w)
named_begins w ts x rest (front, back, is, (t, js, k), p) = rw (is, js, k, word_self w) refl

named_starts : (w : Reserved) → Starts (Named w)
named_starts w ts x (front, back, is, (t, js, k), p) = (t, back, is ∙ ap (λ us. us ++ back) js)

imports_law : (n : ℕ) → Law n (imports_at (suc n)) (Many (Named word.Import)) (unless (begins_word word.Import) any)
unfolding imports_at
imports_law n = many_law n (suc n) (begins_word word.Import) (named_at word.Import) (Named word.Import) any (omega arith) (named_begins word.Import) (named_starts word.Import) (λ rest e. refl) (named_law n word.Import any)

after_imports : MayFollow (unless (begins_word word.Import) any) IsDecl any
after_imports ts d rest h ok = rw ((decl_no_word ts d rest h).1) refl

after_package : MayFollow (unless (begins_word word.Package) any) (Then (Many (Named word.Import)) IsDecl) any
unfolding same_word
after_package ts ([], d) rest (front, back, is, e, h) ok =
    let w : ts ++ rest ≡ back ++ rest = ap (λ us. us ++ rest) (is ∙ ap (λ us. us ++ back) e) in
    let no : begins_word word.Package (ts ++ rest) ≡ false = ap (begins_word word.Package) w ∙ (decl_no_word back d rest h).0 in rw no refl
after_package ts (i ∷ is, d) rest (front, back, e, (f, g, js, (h0, h1, ks, (t, ls, k), p), m), h) ok = rw (e, js, ks, ls, k) refl

abbrev FileParts : Form (Option DottedTree × (List DottedTree × Decl))
FileParts = Then (Maybe (Named word.Package)) (Then (Many (Named word.Import)) IsDecl)

file_starts : Starts FileParts
file_starts ts x (front, back, is, p, (f, g, js, m, h)) =
    let s = decl_starts g x.1.1 h in
    let j = join_starts f g s in
    let k = join_starts front (f ++ g) j in
    (k.0, k.1, is ∙ ap (λ us. front ++ us) js ∙ k.2)

pub file_law : (n : ℕ) → Law n (file_at (suc n)) IsFile any
unfolding file_at
file_law n =
    placed_law n file_made (λ f. (f.«package», (f.imports, f.declared))) (λ f. f.offset) (both (maybe (begins_word word.Package) (named_at word.Package)) (both (imports_at (suc n)) (top_at (suc n)))) FileParts any
    (λ o x. refl) (λ o x. refl) (λ y. refl) file_starts
    (both_law n (maybe (begins_word word.Package) (named_at word.Package)) (both (imports_at (suc n)) (top_at (suc n))) (Maybe (Named word.Package)) (Then (Many (Named word.Import)) IsDecl) (unless (begins_word word.Package) any) any
    (maybe_law n (begins_word word.Package) (named_at word.Package) (Named word.Package) any (named_begins word.Package) (named_law n word.Package any))
    (both_law n (imports_at (suc n)) (top_at (suc n)) (Many (Named word.Import)) IsDecl (unless (begins_word word.Import) any) any (imports_law n) (top_law n) after_imports)
    after_package)

-- all of the tokens

ended_is : (f g : File) (rest : List Token) → ended_by f rest ≡ Some g → (rest ≡ []) × (f ≡ g)
ended_is f g [] e = (refl, cc)
ended_is f g (t ∷ ts) e = cc

pub whole_told : (ts : List Token) (f : File) → whole_of ts ≡ Some f → IsFile ts f
unfolding whole_of
whole_told ts f e =
    let b = bind_some (file_at (suc (length ts)) ts) ended f e in
    let n = ended_is b.0.0 f b.0.1 b.2 in
    let h = (file_law (length ts)).told ts b.0.0 b.0.1 b.1 in
    let w : ts ≡ h.0 = h.1 ∙ ap (λ us. h.0 ++ us) n.0 ∙ append-nil h.0 in
    subst (IsFile ts) n.1 (subst (λ us. IsFile us b.0.0) (sym w) h.2)

pub whole_found : (ts : List Token) (f : File) → IsFile ts f → whole_of ts ≡ Some f
unfolding whole_of
whole_found ts f h =
    let g = (file_law (length ts)).found ts f [] (omega arith) h refl in
    ap (λ z. z >>= ended) (ap (file_at (suc (length ts))) (sym (append-nil ts)) ∙ g)
