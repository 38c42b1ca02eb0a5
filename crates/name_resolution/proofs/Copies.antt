-- Imports that are copies of earlier ones may be left out.
use Rattle.std.proofs.Common.{◌≡◌, ◌<◌, ℕ, zero, suc, Bool, true, false, cond, Bor, List, [], ◌∷◌, ◌++◌, map, length, Option, Some, None, refl, sym, ◌∙◌, ap, arith}
use Rattle.std.specs.Str.{bytes_eq}
use Rattle.std.proofs.lemmas.Bool.{and_parts}
use Rattle.std.proofs.lemmas.List.{length-map}
use Rattle.aidl_base.specs.declared.name.Ident.{Ident}
use Rattle.aidl_syntax.specs.declared.tree.DottedTree.{DottedTree}
use Rattle.name_resolution.specs.declared.meaning.Resolved.{Resolved}
use Rattle.name_resolution.specs.declared.meaning.Resolved.TheVariants.{Declared}
use Rattle.declared_names.specs.Names.{text, same, last}
use Rattle.declared_names.specs.Declarations.{Entry}
use Rattle.name_resolution.specs.Imports.{meant_through}
use Rattle.name_resolution.specs.steps.Copies.{is_at, is_at_number}
use Rattle.name_resolution.specs.Resolution.{number_of, first_declared, or_else}
use Rattle.declared_names.proofs.lemmas.SameNames.{same-right, same-turned, same-self}
use Rattle.declared_names.proofs.lemmas.Firsts.{position-same}
use Rattle.name_resolution.proofs.lemmas.Through.{searched, through, through_all}

-- a place of what f makes of a list is one of the list
pub within_map : {A B : Type 0} (f : A → B) (xs : List A) (i : ℕ) → i < length (map f xs) → i < length xs
within_map f xs i lt = let l : length (map f xs) ≡ length xs = length-map xs f in omega (arith, lt, l)

-- Of names that are the same, the last parts are, and what follows may follow either.

last-same : (a b : List Ident) → same a b ≡ true → same (last a) (last b) ≡ true
last-same [] [] e = refl
last-same [] (y ∷ ys) e = cc
last-same (x ∷ xs) [] e = cc
last-same (x ∷ []) (y ∷ []) e = e
last-same (x ∷ []) (y ∷ y' ∷ ys) e = let p = and_parts (bytes_eq (text x) (text y)) (same [] (y' ∷ ys)) e in cc
last-same (x ∷ x' ∷ xs) (y ∷ []) e = let p = and_parts (bytes_eq (text x) (text y)) (same (x' ∷ xs) []) e in cc
last-same (x ∷ x' ∷ xs) (y ∷ y' ∷ ys) e = last-same (x' ∷ xs) (y' ∷ ys) (and_parts (bytes_eq (text x) (text y)) (same (x' ∷ xs) (y' ∷ ys)) e).1

same-behind : (a b rest : List Ident) → same a b ≡ true → same (a ++ rest) (b ++ rest) ≡ true
same-behind [] [] rest e = same-self rest
same-behind [] (y ∷ ys) rest e = cc
same-behind (x ∷ xs) [] rest e = cc
same-behind (x ∷ xs) (y ∷ ys) rest e =
    let p = and_parts (bytes_eq (text x) (text y)) (same xs ys) e in
    let q : same (xs ++ rest) (ys ++ rest) ≡ true = same-behind xs ys rest p.1 in
    rw (p.0, q) refl

module _ (es : List Entry) (first : Ident) (rest : List Ident) where
  -- imports with the same name find the same
  pub same_finds : (a b : DottedTree) → same a.name.0 b.name.0 ≡ true → through es first rest a ≡ through es first rest b
  same_finds a b e =
      go (same (last a.name.0) (first ∷ [])) (same (last b.name.0) (first ∷ []))
      (same-turned (last a.name.0) (first ∷ []) ∙ same-right (first ∷ []) (last a.name.0) (last b.name.0) (last-same a.name.0 b.name.0 e) ∙ same-turned (first ∷ []) (last b.name.0)) where
        numbers : number_of es (a.name.0 ++ rest) ≡ number_of es (b.name.0 ++ rest)
        numbers = position-same _ _ (λ (x : Entry). same-right x.name (a.name.0 ++ rest) (b.name.0 ++ rest) (same-behind a.name.0 b.name.0 rest e)) 0 es

        go : (x y : Bool) → x ≡ y
            → first_declared es (map (λ (d : DottedTree). d.name.0 ++ rest) (cond x (a ∷ []) [])) ≡ first_declared es (map (λ (d : DottedTree). d.name.0 ++ rest) (cond y (b ∷ []) []))
        go true true h = ap (λ (o : Option ℕ). elim o as (λ _. Option Resolved) [ None ↦ None | Some number ↦ Some (Declared number) ]) numbers
        go false false h = refl
        go true false h = cc
        go false true h = cc

  joined : (a b c : Option Resolved) → or_else (or_else a b) c ≡ or_else a (or_else b c)
  joined None b c = refl
  joined (Some x) b c = refl

  again : (a b : Option Resolved) → or_else (or_else a b) a ≡ or_else a b
  again (Some x) b = refl
  again None None = refl
  again None (Some x) = refl

  -- a search with one more behind
  one_behind : (xs : List DottedTree) (x : DottedTree) → searched (through es first rest) (xs ++ x ∷ []) ≡ or_else (searched (through es first rest) xs) (through es first rest x)
  one_behind [] x = ends (through es first rest x) where
    ends : (o : Option Resolved) → or_else o None ≡ o
    ends None = refl
    ends (Some r) = refl
  one_behind (y ∷ ys) x =
      ap (or_else (through es first rest y)) (one_behind ys x) ∙ sym (joined (through es first rest y) (searched (through es first rest) ys) (through es first rest x))

  -- one that stands among them already finds nothing new
  no_news : (kept : List (Bor DottedTree)) (place : ℕ) (x : DottedTree) → is_at_number kept place x.name.0 ≡ true
      → or_else (searched (through es first rest) (map (λ d. d.now) kept)) (through es first rest x) ≡ searched (through es first rest) (map (λ d. d.now) kept)
  no_news [] place x e = cc
  no_news (k ∷ kept) zero x e =
      ap (or_else (or_else (through es first rest k.now) (searched (through es first rest) (map (λ d. d.now) kept)))) (sym (same_finds k.now x e))
      ∙ again (through es first rest k.now) (searched (through es first rest) (map (λ d. d.now) kept))
  no_news (k ∷ kept) (suc place) x e =
      joined (through es first rest k.now) (searched (through es first rest) (map (λ d. d.now) kept)) (through es first rest x)
      ∙ ap (or_else (through es first rest k.now)) (no_news kept place x e)

-- what names mean through imports with one more behind
with_one : (xs : List DottedTree) (x : DottedTree) (es : List Entry) (name : List Ident) → meant_through (xs ++ x ∷ []) es name ≡ or_else (meant_through xs es name) (meant_through (x ∷ []) es name)
with_one xs x es [] = refl
with_one xs x es (a ∷ rest) =
    sym (through_all es a rest (xs ++ x ∷ [])) ∙ one_behind es a rest xs x ∙ ap (λ z. or_else z (through es a rest x)) (through_all es a rest xs)

-- a copy changes nothing
copy : (kept : List (Bor DottedTree)) (place : Option ℕ) (x : DottedTree) → is_at kept place x.name.0 ≡ true → (es : List Entry) (name : List Ident)
    → meant_through (map (λ d. d.now) kept) es name ≡ meant_through (map (λ d. d.now) kept ++ x ∷ []) es name
copy kept None x e es name = cc
copy kept (Some place) x e es [] = refl
copy kept (Some place) x e es (a ∷ rest) =
    let imports : List DottedTree = map (λ (d : Bor DottedTree). d.now) kept in
    sym (through_all es a rest imports) ∙ sym (no_news es a rest kept place x e) ∙ sym (one_behind es a rest imports x) ∙ through_all es a rest (imports ++ x ∷ [])

pub left_out : (kept : List (Bor DottedTree)) (place : Option ℕ) (x : DottedTree) → is_at kept place x.name.0 ≡ true
    → meant_through (map (λ d. d.now) kept) ≡ meant_through (map (λ d. d.now) kept ++ x ∷ [])
left_out kept place x e = λ i es name. copy kept place x e es name i

-- the same behind imports through which names mean the same
pub both_more : (a b : List DottedTree) (x : DottedTree) → meant_through a ≡ meant_through b → meant_through (a ++ x ∷ []) ≡ meant_through (b ++ x ∷ [])
both_more a b x e = λ i es name. at es name i where
  at : (es : List Entry) (name : List Ident) → meant_through (a ++ x ∷ []) es name ≡ meant_through (b ++ x ∷ []) es name
  at es name = with_one a x es name ∙ ap (λ (f : List Entry → List Ident → Option Resolved). or_else (f es name) (meant_through (x ∷ []) es name)) e ∙ sym (with_one b x es name)
