-- What was asked before is right, for each name that is the same.
use Rattle.std.proofs.Common.{◌≡◌, ℕ, zero, suc, Bool, true, false, cond, ◌&&◌, nat_eq, List, [], ◌∷◌, ◌++◌, map, length, get_or, ◌<◌, Option, Some, None, refl, sym, ◌∙◌, ap, subst, arith}
use Rattle.std.specs.List.{slice_get}
use Rattle.std.specs.Str.{bytes_eq}
use Rattle.std.proofs.lemmas.Bool.{and_parts}
use Rattle.std.proofs.lemmas.Bool.Decides.{nat_tests}
use Rattle.std.proofs.lemmas.List.{map-append}
use Rattle.std.proofs.lemmas.Option.{slice_get_read}
use Rattle.aidl_base.specs.declared.name.Ident.{Ident}
use Rattle.aidl_syntax.specs.declared.tree.DottedTree.{DottedTree}
use Rattle.name_resolution.specs.declared.asked.Answer.{Answer}
use Rattle.name_resolution.specs.declared.asked.Known.{Known}
use Rattle.name_resolution.specs.declared.asked.Known.TheVariants.{Unasked, Means}
use Rattle.name_resolution.specs.declared.meaning.Resolved.{Resolved}
use Rattle.name_resolution.specs.declared.meaning.Resolved.TheVariants.{Declared}
use Rattle.declared_names.specs.Names.{text, same, last}
use Rattle.declared_names.specs.Declarations.{Entry}
use Rattle.name_resolution.specs.Imports.{meant_through}
use Rattle.name_resolution.specs.Resolution.{number_of, first_declared, or_else}
use Rattle.name_resolution.specs.Asked.{means, AreRight, Knows, said, said_at, said_at_number, IsSaid}
use Rattle.declared_names.proofs.lemmas.SameNames.{same-self, same-right}
use Rattle.declared_names.proofs.lemmas.Firsts.{position-same}
use Rattle.name_resolution.proofs.lemmas.Through.{searched, through, through_all}

-- Names that are the same mean the same through imports.

same_onto : (c a b : List Ident) → same a b ≡ true → same (c ++ a) (c ++ b) ≡ true
same_onto [] a b e = e
same_onto (x ∷ xs) a b e =
    let p = and_parts (bytes_eq (text x) (text x)) (same [] []) (same-self (x ∷ [])) in
    let q = same_onto xs a b e in
    rw (p.0, q) refl

numbers : (es : List Entry) (c a b : List Ident) → same a b ≡ true → number_of es (c ++ a) ≡ number_of es (c ++ b)
numbers es c a b e = position-same _ _ (λ (x : Entry). same-right x.name (c ++ a) (c ++ b) (same_onto c a b e)) 0 es

through_same : (es : List Entry) (a b : Ident) (more others : List Ident) → same (a ∷ more) (b ∷ others) ≡ true → (i : DottedTree) → through es a more i ≡ through es b others i
through_same es a b more others e i =
    let p = and_parts (bytes_eq (text a) (text b)) (same more others) e in
    let h : same (a ∷ []) (b ∷ []) ≡ true = rw p.0 refl in
    go (same (last i.name.0) (a ∷ [])) (same (last i.name.0) (b ∷ [])) (same-right (last i.name.0) (a ∷ []) (b ∷ []) h) (numbers es i.name.0 more others p.1) where
      go : (x y : Bool) → x ≡ y → number_of es (i.name.0 ++ more) ≡ number_of es (i.name.0 ++ others)
          → first_declared es (map (λ (d : DottedTree). d.name.0 ++ more) (cond x (i ∷ []) [])) ≡ first_declared es (map (λ (d : DottedTree). d.name.0 ++ others) (cond y (i ∷ []) []))
      go true true q n = ap (λ (o : Option ℕ). elim o as (λ _. Option Resolved) [ None ↦ None | Some number ↦ Some (Declared number) ]) n
      go false false q n = refl
      go true false q n = cc
      go false true q n = cc

searched_same : {X R : Type 0} (f g : X → Option R) → ((x : X) → f x ≡ g x) → (xs : List X) → searched f xs ≡ searched g xs
searched_same f g h [] = refl
searched_same f g h (x ∷ xs) = ap (λ z. or_else z (searched f xs)) (h x) ∙ ap (or_else (g x)) (searched_same f g h xs)

meant_same : (imports : List DottedTree) (es : List Entry) (a b : List Ident) → same a b ≡ true → meant_through imports es a ≡ meant_through imports es b
meant_same imports es [] [] e = refl
meant_same imports es [] (b ∷ others) e = cc
meant_same imports es (a ∷ more) [] e = cc
meant_same imports es (a ∷ more) (b ∷ others) e =
    sym (through_all es a more imports) ∙ searched_same (through es a more) (through es b others) (through_same es a b more others e) imports ∙ through_all es b others imports

module _ (all : List (List DottedTree)) (es : List Entry) where
  means_same : (file : ℕ) (a b : List Ident) → same a b ≡ true → means all es file a ≡ means all es file b
  means_same file a b e = go (slice_get all file) where
    go : (o : Option (List DottedTree)) → elim o as (λ _. Option Resolved) [ None ↦ None | Some imports ↦ meant_through imports es a ] ≡ elim o as (λ _. Option Resolved) [ None ↦ None | Some imports ↦ meant_through imports es b ]
    go None = refl
    go (Some imports) = meant_same imports es a b e

  -- one more answer
  pub one_answer : (answers new : List Answer) (a : Answer) → AreRight all es answers → new ≡ answers ++ a ∷ [] → a.meaning ≡ means all es a.file a.name.now.name.0 → AreRight all es new
  one_answer answers new a right n h =
      ap (map (λ (a : Answer). a.meaning)) n ∙ map-append (λ (a : Answer). a.meaning) answers (a ∷ [])
      ∙ ap (λ z. z ++ a.meaning ∷ []) right ∙ ap (λ z. map (λ (a : Answer). means all es a.file a.name.now.name.0) answers ++ z ∷ []) h
      ∙ sym (map-append (λ (a : Answer). means all es a.file a.name.now.name.0) answers (a ∷ [])) ∙ ap (map (λ (a : Answer). means all es a.file a.name.now.name.0)) (sym n)

  right_at : (answers : List Answer) → AreRight all es answers → (place : ℕ) (a : Answer) → slice_get answers place ≡ Some a → a.meaning ≡ means all es a.file a.name.now.name.0
  right_at [] right place a e = cc
  right_at (x ∷ xs) right zero a e =
      let s : x ≡ a = cc in
      let h : x.meaning ≡ means all es x.file x.name.now.name.0 = cc in
      let P : Answer → Type 0 = λ z. z.meaning ≡ means all es z.file z.name.now.name.0 in
      subst P s h
  right_at (x ∷ xs) right (suc place) a e = let h : AreRight all es xs = cc in right_at xs h place a e

  said_right : (a : Answer) (file : ℕ) (name : List Ident) → a.meaning ≡ means all es a.file a.name.now.name.0 → Knows (means all es file name) (said a file name)
  said_right a file name h = go (nat_eq a.file file) refl (same a.name.now.name.0 name) refl where
    go : (f : Bool) → nat_eq a.file file ≡ f → (s : Bool) → same a.name.now.name.0 name ≡ s → Knows (means all es file name) (cond (f && s) (Means a.meaning) Unasked)
    go true p true q =
        let z : a.file ≡ file = grind (arith, nat_tests, p) in
        h ∙ ap (λ (k : ℕ). means all es k a.name.now.name.0) z ∙ means_same file a.name.now.name.0 name q
    go true p false q = tt
    go false p s q = tt

  number_right : (answers : List Answer) → AreRight all es answers → (place file : ℕ) (name : List Ident) → Knows (means all es file name) (said_at_number answers place file name)
  number_right answers right place file name = go (slice_get answers place) refl where
    go : (o : Option Answer) → slice_get answers place ≡ o → Knows (means all es file name) (elim o as (λ _. Known) [ None ↦ Unasked | Some a ↦ said a file name ])
    go None e = tt
    go (Some a) e = said_right a file name (right_at answers right place a e)

  -- what is said is right
  pub is_right : (answers : List Answer) (file : ℕ) (name : List Ident) (known : Known) → AreRight all es answers → IsSaid answers file name known → Knows (means all es file name) known
  is_right answers file name known right is = let P : Known → Type 0 = Knows (means all es file name) in subst P (sym is.1) (at is.0) where
    at : (place : Option ℕ) → Knows (means all es file name) (said_at answers place file name)
    at None = tt
    at (Some place) = number_right answers right place file name

  -- what is known in a file that is there
  pub known_there : (file : ℕ) (imports : List DottedTree) (name : List Ident) (known : Known) → file < length all → imports ≡ get_or all file imports → Knows (means all es file name) known
      → Knows (meant_through imports es name) known
  known_there file imports name known lt is h =
      let P : Option Resolved → Type 0 = λ z. Knows z known in
      subst P (ap (λ (o : Option (List DottedTree)). elim o as (λ _. Option Resolved) [ None ↦ None | Some i ↦ meant_through i es name ]) (slice_get_read all (length all) file imports refl lt is)) h
