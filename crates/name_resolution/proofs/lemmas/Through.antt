-- Looking by marks for the first of some things of which something is found; and what imports find.
use Rattle.std.proofs.Common.{◌≡◌, ◌<◌, ◌+◌, ℕ, suc, Bool, true, false, cond, nat_eq, List, [], ◌∷◌, ◌++◌, map, length, drop, drop-cons, get_or, add-one, Option, Some, None, refl, sym, ◌∙◌, ap, subst, eq-eqb}
use Rattle.std.specs.List.{position_from, filter}
use Rattle.std.proofs.lemmas.List.{drop-map}
use Rattle.aidl_base.specs.declared.name.Ident.{Ident}
use Rattle.aidl_syntax.specs.declared.tree.DottedTree.{DottedTree}
use Rattle.name_resolution.specs.declared.meaning.Resolved.{Resolved}
use Rattle.declared_names.specs.Names.{same, last}
use Rattle.declared_names.specs.Declarations.{Entry}
use Rattle.declared_names.specs.Marks.{mark_of, mark_of_last}
use Rattle.name_resolution.specs.Resolution.{first_declared, imported, or_else}
use Rattle.name_resolution.proofs.lemmas.Candidates.{first-append}
use Rattle.declared_names.proofs.lemmas.Chains.{HasMark, drop-more, marked}
use Rattle.name_resolution.proofs.lemmas.Tables.{same_marks}

module _ {X R : Type 0} (f : X → Option R) where
  -- the first that is found
  abbrev pub searched : List X → Option R
  searched [] = None
  searched (x ∷ xs) = or_else (f x) (searched xs)

  -- from a place on
  abbrev pub searched_at : List X → Option ℕ → Option R
  searched_at xs None = None
  searched_at xs (Some i) = searched (drop i xs)

  -- the first of what is left
  first_left : (xs : List X) (at : Option ℕ) (i : ℕ) (x : X) (all : Option R) → at ≡ Some i → i < length xs → x ≡ get_or xs i x → searched_at xs at ≡ all → or_else (f x) (searched (drop (suc i) xs)) ≡ all
  first_left xs at i x all a lt is rest =
      sym (ap searched (drop-cons xs i x lt ∙ ap (λ z. z ∷ drop (suc i) xs) (sym is))) ∙ sym (ap (searched_at xs) a) ∙ rest

  module _ (m : X → ℕ) (mark : ℕ) (h : (x : X) → nat_eq mark (m x) ≡ false → f x ≡ None) where
    -- places without the mark may be left out
    skipped : (xs tail : List X) (k : ℕ) → drop k xs ≡ tail → searched_at xs (position_from (nat_eq mark) k (map m tail)) ≡ searched tail
    skipped xs [] k e = refl
    skipped xs (x ∷ more) k e = go (nat_eq mark (m x)) refl (skipped xs more (k + 1) (ap (λ (j : ℕ). drop j xs) (add-one k) ∙ drop-more k xs x more e)) where
      go : (b : Bool) → nat_eq mark (m x) ≡ b → searched_at xs (position_from (nat_eq mark) (k + 1) (map m more)) ≡ searched more
          → searched_at xs (cond b (Some k) (position_from (nat_eq mark) (k + 1) (map m more))) ≡ or_else (f x) (searched more)
      go true q i = ap searched e
      go false q i = i ∙ ap (λ z. or_else z (searched more)) (sym (h x q))

    -- a search begins
    pub search_begins : (xs : List X) (marks : List ℕ) (at : Option ℕ) → marks ≡ map m xs → at ≡ position_from (nat_eq mark) 0 marks → (searched_at xs at ≡ searched xs) × HasMark marks mark at
    search_begins xs marks at e a =
        let P : Option ℕ → Type 0 = HasMark marks mark in (
          ap (searched_at xs) (a ∙ ap (position_from (nat_eq mark) 0) e) ∙ skipped xs xs 0 refl,
          subst P (sym a) (marked mark marks marks 0 refl),
        )

    -- it goes on behind a place where nothing is found
    pub search_goes_on : (xs : List X) (marks : List ℕ) (at next : Option ℕ) (i : ℕ) (x : X) (all : Option R) → marks ≡ map m xs → at ≡ Some i → i < length xs → x ≡ get_or xs i x → get_or marks i 0 ≡ mark
        → searched_at xs at ≡ all → f x ≡ None → next ≡ position_from (nat_eq (get_or marks i 0)) (i + 1) (drop (i + 1) marks)
        → (searched_at xs next ≡ all) × HasMark marks mark next
    search_goes_on xs marks at next i x all e a lt is g rest fails n =
        let k : next ≡ position_from (nat_eq mark) (i + 1) (drop (i + 1) marks) = n ∙ ap (λ (z : ℕ). position_from (nat_eq z) (i + 1) (drop (i + 1) marks)) g in
        let d : drop (i + 1) marks ≡ map m (drop (i + 1) xs) = ap (drop (i + 1)) e ∙ drop-map m (i + 1) xs in
        let P : Option ℕ → Type 0 = HasMark marks mark in (
          ap (searched_at xs) (k ∙ ap (position_from (nat_eq mark) (i + 1)) d) ∙ skipped xs (drop (i + 1) xs) (i + 1) refl
              ∙ ap (λ (j : ℕ). searched (drop j xs)) (add-one i)
              ∙ sym (ap (λ z. or_else z (searched (drop (suc i) xs))) fails) ∙ first_left xs at i x all a lt is rest,
          subst P (sym k) (marked mark marks (drop (i + 1) marks) (i + 1) refl),
        )

  -- what is found at a place is found
  pub search_ends : (xs : List X) (at : Option ℕ) (i : ℕ) (x : X) (all : Option R) (r : R) → at ≡ Some i → i < length xs → x ≡ get_or xs i x → searched_at xs at ≡ all → Some r ≡ f x → Some r ≡ all
  search_ends xs at i x all r a lt is rest holds = ap (λ z. or_else z (searched (drop (suc i) xs))) holds ∙ first_left xs at i x all a lt is rest

module _ (es : List Entry) (first : Ident) (rest : List Ident) where
  -- what an import finds
  abbrev pub through : DottedTree → Option Resolved
  through i = first_declared es (imported (i ∷ []) (first ∷ rest))

  -- what imports find
  pub through_all : (imports : List DottedTree) → searched through imports ≡ first_declared es (imported imports (first ∷ rest))
  through_all [] = refl
  through_all (i ∷ imports) = go (same (last i.name.0) (first ∷ [])) (through_all imports) where
    others : List (List Ident)
    others = map (λ (d : DottedTree). d.name.0 ++ rest) (filter (λ (d : DottedTree). same (last d.name.0) (first ∷ [])) imports)

    go : (b : Bool) → searched through imports ≡ first_declared es (imported imports (first ∷ rest))
        → or_else (first_declared es (map (λ (d : DottedTree). d.name.0 ++ rest) (cond b (i ∷ []) []))) (searched through imports)
        ≡ first_declared es (map (λ (d : DottedTree). d.name.0 ++ rest) (cond b (i ∷ filter (λ (d : DottedTree). same (last d.name.0) (first ∷ [])) imports) (filter (λ (d : DottedTree). same (last d.name.0) (first ∷ [])) imports)))
    go true h = ap (or_else (first_declared es ((i.name.0 ++ rest) ∷ []))) h ∙ sym (first-append es ((i.name.0 ++ rest) ∷ []) others)
    go false h = h

  -- one with another mark finds nothing
  pub through_other : (i : DottedTree) → nat_eq (mark_of (first ∷ [])) (mark_of_last i) ≡ false → through i ≡ None
  through_other i h = go (same (last i.name.0) (first ∷ [])) refl where
    go : (b : Bool) → same (last i.name.0) (first ∷ []) ≡ b → first_declared es (map (λ (d : DottedTree). d.name.0 ++ rest) (cond b (i ∷ []) [])) ≡ None
    go true q =
        let t : nat_eq (mark_of (first ∷ [])) (mark_of_last i) ≡ true = eq-eqb (mark_of (first ∷ [])) (mark_of_last i) (sym (same_marks 0 (last i.name.0) (first ∷ []) q)) in
        absurd cc
    go false q = refl
