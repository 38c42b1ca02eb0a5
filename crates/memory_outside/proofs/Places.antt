-- The place of a path among files that are sorted by their paths, and what a write at that place does.
use Rattle.std.proofs.Common.{◌≡◌, ℕ, zero, suc, ◌+◌, ◌<◌, ◌≤◌, ◌&&◌, T, List, [], ◌∷◌, length, get_or, set, drop, Result, Ok, Err, Some, None, is_some, Bool, true, false, cond, add-one, drop-cons, refl, sym, ap, ◌∙◌, arith}
use Rattle.std.specs.List.{insert}
use Rattle.std.specs.declared.cmp.Ordering.{Ordering}
use Rattle.std.specs.declared.cmp.Ordering.TheVariants.{Less, Equal, Greater}
use Rattle.std.specs.Ordering.{nat_cmp, is_lt, is_eq, ordering_reverse}
use Rattle.std.specs.Cmp.Lexicographic.{slice_cmp}
use Rattle.std.specs.FinMap.{slice_cmp-IsAntisymmetric, nat_cmp-IsAntisymmetric}
use Rattle.std.specs.FinMap.Entries.{put, by_order, is_sorted, below_all}
use Rattle.std.specs.List.Sorted.{IsSearchInRange, IsBinarySearchResult, IsSortedBy}
use Rattle.std.proofs.lemmas.Cmp.{nat_list_cmp_total, tied_itself}
use Rattle.std.proofs.lemmas.List.Sorted.{searchable_from_sorted}
use Rattle.aidl_base.specs.declared.source_file.SourceFile.{SourceFile}
use Rattle.aidl_outside.specs.Entries.{entries, path_of, place_in, later, file_at, put_new, IsPlaceWithin}

-- sorted by path
abbrev pub IsSorted : List SourceFile → Type 0
IsSorted fs = is_sorted (slice_cmp nat_cmp) (entries fs) ≡ true

-- paths that compare alike are one
one_path : (a b : List ℕ) → slice_cmp nat_cmp a b ≡ Equal → a ≡ b
one_path = slice_cmp-IsAntisymmetric nat_cmp-IsAntisymmetric

was_found : (r : Result ℕ ℕ) (i : ℕ) → later r ≡ Ok i → (j : ℕ) × (r ≡ Ok j) × (i ≡ suc j)
was_found (Ok j) i e = (j, refl, cc)
was_found (Err j) i e = absurd cc

was_gap : (r : Result ℕ ℕ) (i : ℕ) → later r ≡ Err i → (j : ℕ) × (r ≡ Err j) × (i ≡ suc j)
was_gap (Ok j) i e = absurd cc
was_gap (Err j) i e = (j, refl, cc)

abbrev the_put : SourceFile → List SourceFile → List (List ℕ × List ℕ)
the_put f fs = put (slice_cmp nat_cmp) (path_of f) f.bytes (entries fs)

module _ (f g : SourceFile) (fs : List SourceFile) where
  -- by the order of two paths, with what holds of the files after the first
  found_by : (i : ℕ) (o : Ordering) → slice_cmp nat_cmp (path_of f) (path_of g) ≡ o → ((j : ℕ) → place_in (path_of f) (entries fs) ≡ Ok j → entries (set fs j f) ≡ the_put f fs)
      → by_order o (Err 0) (Ok 0) (later (place_in (path_of f) (entries fs))) ≡ Ok i
      → entries (set (g ∷ fs) i f) ≡ by_order o ((path_of f, f.bytes) ∷ entries (g ∷ fs)) ((path_of g, f.bytes) ∷ entries fs) ((path_of g, g.bytes) ∷ the_put f fs)
  found_by i Less o rest h = absurd cc
  found_by i Equal o rest h = let here : i ≡ 0 = cc in rw here (ap (λ p. (p, f.bytes) ∷ entries fs) (one_path _ _ o))
  found_by i Greater o rest h = let there = was_found _ i h in rw there.2 (ap (λ es. (path_of g, g.bytes) ∷ es) (rest there.0 there.1))

  gap_by : (i : ℕ) (o : Ordering) → ((j : ℕ) → place_in (path_of f) (entries fs) ≡ Err j → entries (insert fs j f) ≡ the_put f fs)
      → by_order o (Err 0) (Ok 0) (later (place_in (path_of f) (entries fs))) ≡ Err i
      → entries (insert (g ∷ fs) i f) ≡ by_order o ((path_of f, f.bytes) ∷ entries (g ∷ fs)) ((path_of g, f.bytes) ∷ entries fs) ((path_of g, g.bytes) ∷ the_put f fs)
  gap_by i Less rest h = let here : i ≡ 0 = cc in rw here refl
  gap_by i Equal rest h = absurd cc
  gap_by i Greater rest h = let there = was_gap _ i h in rw there.2 (ap (λ es. (path_of g, g.bytes) ∷ es) (rest there.0 there.1))

-- to write over the file with the path is to put it
pub put_found : (f : SourceFile) (fs : List SourceFile) (i : ℕ) → place_in (path_of f) (entries fs) ≡ Ok i → entries (set fs i f) ≡ put (slice_cmp nat_cmp) (path_of f) f.bytes (entries fs)
put_found f [] i e = absurd cc
put_found f (g ∷ fs) i e = found_by f g fs i (slice_cmp nat_cmp (path_of f) (path_of g)) refl (λ j h. put_found f fs j h) e

-- to add the file where it would go is to put it
pub put_gap : (f : SourceFile) (fs : List SourceFile) (i : ℕ) → place_in (path_of f) (entries fs) ≡ Err i → entries (insert fs i f) ≡ put (slice_cmp nat_cmp) (path_of f) f.bytes (entries fs)
put_gap f [] i e = let here : i ≡ 0 = cc in rw here refl
put_gap f (g ∷ fs) i e = gap_by f g fs i (slice_cmp nat_cmp (path_of f) (path_of g)) (λ j h. put_gap f fs j h) e

-- the file at a place, and those after it
pub next : (fs : List SourceFile) (i : ℕ) (f : SourceFile) → i < length fs → f ≡ get_or fs i f → drop i fs ≡ f ∷ drop (i + 1) fs
next fs i f lt is = rw add-one (drop-cons fs i f lt ∙ ap (λ g. g ∷ drop (suc i) fs) (sym is))

holds : (b : Bool) → b ≡ true → T b
holds true e = tt
holds false e = absurd cc

is_less : (o : Ordering) → is_lt o ≡ true → o ≡ Less
is_less Less e = refl
is_less Equal e = absurd cc
is_less Greater e = absurd cc

both : (a b : Bool) → (a && b) ≡ true → (a ≡ true) × (b ≡ true)
both true true e = (refl, refl)
both true false e = absurd cc
both false b e = absurd cc

-- the order the other way round
greater_from_less : (a b : List ℕ) → slice_cmp nat_cmp a b ≡ Less → slice_cmp nat_cmp b a ≡ Greater
greater_from_less a b e = nat_list_cmp_total.antisymm b a ∙ ap ordering_reverse e

less_from_greater : (a b : List ℕ) → slice_cmp nat_cmp a b ≡ Greater → slice_cmp nat_cmp b a ≡ Less
less_from_greater a b e = nat_list_cmp_total.antisymm b a ∙ ap ordering_reverse e

-- a path below all others comes before each of them
below_each : (path : List ℕ) (fs : List SourceFile) (i : ℕ) (f : SourceFile) → below_all (slice_cmp nat_cmp) path (entries fs) ≡ true → i < length fs → slice_cmp nat_cmp path (path_of (get_or fs i f)) ≡ Less
below_each path [] i f h lt = absurd (omega arith)
below_each path (g ∷ fs) zero f h lt = is_less _ (both _ _ h).0
below_each path (g ∷ fs) (suc i) f h lt = below_each path fs i f (both _ _ h).1 (omega arith)

-- a file stands at its place
pub placed_at : (path : List ℕ) (fs : List SourceFile) (i : ℕ) (f : SourceFile) → IsSorted fs → i < length fs → path_of (get_or fs i f) ≡ path → place_in path (entries fs) ≡ Ok i
placed_at path [] i f sorted lt same = absurd (omega arith)
placed_at path (g ∷ fs) zero f sorted lt same = rw (ap (slice_cmp nat_cmp path) same ∙ tied_itself nat_list_cmp_total path) refl
placed_at path (g ∷ fs) (suc i) f sorted lt same =
    let order : slice_cmp nat_cmp path (path_of g) ≡ Greater = greater_from_less (path_of g) path (ap (slice_cmp nat_cmp (path_of g)) (sym same) ∙ below_each (path_of g) fs i f (both _ _ sorted).0 (omega arith)) in
    ap (λ o. by_order o (Err 0) (Ok 0) (later (place_in path (entries fs)))) order ∙ ap later (placed_at path fs i f (both _ _ sorted).1 (omega arith) same)

-- between the files before and those after a path is where it would go
pub placed_between : (path : List ℕ) (fs : List SourceFile) (i : ℕ) → i ≤ length fs
    → ((j : ℕ) (f : SourceFile) → j < i → slice_cmp nat_cmp path (path_of (get_or fs j f)) ≡ Greater)
    → ((j : ℕ) (f : SourceFile) → i ≤ j → j < length fs → slice_cmp nat_cmp path (path_of (get_or fs j f)) ≡ Less)
    → place_in path (entries fs) ≡ Err i
placed_between path [] i le before after = let here : i ≡ 0 = omega arith in ap (λ n. Err n) (sym here)
placed_between path (g ∷ fs) zero le before after = ap (λ o. by_order o (Err 0) (Ok 0) (later (place_in path (entries fs)))) (after 0 g (omega arith) (omega arith))
placed_between path (g ∷ fs) (suc i) le before after =
    ap (λ o. by_order o (Err 0) (Ok 0) (later (place_in path (entries fs)))) (before 0 g (omega arith))
    ∙ ap later (placed_between path fs i (omega arith) (λ j f lt. before (suc j) f (omega arith)) (λ j f le' lt. after (suc j) f (omega arith) (omega arith)))

-- neighbours rise
sorted_pairs : (fs : List SourceFile) → IsSorted fs → IsSortedBy (λ a b. is_lt (slice_cmp nat_cmp (path_of a) (path_of b))) fs
sorted_pairs [] sorted k d low high = absurd (omega arith)
sorted_pairs (f ∷ []) sorted k d low high = absurd (omega arith)
sorted_pairs (f ∷ g ∷ fs) sorted zero d low high = ap is_lt (greater_from_less (path_of f) (path_of g) (is_less _ (both _ _ (both _ _ sorted).0).0))
sorted_pairs (f ∷ g ∷ fs) sorted (suc k) d low high =
    let e : suc k + 1 ≡ suc (k + 1) = omega arith in
    rw e (sorted_pairs (g ∷ fs) (both _ _ sorted).1 k d (omega arith) (omega arith))

abbrev pub by_path : List ℕ → SourceFile → Ordering
by_path path f = slice_cmp nat_cmp (path_of f) path

-- what a binary search finds among sorted files is the place of the path
pub searched : (path : List ℕ) (fs : List SourceFile) (r : Result ℕ ℕ) → IsSorted fs → IsSearchInRange r (length fs) → IsBinarySearchResult (by_path path) fs r
    → r ≡ place_in path (entries fs)
searched path [] (Ok i) sorted within result = absurd (omega arith)
searched path (g ∷ fs) (Ok i) sorted within result = sym (placed_at path (g ∷ fs) i g sorted within (one_path (path_of (get_or (g ∷ fs) i g)) path (result g)))
searched path fs (Err i) sorted within result =
    let rises = searchable_from_sorted nat_list_cmp_total path_of fs path (sorted_pairs fs sorted) in
    let parted = result rises in
    sym (placed_between path fs i within (λ j f lt. greater_from_less (path_of (get_or fs j f)) path (parted.0 j f (omega arith) lt)) (λ j f le lt. less_from_greater (path_of (get_or fs j f)) path (parted.1 j f le lt)))

tied : (o : Ordering) → is_eq o ≡ true → o ≡ Equal
tied Less e = absurd cc
tied Equal e = refl
tied Greater e = absurd cc

-- a path before all others is none of them
none_below : (path : List ℕ) (fs : List SourceFile) → below_all (slice_cmp nat_cmp) path (entries fs) ≡ true → file_at path (entries fs) ≡ None
none_below path [] h = refl
none_below path (g ∷ fs) h = ap (λ o. cond (is_eq o) (Some g.bytes) (file_at path (entries fs))) (is_less _ (both _ _ h).0) ∙ none_below path fs (both _ _ h).1

-- a path before another comes before all that the other comes before
below_before : (path other : List ℕ) (fs : List SourceFile) → slice_cmp nat_cmp path other ≡ Less → below_all (slice_cmp nat_cmp) other (entries fs) ≡ true → below_all (slice_cmp nat_cmp) path (entries fs) ≡ true
below_before path other [] e h = refl
below_before path other (g ∷ fs) e h =
    let first : is_lt (slice_cmp nat_cmp path (path_of g)) ≡ true = ap is_lt (nat_list_cmp_total.trans path other (path_of g) e (is_less _ (both _ _ h).0)) in
    rw first (below_before path other fs e (both _ _ h).1)

module _ (path : List ℕ) (g : SourceFile) (fs : List SourceFile) (sorted : IsSorted (g ∷ fs)) where
  found_after : (i : ℕ) (d : SourceFile) (o : Ordering) → slice_cmp nat_cmp path (path_of g) ≡ o
      → ((j : ℕ) → place_in path (entries fs) ≡ Ok j → file_at path (entries fs) ≡ Some (get_or fs j d).bytes)
      → by_order o (Err 0) (Ok 0) (later (place_in path (entries fs))) ≡ Ok i → cond (is_eq o) (Some g.bytes) (file_at path (entries fs)) ≡ Some (get_or (g ∷ fs) i d).bytes
  found_after i d Less e rest h = absurd cc
  found_after i d Equal e rest h = let here : i ≡ 0 = cc in rw here refl
  found_after i d Greater e rest h = let there = was_found _ i h in rw there.2 (rest there.0 there.1)

  missed_after : (i : ℕ) (o : Ordering) → slice_cmp nat_cmp path (path_of g) ≡ o
      → ((j : ℕ) → place_in path (entries fs) ≡ Err j → file_at path (entries fs) ≡ None)
      → by_order o (Err 0) (Ok 0) (later (place_in path (entries fs))) ≡ Err i → cond (is_eq o) (Some g.bytes) (file_at path (entries fs)) ≡ None
  missed_after i Less e rest h = none_below path fs (below_before path (path_of g) fs e (both _ _ sorted).0)
  missed_after i Equal e rest h = absurd cc
  missed_after i Greater e rest h = let there = was_gap _ i h in rest there.0 there.1

-- the file at the place of the path is the one that is found
pub found_at : (path : List ℕ) (fs : List SourceFile) (i : ℕ) (d : SourceFile) → IsSorted fs → place_in path (entries fs) ≡ Ok i → file_at path (entries fs) ≡ Some (get_or fs i d).bytes
found_at path [] i d sorted e = absurd cc
found_at path (g ∷ fs) i d sorted e = found_after path g fs sorted i d (slice_cmp nat_cmp path (path_of g)) refl (λ j h. found_at path fs j d (both _ _ sorted).1 h) e

-- where the path has no place, nothing is found
pub missed_between : (path : List ℕ) (fs : List SourceFile) (i : ℕ) → IsSorted fs → place_in path (entries fs) ≡ Err i → file_at path (entries fs) ≡ None
missed_between path [] i sorted e = refl
missed_between path (g ∷ fs) i sorted e = missed_after path g fs sorted i (slice_cmp nat_cmp path (path_of g)) refl (λ j h. missed_between path fs j (both _ _ sorted).1 h) e

pub within_search : (n : ℕ) (r : Result ℕ ℕ) → IsSearchInRange r n → IsPlaceWithin n r
within_search n (Ok i) h = h
within_search n (Err i) h = h

-- a file whose path is there adds nothing
pub put_new_there : (f : SourceFile) (fs : List SourceFile) (i : ℕ) → IsSorted fs → place_in (path_of f) (entries fs) ≡ Ok i → entries fs ≡ put_new (path_of f) f.bytes (entries fs)
put_new_there f fs i sorted e = sym (ap (λ o. cond (is_some o) (entries fs) (put (slice_cmp nat_cmp) (path_of f) f.bytes (entries fs))) (found_at (path_of f) fs i f sorted e))

-- to add a new file where it would go is to put it
pub put_new_gap : (f : SourceFile) (fs : List SourceFile) (i : ℕ) → IsSorted fs → place_in (path_of f) (entries fs) ≡ Err i → entries (insert fs i f) ≡ put_new (path_of f) f.bytes (entries fs)
put_new_gap f fs i sorted e = put_gap f fs i e ∙ sym (ap (λ o. cond (is_some o) (entries fs) (put (slice_cmp nat_cmp) (path_of f) f.bytes (entries fs))) (missed_between (path_of f) fs i sorted e))
