-- A stable sort by path keeps which file is found at each path.
use Rattle.std.proofs.Common.{◌≡◌, ℕ, Bool, true, false, cond, not, ◌&&◌, List, [], ◌∷◌, Option, Some, None, refl, sym, ap, ◌∙◌}
use Rattle.std.specs.List.{filter}
use Rattle.std.specs.List.Sorted.{IsStableBy, ties}
use Rattle.std.specs.declared.cmp.Ordering.{Ordering}
use Rattle.std.specs.declared.cmp.Ordering.TheVariants.{Less, Equal, Greater}
use Rattle.std.specs.Ordering.{nat_cmp, is_lt, is_eq, ordering_reverse}
use Rattle.std.specs.Cmp.Lexicographic.{slice_cmp}
use Rattle.std.specs.FinMap.{slice_cmp-IsAntisymmetric, nat_cmp-IsAntisymmetric, get-from_entries, same_map}
use Rattle.std.proofs.lemmas.Cmp.{nat_list_cmp_total}
use Rattle.aidl_base.specs.declared.source_file.SourceFile.{SourceFile}
use Rattle.aidl_outside.specs.Entries.{entries, path_of, files_of, file_at}

-- the order of two files by their paths
abbrev pub before : SourceFile → SourceFile → Bool
before f g = is_lt (slice_cmp nat_cmp (path_of f) (path_of g))

-- neither order is less exactly where they are equal
tied_by : (o : Ordering) → (not (is_lt o) && not (is_lt (ordering_reverse o))) ≡ is_eq o
tied_by Less = refl
tied_by Equal = refl
tied_by Greater = refl

-- files tie where they have one path
ties_are : (x f : SourceFile) → ties before x f ≡ is_eq (slice_cmp nat_cmp (path_of x) (path_of f))
ties_are x f = ap (λ o. not (is_lt (slice_cmp nat_cmp (path_of x) (path_of f))) && not (is_lt o)) (nat_list_cmp_total.antisymm (path_of f) (path_of x)) ∙ tied_by (slice_cmp nat_cmp (path_of x) (path_of f))

module _ (x : SourceFile) where
  by_tie : (f : SourceFile) (fs : List SourceFile) (b : Bool) → ties before x f ≡ b → file_at (path_of x) (entries fs) ≡ file_at (path_of x) (entries (filter (ties before x) fs))
      → cond b (Some f.bytes) (file_at (path_of x) (entries fs)) ≡ file_at (path_of x) (entries (cond b (f ∷ filter (ties before x) fs) (filter (ties before x) fs)))
  by_tie f fs true tie rest = sym (ap (λ b. cond b (Some f.bytes) (file_at (path_of x) (entries (filter (ties before x) fs)))) (sym (ties_are x f) ∙ tie))
  by_tie f fs false tie rest = rest

  -- a file is found among those that tie with it
  among_ties : (fs : List SourceFile) → file_at (path_of x) (entries fs) ≡ file_at (path_of x) (entries (filter (ties before x) fs))
  among_ties [] = refl
  among_ties (f ∷ fs) =
      ap (λ b. cond b (Some f.bytes) (file_at (path_of x) (entries fs))) (sym (ties_are x f)) ∙ by_tie f fs (ties before x f) refl (among_ties fs)

module _ (path : List ℕ) where
  has_path : (f : SourceFile) (fs : List SourceFile) (o : Ordering) (bytes : List ℕ) → slice_cmp nat_cmp path (path_of f) ≡ o → cond (is_eq o) (Some f.bytes) (file_at path (entries fs)) ≡ Some bytes
      → (file_at path (entries fs) ≡ Some bytes → (x : SourceFile) × (path_of x ≡ path)) → (x : SourceFile) × (path_of x ≡ path)
  has_path f fs Less bytes order found rest = rest found
  has_path f fs Equal bytes order found rest = (f, sym (slice_cmp-IsAntisymmetric nat_cmp-IsAntisymmetric path (path_of f) order))
  has_path f fs Greater bytes order found rest = rest found

  -- where something is found, a file has the path
  found_there : (fs : List SourceFile) (bytes : List ℕ) → file_at path (entries fs) ≡ Some bytes → (x : SourceFile) × (path_of x ≡ path)
  found_there [] bytes found = absurd cc
  found_there (f ∷ fs) bytes found = has_path f fs (slice_cmp nat_cmp path (path_of f)) bytes refl found (λ later. found_there fs bytes later)

module _ (fs gs : List SourceFile) (stable : IsStableBy before fs gs) where
  at_file : (x : SourceFile) → file_at (path_of x) (entries gs) ≡ file_at (path_of x) (entries fs)
  at_file x = among_ties x gs ∙ ap (λ hs. file_at (path_of x) (entries hs)) (stable x) ∙ sym (among_ties x fs)

  at_found : (path : List ℕ) → (x : SourceFile) × (path_of x ≡ path) → file_at path (entries gs) ≡ file_at path (entries fs)
  at_found path x = ap (λ p. file_at p (entries gs)) (sym x.1) ∙ at_file x.0 ∙ ap (λ p. file_at p (entries fs)) x.1

  at_path : (path : List ℕ) (o p : Option (List ℕ)) → file_at path (entries gs) ≡ o → file_at path (entries fs) ≡ p → file_at path (entries gs) ≡ file_at path (entries fs)
  at_path path (Some bytes) p here there = at_found path (found_there path gs bytes here)
  at_path path None (Some bytes) here there = at_found path (found_there path fs bytes there)
  at_path path None None here there = here ∙ sym there

  -- so the map is the same
  pub same_files : files_of gs ≡ files_of fs
  same_files = same_map nat_list_cmp_total (slice_cmp-IsAntisymmetric nat_cmp-IsAntisymmetric) _ _ (λ path.
      get-from_entries nat_list_cmp_total (entries gs) path ∙ at_path path (file_at path (entries gs)) (file_at path (entries fs)) refl refl ∙ sym (get-from_entries nat_list_cmp_total (entries fs) path))
