-- The map of files that are sorted by their paths, and the map of files in any order.
use Rattle.std.proofs.Common.{◌≡◌, ℕ, Bool, true, false, cond, T, List, [], ◌∷◌, ◌++◌, map, length, is_some, Option, Some, None, Result, Ok, Err, OnOk, OnErr, refl, sym, ap, ◌∙◌, subst}
use Rattle.std.proofs.Common.{arith}
use Rattle.std.proofs.lemmas.List.{append-nil}
use Rattle.std.specs.Prelude.{◌≢◌}
use Rattle.std.specs.declared.cmp.Ordering.{Ordering}
use Rattle.std.specs.declared.cmp.Ordering.TheVariants.{Less, Equal, Greater}
use Rattle.std.specs.FinMap.{slice_cmp-IsAntisymmetric, nat_cmp-IsAntisymmetric, get-insert, from_entries, get-from_entries, from_entries_push, same_map}
use Rattle.aidl_base.specs.declared.memory.OutOfMemory.{OutOfMemory}
use Rattle.aidl_outside.specs.Writes.{ChangesOnly}
use Rattle.std.specs.Ordering.{nat_cmp, is_eq}
use Rattle.std.specs.Cmp.Lexicographic.{slice_cmp}
use Rattle.std.proofs.lemmas.Cmp.{nat_list_cmp_total}
use Rattle.std.specs.FinMap.{get, insert, empty, from_sorted, entries-from_sorted, get-from_sorted, entries-insert, same_entries_map, len-entries, empty_of_len}
use Rattle.std.specs.FinMap as files_map
use Rattle.std.specs.FinMap.Entries.{is_sorted, is_sorted-put, put}
use Rattle.aidl_base.specs.declared.source_file.SourceFile.{SourceFile}
use Rattle.aidl_outside.specs.Entries.{entries, path_of, files_of, sorted_files, file_at, put_new, with_new}
use Rattle.aidl_outside.specs.Files.{Files}

abbrev Entries : Type 0
Entries = List (List ℕ × List ℕ)

abbrev pub IsSorted : Entries → Type 0
IsSorted es = is_sorted (slice_cmp nat_cmp) es ≡ true

holds : (b : Bool) → b ≡ true → T b
holds true e = tt
holds false e = subst T (sym e) tt

is_true : (b : Bool) → T b → b ≡ true
is_true true h = refl
is_true false h = absurd h

when_ok : (r : Result (Unit {0}) OutOfMemory) → {P Q : Type 0} → OnOk r P → (P → Q) → OnOk r Q
when_ok (Ok u) p h = h p
when_ok (Err e) p h = tt

-- the entries after a put are sorted
pub sorted_put : (before after : Entries) (path bytes : List ℕ) → IsSorted before → after ≡ put (slice_cmp nat_cmp) path bytes before → IsSorted after
sorted_put before after path bytes sorted e =
    ap (is_sorted (slice_cmp nat_cmp)) e ∙ is_true _ (is_sorted-put (slice_cmp nat_cmp) nat_list_cmp_total path bytes before (holds _ sorted))

-- and their map is that of an insert
pub insert_put : (before after : Entries) (path bytes : List ℕ) → IsSorted before → after ≡ put (slice_cmp nat_cmp) path bytes before
    → from_sorted {R = slice_cmp nat_cmp} after ≡ insert (from_sorted {R = slice_cmp nat_cmp} before) path bytes
insert_put before after path bytes sorted e = same_entries_map _ _
    (entries-from_sorted (slice_cmp nat_cmp) after (holds _ (sorted_put before after path bytes sorted e))
    ∙ e ∙ ap (put (slice_cmp nat_cmp) path bytes) (sym (entries-from_sorted (slice_cmp nat_cmp) before (holds _ sorted)))
    ∙ sym (entries-insert nat_list_cmp_total (from_sorted before) path bytes))

pub get_sorted : (fs : List SourceFile) (path : List ℕ) → IsSorted (entries fs) → get (sorted_files fs) path ≡ file_at path (entries fs)
get_sorted fs path sorted = get-from_sorted (slice_cmp nat_cmp) (entries fs) path (holds _ sorted)

-- no files
pub sorted_files-nil : sorted_files [] ≡ empty
sorted_files-nil = empty_of_len (sorted_files []) (len-entries (sorted_files []) ∙ ap length (entries-from_sorted (slice_cmp nat_cmp) [] tt))

tied : (o : Ordering) → is_eq o ≡ true → o ≡ Equal
tied Less e = absurd cc
tied Equal e = refl
tied Greater e = absurd cc

-- paths that tie are one
same_path : (a b : List ℕ) → is_eq (slice_cmp nat_cmp a b) ≡ true → a ≡ b
same_path a b e = slice_cmp-IsAntisymmetric nat_cmp-IsAntisymmetric a b (tied (slice_cmp nat_cmp a b) e)

abbrev first_of : Option (List ℕ) → Option (List ℕ) → Option (List ℕ)
first_of (Some x) o = Some x
first_of None o = o

under_test : (b : Bool) (x : List ℕ) (o p : Option (List ℕ)) → cond b (Some x) (first_of o p) ≡ first_of (cond b (Some x) o) p
under_test true x o p = refl
under_test false x o p = refl

-- one more entry is found where none before it is
find_last : (es : Entries) (e : List ℕ × List ℕ) (path : List ℕ) → file_at path (es ++ e ∷ []) ≡ first_of (file_at path es) (cond (is_eq (slice_cmp nat_cmp path e.0)) (Some e.1) None)
find_last [] e path = refl
find_last (g ∷ es) e path = ap (cond (is_eq (slice_cmp nat_cmp path g.0)) (Some g.1)) (find_last es e path) ∙ under_test (is_eq (slice_cmp nat_cmp path g.0)) g.1 (file_at path es) _

module _ (es : Entries) (e : List ℕ × List ℕ) (path : List ℕ) (there : is_some (file_at e.0 es) ≡ true) where
  none_is_apart : (b : Bool) → is_eq (slice_cmp nat_cmp path e.0) ≡ b → file_at path es ≡ None → cond b (Some e.1) None ≡ None
  none_is_apart true same none =
      let one = same_path path e.0 same in
      let here : is_some (file_at path es) ≡ true = ap (λ p. is_some (file_at p es)) one ∙ there in
      let nowhere : is_some (file_at path es) ≡ false = ap is_some none in
      absurd cc
  none_is_apart false same none = refl

  first_stays : (o : Option (List ℕ)) → file_at path es ≡ o → first_of o (cond (is_eq (slice_cmp nat_cmp path e.0)) (Some e.1) None) ≡ o
  first_stays (Some x) is = refl
  first_stays None is = none_is_apart (is_eq (slice_cmp nat_cmp path e.0)) refl is

  -- an entry whose path is there already is never found
  find_same : file_at path (es ++ e ∷ []) ≡ file_at path es
  find_same = find_last es e path ∙ first_stays (file_at path es) refl

abbrev by_path : List ℕ → List ℕ → Ordering
by_path = slice_cmp nat_cmp

module _ (fs : List SourceFile) (f : SourceFile) where
  entries-last : (gs : List SourceFile) → entries (gs ++ f ∷ []) ≡ entries gs ++ (path_of f, f.bytes) ∷ []
  entries-last [] = refl
  entries-last (g ∷ gs) = ap (λ es. (path_of g, g.bytes) ∷ es) (entries-last gs)

  last_by : (b : Bool) → is_some (file_at (path_of f) (entries fs)) ≡ b → from_entries {R = by_path} (entries fs ++ (path_of f, f.bytes) ∷ []) ≡ cond b (files_of fs) (insert (files_of fs) (path_of f) f.bytes)
  last_by true there = same_map nat_list_cmp_total (slice_cmp-IsAntisymmetric nat_cmp-IsAntisymmetric) _ _ (λ path.
      get-from_entries nat_list_cmp_total (entries fs ++ (path_of f, f.bytes) ∷ []) path ∙ find_same (entries fs) (path_of f, f.bytes) path there ∙ sym (get-from_entries nat_list_cmp_total (entries fs) path))
  last_by false there = from_entries_push nat_list_cmp_total (slice_cmp-IsAntisymmetric nat_cmp-IsAntisymmetric) (entries fs) (path_of f) f.bytes (none_there (file_at (path_of f) (entries fs)) there)
    where
      none_there : (o : Option (List ℕ)) → is_some o ≡ false → o ≡ None
      none_there (Some x) e = absurd cc
      none_there None e = refl

  -- the map of files with one more at the end
  pub files_of-last : with_new (files_of fs) (path_of f) f.bytes ≡ files_of (fs ++ f ∷ [])
  files_of-last =
      ap (λ o. cond (is_some o) (files_of fs) (insert (files_of fs) (path_of f) f.bytes)) (get-from_entries nat_list_cmp_total (entries fs) (path_of f))
      ∙ sym (ap (from_entries {R = by_path}) (entries-last fs) ∙ last_by (is_some (file_at (path_of f) (entries fs))) refl)

module _ (r : Result (Unit {0}) OutOfMemory) (before after : List SourceFile) (f : SourceFile) (sorted : IsSorted (entries before)) where
  new_by : (b : Bool) → entries after ≡ cond b (entries before) (put by_path (path_of f) f.bytes (entries before)) → sorted_files after ≡ cond b (sorted_files before) (insert (sorted_files before) (path_of f) f.bytes)
  new_by true e = ap (from_sorted {R = by_path}) e
  new_by false e = insert_put (entries before) (entries after) (path_of f) f.bytes sorted e

  -- after a file was added, unless its path was there
  pub added : OnOk r (entries after ≡ put_new (path_of f) f.bytes (entries before)) → OnOk r (sorted_files after ≡ with_new (sorted_files before) (path_of f) f.bytes)
  added ok = when_ok r ok (λ e. new_by (is_some (file_at (path_of f) (entries before))) e ∙ sym (ap (λ o. cond (is_some o) (sorted_files before) (insert (sorted_files before) (path_of f) f.bytes)) (get_sorted before (path_of f) sorted)))

  sorted_by : (b : Bool) → entries after ≡ cond b (entries before) (put by_path (path_of f) f.bytes (entries before)) → IsSorted (entries after)
  sorted_by true e = ap (is_sorted by_path) e ∙ sorted
  sorted_by false e = sorted_put (entries before) (entries after) (path_of f) f.bytes sorted e

  pub sorted_new : OnOk r (entries after ≡ put_new (path_of f) f.bytes (entries before)) → OnErr r (after ≡ before) → IsSorted (entries after)
  sorted_new ok err = by_result r ok err
    where
      by_result : (r : Result (Unit {0}) OutOfMemory) → OnOk r (entries after ≡ put_new (path_of f) f.bytes (entries before)) → OnErr r (after ≡ before) → IsSorted (entries after)
      by_result (Ok u) e same = sorted_by (is_some (file_at (path_of f) (entries before))) e
      by_result (Err x) e same = ap (λ fs. is_sorted by_path (entries fs)) same ∙ sorted

-- a write of a front of what is asked changes that path alone
other_path : (b : Bool) (path other : List ℕ) → is_eq (slice_cmp nat_cmp other path) ≡ b → other ≢ path → b ≡ false
other_path true path other e apart = absurd (apart (same_path other path e))
other_path false path other e apart = refl

pub changes_only : (before now : Files) (path bytes : List ℕ) → now ≡ insert before path bytes → ChangesOnly (Some before) (Some now) path
changes_only before now path bytes set = (
  now,
  refl,
  λ other apart.
      ap (λ m. get m other) set ∙ get-insert nat_list_cmp_total before path bytes other
      ∙ ap (λ b. cond b (Some bytes) (get before other)) (other_path _ path other refl apart),
)

module _ (r : Result (Unit {0}) OutOfMemory) (before after : List SourceFile) (f : SourceFile) (sorted : IsSorted (entries before)) where
  pub insert_after : OnOk r (entries after ≡ put (slice_cmp nat_cmp) (path_of f) f.bytes (entries before)) → OnOk r (sorted_files after ≡ insert (sorted_files before) (path_of f) f.bytes)
  insert_after ok = when_ok r ok (λ e. insert_put (entries before) (entries after) (path_of f) f.bytes sorted e)

  pub sorted_after : OnOk r (entries after ≡ put (slice_cmp nat_cmp) (path_of f) f.bytes (entries before)) → OnErr r (after ≡ before) → IsSorted (entries after)
  sorted_after ok err = by_result r ok err
    where
      by_result : (r : Result (Unit {0}) OutOfMemory) → OnOk r (entries after ≡ put (slice_cmp nat_cmp) (path_of f) f.bytes (entries before)) → OnErr r (after ≡ before) → IsSorted (entries after)
      by_result (Ok u) e same = sorted_put (entries before) (entries after) (path_of f) f.bytes sorted e
      by_result (Err x) e same = ap (λ fs. is_sorted (slice_cmp nat_cmp) (entries fs)) same ∙ sorted

pub keys_sorted : (fs : List SourceFile) → IsSorted (entries fs) → files_map.keys (sorted_files fs) ≡ map (λ e. e.0) (entries fs)
keys_sorted fs sorted = ap (map (λ e. e.0)) (entries-from_sorted (slice_cmp nat_cmp) (entries fs) (holds _ sorted))

pub nothing_left : (done left all : List SourceFile) → done ++ left ≡ all → length left ≡ 0 → done ≡ all
nothing_left done [] all e none = sym (append-nil done) ∙ e
nothing_left done (f ∷ left) all e none = absurd (omega arith)
