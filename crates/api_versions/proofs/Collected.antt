-- Files of a folder, one after another.
use Rattle.std.proofs.Common.{◌≡◌, ℕ, Bool, true, List, [], ◌∷◌, ◌++◌, append_assoc, length, map, Option, Some, None, String, Global, string_bytes, Result, Ok, Err, refl, ap, sym, ◌∙◌, subst, nat_cmp}
use Rattle.std.specs.Cmp.Lexicographic.{slice_cmp}
use Rattle.std.specs.List.{list_all}
use Rattle.std.specs.Ordering.{is_lt}
use Rattle.std.specs.Str.{chars, encode_utf8_all}
use Rattle.std.proofs.lemmas.Bool.{and_parts, and_from}
use Rattle.std.proofs.lemmas.List.{append-nil, map-append}
use Rattle.aidl_base.specs.declared.source_file.SourceFile.{SourceFile}
use Rattle.aidl_base.specs.Results.{◌>>=◌}
use Rattle.aidl_outside.specs.Entries.{path_of}
use Rattle.aidl_outside.specs.Files.{Files, is_ascending, path_below}
use Rattle.aidl_outside.specs.Told.{Tells}
use Rattle.api_versions.specs.declared.fault.VersionsFault.{VersionsFault}
use Rattle.api_versions.specs.Versions.{file_at, source, sources_at}
use Rattle.api_versions.specs.steps.Onto.{onto}
use Rattle.aidl_outside.proofs.lemmas.Telling.{tells, tells_both}

-- the first were added, and the others are still to come
pub onto_first : {A : Type 0} (before now first : List A) (others : Result (List A) VersionsFault) → now ≡ before ++ first
    → onto before (others >>= λ more. Ok (first ++ more)) ≡ onto now others
onto_first before now first (Ok more) e = ap Ok (sym (append_assoc before first more) ∙ ap (λ l. l ++ more) (sym e))
onto_first before now first (Err fault) e = refl

-- nothing is to come
pub onto_none : {A : Type 0} (found : List A) → onto found (Ok []) ≡ Ok found
onto_none found = ap Ok (append-nil found)

module _ (folder : List ℕ) where
  first_source : (files : Files) (path : List ℕ) (left : List (List ℕ)) (before now : List SourceFile) (file : Option (List ℕ)) → now ≡ before ++ source path file
      → file_at files (path_below folder path) ≡ Ok file → onto before (sources_at files folder (path ∷ left)) ≡ onto now (sources_at files folder left)
  first_source files path left before now file went is =
      ap (λ f. onto before (f >>= λ file. sources_at files folder left >>= λ others. Ok (source path file ++ others))) is
      ∙ onto_first before now (source path file) (sources_at files folder left) went

  -- one path more
  pub source_more : (here kept : Option Files) (path : List ℕ) (were left all : List (List ℕ)) (before now : List SourceFile) (file : Option (List ℕ))
      → here ≡ kept → were ≡ path ∷ left → now ≡ before ++ source path file
      → Tells here (λ files. file_at files (path_below folder path) ≡ Ok file)
      → Tells kept (λ files. onto before (sources_at files folder were) ≡ sources_at files folder all)
      → Tells kept (λ files. onto now (sources_at files folder left) ≡ sources_at files folder all)
  source_more here kept path were left all before now file same is_first went told so_all =
      tells_both kept (λ files. file_at files (path_below folder path) ≡ Ok file) (λ files. onto before (sources_at files folder were) ≡ sources_at files folder all) _
      (λ files is others. sym (first_source files path left before now file went is) ∙ ap (λ l. onto before (sources_at files folder l)) (sym is_first) ∙ others)
      (subst (λ k. Tells k (λ files. file_at files (path_below folder path) ≡ Ok file)) same told) so_all

  -- no path is left
  pub sources_done : (kept : Option Files) (left : List (String Global)) (all : List (List ℕ)) (now : List SourceFile) → length left ≡ 0
      → Tells kept (λ files. onto now (sources_at files folder (map string_bytes left)) ≡ sources_at files folder all)
      → Tells kept (λ files. sources_at files folder all ≡ Ok now)
  sources_done kept [] all now none so_all =
      tells kept (λ files. onto now (Ok []) ≡ sources_at files folder all) _ (λ files same. sym same ∙ onto_none now) so_all
  sources_done kept (path ∷ left) all now none so_all = absurd (cc)

-- paths in order, with one left out
all_without : (p : List ℕ → Bool) (xs : List (List ℕ)) (y : List ℕ) (ys : List (List ℕ)) → list_all p (xs ++ y ∷ ys) ≡ true → list_all p (xs ++ ys) ≡ true
all_without p [] y ys h = (and_parts (p y) (list_all p ys) h).1
all_without p (x ∷ xs) y ys h = let both = and_parts (p x) (list_all p (xs ++ y ∷ ys)) h in and_from (p x) (list_all p (xs ++ ys)) both.0 (all_without p xs y ys both.1)

pub ascending_without : (xs : List (List ℕ)) (y : List ℕ) (ys : List (List ℕ)) → is_ascending (xs ++ y ∷ ys) ≡ true → is_ascending (xs ++ ys) ≡ true
ascending_without [] y ys h = (and_parts (list_all (λ later. is_lt (slice_cmp nat_cmp y later)) ys) (is_ascending ys) h).1
ascending_without (x ∷ xs) y ys h =
    let test = λ (later : List ℕ). is_lt (slice_cmp nat_cmp x later) in
    let both = and_parts (list_all test (xs ++ y ∷ ys)) (is_ascending (xs ++ y ∷ ys)) h in
    and_from (list_all test (xs ++ ys)) (is_ascending (xs ++ ys)) (all_without test xs y ys both.0) (ascending_without xs y ys both.1)

-- the file at the first path that is left was added
pub ascending_more : (before now : List SourceFile) (path : List ℕ) (file : Option (List ℕ)) (were left : List (List ℕ)) → encode_utf8_all (chars path) ≡ path → were ≡ path ∷ left → now ≡ before ++ source path file
    → is_ascending (map path_of before ++ were) ≡ true → is_ascending (map path_of now ++ left) ≡ true
ascending_more before now path None were left utf8 is_first went h =
    let same : now ≡ before = went ∙ append-nil before in
    subst (λ b. is_ascending (map path_of b ++ left) ≡ true) (sym same) (ascending_without (map path_of before) path left (subst (λ w. is_ascending (map path_of before ++ w) ≡ true) is_first h))
ascending_more before now path (Some bytes) were left utf8 is_first went h =
    let file : SourceFile = record { path = chars path; bytes = bytes } in
    let paths : map path_of now ≡ map path_of before ++ path ∷ [] = ap (map path_of) went ∙ map-append path_of before (file ∷ []) ∙ ap (λ p. map path_of before ++ p ∷ []) utf8 in
    let joined : map path_of now ++ left ≡ map path_of before ++ were = ap (λ l. l ++ left) paths ∙ append_assoc (map path_of before) (path ∷ []) left ∙ ap (λ w. map path_of before ++ w) (sym is_first) in
    subst (λ l. is_ascending l ≡ true) (sym joined) h
