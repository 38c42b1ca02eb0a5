-- The files of a tree, one after another.
use Rattle.std.proofs.Common.{◌≡◌, ℕ, ◌≤◌, Bool, true, false, cond, List, [], ◌∷◌, ◌++◌, append_assoc, length, map, Option, Some, None, String, Global, string_bytes, Result, Ok, Err, refl, ap, sym, ◌∙◌, subst, arith, inr}
use Rattle.std.specs.FinMap.{get}
use Rattle.std.specs.Option.{option_map}
use Rattle.std.specs.Prelude.{All, IfSome, nat_lt}
use Rattle.std.specs.List.{filter}
use Rattle.std.proofs.lemmas.List.{append-nil}
use Rattle.std.proofs.lemmas.Bool.{ltb-false}
use Rattle.aidl_base.specs.declared.limit.Limit.{Limit}
use Rattle.aidl_base.specs.declared.limit.LimitName.TheVariants.{FileBytes}
use Rattle.aidl_base.specs.declared.limit.LimitName.TheVariants as limit
use Rattle.aidl_base.specs.declared.source_file.SourceFile.{SourceFile}
use Rattle.aidl_base.specs.Limits.{limit_number}
use Rattle.aidl_base.specs.Results.{◌>>=◌}
use Rattle.aidl_outside.specs.Asks.{AreNoneLong, AsksInOrder}
use Rattle.aidl_outside.specs.Faults.{FailedIn, StoreCall, StoreFaults}
use Rattle.aidl_outside.specs.Files.{Files, path_below}
use Rattle.aidl_outside.specs.Told.{Tells}
use Rattle.tool_frame.specs.Answer.{Found, limit_passed}
use Rattle.tool_frame.specs.Asks.{AsksTree}
use Rattle.tool_frame.specs.Refusals.{file_at, within}
use Rattle.tool_frame.specs.Trees.{few, files_at, file_found, is_source, sources_below}
use Rattle.tool_frame.specs.steps.Trees.{onto, so_far}
use Rattle.aidl_outside.proofs.lemmas.Asked.{IsShort, short_more}
use Rattle.aidl_outside.proofs.lemmas.Failing.{failed_as}
use Rattle.aidl_outside.proofs.lemmas.Telling.{tells, tells_both}

-- what is kept of a list, by what its items are seen as
module _ {X Y : Type 0} (seen : X → Y) (test : Y → Bool) where
  kept_first : (b : Bool) (x : X) (xs : List X) (ys : List Y) → map seen xs ≡ ys → map seen (cond b (x ∷ xs) xs) ≡ cond b (seen x ∷ ys) ys
  kept_first true x xs ys h = ap (λ l. seen x ∷ l) h
  kept_first false x xs ys h = h

  pub kept_seen : (xs : List X) → map seen (filter (λ x. test (seen x)) xs) ≡ filter test (map seen xs)
  kept_seen [] = refl
  kept_seen (x ∷ xs) = kept_first (test (seen x)) x (filter (λ y. test (seen y)) xs) (filter test (map seen xs)) (kept_seen xs)

-- a first list and the others
abbrev pub with_first : Found (List SourceFile) → Found (List SourceFile) → Found (List SourceFile)
with_first first others = first >>= λ files. others >>= λ more. Ok (files ++ more)

-- the first were added
pub onto_more : (before now : List SourceFile) (first others : Found (List SourceFile)) → onto before first ≡ Ok now → onto before (with_first first others) ≡ onto now others
onto_more before now (Ok files) (Ok more) h =
    let same : before ++ files ≡ now = cc in
    ap Ok (sym (append_assoc before files more) ∙ ap (λ l. l ++ more) same)
onto_more before now (Ok files) (Err answer) h = refl
onto_more before now (Err answer) others h = absurd (cc)

module _ (root : List ℕ) where
  -- the file at a path, of what is told
  abbrev pub found_at : Files → List ℕ → Found (List SourceFile)
  found_at files path = file_found path (file_at FileBytes files (path_below root path))

  -- one path more
  pub step_more : {A : Type 0} (here kept : Option Files) (path : List ℕ) (were left all : List (List ℕ)) (before now : List SourceFile) (step : Result A Limit) (x : A)
      → here ≡ kept → were ≡ path ∷ left → step ≡ Ok x
      → Tells here (λ files. onto before (found_at files path) ≡ so_far now step)
      → Tells kept (λ files. onto before (files_at files root were) ≡ files_at files root all)
      → Tells kept (λ files. onto now (files_at files root left) ≡ files_at files root all)
  step_more here kept path were left all before now step x same is_first went told so_all =
      tells_both kept (λ files. onto before (found_at files path) ≡ so_far now step) (λ files. onto before (files_at files root were) ≡ files_at files root all) _
      (λ files is others. sym (onto_more before now (found_at files path) (files_at files root left) (is ∙ ap (so_far now) went)) ∙ ap (λ l. onto before (files_at files root l)) (sym is_first) ∙ others)
      (subst (λ k. Tells k (λ files. onto before (found_at files path) ≡ so_far now step)) same told) so_all

  -- no path is left
  pub steps_done : (kept : Option Files) (left : List (String Global)) (all : List (List ℕ)) (now : List SourceFile) → length left ≡ 0
      → Tells kept (λ files. onto now (files_at files root (map string_bytes left)) ≡ files_at files root all)
      → Tells kept (λ files. Ok now ≡ files_at files root all)
  steps_done kept [] all now none so_all =
      tells kept (λ files. onto now (Ok []) ≡ files_at files root all) _ (λ files same. ap Ok (sym (append-nil now)) ∙ same) so_all
  steps_done kept (path ∷ left) all now none so_all = absurd (cc)

-- a file that was added isn't too long
added_short : (bytes path : List ℕ) (before now : List SourceFile) (passed : Bool)
    → nat_lt (limit_number FileBytes) (length bytes) ≡ passed
    → onto before (file_found path (Some (cond passed (Err (limit_passed FileBytes)) (Ok bytes)))) ≡ Ok now → length bytes ≤ limit_number FileBytes
added_short bytes path before now true is h = absurd (cc)
added_short bytes path before now false is h = ltb-false (limit_number FileBytes) (length bytes) is

found_short : (file : Option (List ℕ)) (path : List ℕ) (before now : List SourceFile) → onto before (file_found path (option_map (within FileBytes) file)) ≡ Ok now
    → IfSome file (λ bytes. length bytes ≤ limit_number FileBytes)
found_short None path before now h = tt
found_short (Some bytes) path before now h = added_short bytes path before now (nat_lt (limit_number FileBytes) (length bytes)) refl h

-- none so far is too long
pub passed_more : {A : Type 0} (root : List ℕ) (here kept : Option Files) (done : List (List ℕ)) (path : List ℕ) (before now : List SourceFile) (step : Result A Limit) (x : A) → here ≡ kept → step ≡ Ok x
    → Tells here (λ files. onto before (found_at root files path) ≡ so_far now step)
    → Tells kept (AreNoneLong FileBytes (map (path_below root) done))
    → Tells kept (AreNoneLong FileBytes (map (path_below root) (done ++ path ∷ [])))
passed_more root here kept done path before now step x same went told passed =
    short_more FileBytes root path done kept
    (tells kept (λ files. onto before (found_at root files path) ≡ so_far now step) (IsShort FileBytes (path_below root path))
    (λ files next. found_short (get files (path_below root path)) path before now (next ∙ ap (so_far now) went))
    (subst (λ k. Tells k (λ files. onto before (found_at root files path) ≡ so_far now step)) same told)) passed

few_paths : (paths : List (List ℕ)) → length paths ≤ limit_number limit.Files → few paths ≡ Ok paths
few_paths paths le = grind arith

-- the calls for the sources of a tree are those for the tree
pub asks_tree : (root : List ℕ) (paths : List (List ℕ)) (here kept : Option Files) (faults : StoreFaults) → here ≡ kept → Tells kept (λ files. paths ≡ sources_below root files) → All (λ path. is_source path ≡ true) paths
    → length paths ≤ limit_number limit.Files → FailedIn faults (AsksInOrder FileBytes (map (path_below root) paths) here) → FailedIn faults (AsksTree root kept)
asks_tree root paths here kept faults unchanged told sources is_few failed =
    failed_as faults _ _ (λ call is.
    inr (
      paths,
      subst (λ k. AsksInOrder FileBytes (map (path_below root) paths) k call) unchanged is,
      sources,
      tells kept (λ files. paths ≡ sources_below root files) (λ files. few (sources_below root files) ≡ Ok paths) (λ files same. ap few (sym same) ∙ few_paths paths is_few) told,
    )) failed
