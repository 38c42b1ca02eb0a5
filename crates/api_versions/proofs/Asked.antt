-- Which call failed, said by other words; and what was found isn't too long.
use Rattle.std.proofs.Common.{◌≡◌, ℕ, ◌≤◌, Bool, true, false, cond, List, [], ◌∷◌, ◌++◌, length, map, Option, Some, None, Ok, Err, codes, refl, ap, sym, subst, ◌∙◌, inr}
use Rattle.std.specs.FinMap.{get}
use Rattle.std.specs.Prelude.{Result, flat_map, IfSome, nat_lt}
use Rattle.std.proofs.lemmas.Bool.{ltb-false}
use Rattle.std.proofs.lemmas.Grind.{flat_map-append}
use Rattle.std.proofs.lemmas.List.Elements.{All-append, All-cons, All-nil, All-push}
use Rattle.aidl_base.specs.declared.limit.LimitName.TheVariants as limit
use Rattle.aidl_base.specs.declared.limit.LimitName.TheVariants.{FileBytes}
use Rattle.aidl_base.specs.declared.source_file.SourceFile.{SourceFile}
use Rattle.aidl_base.specs.Limits.{limit_number}
use Rattle.aidl_base.specs.Results.{◌>>=◌}
use Rattle.aidl_outside.specs.Asks.{AreNoneLong, AsksFile, AsksInOrder}
use Rattle.aidl_outside.specs.Faults.{StoreCall, StoreFaults, reading}
use Rattle.aidl_outside.specs.Files.{Files, listing, path_below}
use Rattle.aidl_outside.specs.Told.{Tells}
use Rattle.api_versions.specs.Asks.{AsksFolders, AsksVersions, FailedCall, FaultCall, paths_read}
use Rattle.api_versions.specs.Folders.{Folder}
use Rattle.api_versions.specs.Versions.{file_at, folders_in, hash_path, passed, present, source, sources_at, version_at, version_folder, within}
use Rattle.api_versions.specs.declared.fault.VersionsFault.{VersionsFault}
use Rattle.api_versions.specs.declared.fault.VersionsFault.TheVariants as fault
use Rattle.api_versions.specs.declared.version.Version.{Version}
use Rattle.aidl_outside.proofs.lemmas.Asked.{asks_among, IsShort, short_more}
use Rattle.aidl_outside.proofs.lemmas.Failing.{failed_as}
use Rattle.aidl_outside.proofs.lemmas.Telling.{tells, tells_both}

-- of a refusal that is passed on
pub refusal_as : (P Q : StoreCall → Type 0) (faults : StoreFaults) (e : VersionsFault) → ((call : StoreCall) → P call → Q call) → FaultCall P faults e → FaultCall Q faults e
refusal_as P Q faults (fault.BadVersions missing) wider h = tt
refusal_as P Q faults (fault.Limit limit) wider h = tt
refusal_as P Q faults fault.ReadFault wider h = failed_as faults P Q wider h
refusal_as P Q faults fault.OutOfMemory wider h = tt

-- of a result
pub answer_as : {A : Type 0} (P Q : StoreCall → Type 0) (faults : StoreFaults) (r : Result A VersionsFault) → ((call : StoreCall) → P call → Q call) → FailedCall P faults r → FailedCall Q faults r
answer_as P Q faults (Ok x) wider h = tt
answer_as P Q faults (Err e) wider h = refusal_as P Q faults e wider h

-- two steps of which the second gave something
both_steps : {A B : Type 0} (first : Result A VersionsFault) (second : A → Result B VersionsFault) (found : B) → first >>= second ≡ Ok found → (a : A) × (first ≡ Ok a) × (second a ≡ Ok found)
both_steps (Ok a) second found h = (a, refl, h)
both_steps (Err e) second found h = absurd (cc)

-- a file that was found isn't too long
by_limit : (bytes : List ℕ) (file : Option (List ℕ)) (is_long : Bool) → nat_lt (limit_number FileBytes) (length bytes) ≡ is_long
    → cond is_long (Err (passed limit.FileBytes)) (Ok (Some bytes)) ≡ Ok file → length bytes ≤ limit_number FileBytes
by_limit bytes file true is h = absurd (cc)
by_limit bytes file false is h = ltb-false (limit_number FileBytes) (length bytes) is

within_short : (file found : Option (List ℕ)) → within file ≡ Ok found → IfSome file (λ bytes. length bytes ≤ limit_number FileBytes)
within_short None found h = tt
within_short (Some bytes) found h = by_limit bytes found (nat_lt (limit_number FileBytes) (length bytes)) refl h

module _ (files : Files) where
  -- nor are the sources of a folder
  sources_short : (folder : List ℕ) (paths : List (List ℕ)) (found : List SourceFile) → sources_at files folder paths ≡ Ok found → AreNoneLong FileBytes (map (path_below folder) paths) files
  sources_short folder [] found h = All-nil (λ p. IsShort FileBytes p files)
  sources_short folder (path ∷ paths) found h =
      let first = both_steps (file_at files (path_below folder path)) (λ file. sources_at files folder paths >>= λ others. Ok (source path file ++ others)) found h in
      let others = both_steps (sources_at files folder paths) (λ others. Ok (source path first.0 ++ others)) found first.2 in
      All-cons (λ p. IsShort FileBytes p files) (path_below folder path) (map (path_below folder) paths)
      (within_short (get files (path_below folder path)) first.0 first.1) (sources_short folder paths others.0 others.1)

  -- nor are the files of a version
  version_short : (api : List ℕ) (f : Folder) (version : Version) → version_at files api f ≡ Ok version → AreNoneLong FileBytes (paths_read api f) files
  version_short api f version h =
      let sources = both_steps (sources_at files (version_folder api f.number) f.sources) (λ sources. file_at files (hash_path api f.number) >>= λ kept. Ok (record { number = f.number; files = sources; kept = kept })) version h in
      let kept = both_steps (file_at files (hash_path api f.number)) (λ kept. Ok (record { number = f.number; files = sources.0; kept = kept })) version sources.2 in
      All-push (λ p. IsShort FileBytes p files) (map (path_below (version_folder api f.number)) f.sources) (hash_path api f.number)
      (sources_short (version_folder api f.number) f.sources sources.0 sources.1) (within_short (get files (hash_path api f.number)) kept.0 kept.1)

-- one source more that isn't too long
pub source_short_more : (folder path : List ℕ) (done : List (List ℕ)) (here kept : Option Files) (file : Option (List ℕ)) → here ≡ kept
    → Tells here (λ files. file_at files (path_below folder path) ≡ Ok file) → Tells kept (AreNoneLong FileBytes (map (path_below folder) done))
    → Tells kept (AreNoneLong FileBytes (map (path_below folder) (done ++ path ∷ [])))
source_short_more folder path done here kept file same found told =
    short_more FileBytes folder path done kept
    (tells kept (λ files. file_at files (path_below folder path) ≡ Ok file) (IsShort FileBytes (path_below folder path)) (λ files is. within_short (get files (path_below folder path)) file is)
    (subst (λ k. Tells k (λ files. file_at files (path_below folder path) ≡ Ok file)) same found)) told

-- a source of a version's folder is read
pub asks_source : (api folder : List ℕ) (f : Folder) (kept : Option Files) → folder ≡ version_folder api f.number
    → (call : StoreCall) → AsksInOrder FileBytes (map (path_below folder) f.sources) kept call → AsksInOrder FileBytes (paths_read api f) kept call
asks_source api folder f kept is call asked =
    asks_among FileBytes [] (map (path_below (version_folder api f.number)) f.sources) (hash_path api f.number ∷ []) kept (none_before kept) call
    (subst (λ root. AsksInOrder FileBytes (map (path_below root) f.sources) kept call) is asked) where
      none_before : (kept : Option Files) → Tells kept (AreNoneLong FileBytes [])
      none_before None = tt
      none_before (Some files) = All-nil (λ p. IsShort FileBytes p files)

-- its `.hash` is read, after the sources
pub asks_hash : (api below folder : List ℕ) (f : Folder) (sources : List SourceFile) (here kept : Option Files) → below ≡ version_folder api f.number → folder ≡ version_folder api f.number
    → Tells kept (λ files. sources_at files below f.sources ≡ Ok sources)
    → (call : StoreCall) → AsksFile FileBytes (path_below folder (codes ".hash")) here call → AsksInOrder FileBytes (paths_read api f) kept call
asks_hash api below folder f sources here kept same is found call asked =
    let root = version_folder api f.number in (
      map (path_below root) f.sources,
      [],
      hash_path api f.number,
      refl,
      asked ∙ ap (λ r. reading (path_below r (codes ".hash")) (limit_number FileBytes)) is,
      tells kept (λ files. sources_at files root f.sources ≡ Ok sources) (AreNoneLong FileBytes (map (path_below root) f.sources))
          (λ files read. sources_short files root f.sources sources read) (subst (λ r. Tells kept (λ files. sources_at files r f.sources ≡ Ok sources)) same found),
    )

module _ (api : List ℕ) where
  -- the next version is read, after those that are done
  pub asks_version : (f : Folder) (all done left others : List Folder) (here kept : Option Files) → here ≡ kept → all ≡ done ++ left → left ≡ f ∷ others
      → Tells kept (AreNoneLong FileBytes (flat_map (paths_read api) done))
      → (call : StoreCall) → AsksInOrder FileBytes (paths_read api f) here call → AsksFolders api all kept call
  asks_version f all done left others here kept same split first told call asked =
      subst (λ paths. AsksInOrder FileBytes paths kept call)
      (sym (ap (flat_map (paths_read api)) (split ∙ ap (λ fs. done ++ fs) first) ∙ flat_map-append (paths_read api) done (f ∷ others)))
      (asks_among FileBytes (flat_map (paths_read api) done) (paths_read api f) (flat_map (paths_read api) others) kept told call (subst (λ k. AsksInOrder FileBytes (paths_read api f) k call) same asked))

  -- one version more of which no file is too long
  pub version_short_more : (f : Folder) (done : List Folder) (version : Version) (here kept : Option Files) → here ≡ kept
      → Tells here (λ files. version_at files api f ≡ Ok version) → Tells kept (AreNoneLong FileBytes (flat_map (paths_read api) done))
      → Tells kept (AreNoneLong FileBytes (flat_map (paths_read api) (done ++ f ∷ [])))
  version_short_more f done version here kept same read told =
      subst (λ paths. Tells kept (AreNoneLong FileBytes paths)) (sym (flat_map-append (paths_read api) done (f ∷ [])))
      (tells_both kept (λ files. version_at files api f ≡ Ok version) (AreNoneLong FileBytes (flat_map (paths_read api) done)) (AreNoneLong FileBytes (flat_map (paths_read api) done ++ (paths_read api f ++ [])))
      (λ files is before. let P = λ (p : List ℕ). IsShort FileBytes p files in
      All-append P (flat_map (paths_read api) done) (paths_read api f ++ []) before (All-append P (paths_read api f) [] (version_short files api f version is) (All-nil P)))
      (subst (λ k. Tells k (λ files. version_at files api f ≡ Ok version)) same read) told)

-- the folders that are there, of all that the paths show, are those of the versions that are listed
pub asks_versions : (api : List ℕ) (paths : List (List ℕ)) (fs : List Folder) (here kept : Option Files) → here ≡ kept → Tells kept (λ files. listing api files ≡ paths) → folders_in paths ≡ Ok fs
    → (call : StoreCall) → AsksFolders api (present fs) here call → AsksVersions api kept call
asks_versions api paths fs here kept unchanged told is call asked =
    inr (
      fs,
      subst (λ k. AsksFolders api (present fs) k call) unchanged asked,
      tells kept (λ files. listing api files ≡ paths) (λ files. folders_in (listing api files) ≡ Ok fs) (λ files same. ap folders_in same ∙ is) told,
    )
