-- Versions are read, or a limit or a missing number is why they aren't.
use Rattle.std.proofs.Common.{◌≡◌, ℕ, ◌⊎◌, Bool, true, false, List, [], ◌∷◌, ◌++◌, length, Option, Some, None, Result, Ok, Err, if◌then◌else◌, inl, inr, refl}
use Rattle.std.specs.Prelude.{nat_lt}
use Rattle.std.specs.List.{list_any}
use Rattle.std.specs.FinMap.{get}
use Rattle.aidl_base.specs.Limits.{limit_number}
use Rattle.aidl_base.specs.Results.{◌>>=◌}
use Rattle.aidl_base.specs.declared.limit.Limit.{Limit}
use Rattle.aidl_base.specs.declared.limit.LimitName.TheVariants as limit
use Rattle.aidl_outside.specs.Files.{Files, listing, path_below}
use Rattle.api_versions.specs.Folders.{Folder, folders, highest}
use Rattle.api_versions.specs.Places.{places}
use Rattle.api_versions.specs.Versions.{all_in, complete, few, file_at, folders_in, hash_path, is_large, missing, numbered, present, source, sources_at, version_at, version_folder, versions_at, versions_in, within}
use Rattle.api_versions.specs.declared.fault.VersionsFault.{VersionsFault}
use Rattle.api_versions.specs.declared.fault.VersionsFault.TheVariants as fault
use Rattle.api_versions.specs.declared.version.Version.{Version}

abbrev pub IsReading : VersionsFault → Type 0
IsReading e = ((l : Limit) × (e ≡ fault.Limit l)) ⊎ ((number : ℕ) × (e ≡ fault.BadVersions number))

abbrev pub Reads : {A : Type 0} → Result A VersionsFault → Type 0
Reads (Ok x) = Unit {0}
Reads (Err e) = IsReading e

then_reads : {A B : Type 0} (r : Result A VersionsFault) (f : A → Result B VersionsFault) → Reads r → ((x : A) → Reads (f x)) → Reads (r >>= f)
then_reads (Ok x) f h g = g x
then_reads (Err e) f h g = h

passes : {A : Type 0} (b : Bool) (l : Limit) (r : Result A VersionsFault) → Reads r → Reads (if b then Err (fault.Limit l) else r)
passes true l r h = inl (l, refl)
passes false l r h = h

module _ (files : Files) where
  within_reads : (o : Option (List ℕ)) → Reads (within o)
  within_reads None = tt
  within_reads (Some bytes) = passes (nat_lt (limit_number limit.FileBytes) (length bytes)) (record { which = limit.FileBytes }) (Ok (Some bytes)) tt

  sources_read : (folder : List ℕ) (paths : List (List ℕ)) → Reads (sources_at files folder paths)
  sources_read folder [] = tt
  sources_read folder (path ∷ paths) =
      then_reads (file_at files (path_below folder path)) (λ file. sources_at files folder paths >>= (λ others. Ok (source path file ++ others))) (within_reads (get files (path_below folder path))) (λ file.
      then_reads (sources_at files folder paths) (λ others. Ok (source path file ++ others)) (sources_read folder paths) (λ others. tt))

  version_reads : (api : List ℕ) (f : Folder) → Reads (version_at files api f)
  version_reads api f =
      then_reads (sources_at files (version_folder api f.number) f.sources) _ (sources_read (version_folder api f.number) f.sources) (λ sources.
      then_reads (file_at files (hash_path api f.number)) (λ kept. let v : Version = record { number = f.number; files = sources; kept = kept } in Ok v) (within_reads (get files (hash_path api f.number))) (λ kept. tt))

  versions_read : (api : List ℕ) (fs : List Folder) → Reads (versions_in files api fs)
  versions_read api [] = tt
  versions_read api (f ∷ fs) =
      then_reads (version_at files api f) (λ version. versions_in files api fs >>= (λ others. Ok (version ∷ others))) (version_reads api f) (λ version.
      then_reads (versions_in files api fs) (λ others. Ok (version ∷ others)) (versions_read api fs) (λ others. tt))

  completed : (o : Option ℕ) (versions : List Version) → Reads (complete o versions)
  completed None versions = tt
  completed (Some number) versions = inr (number, refl)

  folders_read : (paths : List (List ℕ)) → Reads (folders_in paths)
  folders_read paths =
      then_reads (numbered (places paths)) few (passes (nat_lt (limit_number limit.Versions) (highest (places paths))) (record { which = limit.Versions }) (Ok (folders (places paths))) tt) (λ fs.
      passes (list_any is_large fs) (record { which = limit.Files }) (Ok fs) tt)

  pub all_read : (api : List ℕ) → Reads (versions_at files api)
  all_read api =
      then_reads (folders_in (listing api files)) (all_in files api) (folders_read (listing api files)) (λ fs.
      then_reads (versions_in files api (present fs)) (complete (missing fs)) (versions_read api (present fs)) (λ versions. completed (missing fs) versions))
