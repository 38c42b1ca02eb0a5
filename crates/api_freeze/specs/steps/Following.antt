-- What the steps before a freezing answer.
use Rattle.std.specs.Prelude.{◌≡◌, ◌≢◌, ℕ, ◌+◌, ◌≤◌, ◌<◌, ◌⊎◌, ◌&&◌, Bool, true, false, List, [], ◌∷◌, map, Some}
use Rattle.std.specs.Prelude.{Result, Ok, Err, bytes_eq}
use Rattle.aidl_base.specs.declared.limit.LimitName.TheVariants as limit
use Rattle.aidl_base.specs.declared.source_file.SourceFile.{SourceFile}
use Rattle.aidl_schema.specs.declared.schema.Decl.{Decl}
use Rattle.aidl_schema.specs.Broken.{broken}
use Rattle.api_dump.specs.Dump.{dump_text, seen}
use Rattle.compat_judge.specs.Seen.{seen as break_of}
use Rattle.type_check.specs.declared.fault.CheckFault.TheVariants as check
use Rattle.type_check.specs.Checked.{IsSchemaOf}
use Rattle.type_check.specs.Refusals.{IsRefusal}
use Rattle.api_freeze.specs.declared.fault.FreezeFault.{FreezeFault}
use Rattle.api_freeze.specs.declared.fault.FreezeFault.TheVariants as fault
use Rattle.api_versions.specs.declared.version.Version.{Version}
use Rattle.api_freeze.specs.declared.following.Next.{Next}
use Rattle.api_freeze.specs.Freeze.{Forbids, MayFollow, Ready, RefusedAs, latest, next}

-- two schemas compared
abbrev pub Compares : ℕ → List Decl → List Decl → Result (Unit {0}) FreezeFault → Type 0
Compares number old S (Ok x) = (dump_text old ≢ dump_text S) × (broken old S ≡ [])
Compares number old S (Err (fault.Unchanged version)) = (version ≡ number) × (dump_text old ≡ dump_text S)
Compares number old S (Err (fault.Incompatible rows)) = (dump_text old ≢ dump_text S)
    × (map break_of rows ≡ broken old S) × (rows ≢ [])
Compares number old S (Err fault.OutOfMemory) = Unit {0}
Compares number old S (Err _) = ⊥

-- the latest version and a schema
abbrev pub Follows : Version → List Decl → Result (Unit {0}) FreezeFault → Type 0
Follows v S (Ok x) = MayFollow (Some v) S
Follows v S (Err e) = Forbids (Some v) S e

-- it follows each schema of the version's files
abbrev pub FollowsOne : Version → List Decl → Type 0
FollowsOne v S = (old : List Decl) → IsSchemaOf v.files old → broken old S ≡ []

-- all versions and a schema
abbrev pub FollowsAll : List Version → List Decl → Result (Unit {0}) FreezeFault → Type 0
FollowsAll vs S (Ok x) = MayFollow (latest vs) S
FollowsAll vs S (Err e) = Forbids (latest vs) S e

-- files with a schema, or the limit that they pass
abbrev pub Fits : List Decl → List SourceFile → Result (Unit {0}) FreezeFault → Type 0
Fits S files (Ok x) = IsSchemaOf files S
Fits S files (Err (fault.Limit l)) = IsRefusal files (check.Limit l)
Fits S files (Err fault.OutOfMemory) = Unit {0}
Fits S files (Err _) = ⊥

-- what is to be written
abbrev pub Prepares : List Version → List Decl → Result Next FreezeFault → Type 0
Prepares vs S (Ok n) = Ready vs S n.files × (n.number ≡ next vs)
Prepares vs S (Err e) = RefusedAs vs S e

-- the number and the limits of the next version after so many
abbrev pub Numbers : List Decl → ℕ → List SourceFile → Result Next FreezeFault → Type 0
Numbers S count files (Ok n) = (count + 1 ≤ 9999) × (n.number ≡ count + 1) × (n.files ≡ files) × IsSchemaOf files S
Numbers S count files (Err (fault.Limit l)) = ((9999 < count + 1) × (l ≡ record { which = limit.Versions }))
    ⊎ ((count + 1 ≤ 9999) × IsRefusal files (check.Limit l))
Numbers S count files (Err fault.OutOfMemory) = Unit {0}
Numbers S count files (Err _) = ⊥

-- the same files
abbrev pub is_same : SourceFile → SourceFile → Bool
is_same f g = bytes_eq (seen f).0 (seen g).0 && bytes_eq f.bytes g.bytes

abbrev pub are_same : List SourceFile → List SourceFile → Bool
are_same [] [] = true
are_same [] (g ∷ gs) = false
are_same (f ∷ fs) [] = false
are_same (f ∷ fs) (g ∷ gs) = is_same f g && are_same fs gs
