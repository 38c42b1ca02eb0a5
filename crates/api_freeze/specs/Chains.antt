-- *Chains*: along a run of versions up to the latest in which each is followed by the next one, a new version
-- follows every one of them (own). A schema is followed by another where no evolution rule is broken from it to the
-- other.
use Rattle.std.specs.Prelude.{◌≡◌, List, [], ◌∷◌, ◌++◌, Result, Ok, Err}
use Rattle.std.specs.List.{All, AllZip}
use Rattle.aidl_schema.specs.declared.schema.Decl.{Decl}
use Rattle.aidl_schema.specs.Broken.{broken}
use Rattle.api_versions.specs.declared.fault.VersionsFault.{VersionsFault}
use Rattle.api_versions.specs.declared.version.Version.{Version}
use Rattle.type_check.specs.Checked.{IsSchemaOf}

-- the schema of the files of a version
abbrev pub IsItsSchema : Version → List Decl → Type 0
IsItsSchema v S = IsSchemaOf v.files S

-- each schema is followed by the next one
abbrev pub IsChain : List (List Decl) → Type 0
IsChain [] = Unit {0}
IsChain (S ∷ []) = Unit {0}
IsChain (S ∷ T ∷ rest) = (broken S T ≡ []) × IsChain (T ∷ rest)

-- The new schema follows each of some versions: whatever schemas they have, if each is followed by the next one.
abbrev pub FollowsRun : List Version → List Decl → Type 0
FollowsRun versions new = (schemas : List (List Decl)) → AllZip IsItsSchema versions schemas
    → IsChain schemas → All (λ S. broken S new ≡ []) schemas

-- the same of every run of versions up to the latest, whatever those before it are
abbrev pub FollowsEach : List Version → List Decl → Type 0
FollowsEach versions new = (earlier run : List Version) → earlier ++ run ≡ versions → FollowsRun run new

-- the same of the versions that a store tells, which are there
abbrev pub FollowsEachAt : Result (List Version) VersionsFault → List Decl → Type 0
FollowsEachAt (Ok versions) new = FollowsEach versions new
FollowsEachAt (Err refused) new = ⊥
