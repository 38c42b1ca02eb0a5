-- Freezing: the dump of a schema as the next version of an API (own).
use Rattle.std.specs.Prelude.{◌≡◌, ◌≢◌, ℕ, ◌+◌, ◌≤◌, ◌<◌, ◌⊎◌, List, [], ◌∷◌, ◌++◌, length, map, Option, Some, None}
use Rattle.std.specs.Prelude.{Result, Ok, Err}
use Rattle.aidl_base.specs.declared.limit.Limit.{Limit}
use Rattle.aidl_base.specs.declared.limit.LimitName.TheVariants as limit
use Rattle.aidl_base.specs.declared.source_file.SourceFile.{SourceFile}
use Rattle.aidl_outside.specs.Faults.{StoreFaults}
use Rattle.aidl_outside.specs.Files.{Files, path_below}
use Rattle.aidl_schema.specs.declared.schema.Decl.{Decl}
use Rattle.aidl_schema.specs.Broken.{broken}
use Rattle.api_dump.specs.Dump.{dump_text, seen}
use Rattle.api_hash.specs.declared.hashing.Recipe.TheVariants.{Two}
use Rattle.api_hash.specs.HashText.{digits, ending, hash_text, in_order, line}
use Rattle.compat_judge.specs.Seen.{seen as break_of}
use Rattle.std.specs.List.{flat_map}
use Rattle.type_check.specs.declared.fault.CheckFault.TheVariants as check
use Rattle.type_check.specs.Checked.{IsSchemaOf}
use Rattle.type_check.specs.Refusals.{IsRefusal}
use Rattle.api_freeze.specs.declared.freezing.Frozen.{Frozen}
use Rattle.api_freeze.specs.Chains.{FollowsEach}
use Rattle.api_freeze.specs.declared.fault.FreezeFault.{FreezeFault}
use Rattle.api_freeze.specs.declared.fault.FreezeFault.TheVariants as fault
use Rattle.api_versions.specs.declared.fault.VersionsFault.{VersionsFault}
use Rattle.api_versions.specs.declared.version.Version.{Version}
use Rattle.api_versions.specs.Answers.{Refuses}
use Rattle.api_versions.specs.Versions.{hash_path, version_folder}
use Rattle.api_versions.specs.Whole.{first_torn}
use Rattle.api_versions.specs.Writes.{LeftAt, Write, Wrote}

-- the version of the highest number
abbrev pub latest : List Version → Option Version
latest [] = None
latest (v ∷ []) = Some v
latest (v ∷ w ∷ vs) = latest (w ∷ vs)

-- the number of the next version
abbrev pub next : List Version → ℕ
next vs = length vs + 1

-- files are the dump of the schema
abbrev pub IsDump : List Decl → List SourceFile → Type 0
IsDump S files = map seen files ≡ dump_text S

-- the 40 digits of the text of the second recipe, without its newline
abbrev pub hash_digits : List SourceFile → ℕ → List ℕ
hash_digits files number = digits (flat_map line (in_order files) ++ ending (Two number))

-- The latest version is no reason against freezing: there is none; or it is checked, its dump differs, and no
-- evolution rule is broken from it to the schema.
abbrev pub MayFollow : Option Version → List Decl → Type 0
MayFollow None S = Unit {0}
MayFollow (Some v) S = (old : List Decl) × IsSchemaOf v.files old × (dump_text old ≢ dump_text S) × (broken old S ≡ [])

-- why it is one
abbrev pub Forbids : Option Version → List Decl → FreezeFault → Type 0
Forbids None S e = e ≡ fault.OutOfMemory
-- a limit that its files pass
Forbids (Some v) S (fault.Limit l) = IsRefusal v.files (check.Limit l)
-- another fault of its files
Forbids (Some v) S (fault.Unreadable version files (check.Limit l)) = ⊥
Forbids (Some v) S (fault.Unreadable version files check.OutOfMemory) = ⊥
Forbids (Some v) S (fault.Unreadable version files cause) = (version ≡ v.number) × (files ≡ v.files)
    × IsRefusal v.files cause
-- the same dump
Forbids (Some v) S (fault.Unchanged version) = (version ≡ v.number)
    × ((old : List Decl) × IsSchemaOf v.files old × (dump_text old ≡ dump_text S))
-- another dump, and broken rules
Forbids (Some v) S (fault.Incompatible rows) = (old : List Decl) × IsSchemaOf v.files old
    × (dump_text old ≢ dump_text S) × (map break_of rows ≡ broken old S) × (rows ≢ [])
Forbids (Some v) S fault.OutOfMemory = Unit {0}
Forbids (Some v) S (fault.Versions e) = ⊥
Forbids (Some v) S (fault.Torn torn) = ⊥
Forbids (Some v) S (fault.Write e) = ⊥

-- What holds before anything is written: each version is whole; the latest is no reason against it, so along a
-- chain of versions up to the latest the schema follows each of them; the new number is at most 9,999; and the
-- files are the schema's dump, and a checked tree with this schema.
pub record Ready (vs : List Version) (S : List Decl) (files : List SourceFile) : Type 0 where
  pub whole : first_torn vs ≡ None
  pub follows : MayFollow (latest vs) S
  pub each : FollowsEach vs S
  pub few : next vs ≤ 9999
  pub dump : IsDump S files
  pub reads_back : IsSchemaOf files S

-- a new number above 9,999; or a limit that the dump passes
abbrev pub PassesLimit : List Version → List Decl → Limit → Type 0
PassesLimit vs S l = ((9999 < next vs) × (l ≡ record { which = limit.Versions }))
    ⊎ ((next vs ≤ 9999) × ((files : List SourceFile) × IsDump S files × IsRefusal files (check.Limit l)))

-- why it isn't frozen, of versions that are read: `Torn`; what forbids it; or a limit
abbrev pub RefusedAs : List Version → List Decl → FreezeFault → Type 0
RefusedAs vs S (fault.Torn torn) = first_torn vs ≡ Some torn
RefusedAs vs S (fault.Unreadable version files cause) = (first_torn vs ≡ None)
    × Forbids (latest vs) S (fault.Unreadable version files cause)
RefusedAs vs S (fault.Unchanged version) = (first_torn vs ≡ None) × Forbids (latest vs) S (fault.Unchanged version)
RefusedAs vs S (fault.Incompatible rows) = (first_torn vs ≡ None) × Forbids (latest vs) S (fault.Incompatible rows)
RefusedAs vs S (fault.Limit l) = (first_torn vs ≡ None)
    × (Forbids (latest vs) S (fault.Limit l) ⊎ (MayFollow (latest vs) S × PassesLimit vs S l))
RefusedAs vs S (fault.Versions e) = ⊥
RefusedAs vs S (fault.Write e) = ⊥
RefusedAs vs S fault.OutOfMemory = Unit {0}

-- a file below a folder
abbrev pub file_write : List ℕ → SourceFile → Write
file_write folder f = record { path = path_below folder (seen f).0; bytes = f.bytes }

-- the files in path order, and `.hash` last
abbrev pub version_writes : List ℕ → ℕ → List SourceFile → List Write
version_writes api number files = map (file_write (version_folder api number)) files
    ++ record { path = hash_path api number; bytes = hash_text files (Two number) } ∷ []

-- what is answered, what a store holds before and now, and its faults now, of versions that are read
abbrev pub Freezes : List ℕ → List Version → List Decl → Option Files → Option Files → StoreFaults
    → Result Frozen FreezeFault → Type 0
Freezes api vs S before now faults (Ok frozen) = (files : List SourceFile) × Ready vs S files
    × (frozen.version ≡ next vs) × (frozen.hash ≡ hash_digits files (next vs))
    × Wrote (version_writes api (next vs) files) before now
Freezes api vs S before now faults (Err (fault.Write e)) = (files : List SourceFile) × Ready vs S files
    × LeftAt (version_writes api (next vs) files) before now faults e
Freezes api vs S before now faults (Err (fault.Torn torn)) = (now ≡ before) × RefusedAs vs S (fault.Torn torn)
Freezes api vs S before now faults (Err (fault.Unreadable version files cause)) = (now ≡ before)
    × RefusedAs vs S (fault.Unreadable version files cause)
Freezes api vs S before now faults (Err (fault.Unchanged version)) = (now ≡ before)
    × RefusedAs vs S (fault.Unchanged version)
Freezes api vs S before now faults (Err (fault.Incompatible rows)) = (now ≡ before)
    × RefusedAs vs S (fault.Incompatible rows)
Freezes api vs S before now faults (Err (fault.Limit l)) = (now ≡ before) × RefusedAs vs S (fault.Limit l)
-- they weren't read: the store failed, or memory was wanted
Freezes api vs S before now faults (Err (fault.Versions e)) = (now ≡ before) × Refuses (Ok vs) e
Freezes api vs S before now faults (Err fault.OutOfMemory) = now ≡ before

-- of versions that can't be read: nothing is changed
abbrev pub Unread : VersionsFault → Option Files → Option Files → Result Frozen FreezeFault → Type 0
Unread refused before now (Ok frozen) = ⊥
Unread refused before now (Err (fault.Versions e)) = (now ≡ before) × Refuses {A = List Version} (Err refused) e
Unread refused before now (Err (fault.Torn torn)) = ⊥
Unread refused before now (Err (fault.Unreadable version files cause)) = ⊥
Unread refused before now (Err (fault.Unchanged version)) = ⊥
Unread refused before now (Err (fault.Incompatible rows)) = ⊥
Unread refused before now (Err (fault.Limit l)) = ⊥
Unread refused before now (Err (fault.Write e)) = ⊥
Unread refused before now (Err fault.OutOfMemory) = ⊥

-- of what a store tells
abbrev pub FreezesAt : List ℕ → Result (List Version) VersionsFault → List Decl → Option Files → Option Files
    → StoreFaults → Result Frozen FreezeFault → Type 0
FreezesAt api (Ok vs) S before now faults r = Freezes api vs S before now faults r
FreezesAt api (Err refused) S before now faults r = Unread refused before now r

-- the fault of `Unreadable` is what `check` answers for its files
abbrev pub IsRead : FreezeFault → Type 0
IsRead (fault.Unreadable version files cause) = IsRefusal files cause
IsRead _ = Unit {0}
