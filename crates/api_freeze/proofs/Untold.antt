-- A store that tells nothing goes on so; and writes of versions that are whole.
use Rattle.std.proofs.Common.{◌≡◌, ℕ, List, Option, Some, None, Ok, Err, ap, sym, subst}
use Rattle.std.specs.Prelude.{Result}
use Rattle.aidl_outside.specs.Faults.{StoreCall, StoreFaults}
use Rattle.aidl_outside.specs.Files.{Files}
use Rattle.aidl_outside.specs.Told.{Tells}
use Rattle.aidl_schema.specs.declared.schema.Decl.{Decl}
use Rattle.api_freeze.specs.declared.freezing.Frozen.{Frozen}
use Rattle.api_freeze.specs.Freeze.{Freezes}
use Rattle.api_freeze.specs.Rehash.{GivesNumbers, Left, RefusesNumbers, rehash_at, rehash_by, rehash_of, rehash_writes, whole_writes, writes_by}
use Rattle.api_freeze.specs.declared.fault.FreezeFault.{FreezeFault}
use Rattle.api_freeze.specs.declared.fault.FreezeFault.TheVariants as fault
use Rattle.api_freeze.specs.declared.fault.RehashFault.{RehashFault}
use Rattle.api_freeze.specs.declared.fault.RehashFault.TheVariants as rehash
use Rattle.aidl_outside.specs.declared.store.StoreFault.{StoreFault}
use Rattle.aidl_outside.specs.declared.store.StoreFault.TheVariants as store
use Rattle.api_versions.specs.declared.version.Version.{Version}
use Rattle.api_versions.specs.Versions.{versions_at}
use Rattle.api_versions.specs.Writes.{FailedAt, LeftAt, Write, WroteSome}
use Rattle.api_versions.specs.Answers.{Refuses}
use Rattle.api_versions.specs.declared.fault.VersionsFault.{VersionsFault}
use Rattle.api_versions.specs.declared.fault.VersionsFault.TheVariants as read

untold_some : (ws : List Write) (now : Option Files) → WroteSome ws None now → now ≡ None
untold_some ws now (made, rest, is, wrote) = wrote

untold_failed : (ws : List Write) (now : Option Files) (call : StoreCall) → FailedAt ws None now call → now ≡ None
untold_failed ws now call (made, rest, w, None, split, wrote, only, is) = only
untold_failed ws now call (made, rest, w, Some middle, split, wrote, only, is) = absurd cc

untold_at : (ws : List Write) (now : Option Files) (faults : StoreFaults) (e : StoreFault) → LeftAt ws None now faults e → now ≡ None
untold_at ws now faults store.Failed h = untold_failed ws now h.0 h.1
untold_at ws now faults store.OutOfMemory h = untold_some ws now h

freezes_none : (api : List ℕ) (vs : List Version) (S : List Decl) (now : Option Files) (faults : StoreFaults) (r : Result Frozen FreezeFault) → Freezes api vs S None now faults r → now ≡ None
freezes_none api vs S now faults (Ok frozen) (files, ready, version, hash, wrote) = wrote
freezes_none api vs S now faults (Err (fault.Write e)) (files, ready, left) = untold_at _ now faults e left
freezes_none api vs S now faults (Err fault.OutOfMemory) h = h
freezes_none api vs S now faults (Err (fault.Torn torn)) h = h.0
freezes_none api vs S now faults (Err (fault.Unreadable version files cause)) h = h.0
freezes_none api vs S now faults (Err (fault.Unchanged version)) h = h.0
freezes_none api vs S now faults (Err (fault.Incompatible rows)) h = h.0
freezes_none api vs S now faults (Err (fault.Limit l)) h = h.0
freezes_none api vs S now faults (Err (fault.Versions e)) h = h.0

pub untold_freezes : (api : List ℕ) (vs : List Version) (S : List Decl) (before now : Option Files) (faults : StoreFaults) (r : Result Frozen FreezeFault) → before ≡ None → Freezes api vs S before now faults r → now ≡ None
untold_freezes api vs S before now faults r none h = freezes_none api vs S now faults r (subst (λ b. Freezes api vs S b now faults r) none h)

left_none : (ws : List Write) (now : Option Files) (faults : StoreFaults) (r : Result (List ℕ) RehashFault) → Left ws None now faults r → now ≡ None
left_none ws now faults (Ok x) h = h
left_none ws now faults (Err (rehash.Versions e)) h = h
left_none ws now faults (Err (rehash.Torn torn)) h = h
left_none ws now faults (Err (rehash.Write e)) h = untold_at ws now faults e h
left_none ws now faults (Err rehash.OutOfMemory) h = h

pub untold_left : (ws : List Write) (before now : Option Files) (faults : StoreFaults) (r : Result (List ℕ) RehashFault) → before ≡ None → Left ws before now faults r → now ≡ None
untold_left ws before now faults r none h = left_none ws now faults r (subst (λ b. Left ws b now faults r) none h)

-- the writes for versions that were read are those of what the store told
pub written_told : (api : List ℕ) (slice vs : List Version) (before middle now : Option Files) (faults : StoreFaults) (r : Result (List ℕ) RehashFault) → slice ≡ vs → middle ≡ before
    → Tells before (λ files. versions_at files api ≡ Ok vs) → Left (whole_writes api slice) middle now faults r → Tells before (λ files. Left (rehash_writes files api) (Some files) now faults r)
written_told api slice vs None middle now faults r e same told left = tt
written_told api slice vs (Some files) middle now faults r e same told left =
    subst (λ found. Left (writes_by api found) (Some files) now faults r) (sym told)
    (subst (λ m. Left (whole_writes api vs) m now faults r) same (subst (λ xs. Left (whole_writes api xs) middle now faults r) e left))

-- and the numbers are those that are defined
pub numbers_told : (api : List ℕ) (slice vs : List Version) (before : Option Files) (r : Result (List ℕ) RehashFault) → slice ≡ vs
    → Tells before (λ files. versions_at files api ≡ Ok vs) → GivesNumbers (rehash_of slice) r → Tells before (λ files. GivesNumbers (rehash_at files api) r)
numbers_told api slice vs None r e told gives = tt
numbers_told api slice vs (Some files) r e told gives =
    subst (λ found. GivesNumbers (rehash_by found) r) (sym told) (subst (λ xs. GivesNumbers (rehash_of xs) r) e gives)

-- versions that aren't read
refused_by : (d : Result (List Version) VersionsFault) (e : VersionsFault) → Refuses d e → RefusesNumbers (rehash_by d) (rehash.Versions e)
refused_by d (read.BadVersions missing) h = ap rehash_by h
refused_by d (read.Limit l) h = ap rehash_by h
refused_by d read.ReadFault h = tt
refused_by d read.OutOfMemory h = tt

pub unread_numbers : (api : List ℕ) (before : Option Files) (e : VersionsFault) → Tells before (λ files. Refuses (versions_at files api) e)
    → Tells before (λ files. GivesNumbers (rehash_at files api) (Err (rehash.Versions e)))
unread_numbers api None e told = tt
unread_numbers api (Some files) e told = refused_by (versions_at files api) e told

pub unread_left : (api : List ℕ) (before now : Option Files) (faults : StoreFaults) (e : VersionsFault) → now ≡ before → Tells before (λ files. Left (rehash_writes files api) (Some files) now faults (Err (rehash.Versions e)))
unread_left api None now faults e same = tt
unread_left api (Some files) now faults e same = same
