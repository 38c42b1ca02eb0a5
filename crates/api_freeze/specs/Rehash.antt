-- Writing hashes again: by recipe two, for each version that has another text (own).
use Rattle.std.specs.Prelude.{◌≡◌, ℕ, not, List, [], map, Option, Some, None, Result, Ok, Err}
use Rattle.std.specs.List.{filter}
use Rattle.aidl_outside.specs.Faults.{StoreFaults}
use Rattle.aidl_outside.specs.Files.{Files}
use Rattle.api_freeze.specs.declared.fault.RehashFault.{RehashFault}
use Rattle.api_freeze.specs.declared.fault.RehashFault.TheVariants as fault
use Rattle.api_versions.specs.declared.fault.VersionsFault.{VersionsFault}
use Rattle.api_versions.specs.declared.fault.VersionsFault.TheVariants as read
use Rattle.api_versions.specs.declared.version.Version.{Version}
use Rattle.api_versions.specs.declared.whole.Torn.{Torn}
use Rattle.api_versions.specs.Versions.{hash_path, versions_at}
use Rattle.api_versions.specs.Whole.{defined, first_torn, is_current}
use Rattle.api_versions.specs.Writes.{LeftAt, Write, Wrote}

-- the versions whose `.hash` hasn't the text of the second recipe
abbrev pub stale : List Version → List Version
stale vs = filter (λ v. not (is_current v)) vs

-- that text at the `.hash` of a version
abbrev pub hash_write : List ℕ → Version → Write
hash_write api v = record { path = hash_path api v.number; bytes = defined v }

-- the writes for those of some versions that are stale
abbrev pub hash_writes : List ℕ → List Version → List Write
hash_writes api vs = map (hash_write api) (stale vs)

-- the numbers of stale versions
abbrev pub stale_numbers : List Version → List ℕ
stale_numbers vs = map (λ (v : Version). v.number) (stale vs)

-- the numbers that are answered for versions of which the first, if any, isn't whole
abbrev pub numbers_or : Option Torn → List ℕ → Result (List ℕ) RehashFault
numbers_or None numbers = Ok numbers
numbers_or (Some torn) numbers = Err (fault.Torn torn)

-- for some versions, where each is whole
abbrev pub rehash_of : List Version → Result (List ℕ) RehashFault
rehash_of vs = numbers_or (first_torn vs) (stale_numbers vs)

-- for versions that are read
abbrev pub rehash_by : Result (List Version) VersionsFault → Result (List ℕ) RehashFault
rehash_by (Ok vs) = rehash_of vs
rehash_by (Err e) = Err (fault.Versions e)

-- of what a store tells: the versions, else their refusal; `Torn`; the numbers
abbrev pub rehash_at : Files → List ℕ → Result (List ℕ) RehashFault
rehash_at files api = rehash_by (versions_at files api)

-- the writes where none isn't whole
abbrev pub writes_or : Option Torn → List Write → List Write
writes_or None writes = writes
writes_or (Some torn) writes = []

-- those for the stale ones of some versions, where each is whole
abbrev pub whole_writes : List ℕ → List Version → List Write
whole_writes api vs = writes_or (first_torn vs) (hash_writes api vs)

-- for versions that are read
abbrev pub writes_by : List ℕ → Result (List Version) VersionsFault → List Write
writes_by api (Ok vs) = whole_writes api vs
writes_by api (Err e) = []

-- of what a store tells
abbrev pub rehash_writes : Files → List ℕ → List Write
rehash_writes files api = writes_by api (versions_at files api)

-- the refusal is the defined one, unless the store failed or memory was wanted
abbrev pub RefusesNumbers : Result (List ℕ) RehashFault → RehashFault → Type 0
RefusesNumbers defined (fault.Versions (read.BadVersions missing)) =
    defined ≡ Err (fault.Versions (read.BadVersions missing))
RefusesNumbers defined (fault.Versions (read.Limit limit)) = defined ≡ Err (fault.Versions (read.Limit limit))
RefusesNumbers defined (fault.Versions read.ReadFault) = Unit {0}
RefusesNumbers defined (fault.Versions read.OutOfMemory) = Unit {0}
RefusesNumbers defined (fault.Torn torn) = defined ≡ Err (fault.Torn torn)
RefusesNumbers defined (fault.Write e) = Unit {0}
RefusesNumbers defined fault.OutOfMemory = Unit {0}

-- the answer is the defined one, unless the store failed or memory was wanted
abbrev pub GivesNumbers : Result (List ℕ) RehashFault → Result (List ℕ) RehashFault → Type 0
GivesNumbers defined (Ok numbers) = defined ≡ Ok numbers
GivesNumbers defined (Err e) = RefusesNumbers defined e

-- By what was answered, and the store's faults then: all writes; those before one that gave nothing; and after
-- every refusal that comes before the writes none.
abbrev pub Left : List Write → Option Files → Option Files → StoreFaults → Result (List ℕ) RehashFault → Type 0
Left ws before now faults (Ok numbers) = Wrote ws before now
Left ws before now faults (Err (fault.Versions e)) = now ≡ before
Left ws before now faults (Err (fault.Torn torn)) = now ≡ before
Left ws before now faults (Err (fault.Write e)) = LeftAt ws before now faults e
Left ws before now faults (Err fault.OutOfMemory) = now ≡ before
