use Rattle.std.proofs.Common.{◌≡◌, ◌++◌, map, drop}
use Rattle.api_freeze.specs.Rehash.{hash_writes, stale_numbers}
use Rattle.api_versions.specs.Seen.{write_seen}
use Rattle.api_freeze.proofs.rehashing.stale_of.Given as goal

-- what is found, and then that of the versions that are left, is all
abbrev pub invariant-loop-version : goal.invariant-loop-version
invariant-loop-version l = record {
  numbers : l.stale.numbers ++ stale_numbers (drop l.version-index l.versions) ≡ stale_numbers l.versions;
  writes : map write_seen l.stale.writes.items ++ hash_writes l.api (drop l.version-index l.versions) ≡ hash_writes l.api l.versions;
}
