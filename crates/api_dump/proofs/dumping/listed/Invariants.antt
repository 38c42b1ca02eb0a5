use Rattle.std.proofs.Common.{◌≡◌, ◌++◌, map, length, string_bytes}
use Rattle.api_dump.specs.Dump.{seen}
use Rattle.api_dump.proofs.dumping.listed.Given as goal

-- those that are listed and those that are left are all
abbrev pub invariant-texts : goal.invariant-texts
invariant-texts l = map seen l.files.items ++ map (λ e. (string_bytes e.0, string_bytes e.1)) l.texts.entries ≡ map (λ e. (string_bytes e.0, string_bytes e.1)) l.initial.texts.entries

abbrev pub decreases-texts : goal.decreases-texts
decreases-texts l = length l.texts.entries
