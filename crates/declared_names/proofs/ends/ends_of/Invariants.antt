use Rattle.std.proofs.Common.{◌≡◌, ◌++◌, map, drop}
use Rattle.declared_names.specs.Entries.{entry_of}
use Rattle.declared_names.specs.Numbered.{in_each}
use Rattle.declared_names.specs.Ends.{ends_in, ends_of}
use Rattle.declared_names.proofs.ends.ends_of.Given as goal

-- the ends so far and those that are left are all
abbrev pub invariant-loop-i : goal.invariant-loop-i
invariant-loop-i l = l.listed.items ++ in_each (λ owner e. ends_in owner e.name) l.i (map entry_of (drop l.i l.found)) ≡ ends_of (map entry_of l.found)
