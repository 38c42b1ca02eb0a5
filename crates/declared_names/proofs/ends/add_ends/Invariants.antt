use Rattle.std.proofs.Common.{◌≡◌, ◌++◌, drop}
use Rattle.declared_names.specs.Ends.{mark_back, ends_in}
use Rattle.declared_names.proofs.ends.add_ends.Given as goal

-- the ends from i on
abbrev pub invariant-loop-i : goal.invariant-loop-i
invariant-loop-i l = record {
  so_far : l.listed.items ≡ l.fn.listed.items ++ ends_in l.owner (drop l.i l.name);
  marked : l.mark ≡ mark_back (drop l.i l.name);
}
