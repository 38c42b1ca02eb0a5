use Rattle.std.proofs.Common.{◌≡◌, ℕ, nat_eq, length, drop}
use Rattle.std.specs.List.{position_from}
use Rattle.indexmap.specs.IndexMap.{get}
use Rattle.declared_names.specs.Tables.{AreNexts}
use Rattle.declared_names.proofs.table.Table.new.Given as goal

-- the places from i on
abbrev pub invariant-loop-i : goal.invariant-loop-i
invariant-loop-i l = record {
  heads : (mark : ℕ) → get nat_eq l.heads mark ≡ position_from (nat_eq mark) l.i (drop l.i l.marks.items);
  count : length l.nexts.items ≡ length l.marks.items;
  nexts : AreNexts l.marks.items l.nexts.items l.i;
}
