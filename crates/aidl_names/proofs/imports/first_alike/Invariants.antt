use Rattle.std.proofs.Common.{◌≡◌, length}
use Rattle.std.specs.List.{position_from}
use Rattle.declared_names.specs.Names.{last}
use Rattle.declared_names.specs.Marks.{mark_of}
use Rattle.aidl_names.specs.Alike.{is_alike}
use Rattle.declared_names.proofs.lemmas.Chains.{left_at, HasMark, left}
use Rattle.aidl_names.proofs.imports.first_alike.Given as goal

-- it is none of those so far
abbrev pub invariant-places : goal.invariant-places
invariant-places l = record {
  rest : left_at (is_alike l.name) l.imports l.at ≡ position_from (is_alike l.name) 0 l.imports;
  marked : HasMark l.table (mark_of (last l.name)) l.at;
}

abbrev pub decreases-places : goal.decreases-places
decreases-places l = left (length l.imports) l.at
