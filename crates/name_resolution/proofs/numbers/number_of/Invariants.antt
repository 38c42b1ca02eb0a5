use Rattle.std.proofs.Common.{◌≡◌, ◌++◌, map, length}
use Rattle.declared_names.specs.Names.{same}
use Rattle.name_resolution.specs.Resolution.{number_of}
use Rattle.declared_names.specs.Marks.{mark_of, mark_of_entry}
use Rattle.declared_names.specs.Entries.{entry_of}
use Rattle.declared_names.proofs.lemmas.Chains.{left_at, HasMark, left}
use Rattle.name_resolution.proofs.numbers.number_of.Given as goal

-- it is none of those so far
abbrev pub invariant-places : goal.invariant-places
invariant-places l = record {
  rest : left_at (λ e. same e.name (l.front ++ l.back)) (map entry_of l.declarations) l.at ≡ number_of (map entry_of l.declarations) (l.front ++ l.back);
  marked : HasMark (map mark_of_entry (map entry_of l.declarations)) (mark_of (l.front ++ l.back)) l.at;
}

abbrev pub decreases-places : goal.decreases-places
decreases-places l = left (length l.declarations) l.at
