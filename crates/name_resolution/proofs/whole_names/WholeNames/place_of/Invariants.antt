use Rattle.std.proofs.Common.{◌≡◌, map, length}
use Rattle.declared_names.specs.Names.{same}
use Rattle.declared_names.specs.Marks.{mark_of}
use Rattle.declared_names.specs.Ends.{mark_of_import}
use Rattle.name_resolution.specs.steps.Behind.{place_of}
use Rattle.declared_names.proofs.lemmas.Chains.{left_at, HasMark, left}
use Rattle.name_resolution.proofs.whole_names.WholeNames.place_of.Given as goal

-- it is none of those so far
abbrev pub invariant-places : goal.invariant-places
invariant-places l = record {
  rest : left_at (λ i. same i.now.name.0 l.name) l.self l.at ≡ place_of l.self l.name;
  marked : HasMark (map (λ d. mark_of_import d.now) l.self) (mark_of l.name) l.at;
}

abbrev pub decreases-places : goal.decreases-places
decreases-places l = left (length l.self) l.at
