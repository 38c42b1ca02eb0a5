use Rattle.std.proofs.Common.{◌≡◌, nat_lt, length}
use Rattle.declared_names.specs.Times.{is_rarer}
use Rattle.declared_names.proofs.lemmas.Chains.{HasMark, left}
use Rattle.declared_names.proofs.lemmas.Times.{times_at}
use Rattle.declared_names.proofs.rarer.is_rarer.Given as goal

-- what is left of both decides
abbrev pub invariant-places : goal.invariant-places
invariant-places l = record {
  rest : nat_lt (times_at l.mark l.marks l.at) (times_at l.other l.others l.beside) ≡ is_rarer l.mark l.marks l.other l.others;
  marked : HasMark l.marks l.mark l.at;
  others_marked : HasMark l.others l.other l.beside;
}

abbrev pub decreases-places : goal.decreases-places
decreases-places l = left (length l.marks) l.at
