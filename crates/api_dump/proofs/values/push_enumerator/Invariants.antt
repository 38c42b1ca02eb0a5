use Rattle.std.proofs.Common.{◌≡◌, drop}
use Rattle.std.specs.List.{find}
use Rattle.std.specs.Ordering.{int_eq}
use Rattle.api_dump.proofs.values.push_enumerator.Given as goal

-- nothing is added, and none of those so far has the value
abbrev pub invariant-loop-enumerator : goal.invariant-loop-enumerator
invariant-loop-enumerator l = (l.text ≡ l.fn.text) × (find (λ e. int_eq e.value l.number) (drop l.enumerator-index l.enumerators) ≡ find (λ e. int_eq e.value l.number) l.enumerators)
