use Rattle.json_values.proofs.Members.{IsLeft}
use Rattle.json_values.proofs.keys.unknown_key.Given as goal

-- what is left decides
abbrev pub invariant-loop-key : goal.invariant-loop-key
invariant-loop-key l =
    (goal.iterator-loop-key).can_next l.key-iterator × (goal.iterator-loop-key).is_finite l.key-iterator × IsLeft l.fn.reader l.reader l.fields l.members.entries l.key-iterator
