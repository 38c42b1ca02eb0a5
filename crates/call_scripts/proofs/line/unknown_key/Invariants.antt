use Rattle.std.proofs.Common.{◌≡◌}
use Rattle.serde_json.specs.View.{members_view}
use Rattle.call_scripts.specs.Answers.{unknown_in}
use Rattle.call_scripts.specs.Keys.{seen_keys}
use Rattle.call_scripts.proofs.line.unknown_key.Given as goal

-- what is left decides
abbrev pub invariant-loop-key : goal.invariant-loop-key
invariant-loop-key l =
    (goal.iterator-loop-key).can_next l.key-iterator ×
    (goal.iterator-loop-key).is_finite l.key-iterator × (unknown_in (seen_keys l.known) (members_view l.key-iterator) ≡ unknown_in (seen_keys l.known) (members_view l.members.entries))
