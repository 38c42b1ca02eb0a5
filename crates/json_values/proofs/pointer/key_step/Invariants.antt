use Rattle.std.proofs.Common.{◌≡◌, ◌∷◌, string_bytes}
use Rattle.std.specs.List.{flat_map}
use Rattle.std.specs.Str.{encode_utf8_all}
use Rattle.json_values.specs.Refusal.{escaped_character}
use Rattle.json_values.proofs.pointer.key_step.Given as goal

abbrev pub invariant-loop-c : goal.invariant-loop-c
invariant-loop-c l = string_bytes l.text ≡ 47 ∷ encode_utf8_all (flat_map escaped_character l.yielded)
