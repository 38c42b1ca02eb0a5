use Rattle.std.proofs.Common.{◌∷◌, take}
use Rattle.std.specs.List.{flat_map}
use Rattle.std.specs.Str.{encode_utf8_all}
use Rattle.growing.specs.Grows.{Grows}
use Rattle.api_dump.proofs.names.push_slashed.Given as goal

-- the others so far
abbrev pub invariant-loop-part : goal.invariant-loop-part
invariant-loop-part l =
    Grows l.initial.text l.text (flat_map (λ j. 47 ∷ encode_utf8_all j.0) (take l.part-index l.others))
