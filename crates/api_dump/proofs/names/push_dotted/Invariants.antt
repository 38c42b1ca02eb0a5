use Rattle.std.proofs.Common.{◌∷◌, [], take}
use Rattle.std.specs.List.{flat_map}
use Rattle.aidl_syntax.specs.declared.token.Symbol.TheVariants as mark
use Rattle.growing.specs.Grows.{Grows}
use Rattle.api_dump.specs.Pieces.{name, sign, text_of}
use Rattle.api_dump.proofs.names.push_dotted.Given as goal

-- the others so far
abbrev pub invariant-loop-part : goal.invariant-loop-part
invariant-loop-part l =
    Grows l.initial.text l.text (text_of (flat_map (λ j. sign mark.Dot ∷ name j ∷ []) (take l.part-index l.others)))
