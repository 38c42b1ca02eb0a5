use Rattle.std.proofs.Common.{◌∷◌, take}
use Rattle.std.specs.List.{flat_map}
use Rattle.aidl_syntax.specs.declared.token.Symbol.TheVariants as mark
use Rattle.growing.specs.Grows.{Grows}
use Rattle.api_dump.specs.Pieces.{sign, text_of}
use Rattle.api_dump.specs.Pieces.Piece.{space}
use Rattle.api_dump.specs.Values.{value}
use Rattle.api_dump.proofs.values.push_values.Given as goal

-- the others so far
abbrev pub invariant-loop-constant : goal.invariant-loop-constant
invariant-loop-constant l =
    Grows l.initial.text l.text (text_of (flat_map (λ c. sign mark.Comma ∷ space ∷ value l.decls l.base c) (take l.constant-index l.others)))
