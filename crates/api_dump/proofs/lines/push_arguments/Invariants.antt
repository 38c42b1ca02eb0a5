use Rattle.std.proofs.Common.{◌∷◌, take}
use Rattle.std.specs.List.{flat_map}
use Rattle.aidl_syntax.specs.declared.token.Symbol.TheVariants as mark
use Rattle.growing.specs.Grows.{Grows}
use Rattle.api_dump.specs.Pieces.{sign, text_of}
use Rattle.api_dump.specs.Pieces.Piece.{space}
use Rattle.api_dump.specs.Lines.{argument}
use Rattle.api_dump.proofs.lines.push_arguments.Given as goal

-- the others so far
abbrev pub invariant-loop-arg : goal.invariant-loop-arg
invariant-loop-arg l =
    Grows l.initial.text l.text (text_of (flat_map (λ a. sign mark.Comma ∷ space ∷ argument l.decls a) (take l.arg-index l.others)))
