use Rattle.std.proofs.Common.{◌++◌, take}
use Rattle.std.specs.List.{flat_map}
use Rattle.growing.specs.Grows.{Grows}
use Rattle.api_dump.specs.Pieces.{text_of}
use Rattle.api_dump.specs.Declarations.{indent}
use Rattle.api_dump.specs.Lines.{constant}
use Rattle.api_dump.proofs.declarations.push_constants.Given as goal

-- the lines so far
abbrev pub invariant-loop-each : goal.invariant-loop-each
invariant-loop-each l =
    Grows l.fn.text l.text (text_of (flat_map (λ x. indent l.depth ++ constant l.decls x) (take l.each-index l.constants)))
