use Rattle.growing.specs.Grows.{Grows}
use Rattle.api_dump.specs.Pieces.{text_of}
use Rattle.api_dump.specs.Declarations.{indent}
use Rattle.api_dump.proofs.declarations.push_indent.Given as goal

-- the levels so far
abbrev pub invariant-loop : goal.invariant-loop
invariant-loop l =
    Grows l.fn.text l.text (text_of (indent l.counter))
