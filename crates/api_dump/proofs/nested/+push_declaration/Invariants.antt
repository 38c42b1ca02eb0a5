use Rattle.std.proofs.Common.{◌+◌, ◌-◌, ◌*◌, suc, take}
use Rattle.std.specs.List.{flat_map}
use Rattle.growing.specs.Grows.{Grows}
use Rattle.api_dump.specs.Pieces.{text_of}
use Rattle.api_dump.specs.Declarations.{declaration}
use Rattle.api_dump.proofs.nested.+push_declaration.Given as goal

abbrev pub decreases-push_declaration : goal.decreases-push_declaration
decreases-push_declaration l = 2 * l.levels + 1

abbrev pub decreases-push_nested : goal.decreases-push_nested
decreases-push_nested l = 2 * l.levels

-- the declarations so far
abbrev pub invariant-push_nested-loop-inner : goal.invariant-push_nested-loop-inner
invariant-push_nested-loop-inner l =
    Grows l.fn.text l.text (text_of (flat_map (λ m. declaration l.decls (l.levels - 1) (suc l.depth) m) (take l.inner-index l.inner-items)))
