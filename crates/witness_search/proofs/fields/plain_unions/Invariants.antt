use Rattle.std.proofs.Common.{◌≡◌, take}
use Rattle.witness_search.specs.ReachTables.{plain_unions}
use Rattle.witness_search.proofs.fields.plain_unions.Given as goal

-- those of the declarations so far
abbrev pub invariant-loop-decl : goal.invariant-loop-decl
invariant-loop-decl l = l.plain.items ≡ plain_unions (take l.decl-index l.decls)
