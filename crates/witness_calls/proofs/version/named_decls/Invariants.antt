use Rattle.std.proofs.Common.{◌≡◌, take}
use Rattle.witness_calls.proofs.version.named_decls.Given as goal

-- the declarations so far
abbrev pub invariant-loop-decl : goal.invariant-loop-decl
invariant-loop-decl l = l.named.items ≡ take l.decl-index l.decls
