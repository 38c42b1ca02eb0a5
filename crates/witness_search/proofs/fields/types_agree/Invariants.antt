use Rattle.std.proofs.Common.{◌≡◌, drop}
use Rattle.compat_witness.specs.Rows.{types_agree}
use Rattle.witness_search.proofs.fields.types_agree.Given as goal

-- what is left of both decides
abbrev pub invariant-loop-i : goal.invariant-loop-i
invariant-loop-i l = types_agree l.old.decls (drop l.i l.olds) l.new.decls (drop l.i l.news) ≡ types_agree l.old.decls l.olds l.new.decls l.news
