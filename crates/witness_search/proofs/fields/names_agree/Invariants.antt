use Rattle.std.proofs.Common.{◌≡◌, drop}
use Rattle.compat_witness.specs.Rows.{names_agree}
use Rattle.witness_search.proofs.fields.names_agree.Given as goal

-- what is left of both decides
abbrev pub invariant-loop-i : goal.invariant-loop-i
invariant-loop-i l = names_agree (drop l.i l.olds) (drop l.i l.news) ≡ names_agree l.olds l.news
