use Rattle.std.proofs.Common.{◌≡◌, ◌+◌, ◌-◌, ◌<◌, length, drop, refl, ap, ◌∙◌, arith, rules, FitsSigned, w64}
use Rattle.std.proofs.lemmas.Int.{to_z-of_z}
use Rattle.json_writing.specs.Json.{json_among}
use Rattle.json_writing.proofs.Tables.{entered}
use Rattle.json_writing.proofs.value_table.ValueTable.new.Goals as goal

pub loop-i-preserved : goal.loop-i-preserved
loop-i-preserved c = λ n.
    let es = c.args.enumerators.now in
    let e = c.index-enumerators-i.result in
    let next : c.loop-i.i ≡ c.loop-i.i - 1 + 1 = omega arith in
    let lies : c.loop-i.i - 1 < length es = omega arith in
    let fits : FitsSigned w64 e.value = search rules in
    entered es (c.loop-i.i - 1) e _ _ n _ _ lies c.index-enumerators-i.is refl (to_z-of_z w64 e.value fits) (c.in_ok-insert.ensures.updates.0 n)
    (c.loop-i.invariant n ∙ ap (λ i. json_among (drop i es) n) next)
