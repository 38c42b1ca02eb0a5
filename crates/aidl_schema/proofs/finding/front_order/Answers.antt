use Rattle.std.proofs.Common.{◌++◌, ◌-◌, length, drop, length-drop, sym, ap, ◌∙◌, arith, rules}
use Rattle.std.proofs.lemmas.List.{take_all}
use Rattle.aidl_schema.proofs.lemmas.Orders.{begins, begins_otherwise}
use Rattle.aidl_schema.proofs.finding.front_order.Goals as goal

pub returns-in-Equal : goal.returns-in-Equal
returns-in-Equal c =
    let text = c.args.text.now in
    let n = c.min-len.result in
    let long = length-drop n text in
    begins c.args.front.now text n (sym c.cmp.ensures ∙ c.in-Equal.is) ∙ ap (λ rest. c.args.front.now ++ rest) (sym (take_all (length text - n) (drop n text) (omega arith)))

pub returns-in_default : goal.returns-in_default
returns-in_default c = λ more. begins_otherwise c.args.front.now more c.args.text.now c.min-len.result c.cmp.result (search rules) (sym c.cmp.ensures) c.in_default.not-Equal
