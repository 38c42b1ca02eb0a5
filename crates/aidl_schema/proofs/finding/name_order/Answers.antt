use Rattle.std.proofs.Common.{◌∙◌}
use Rattle.aidl_schema.proofs.lemmas.Orders.{with_head, name_on, name_ends}
use Rattle.aidl_schema.proofs.finding.name_order.Goals as goal

pub returns-in-Ok : goal.returns-in-Ok
returns-in-Ok c =
    name_on c.args.parts.now _ c.first-item.result c.as_bytes.result.now c.args.text.now
    (with_head c.args.parts.now c.first-item.result c.in-len1-up.len_at_least c.first-item.is) (c.as_bytes.ensures.value ∙ c.as_str.ensures.bytes)
    c.in-Ok.rest.now c.dots_order.result c.in-Ok.ensures c.dots_order.ensures

pub returns-in-Err : goal.returns-in-Err
returns-in-Err c =
    name_ends c.args.parts.now _ c.first-item.result c.as_bytes.result.now c.args.text.now
    (with_head c.args.parts.now c.first-item.result c.in-len1-up.len_at_least c.first-item.is) (c.as_bytes.ensures.value ∙ c.as_str.ensures.bytes)
    c.in-Err.order c.in-Err.ensures
