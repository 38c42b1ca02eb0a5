use Rattle.std.proofs.Common.{◌≡◌, ◌+◌, ◌-◌, ◌<◌, length, drop, arith, rules, ap, subst, ◌∙◌}
use Rattle.std.proofs.lemmas.Grind.{common_steps}
use Rattle.serde_json.specs.Data.{array}
use Rattle.serde_json.specs.View.{view as json_view, members_view}
use Rattle.aidl_values.specs.View.{datas, field_datas, items_of, view, view_element}
use Rattle.aidl_values.proofs.lemmas.Depths.{no_deeper}
use Rattle.json_writing.specs.Json.{json_members, json_of}
use Rattle.json_writing.proofs.Elements.{written_more}
use Rattle.json_writing.proofs.Written.{json_items-datas, field_put}
use Rattle.json_writing.proofs.writing.+writing.Goals as goal

pub write_elements-returns-clause-json : goal.write_elements-returns-clause-json
write_elements-returns-clause-json t c = c.from.ensures ∙ ap array (json_items-datas c.args.schema.now.decls c.args.ty (datas c.args.elements.now) c.loop-i.items.items (grind (arith, common_steps)))

pub write_elements-write_element-requires : goal.write_elements-write_element-requires
write_elements-write_element-requires t c =
    let below = no_deeper (datas c.args.elements.now) c.loop-i.i (view_element c.get.result) c.get.ensures in
    (omega (arith, below, c.decreases), c.loop-i.invariant.same ∙ c.requires)

pub write_elements-loop-i-preserved : goal.write_elements-loop-i-preserved
write_elements-loop-i-preserved t c =
    let S = c.args.schema.now.decls in
    let d = view_element c.get.result in
    let part : json_view c.in_ok-write_element.field-0 ≡ json_of S c.args.ty d = search rules in
    record {
      same = search rules;
      items = written_more S c.args.ty (datas c.args.elements.now) c.loop-i.i d c.loop-i.items.items _ _ c.get.ensures c.in_ok-push.ensures.items part c.loop-i.invariant.items;
    }

pub write_fields-write-requires : goal.write_fields-write-requires
write_fields-write-requires t c =
    let below = no_deeper (field_datas c.args.values.now) (c.loop-i.i - 1) (view c.get.result.now) c.get.ensures in
    (omega (arith, below, c.decreases), c.loop-i.invariant.same ∙ c.requires)

pub write_fields-loop-i-preserved : goal.write_fields-loop-i-preserved
write_fields-loop-i-preserved t c =
    let S = c.args.schema.now.decls in
    let fs = c.args.fields.now in
    let vs = field_datas c.args.values.now in
    let later = members_view c.loop-i.members.entries in
    let next : c.loop-i.i ≡ c.loop-i.i - 1 + 1 = omega arith in
    let lies : c.loop-i.i - 1 < length fs = omega arith in
    let rest = subst (λ j. later ≡ json_members S (drop j fs) (items_of (drop j vs))) next c.loop-i.invariant.members in
    record {
      same = c.in_ok-json.ensures.same ∙ c.loop-i.invariant.same;
      members = field_put S fs vs (c.loop-i.i - 1) c.index-fields-i.result (view c.get.result.now) c.as_str.result.now (json_view c.in_ok-json.json) later _ lies c.index-fields-i.is c.get.ensures
          c.as_str.ensures.bytes c.in_ok-json.ensures.json c.in_ok-put.ensures.ok rest;
    }
