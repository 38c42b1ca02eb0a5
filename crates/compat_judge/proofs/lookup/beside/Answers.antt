use Rattle.std.proofs.Common.{◌<◌, length, ap, ◌∙◌, arith}
use Rattle.std.specs.List.{find}
use Rattle.std.specs.Str.{encode_utf8_all}
use Rattle.aidl_base.specs.declared.name.Ident.{Ident}
use Rattle.aidl_schema.specs.Same.{same_text}
use Rattle.name_tables.specs.Places.{place_in}
use Rattle.compat_judge.specs.steps.Steps.{item_at}
use Rattle.compat_judge.proofs.Listing.{item_named}
use Rattle.compat_judge.proofs.Walk.{beside_more, placed_by_name}
use Rattle.compat_judge.proofs.lookup.beside.Goals as goal

pub loop-member-preserved : goal.loop-member-preserved
loop-member-preserved g c =
    let called = g.M.Called.called in
    let news = c.args.news.now in
    let lt : c.loop-member.member-index < length c.args.olds.now = omega arith in
    let x = c.member-item.result in
    let placed = c.place-place.ensures ∙ ap (place_in called c.as_str.result.now) c.in_ok-table.ensures ∙ placed_by_name called news c.as_str.result.now ((called x).0) (c.as_str.ensures.bytes ∙ ap (λ (i : Ident). encode_utf8_all i.0) c.name.ensures) in
    beside_more (λ x. find (λ y. same_text ((called x).0) ((called y).0)) news) c.args.olds.now c.loop-member.member-index x c.at_place.result
    c.loop-member.afters.items c.push.new.self.items c.loop-member.invariant lt c.member-item.is (c.at_place.ensures ∙ ap (item_at news) placed ∙ item_named (λ y. (called y).0) x news) c.in_ok-push.ensures.items
