use Rattle.std.proofs.Common.{◌≡◌, [], ◌∷◌, ◌++◌, map, sym, ap, ◌∙◌, arith}
use Rattle.std.proofs.lemmas.List.{map-append}
use Rattle.aidl_values.specs.View.{view}
use Rattle.json_values.proofs.Plain.{plain_more, plain_all}
use Rattle.json_values.proofs.side_by_side.sequence_of.Goals as goal

pub loop-item-preserved : goal.loop-item-preserved
loop-item-preserved g c = λ S d some.
    let ds = map g.E.Element.seen c.loop-item.elements.items in
    let v = g.E.Element.seen c.in-Some.element in
    let more : map g.E.Element.seen c.push.new.self.items ≡ ds ++ v ∷ [] =
    ap (map g.E.Element.seen) c.in_ok-push-in-Some.ensures.items ∙ map-append g.E.Element.seen c.loop-item.elements.items (c.in-Some.element ∷ []) in
    rw more (plain_more c.args.ty c.args.items.now S d c.loop-item.item-index c.item-item.result ds v some (omega arith) (sym c.item-item.is) c.in-Some.ensures (c.loop-item.invariant S d some))

pub returns : goal.returns
returns g c = λ S d some.
    plain_all c.args.ty c.args.items.now S d c.loop-item.item-index (map g.E.Element.seen c.loop-item.elements.items) (view c.sequence.result) (omega arith) (c.loop-item.invariant S d some) c.sequence.ensures
