use Rattle.std.proofs.Common.{◌≡◌, [], map, refl, arith, rules, sym, ap, ◌∙◌}
use Rattle.std.specs.List.{fold}
use Rattle.std.proofs.lemmas.List.{at_drop_all}
use Rattle.std.proofs.lemmas.Simd.{map-map}
use Rattle.const_items.specs.declared.item.ItemRef.{ItemRef}
use Rattle.const_items.specs.Items.{put, items}
use Rattle.const_items.specs.ItemViews.{item_of}
use Rattle.const_items.proofs.Orders.{Key, next_in, seen}
use Rattle.const_items.proofs.order.items.Goals as goal

pub loop-item-preserved : goal.loop-item-preserved
loop-item-preserved c =
    next_in _ (λ a b. refl) c.item-item.result c.loop-item.places.entries c.insert.new.self.entries c.as_slice-item-items.result.now (fold put [] (map item_of c.as_slice-item-items.result.now)) c.loop-item.item-index
    c.in_ok-insert.ensures.entries (omega arith) c.item-item.is c.loop-item.invariant

pub returns : goal.returns
unfolding items
returns c =
    let entries = c.loop-item.places.entries in
    let rows = c.as_slice-item-items.result.now in
    let collected : c.in_ok-collect.field-0.items ≡ map (λ (e : Key × ItemRef). e.1) entries = search rules in
    ap (map item_of) collected ∙ map-map item_of (λ (e : Key × ItemRef). e.1) entries
    ∙ sym (at_drop_all (λ xs. fold put (map seen entries) (map item_of xs)) rows c.loop-item.item-index (omega arith)) ∙ c.loop-item.invariant.1
    ∙ ap (λ xs. fold put [] (map item_of xs)) c.as_slice-item-items.ensures.value ∙ ap (fold put []) c.in_ok-all.ensures
