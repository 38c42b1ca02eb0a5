use Rattle.std.proofs.Common.{◌≡◌, to_z, of_z, rules, List, Ok, Err, IfOk, subst}
use Rattle.std.specs.Int.{w32}
use Rattle.parcel_words.specs.Place.{left}
use Rattle.parcel_explain.specs.Items.{values_items}
use Rattle.parcel_explain.specs.declared.item.Item.{Item}
use Rattle.parcel_explain.specs.steps.Notes.{Tells, done}
use Rattle.parcel_explain.proofs.Explains.{all_left, from_none, left_is, stop_known, within_all}
use Rattle.parcel_explain.specs.declared.noting.Stopped.TheVariants.{Wrong}
use Rattle.parcel_explain.proofs.whole.explain.Goals as goal

pub with_left-requires-clause-within : goal.with_left-requires-clause-within
with_left-requires-clause-within c =
    let S = c.args.schema.now.decls in
    let told = all_left S c.args.types.now c.args.bytes.now c.new-from.result c.new-from.ensures (λ x. Tells done (Ok tt) x (left c.values_items.new.from) c.new-items.result c.values_items.new.items) c.in-Ok.ensures.told in
    within_all S c.args.types.now c.args.bytes.now c.values_items.new.items (from_none (values_items S 0 c.args.types.now c.args.bytes.now) c.new-items.result c.values_items.new.items c.new-items.ensures told.1)

pub with_stop-requires-clause-within : goal.with_stop-requires-clause-within
with_stop-requires-clause-within c =
    let S = c.args.schema.now.decls in
    let told = all_left S c.args.types.now c.args.bytes.now c.new-from.result c.new-from.ensures
    (λ x. Tells {T = Unit {0}} done (Err (Wrong c.in-Err-Wrong.path c.in-Err-Wrong.status)) x (left c.values_items.new.from) c.new-items.result c.values_items.new.items)
    (subst (λ e. Tells {T = Unit {0}} done (Err e) (values_items S 0 c.args.types.now (left c.new-from.result)) (left c.values_items.new.from) c.new-items.result c.values_items.new.items) c.in-Err-Wrong.field-0-is c.in-Err-Wrong.ensures.told) in
    within_all S c.args.types.now c.args.bytes.now c.values_items.new.items (from_none (values_items S 0 c.args.types.now c.args.bytes.now) c.new-items.result c.values_items.new.items c.new-items.ensures told.1)

pub returns-in-Ok : goal.returns-in-Ok
returns-in-Ok c =
    let S = c.args.schema.now.decls in
    let told = all_left S c.args.types.now c.args.bytes.now c.new-from.result c.new-from.ensures (λ x. Tells done (Ok tt) x (left c.values_items.new.from) c.new-items.result c.values_items.new.items) c.in-Ok.ensures.told in
    subst (λ (all : List Item). IfOk c.with_left.result (λ items. items ≡ all))
    (left_is S c.args.types.now c.args.bytes.now c.values_items.new.items
    (from_none (values_items S 0 c.args.types.now c.args.bytes.now) c.new-items.result c.values_items.new.items c.new-items.ensures told.1) (left c.values_items.new.from) told.0) c.with_left.ensures

pub returns-in-Err-Wrong : goal.returns-in-Err-Wrong
returns-in-Err-Wrong c =
    let S = c.args.schema.now.decls in
    let told = all_left S c.args.types.now c.args.bytes.now c.new-from.result c.new-from.ensures
    (λ x. Tells {T = Unit {0}} done (Err (Wrong c.in-Err-Wrong.path c.in-Err-Wrong.status)) x (left c.values_items.new.from) c.new-items.result c.values_items.new.items)
    (subst (λ e. Tells {T = Unit {0}} done (Err e) (values_items S 0 c.args.types.now (left c.new-from.result)) (left c.values_items.new.from) c.new-items.result c.values_items.new.items) c.in-Err-Wrong.field-0-is c.in-Err-Wrong.ensures.told) in
    let same : to_z w32 (of_z w32 c.in-Err-Wrong.status) ≡ c.in-Err-Wrong.status = search rules in
    subst (λ (all : List Item). IfOk c.with_stop.result (λ items. items ≡ all))
    (stop_known S c.args.types.now c.args.bytes.now c.values_items.new.items
    (from_none (values_items S 0 c.args.types.now c.args.bytes.now) c.new-items.result c.values_items.new.items c.new-items.ensures told.1) c.in-Err-Wrong.path c.in-Err-Wrong.status (to_z w32 (of_z w32 c.in-Err-Wrong.status)) told.0 same) c.with_stop.ensures
