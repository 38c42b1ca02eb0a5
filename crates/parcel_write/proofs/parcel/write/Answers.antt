use Rattle.std.proofs.Common.{◌≡◌, ◌<◌, ◌↔◌, length, IfOk, IsErrOf, subst}
use Rattle.aidl_values.specs.View.{view}
use Rattle.parcel_write.specs.declared.parcel.WriteFault.TheVariants.{TooLarge}
use Rattle.parcel_write.proofs.Suited.{suited, spelled_as}
use Rattle.parcel_write.proofs.parcel.write.Goals as goal

pub write_by_item-requires : goal.write_by_item-requires
write_by_item-requires c = let h = c.requires in suited h.0 h.1 c.args.plans.now c.args.id (view c.args.value.now) h.2 h.3

pub returns-clause-spelled : goal.returns-clause-spelled
returns-clause-spelled c = λ S t is fits.
    subst (λ b. IfOk c.write_by_item.result (λ bytes. bytes.items ≡ b)) (spelled_as S t c.args.plans.now c.args.id (view c.args.value.now) is fits) c.write_by_item.ensures.spelled

pub returns-clause-too_large : goal.returns-clause-too_large
returns-clause-too_large c = λ S t is fits.
    subst (λ b. IsErrOf c.write_by_item.result TooLarge ↔ (1048576 < length b)) (spelled_as S t c.args.plans.now c.args.id (view c.args.value.now) is fits) c.write_by_item.ensures.too_large
