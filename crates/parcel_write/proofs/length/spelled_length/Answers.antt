use Rattle.std.proofs.Common.{length, min, ap, ◌∙◌}
use Rattle.aidl_values.specs.View.{view}
use Rattle.parcel_write.proofs.Suited.{suited, spelled_as}
use Rattle.parcel_write.proofs.length.spelled_length.Goals as goal

pub length_of-requires : goal.length_of-requires
length_of-requires c = let h = c.requires in suited h.0 h.1 c.args.plans.now c.args.id (view c.args.value.now) h.2 h.3

pub returns : goal.returns
returns c = λ S t is fits. c.length_of.ensures ∙ ap (λ b. min (length b) c.args.most) (spelled_as S t c.args.plans.now c.args.id (view c.args.value.now) is fits)
