use Rattle.std.proofs.Common.{◌<◌, ◌≤◌, ◌^◌, length, sym, ap, ◌∙◌, subst}
use Rattle.aidl_values.specs.View.{view}
use Rattle.parcel_words.specs.Written.{with_bytes}
use Rattle.parcel_write.proofs.Suited.{suited, spelled_as}
use Rattle.parcel_write.proofs.put.put_value.Goals as goal

pub put-requires-clause-suits : goal.put-requires-clause-suits
put-requires-clause-suits c = let h = c.requires in suited h.0 h.1 c.args.plans.now c.args.id (view c.args.value.now) h.2 h.3

pub put-requires-clause-small : goal.put-requires-clause-small
put-requires-clause-small c = let h = c.requires in
    subst (λ b. length b < 2 ^ 31) (sym (spelled_as h.0 h.1 c.args.plans.now c.args.id (view c.args.value.now) h.2 h.3)) h.4

pub put-requires-clause-room : goal.put-requires-clause-room
put-requires-clause-room c = let h = c.requires in
    subst (λ b. length b ≤ c.args.to.now.room) (sym (spelled_as h.0 h.1 c.args.plans.now c.args.id (view c.args.value.now) h.2 h.3)) h.5

pub returns : goal.returns
returns c = λ S t is fits. c.put.ensures ∙ ap (λ b. with_bytes c.args.to.now b) (spelled_as S t c.args.plans.now c.args.id (view c.args.value.now) is fits)
