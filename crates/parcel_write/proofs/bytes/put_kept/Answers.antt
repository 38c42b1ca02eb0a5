use Rattle.std.proofs.Common.{◌≤◌, length, arith, ap, sym, ◌∙◌, subst}
use Rattle.aidl_base.specs.Words.{pad}
use Rattle.parcel_words.specs.Written.{with_bytes}
use Rattle.parcel_write.proofs.Raw.{kept_as_bytes}
use Rattle.parcel_write.proofs.bytes.put_kept.Goals as goal

pub raw-requires : goal.raw-requires
raw-requires c = subst (λ bs. length (pad bs) ≤ c.args.to.now.room) (kept_as_bytes c.args.bytes.now (λ k lies. omega (arith, c.type_inv.bytes k))) c.requires

pub returns : goal.returns
returns c = c.raw.ensures ∙ ap (λ bs. with_bytes c.args.to.now (pad bs)) (sym (kept_as_bytes c.args.bytes.now (λ k lies. omega (arith, c.type_inv.bytes k))))
