use Rattle.std.proofs.Common.{suc, ◌∙◌, ap, sym, map, min}
use Rattle.schema_bounds.specs.steps.Measures.{most, total, start_size, kind_size}
use Rattle.schema_bounds.proofs.Totals.{one_above}
use Rattle.schema_bounds.proofs.kind_size.kind_size.Goals as goal

pub returns-in-Parcelable : goal.returns-in-Parcelable
returns-in-Parcelable c =
    one_above c.args.measure _ _ c.fields_size.ensures
    ∙ ap (λ fs. min (most c.args.measure) (suc (total c.args.measure (map (λ f. start_size c.args.measure c.args.sizes.now f) fs)))) c.as_slice.ensures
    ∙ sym (ap (λ k. min (most c.args.measure) (kind_size c.args.measure c.args.sizes.now k)) c.in-Parcelable.is)
