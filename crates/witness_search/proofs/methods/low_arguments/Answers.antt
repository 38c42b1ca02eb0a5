use Rattle.std.proofs.Common.{map, false, ap, ◌∙◌}
use Rattle.std.proofs.lemmas.List.{take_all}
use Rattle.aidl_values.specs.View.{items_of, view}
use Rattle.compat_witness.specs.Reaching.{plain_value}
use Rattle.witness_search.proofs.RecordParts.{low_are}
use Rattle.witness_search.proofs.methods.low_arguments.Goals as goal

pub returns : goal.returns
returns c =
    ap (λ vs. items_of (map view vs)) c.from_vec.ensures
    ∙ ap items_of (c.loop-arg.invariant ∙ ap (λ xs. map (λ a. plain_value false a.ty.base) xs) (take_all c.loop-arg.arg-index c.args.args.now c.loop-arg-test.false))
    ∙ low_are c.args.args.now
