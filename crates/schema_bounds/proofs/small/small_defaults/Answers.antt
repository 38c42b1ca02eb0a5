use Rattle.std.proofs.Common.{◌&&◌, ◌∙◌, ap}
use Rattle.std.specs.Prelude.{nat_le, slice_index_or}
use Rattle.aidl_schema.specs.Sizes.{has_small_default}
use Rattle.aidl_schema.specs.Valid.{one_of}
use Rattle.schema_bounds.proofs.Lists.{pushed}
use Rattle.schema_bounds.proofs.Smalls.{small}
use Rattle.schema_bounds.proofs.small.small_defaults.Goals as goal

pub loop-number-preserved : goal.loop-number-preserved
loop-number-preserved c =
    let n = c.loop-number.number in
    pushed (λ k. has_small_default c.args.decls.now (one_of k)) n c.loop-number.small.items _ c.is_small.result c.loop-number.invariant
    (c.is_small.ensures
    ∙ ap (λ d. nat_le d 32 && nat_le c.number_at-in-loop-number.result 512) (c.number_at.ensures ∙ ap (λ xs. slice_index_or xs n 0) c.deref.ensures.value)
    ∙ ap (λ d. nat_le (slice_index_or c.in_ok-depths.depths.items n 0) 32 && nat_le d 512)
    (c.number_at-in-loop-number.ensures ∙ ap (λ xs. slice_index_or xs n 1) c.deref-in-loop-number.ensures.value)
    ∙ small c.args.decls.now c.in_ok-depths.depths.items c.in_ok-nodes.nodes.items c.in_ok-depths.ensures c.in_ok-nodes.ensures n)
    c.in_ok-push.ensures.items
