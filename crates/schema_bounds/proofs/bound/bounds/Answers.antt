use Rattle.std.proofs.Common.{◌≡◌, Bool, ◌∙◌, ap, false, length, arith}
use Rattle.std.proofs.lemmas.List.FromFn.{get_or-map-range_with_len}
use Rattle.aidl_schema.specs.Sizes.{has_small_default}
use Rattle.aidl_schema.specs.Valid.{one_of}
use Rattle.graph_cycles.specs.Paths.{flag}
use Rattle.schema_bounds.specs.declared.bound.Bound.{Bound}
use Rattle.schema_bounds.specs.Bounds.{bound, bound_by}
use Rattle.schema_bounds.proofs.Lists.{pushed}
use Rattle.schema_bounds.proofs.bound.bounds.Goals as goal

same : (a b c x y z : Bool) (r : Bound) → r ≡ bound_by a b c → a ≡ x → b ≡ y → c ≡ z → r ≡ bound_by x y z
same a b c x y z r is p q s = is ∙ ap (λ d. bound_by d b c) p ∙ ap (λ d. bound_by x d c) q ∙ ap (λ d. bound_by x y d) s

pub loop-number-preserved : goal.loop-number-preserved
loop-number-preserved c =
    let n = c.loop-number.number in
    pushed (bound c.args.decls.now) n c.loop-number.bounds.items _ c.bound_by.result c.loop-number.invariant
    (same c.is_set-holds.result c.is_set-reaches.result c.is_set.result _ _ _ c.bound_by.result c.bound_by.ensures
    (c.is_set-holds.ensures ∙ ap (λ xs. flag xs n) c.deref.ensures.value ∙ c.in_ok-reach.ensures.holds n)
    (c.is_set-reaches.ensures ∙ ap (λ xs. flag xs n) c.deref-in-loop-number.ensures.value ∙ c.in_ok-reach.ensures.reaches n (omega arith))
    (c.is_set.ensures ∙ ap (λ xs. flag xs n) (c.deref-in-loop-number-2.ensures.value ∙ c.in_ok-small.ensures)
    ∙ get_or-map-range_with_len (λ k. has_small_default c.args.decls.now (one_of k)) 0 (length c.args.decls.now) n n false (omega arith) (omega arith)))
    c.in_ok-push.ensures.items
