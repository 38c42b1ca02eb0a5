use Rattle.std.proofs.Common.{map, min, arith, sym, ap, ◌∙◌}
use Rattle.std.proofs.lemmas.Bool.Decides.{Decides-eqb}
use Rattle.std.proofs.lemmas.Slice.Eq.{slice_eq-Decides}
use Rattle.schema_bounds.specs.steps.Measures.{most, kind_size}
use Rattle.schema_bounds.proofs.Levels.{one_count, steady}
use Rattle.schema_bounds.proofs.sizes.sizes.Goals as goal

pub loop-count-preserved : goal.loop-count-preserved
loop-count-preserved c =
    one_count c.args.measure c.args.decls.now c.loop-count.sizes.items c.in_ok-next.next.items c.loop-count.count (omega arith) c.loop-count.invariant
    (c.in_ok-next.ensures ∙ ap (λ sizes. map (λ d. min (most c.args.measure) (kind_size c.args.measure sizes d.kind)) c.args.decls.now) c.deref.ensures.value)

pub returns-then-eq : goal.returns-then-eq
returns-then-eq c =
    let same = (slice_eq-Decides Decides-eqb _ _ _ c.eq.ensures).0 c.if-eq.true in
    let back = c.deref.ensures.value ∙ sym c.as_slice-in-loop-count.ensures.value ∙ sym same ∙ c.as_slice.ensures.value in
    steady c.args.measure c.args.decls.now c.in_ok-next.next.items
    (c.in_ok-next.ensures ∙ ap (λ sizes. map (λ d. min (most c.args.measure) (kind_size c.args.measure sizes d.kind)) c.args.decls.now) back)
    (most c.args.measure) (omega arith)
