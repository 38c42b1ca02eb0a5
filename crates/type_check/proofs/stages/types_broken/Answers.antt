use Rattle.std.proofs.Common.{◌≡◌, List, map, ap, ◌∙◌}
use Rattle.aidl_base.specs.declared.breach.Breach.{Breach}
use Rattle.aidl_names.specs.Breaches.{in_order}
use Rattle.aidl_syntax.specs.Sources.{source_of}
use Rattle.tree_schema.specs.TreeViews.{numbered_of}
use Rattle.type_check.specs.Stages.{types_broken}
use Rattle.type_check.proofs.Joined.{same-count, types-joined}
use Rattle.type_check.proofs.Results.{ok-more}
use Rattle.type_check.proofs.stages.types_broken.Goals as goal

pub add_broken-requires-clause-same : goal.add_broken-requires-clause-same
add_broken-requires-clause-same c =
    same-count (map source_of c.args.names.now) c.args.decls.now c.decls.result.now c.decls.ensures c.requires.same c.as_slice.result.now c.as_slice-2.result.now
    (c.as_slice.ensures.value ∙ c.in_ok-bounds.ensures) (ap (map numbered_of) c.as_slice-2.ensures.value ∙ c.in_ok-order.ensures)

pub add_broken-requires-2-clause-same : goal.add_broken-requires-2-clause-same
add_broken-requires-2-clause-same c =
    same-count (map source_of c.args.names.now) c.args.decls.now c.decls.result.now c.decls.ensures c.requires.same c.as_slice-3.result.now c.as_slice-4.result.now
    (c.as_slice-3.ensures.value ∙ c.in_ok-bounds.ensures) (ap (map numbered_of) c.as_slice-4.ensures.value ∙ c.in_ok-order.ensures)

pub returns : goal.returns
returns c =
    let all = types-joined (map source_of c.args.names.now) c.args.decls.now c.decls.result.now c.decls.ensures c.requires.same _ _ _ c.as_slice.result.now c.as_slice-3.result.now c.as_slice-2.result.now c.as_slice-4.result.now
    (c.as_slice.ensures.value ∙ c.in_ok-bounds.ensures) (c.as_slice-3.ensures.value ∙ c.in_ok-bounds.ensures)
    (ap (map numbered_of) c.as_slice-2.ensures.value ∙ c.in_ok-order.ensures) (ap (map numbered_of) c.as_slice-4.ensures.value ∙ c.in_ok-order.ensures)
    c.in_ok-rows.ensures c.in_ok-add_broken.ensures c.in_ok-add_broken-2.ensures in
    ok-more (λ (rows : List Breach). rows ≡ in_order c.as_slice-5.result.now) (λ (rows : List Breach). rows ≡ types_broken (map source_of c.args.names.now) c.args.decls.now) c.in_order.result
    (λ rows h. h ∙ ap in_order c.as_slice-5.ensures.value ∙ all) c.in_order.ensures
