use Rattle.std.proofs.Common.{◌≡◌, max, arith, ◌∙◌}
use Rattle.aidl_values.specs.View.{view, view_element, datas, field_datas}
use Rattle.aidl_values.proofs.Greatest.{greatest_next}
use Rattle.aidl_values.proofs.lemmas.Depths.{no_deeper}
use Rattle.aidl_values.proofs.depths.+depth.Goals as goal
use Rattle.aidl_values.proofs.depths.+depth.Goals.{depth_of_elements-then-most-here, depth_of_elements-else-most-here, depth_of_fields-then-most-here, depth_of_fields-else-most-here}

pub depth_of_elements-depth_of_element-here-requires : goal.depth_of_elements-depth_of_element-here-requires
depth_of_elements-depth_of_element-here-requires t c =
    let below = no_deeper (datas c.args.elements.now) c.loop-i.i (view_element c.get.result) c.get.ensures in
    (omega (arith, below, c.decreases), tt)

pub depth_of_elements-loop-i-preserved : goal.depth_of_elements-loop-i-preserved
depth_of_elements-loop-i-preserved t c =
    let chosen : c.if-most-here.most ≡ max c.loop-i.most c.depth_of_element-here.result =
    elim c.if-most-here.branch [ depth_of_elements-then-most-here w ↦ omega arith | depth_of_elements-else-most-here w ↦ omega arith ] in
    chosen ∙ greatest_next (datas c.args.elements.now) c.loop-i.i (view_element c.get.result) c.loop-i.most c.depth_of_element-here.result _ c.get.ensures c.loop-i.invariant c.depth_of_element-here.ensures

pub depth_of_fields-depth-here-requires : goal.depth_of_fields-depth-here-requires
depth_of_fields-depth-here-requires t c =
    let below = no_deeper (field_datas c.args.fields.now) c.loop-i.i (view c.get.result.now) c.get.ensures in
    (omega (arith, below, c.decreases), tt)

pub depth_of_fields-loop-i-preserved : goal.depth_of_fields-loop-i-preserved
depth_of_fields-loop-i-preserved t c =
    let chosen : c.if-most-here.most ≡ max c.loop-i.most c.depth-here.result =
    elim c.if-most-here.branch [ depth_of_fields-then-most-here w ↦ omega arith | depth_of_fields-else-most-here w ↦ omega arith ] in
    chosen ∙ greatest_next (field_datas c.args.fields.now) c.loop-i.i (view c.get.result.now) c.loop-i.most c.depth-here.result _ c.get.ensures c.loop-i.invariant c.depth-here.ensures
