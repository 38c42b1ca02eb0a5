use Rattle.std.proofs.Common.{◌/◌, length, map, refl, ap, ◌∙◌}
use Rattle.std.specs.Int.{w16, from_le_bytes}
use Rattle.std.proofs.lemmas.List.{take_all}
use Rattle.aidl_base.proofs.lemmas.Blocks.{units_of_pairs}
use Rattle.parcel_words.proofs.units.units_of.Goals as goal

pub returns : goal.returns
returns c =
    let units = map (from_le_bytes w16) in
    let bytes = c.args.bytes.now in
    c.loop-pair.invariant ∙ ap units (take_all c.loop-pair.pair-index c.as_chunks.result.0.now c.loop-pair-test.false)
    ∙ ap units c.as_chunks.ensures.front ∙ units_of_pairs (length bytes / 2) bytes refl
