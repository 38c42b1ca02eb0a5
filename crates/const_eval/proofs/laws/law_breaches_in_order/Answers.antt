use Rattle.std.proofs.Common.{map, length, ◌≤◌, subst, arith}
use Rattle.std.specs.List.{All}
use Rattle.std.proofs.lemmas.List.{length-map}
use Rattle.aidl_syntax.specs.Sources.{source_of}
use Rattle.const_items.specs.Items.{items}
use Rattle.const_items.specs.SmallPlaces.{HasSmall}
use Rattle.const_eval.proofs.InOrder.{breaches_in_order}
use Rattle.const_items.proofs.lemmas.PlacesWithin.{items_ascend}
use Rattle.const_eval.proofs.laws.law_breaches_in_order.Goals as goal

pub returns : goal.returns
returns c outcome =
    let files = map source_of c.args.names.now in
    let count = c.files.ensures.of_bytes.count in
    let few : length files ≤ 4096 = omega (arith, length-map c.args.names.now source_of) in
    let ascend = items_ascend files few (subst (λ fs. All HasSmall (map source_of fs)) c.files.ensures.files c.law_places.ensures) in
    breaches_in_order outcome (items files) ascend.0 ascend.1
