use Rattle.std.proofs.Common.{map, subst, arith}
use Rattle.std.specs.List.{All}
use Rattle.std.proofs.lemmas.List.{length-map}
use Rattle.aidl_syntax.specs.Sources.{source_of}
use Rattle.const_items.specs.SmallPlaces.{HasSmall}
use Rattle.const_items.proofs.lemmas.PlacesWithin.{items_few}
use Rattle.const_items.proofs.counted.law_count.Goals as goal

pub returns : goal.returns
returns c =
    let count = c.files-files.ensures.of_bytes.count in
    items_few (map source_of c.args.names.now) (omega (arith, length-map c.args.names.now source_of))
    (subst (λ files. All HasSmall (map source_of files)) c.files-files.ensures.files c.law_places.ensures)
