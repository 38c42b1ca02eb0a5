use Rattle.std.proofs.Common.{◌≡◌, ◌∙◌, ◌-◌, ap, sym, map, length, get_or, arith}
use Rattle.std.proofs.lemmas.List.{map-set, length-map, get_or-map}
use Rattle.api_versions.specs.steps.Adding.{with_path}
use Rattle.api_versions.specs.Places.{place_of}
use Rattle.api_versions.specs.Seen.{folder_seen, place_seen}
use Rattle.api_versions.proofs.Adding.{none_stays, adds_none, adds_one}
use Rattle.api_versions.proofs.Steps.{on_ok}
use Rattle.api_versions.proofs.folders.add_path.Goals as goal

pub returns-in_default : goal.returns-in_default
returns-in_default c = sym (none_stays (place_of c.args.path.now) (map folder_seen c.args.folders.now.items) (sym c.in_default.ensures.place))

pub returns-then-index-len : goal.returns-then-index-len
returns-then-index-len c =
    let fs = map folder_seen c.args.folders.now.items in
    let len : length fs ≡ length c.args.folders.now.items = length-map c.args.folders.now.items folder_seen in
    sym (adds_none (place_of c.args.path.now) (place_seen c.in-Some.place) fs c.in-Some.ensures.place c.requires.numbered (omega arith) c.in-Some.ensures.positive (omega (arith, c.len.ensures)))

pub returns : goal.returns
returns c =
    let items = c.args.folders.now.items in
    let fs = map folder_seen items in
    let k = c.in-Some.place.number - 1 in
    let item = c.index_mut.result.now in
    let len : length fs ≡ length items = length-map items folder_seen in
    let here : folder_seen item ≡ get_or fs k (folder_seen item) =
    ap folder_seen c.index_mut.ensures.value ∙ sym (get_or-map folder_seen items k item (folder_seen item) (omega (arith, c.len.ensures))) in
    on_ok c.add.result (λ added. map-set folder_seen items k c.add.new.self
    ∙ adds_one (place_of c.args.path.now) (place_seen c.in-Some.place) fs (folder_seen c.add.new.self) (folder_seen item) c.in-Some.ensures.place c.requires.numbered (omega arith)
    c.in-Some.ensures.positive (omega (arith, c.len.ensures)) (added ∙ ap (with_path c.in-Some.place.path.now) here))
    c.add.ensures
