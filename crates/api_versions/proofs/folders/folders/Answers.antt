use Rattle.std.proofs.Common.{◌≡◌, ◌∙◌, ◌+◌, ap, sym, map, drop, length, string_bytes}
use Rattle.std.specs.List.{cons_option, range_with_len}
use Rattle.std.proofs.lemmas.List.{length-map}
use Rattle.std.proofs.lemmas.List.FromFn.{length-map-range_with_len}
use Rattle.api_versions.specs.Folders.{folder}
use Rattle.api_versions.specs.Places.{place_of, places}
use Rattle.api_versions.specs.steps.Adding.{no_folder, with_places, with_place}
use Rattle.api_versions.specs.Seen.{folder_seen}
use Rattle.api_versions.proofs.Adding.{all_left, no_folders_numbered, places_left, no_places_left, none_left, added_all, added_numbers, added_count}
use Rattle.api_versions.proofs.folders.folders.Goals as goal

pub loop-path-init : goal.loop-path-init
loop-path-init c =
    let ns = range_with_len 1 c.args.highest in
    let items = c.in_ok-folders.folders.items in
    let is : map folder_seen items ≡ map no_folder ns = c.in_ok-folders.ensures in
    record {
      all = ap (map (with_places (places (map string_bytes c.args.paths.now)))) is ∙ all_left (places (map string_bytes c.args.paths.now)) ns;
      numbered = ap (map (λ f. f.number)) is ∙ no_folders_numbered ns;
      count = sym (length-map items folder_seen) ∙ ap length is ∙ length-map-range_with_len no_folder 1 c.args.highest;
    }

pub loop-path-preserved : goal.loop-path-preserved
loop-path-preserved c =
    let paths = c.args.paths.now in
    let i = c.loop-path.path-index in
    let item = c.path-item.result in
    let before = map folder_seen c.loop-path.folders.items in
    let now = map folder_seen c.add_path.new.folders.items in
    let o = place_of c.as_str.result.now in
    let rest = places (map string_bytes (drop (i + 1) paths)) in
    let were = places (map string_bytes (drop i paths)) in
    let shown : place_of (string_bytes item) ≡ o = ap place_of (sym c.as_str.ensures.value) in
    let left = places_left paths i item c.loop-path-test.true ∙ ap (λ s. cons_option (place_of (string_bytes s)) rest) (sym c.path-item.is) ∙ ap (λ p. cons_option p rest) shown in
    let went : now ≡ map (with_place o) before = c.in_ok-add_path.ensures in
    record {
      all = added_all o rest were before now (map (folder (places (map string_bytes paths))) (range_with_len 1 c.args.highest)) left went c.loop-path.invariant.all;
      numbered = added_numbers o rest were before now before left went (range_with_len 1 c.args.highest) c.loop-path.invariant.numbered;
      count = sym (length-map c.add_path.new.folders.items folder_seen) ∙ added_count o rest were before now before left went ∙ length-map c.loop-path.folders.items folder_seen ∙ c.loop-path.invariant.count;
    }

pub returns : goal.returns
returns c =
    let fs = map folder_seen c.loop-path.folders.items in
    sym (none_left fs) ∙ ap (λ ps. map (with_places ps) fs) (sym (no_places_left c.args.paths.now c.loop-path.path-index c.loop-path-test.false)) ∙ c.loop-path.invariant.all
