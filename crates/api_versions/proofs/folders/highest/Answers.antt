use Rattle.std.proofs.Common.{◌≡◌, ◌∙◌, ◌+◌, ap, sym, map, drop, min, max, string_bytes, arith}
use Rattle.std.specs.List.{cons_option}
use Rattle.api_versions.specs.Folders.{highest}
use Rattle.api_versions.specs.Places.{place_of, places}
use Rattle.api_versions.specs.steps.Adding.{number_or_zero}
use Rattle.api_versions.proofs.Adding.{places_left, no_places_left, highest_more}
use Rattle.api_versions.proofs.folders.highest.Goals as goal

pub loop-path-preserved : goal.loop-path-preserved
loop-path-preserved c =
    let paths = c.args.paths.now in
    let i = c.loop-path.path-index in
    let item = c.path-item.result in
    let o = place_of c.as_str.result.now in
    let rest = places (map string_bytes (drop (i + 1) paths)) in
    let were = places (map string_bytes (drop i paths)) in
    let shown : place_of (string_bytes item) ≡ o = ap place_of (sym c.as_str.ensures.value) in
    let left : were ≡ cons_option o rest = places_left paths i item c.loop-path-test.true ∙ ap (λ s. cons_option (place_of (string_bytes s)) rest) (sym c.path-item.is) ∙ ap (λ p. cons_option p rest) shown in
    let more : highest were ≡ max (number_or_zero o) (highest rest) = ap highest left ∙ highest_more o rest in
    let is : max c.loop-path.highest (min 10000 (highest were)) ≡ min 10000 (highest (places (map string_bytes paths))) = c.loop-path.invariant in
    let number : c.number_of.result ≡ min 10000 (number_or_zero o) = c.number_of.ensures in
    let now : c.max-highest.result ≡ max c.number_of.result c.loop-path.highest = c.max-highest.ensures in
    let goal_is : max c.max-highest.result (min 10000 (highest rest)) ≡ min 10000 (highest (places (map string_bytes paths))) = omega arith in
    goal_is

pub returns : goal.returns
returns c =
    let paths = c.args.paths.now in
    let none : highest (places (map string_bytes (drop c.loop-path.path-index paths))) ≡ 0 = ap highest (no_places_left paths c.loop-path.path-index c.loop-path-test.false) in
    let is : max c.loop-path.highest (min 10000 (highest (places (map string_bytes (drop c.loop-path.path-index paths))))) ≡ min 10000 (highest (places (map string_bytes paths))) = c.loop-path.invariant in
    omega arith
