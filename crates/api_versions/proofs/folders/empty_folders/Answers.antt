use Rattle.std.proofs.Common.{◌≡◌, ◌∙◌, ◌+◌, ◌++◌, ◌∷◌, [], ap, sym, map, arith}
use Rattle.std.proofs.lemmas.List.{map-append}
use Rattle.std.proofs.lemmas.List.FromFn.{map-range_with_len_more}
use Rattle.std.specs.List.{range_with_len}
use Rattle.api_versions.specs.steps.Adding.{no_folder}
use Rattle.api_versions.specs.Seen.{folder_seen}
use Rattle.api_versions.proofs.folders.empty_folders.Goals as goal

pub loop-before-preserved : goal.loop-before-preserved
loop-before-preserved c =
    let n = c.loop-before.before in
    let items = c.loop-before.folders.items in
    let pushed : c.push.new.self.items ≡ items ++ c.empty.result ∷ [] = c.in_ok-push.ensures.items in
    let is : map folder_seen items ≡ map no_folder (range_with_len 1 n) = c.loop-before.invariant in
    let new : folder_seen c.empty.result ≡ no_folder (n + 1) = c.empty.ensures in
    let more : map no_folder (range_with_len 1 (n + 1)) ≡ map no_folder (range_with_len 1 n) ++ no_folder (n + 1) ∷ [] = map-range_with_len_more no_folder 1 n (n + 1) (omega arith) in
    let went : map folder_seen c.push.new.self.items ≡ map no_folder (range_with_len 1 (n + 1)) = ap (map folder_seen) pushed ∙ map-append folder_seen items (c.empty.result ∷ []) ∙ ap (λ l. l ++ folder_seen c.empty.result ∷ []) is ∙ ap (λ f. map no_folder (range_with_len 1 n) ++ f ∷ []) new ∙ sym more in
    went
