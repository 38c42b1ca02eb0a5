use Rattle.std.proofs.Common.{◌≡◌, ◌≤◌, length, map, string_bytes, arith}
use Rattle.std.proofs.lemmas.List.{length-map}
use Rattle.aidl_outside.proofs.lemmas.Failing.{result_as}
use Rattle.tool_frame.proofs.TreeFiles.{asks_tree}
use Rattle.tool_frame.proofs.tree.load_tree.Goals as goal

pub returns-clause-failed : goal.returns-clause-failed
returns-clause-failed g c =
    let same : length (map string_bytes c.in_ok-paths.paths.items) ≡ length c.in_ok-paths.paths.items = length-map c.in_ok-paths.paths.items string_bytes in
    let held = c.in_ok-paths.paths.ok in
    let below = c.if-len-number.false in
    let number = c.number.ensures in
    let count = c.len.ensures in
    let few : length (map string_bytes c.in_ok-paths.paths.items) ≤ 4096 = grind arith in
    result_as c.load_files.result _ _ (asks_tree c.args.root.now (map string_bytes c.in_ok-paths.paths.items) _ (g.S.Store.kept c.args.store.now) (g.S.Store.fault_record c.load_files.new.store)
    c.in_ok-paths.ensures.unchanged c.in_ok-paths.ensures.paths c.in_ok-paths.ensures.sources few) c.load_files.ensures.failed
