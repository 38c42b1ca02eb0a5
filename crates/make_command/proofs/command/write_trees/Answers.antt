use Rattle.std.proofs.Common.{◌≡◌, ◌++◌, List, map, refl, subst, Err}
use Rattle.aidl_outside.specs.Writes.{Write}
use Rattle.make_command.specs.Making.{file_write}
use Rattle.make_command.specs.steps.Laying.{tree_writes}
use Rattle.api_versions.specs.Writes.{Left}
use Rattle.tree_make.specs.Made.{file_seen}
use Rattle.make_command.proofs.Laying.{left_first, left_on}
use Rattle.make_command.proofs.command.write_trees.Goals as goal

pub returns-in-Ok-clause-wrote : goal.returns-in-Ok-clause-wrote
returns-in-Ok-clause-wrote g c =
    let xs : List Write = map (file_write c.as_str-new_root.result.now) (map file_seen c.as_slice-news.result.now) in
    let ys : List Write = map (file_write c.as_str-old_root.result.now) (map file_seen c.as_slice-olds.result.now) in
    let same : xs ++ ys ≡ tree_writes c.args.laid.now = rw (c.as_str-new_root.ensures.value, c.as_slice-news.ensures, c.as_str-old_root.ensures.value, c.as_slice-olds.ensures) refl in
    subst (λ (ws : List Write). Left ws (g.S.Store.kept c.args.store.now) (g.S.Store.kept c.write_tree-in-Ok.new.store) (g.S.Store.fault_record c.write_tree-in-Ok.new.store) c.write_tree-in-Ok.result) same
    (left_on xs ys _ (g.S.Store.kept c.write_tree.new.store) _ (g.S.Store.fault_record c.write_tree-in-Ok.new.store) c.write_tree-in-Ok.result c.in-Ok.ensures.wrote c.write_tree-in-Ok.ensures.wrote)

pub returns-in-Err-clause-wrote : goal.returns-in-Err-clause-wrote
returns-in-Err-clause-wrote g c =
    let xs : List Write = map (file_write c.as_str-new_root.result.now) (map file_seen c.as_slice-news.result.now) in
    let ys : List Write = map (file_write c.as_str-old_root.result.now) (map file_seen c.as_slice-olds.result.now) in
    let same : xs ++ ys ≡ tree_writes c.args.laid.now = rw (c.as_str-new_root.ensures.value, c.as_slice-news.ensures, c.as_str-old_root.ensures.value, c.as_slice-olds.ensures) refl in
    subst (λ (ws : List Write). Left {A = Unit {0}} ws (g.S.Store.kept c.args.store.now) (g.S.Store.kept c.write_tree.new.store) (g.S.Store.fault_record c.write_tree.new.store) (Err c.in-Err.fault)) same
    (left_first xs ys _ _ (g.S.Store.fault_record c.write_tree.new.store) c.in-Err.fault c.in-Err.ensures.wrote)
