use Rattle.std.proofs.Common.{◌≡◌, ◌≤◌, ◌++◌, List, map, length, is_none, sym, ap, ◌∙◌, subst, append-nil}
use Rattle.std.specs.List.{filter}
use Rattle.std.proofs.Math.ListN.{drop_of_length-le}
use Rattle.aidl_syntax.specs.declared.tree.DottedTree.{DottedTree}
use Rattle.name_resolution.specs.Resolution.{number_of}
use Rattle.declared_names.specs.Entries.{entry_of}
use Rattle.aidl_names.specs.Rules.{breach}
use Rattle.aidl_names.proofs.Spots.{many}
use Rattle.aidl_names.proofs.imports.add_unknown.Goals as goal

pub returns : goal.returns
returns c =
    let imports = c.args.file.now.tree.imports in
    let is_unknown = λ (i : DottedTree). is_none (number_of (map entry_of c.args.declarations.now) i.name.0) in
    let over : length imports ≤ c.loop-import.import-index = subst (λ (is : List DottedTree). length is ≤ c.loop-import.import-index) c.as_slice-import-items.ensures c.loop-import-test.false in
    sym (append-nil c.loop-import.rows.items)
    ∙ ap (λ is. c.loop-import.rows.items ++ map (λ (i : DottedTree). breach 3 c.args.number i.offset) (filter is_unknown is)) (sym (drop_of_length-le imports over))
    ∙ c.loop-import.invariant
    ∙ ap (λ bs. c.args.rows.now.items ++ bs) (sym (many 3 (λ (i : DottedTree). (c.args.number, i.offset)) (filter is_unknown imports)))
