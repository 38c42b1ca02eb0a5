use Rattle.std.proofs.Common.{Bor, ℕ, List, map, take, add-one, sym, ◌∙◌, ap, arith}
use Rattle.aidl_syntax.specs.declared.tree.DottedTree.{DottedTree}
use Rattle.name_resolution.specs.Imports.{meant_through}
use Rattle.name_resolution.proofs.Copies.{both_more}
use Rattle.declared_names.proofs.lemmas.Earlier.{take-next}
use Rattle.name_resolution.proofs.imported.without_copies.Goals as goal

-- one more import
pub loop-import-preserved : goal.loop-import-preserved
loop-import-preserved c =
    let imports : List DottedTree = c.args.imports.now in
    c.in_ok-keep.ensures
    ∙ both_more (map (λ (d : Bor DottedTree). d.now) c.loop-import.kept.items) (take c.loop-import.import-index imports) c.import-item.result c.loop-import.invariant
    ∙ ap meant_through (sym (ap (λ (j : ℕ). take j imports) (add-one c.loop-import.import-index) ∙ take-next imports c.loop-import.import-index c.import-item.result (omega arith) c.import-item.is))
