use Rattle.std.proofs.Common.{map, ap, ◌∙◌, arith}
use Rattle.aidl_syntax.specs.Sources.{source_of}
use Rattle.const_items.specs.ItemViews.{item_of}
use Rattle.const_items.proofs.lemmas.Scopes.{scoped}
use Rattle.const_items.proofs.dependence.dependence_of.Goals as goal

-- an item stands in a declaration of its file
pub of_item-requires-clause-scope : goal.of_item-requires-clause-scope
of_item-requires-clause-scope c =
    scoped (map source_of c.args.names.now) c.list-list.result.now c.loop-item.item-index c.item-item.result
    (ap (map item_of) c.list-list.ensures ∙ c.requires) (omega arith) c.item-item.is
