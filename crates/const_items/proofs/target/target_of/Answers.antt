use Rattle.std.proofs.Common.{◌-◌, length, refl, ap, ◌∙◌, map}
use Rattle.declared_names.specs.Declarations.{declarations}
use Rattle.aidl_syntax.specs.Sources.{source_of}
use Rattle.const_items.specs.Dependence.{member_of, target_by}
use Rattle.const_items.specs.ItemViews.{item_of}
use Rattle.const_items.proofs.Behind.{by_last}
use Rattle.const_items.proofs.target.target_of.Goals as goal

-- the last part is a member of what those before it mean
pub returns-in-len1-up : goal.returns-in-len1-up
returns-in-len1-up c =
    let files = map source_of c.args.names.now in
    let x = item_of c.args.item.now in
    let parts = c.as_slice.result.now in
    c.member_of.ensures ∙ ap (member_of (declarations files) c.last-item.result) c.resolve-meaning.ensures
    ∙ by_last files x parts (length parts - 1) c.last-item.result c.in-len1-up.len_at_least refl c.last-item.is ∙ ap (target_by files x) c.as_slice.ensures
