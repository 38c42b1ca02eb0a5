use Rattle.std.proofs.Common.{map, sym, ◌∙◌, ap}
use Rattle.aidl_syntax.specs.declared.tree.BodyTree.{BodyTree, fold-roll-BodyTree, BodyTree-F}
use Rattle.aidl_syntax.specs.declared.tree.BodyTree as body_tree
use Rattle.aidl_syntax.specs.Trees.{Body, Decl, Members, body_of, enumerator_of, body_step, member_step, decl_step}
use Rattle.aidl_syntax.specs.Members.{members}
use Rattle.aidl_syntax.specs.Sources.{source_of}
use Rattle.type_shapes.specs.Types.{shape_in}
use Rattle.type_uses.specs.TypeUses.{of_members}
use Rattle.type_uses.specs.TypeUseViews.{seen_use}
use Rattle.type_uses.proofs.Enums.{no_uses}
use Rattle.type_uses.proofs.listing.listed_uses.Goals as goal

-- an enum uses no types
pub returns-in-Enum : goal.returns-in-Enum
unfolding body_tree.roll-BodyTree denote.Hole.Carrier.roll
returns-in-Enum c =
    let shape = shape_in (map source_of c.args.names.now) c.args.file c.args.number in
    ap (map seen_use) c.new.ensures.items ∙ no_uses shape (map enumerator_of c.in-Enum.field-0)
    ∙ ap (λ (b : Body). of_members shape (members b)) (sym (fold-roll-BodyTree Body (Members → Members) Decl body_step member_step decl_step (BodyTree-F.Enum c.in-Enum.field-0)))
    ∙ ap (λ (b : BodyTree). of_members shape (members (body_of b))) (sym c.in-Enum.is)
