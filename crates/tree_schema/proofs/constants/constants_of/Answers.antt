use Rattle.std.proofs.Common.{[], map, sym, ◌∙◌, ap}
use Rattle.std.specs.List.{fold}
use Rattle.aidl_syntax.specs.declared.tree.BodyTree.{BodyTree, fold-roll-BodyTree, BodyTree-F}
use Rattle.aidl_syntax.specs.declared.tree.BodyTree as body_tree
use Rattle.aidl_syntax.specs.Trees.{Body, Decl, Members, body_of, enumerator_of, body_step, member_step, decl_step}
use Rattle.aidl_syntax.specs.Members.{members}
use Rattle.tree_schema.specs.Parts.{constants_in, put}
use Rattle.tree_schema.specs.steps.Scopes.{files_of, outcomes_of}
use Rattle.tree_schema.proofs.InOrder.{no_constants}
use Rattle.tree_schema.proofs.constants.constants_of.Goals as goal

-- an enum has no constants
pub returns-in-Enum : goal.returns-in-Enum
unfolding body_tree.roll-BodyTree denote.Hole.Carrier.roll
returns-in-Enum c =
    let files = files_of c.args.scope.now in
    let outcomes = outcomes_of c.args.scope.now in
    c.new.ensures ∙ sym (ap (fold put []) (no_constants files outcomes c.args.scope.now.file c.args.scope.now.number (map enumerator_of c.in-Enum.field-0)))
    ∙ ap (λ (b : Body). constants_in files outcomes c.args.scope.now.file c.args.scope.now.number (members b)) (sym (fold-roll-BodyTree Body (Members → Members) Decl body_step member_step decl_step (BodyTree-F.Enum c.in-Enum.field-0)))
    ∙ ap (λ (b : BodyTree). constants_in files outcomes c.args.scope.now.file c.args.scope.now.number (members (body_of b))) (sym c.in-Enum.is)
