-- Trees are seen by their parts.
use Rattle.std.proofs.Common.{◌≡◌}
use Rattle.aidl_syntax.specs.declared.tree.DeclTree.{DeclTree, fold-roll-DeclTree}
use Rattle.aidl_syntax.specs.declared.tree.MemberTree.{MemberTree, MemberTree-F, fold-roll-MemberTree}
use Rattle.aidl_syntax.specs.declared.tree.MemberTree as member_tree
use Rattle.aidl_syntax.specs.declared.tree.MemberTree.TheVariants.{Nested}
use Rattle.aidl_syntax.specs.Trees.{Body, Members, Decl, annots_of, body_of, decl_of, member_of, body_step, member_step, decl_step}
use Rattle.aidl_syntax.specs.Trees.Decl.{decl}
use Rattle.aidl_syntax.specs.Trees.Members.{nested}

-- a declaration
pub seen_decl : (t : DeclTree) → decl_of t ≡ decl t.offset (annots_of t.annots) t.name (body_of t.body)
seen_decl t = fold-roll-DeclTree Body (Members → Members) Decl body_step member_step decl_step (record { offset = t.offset; annots = t.annots; name = t.name; body = t.body })

-- a nested declaration, before other members
pub seen_nested : (t : DeclTree) → member_of (Nested t) ≡ (λ ms. nested (decl_of t) ms)
unfolding member_tree.roll-MemberTree denote.Hole.Carrier.roll
seen_nested t = fold-roll-MemberTree Body (Members → Members) Decl body_step member_step decl_step (MemberTree-F.Nested t)
