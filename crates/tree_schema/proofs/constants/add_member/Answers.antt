use Rattle.std.proofs.Common.{◌≡◌, refl, sym, ap, ◌∙◌}
use Rattle.std.specs.Prelude.{string_bytes}
use Rattle.std.specs.List.{fold}
use Rattle.aidl_syntax.specs.declared.tree.ConstantTree.{ConstantTree}
use Rattle.aidl_syntax.specs.declared.tree.MemberTree.{MemberTree, MemberTree-F, roll-MemberTree, fold-roll-MemberTree}
use Rattle.aidl_syntax.specs.declared.tree.MemberTree as member_tree
use Rattle.aidl_syntax.specs.Members.{listed}
use Rattle.aidl_syntax.specs.Trees.{Body, Decl, Members, constant_of, member_of, body_step, member_step, decl_step}
use Rattle.aidl_syntax.specs.Trees.Members.{constant}
use Rattle.tree_schema.specs.Keyed.{values_at}
use Rattle.tree_schema.specs.Parts.{bytes_of, put, listed_constants}
use Rattle.tree_schema.specs.steps.Scopes.{files_of, outcomes_of}
use Rattle.tree_schema.proofs.InOrder.{constant_is}
use Rattle.tree_schema.proofs.Keyed.{went}
use Rattle.tree_schema.proofs.constants.add_member.Goals as goal

seen_constant : (c : ConstantTree) (ms : Members) → member_of (roll-MemberTree (MemberTree-F.Constant c)) ms ≡ constant (constant_of c) ms
seen_constant c ms = ap (λ (f : Members → Members). f ms) (fold-roll-MemberTree Body (Members → Members) Decl body_step member_step decl_step (MemberTree-F.Constant c))

pub returns-in_ok-insert-in-Constant-clause-keyed : goal.returns-in_ok-insert-in-Constant-clause-keyed
returns-in_ok-insert-in-Constant-clause-keyed c =
    (went (λ t. string_bytes t) (λ x. x) bytes_of _ (λ a b. refl) c.in_ok-name-in-Constant.name c.in_ok-constant-in-Constant.constant (c.in_ok-name-in-Constant.ensures.ok ∙ c.as_str.ensures.bytes) c.args.by_name.now.entries
    c.insert.new.self.entries c.in_ok-insert-in-Constant.ensures.entries c.requires).0

-- the constant goes in first, and those that are left behind it
pub returns-in_ok-insert-in-Constant-clause-all : goal.returns-in_ok-insert-in-Constant-clause-all
unfolding member_tree.roll-MemberTree denote.Hole.Carrier.roll
returns-in_ok-insert-in-Constant-clause-all c ms =
    let scope = c.args.scope.now in
    let of : Members → _ = λ xs. listed_constants (files_of scope) (outcomes_of scope) scope.file scope.number (listed xs) in
    let old = values_at c.args.by_name.now.entries in
    let next : values_at c.insert.new.self.entries ≡ put old c.in_ok-constant-in-Constant.constant =
    (went (λ t. string_bytes t) (λ x. x) bytes_of _ (λ a b. refl) c.in_ok-name-in-Constant.name c.in_ok-constant-in-Constant.constant (c.in_ok-name-in-Constant.ensures.ok ∙ c.as_str.ensures.bytes) c.args.by_name.now.entries
    c.insert.new.self.entries c.in_ok-insert-in-Constant.ensures.entries c.requires).1
    ∙ constant_is old c.in_ok-constant-in-Constant.constant in
    ap (λ (m : MemberTree). fold put old (of (member_of m ms))) c.in-Constant.is
    ∙ ap (λ xs. fold put old (of xs)) (seen_constant c.in-Constant.constant ms)
    ∙ ap (λ x. fold put (put old x) (of ms)) (sym c.in_ok-constant-in-Constant.ensures)
    ∙ ap (λ xs. fold put xs (of ms)) (sym next)
