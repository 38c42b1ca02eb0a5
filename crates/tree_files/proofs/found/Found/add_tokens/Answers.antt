use Rattle.std.proofs.Common.{Some, sym, ◌∙◌, ap, subst}
use Rattle.aidl_base.specs.declared.limit.Limit.{Limit}
use Rattle.aidl_parser.specs.Refusals.{IsRefusal}
use Rattle.tree_files.proofs.Standing.{on_ok, closed, open-limit, kept, limited, lacks-tree, treeless, parsed}
use Rattle.tree_files.proofs.found.Found.add_tokens.Goals as goal

pub returns-then-not-wants_trees : goal.returns-then-not-wants_trees
returns-then-not-wants_trees c = kept c.args.number c.args.file.now c.args.self.now (c.args.tokens.now, c.requires) (closed c.args.self.now.faults c.args.self.now.limit (sym c.wants_trees.ensures ∙ c.if-not-wants_trees.true))

pub returns-in_ok-path-in-Ok : goal.returns-in_ok-path-in-Ok
returns-in_ok-path-in-Ok c = on_ok c.push.result _ _ (λ e. parsed c.args.number c.args.file.now c.args.self.now c.push.new.self (record { path = c.in_ok-path-in-Ok.path; tree = c.in-Ok.tree }) e
    (open-limit c.args.self.now.faults c.args.self.now.limit (sym c.wants_trees.ensures ∙ c.if-not-wants_trees.false)) (c.args.tokens.now, c.requires, c.in-Ok.ensures.tree.0)
    (c.in_ok-path-in-Ok.ensures, (c.args.tokens.now, c.requires, c.in-Ok.ensures.tree.1))) c.push.ensures.ok

pub returns-in-Err-Limit : goal.returns-in-Err-Limit
returns-in-Err-Limit c =
    let r = subst (IsRefusal c.args.tokens.now) c.in-Err-Limit.field-0-is c.in-Err-Limit.ensures.refusal in
    limited c.args.number c.args.file.now c.args.self.now _ (open-limit c.args.self.now.faults c.args.self.now.limit (sym c.wants_trees.ensures ∙ c.if-not-wants_trees.false))
    (c.args.tokens.now, c.requires, r ∙ ap (λ (l : Limit). Some l.which) (sym c.in-Err-Limit.limit-is))

pub returns-in-Err-Syntax : goal.returns-in-Err-Syntax
returns-in-Err-Syntax c =
    let r = subst (IsRefusal c.args.tokens.now) c.in-Err-Syntax.field-0-is c.in-Err-Syntax.ensures.refusal in
    on_ok c.push-in-Err-Syntax.result _ _ (λ e. treeless c.args.number c.args.file.now c.args.self.now c.push-in-Err-Syntax.new.self e
    (open-limit c.args.self.now.faults c.args.self.now.limit (sym c.wants_trees.ensures ∙ c.if-not-wants_trees.false)) (c.args.tokens.now, c.requires, r.0) (lacks-tree c.args.file.now c.args.tokens.now c.requires r.1)) c.push-in-Err-Syntax.ensures.ok
