use Rattle.std.proofs.Common.{Err, subst}
use Rattle.aidl_syntax.specs.Trees.{expr_of}
use Rattle.const_values.specs.Evaluation.{evaluated}
use Rattle.const_values.specs.Seen.{Answers, seen}
use Rattle.const_eval.specs.Known.{known_meaning}
use Rattle.const_eval.specs.TreeViews.{files_of}
use Rattle.const_eval.proofs.Meant.{expression_fails}
use Rattle.const_items.proofs.lemmas.Scopes.{scoped}
use Rattle.const_eval.proofs.judgement.of_expression.Goals as goal

pub named_enum-named-requires : goal.named_enum-named-requires
named_enum-named-requires c =
    scoped (files_of c.args.tree.now) c.args.tree.now.items.now.list.items c.args.number c.args.item.now c.requires.all c.requires.at.within c.requires.at.is

pub returns-in-Err-clause-value : goal.returns-in-Err-clause-value
returns-in-Err-clause-value c =
    expression_fails (files_of c.args.tree.now) c.args.tree.now.items.now.list.items c.requires.all c.args.number c.args.item.now c.requires.at.within c.requires.at.is
    c.args.outcomes.now (expr_of c.args.expr.now) _
    (subst (λ k. Answers seen (Err c.in-Err.fault) (evaluated (known_meaning k) (expr_of c.args.expr.now))) c.new-known.ensures c.in-Err.ensures.value)
