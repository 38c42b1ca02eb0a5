use Rattle.std.proofs.Common.{subst}
use Rattle.std.proofs.lemmas.Result.{IfOk-weaker}
use Rattle.compat_judge.specs.Seen.{seen}
use Rattle.witness_search.specs.IsWitness.{IsAllowed, IsWitness}
use Rattle.witness_search.specs.Seen.{shown_seen}
use Rattle.witness_search.proofs.Allowed.{ShowsWhereMet, allowed}
use Rattle.witness_search.proofs.search.witness_of.Goals as goal

pub returns-clause-allowed : goal.returns-clause-allowed
returns-clause-allowed c =
    let old = c.args.pair.now.old in
    let new = c.args.pair.now.new in
    let b = seen c.args.entry.now in
    let law =
    subst (λ o. ShowsWhereMet b o new) c.schema.ensures
    (subst (λ n. ShowsWhereMet b c.schema.result.now.decls n) c.schema-2.ensures c.law_shown.ensures) in
    IfOk-weaker c.search.result (λ shown. IsWitness old new b (shown_seen shown)) (λ shown. IsAllowed old new b (shown_seen shown))
    (λ shown. allowed old new b law (shown_seen shown)) c.search.ensures.exact
