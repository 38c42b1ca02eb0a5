use Rattle.std.proofs.Common.{◌∙◌}
use Rattle.api_versions.specs.Versions.{versions_at}
use Rattle.api_freeze.proofs.Chains.{follows_told}
use Rattle.api_freeze.proofs.Failed.{nothing_answers}
use Rattle.api_freeze.proofs.Files.{freezes_at, unread_at}
use Rattle.api_freeze.proofs.Untold.{untold_freezes}
use Rattle.api_freeze.proofs.freezing.freeze.Goals as goal

pub returns-in-Ok-clause-told : goal.returns-in-Ok-clause-told
returns-in-Ok-clause-told g c =
    let kept = g.S.Store.kept in
    freezes_at c.args.api.now (kept c.args.store.now) (λ files. versions_at files c.args.api.now) c.in-Ok.versions c.args.schema.now.decls (kept c.versions.new.store) (kept c.freeze_next.new.store) (g.S.Store.fault_record c.freeze_next.new.store) c.freeze_next.result
    c.in-Ok.ensures.unchanged c.in-Ok.ensures.told c.freeze_next.ensures.answer

pub returns-in-Err-clause-told : goal.returns-in-Err-clause-told
returns-in-Err-clause-told g c =
    let kept = g.S.Store.kept in
    unread_at c.args.api.now (kept c.args.store.now) (λ files. versions_at files c.args.api.now) c.args.schema.now.decls (kept c.versions.new.store) (g.S.Store.fault_record c.versions.new.store) c.in-Err.fault
    c.in-Err.ensures.unchanged c.in-Err.ensures.told

pub returns-in-Ok-clause-chains : goal.returns-in-Ok-clause-chains
returns-in-Ok-clause-chains g c =
    let kept = g.S.Store.kept in
    follows_told c.args.api.now (kept c.args.store.now) (λ files. versions_at files c.args.api.now) c.args.schema.now.decls (kept c.freeze_next.new.store) (g.S.Store.fault_record c.freeze_next.new.store) c.freeze_next.result
    (returns-in-Ok-clause-told g c)

pub returns-in-Ok-clause-untold : goal.returns-in-Ok-clause-untold
returns-in-Ok-clause-untold g c =
    let kept = g.S.Store.kept in
    λ none. untold_freezes c.args.api.now c.in-Ok.versions c.args.schema.now.decls (kept c.versions.new.store) (kept c.freeze_next.new.store) (g.S.Store.fault_record c.freeze_next.new.store) c.freeze_next.result
    (c.in-Ok.ensures.unchanged ∙ none) c.freeze_next.ensures.answer

pub returns-in-Ok-clause-failed : goal.returns-in-Ok-clause-failed
returns-in-Ok-clause-failed g c = nothing_answers _ (g.S.Store.fault_record c.freeze_next.new.store) c.freeze_next.result c.freeze_next.ensures.failed
