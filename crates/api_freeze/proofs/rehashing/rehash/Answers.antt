use Rattle.api_freeze.proofs.Failed.{nothing_rehashes}
use Rattle.std.proofs.Common.{◌∙◌}
use Rattle.api_freeze.proofs.Untold.{numbers_told, unread_left, unread_numbers, untold_left, written_told}
use Rattle.api_freeze.specs.Rehash.{whole_writes}
use Rattle.api_freeze.proofs.rehashing.rehash.Goals as goal

pub returns-in-Ok-clause-told : goal.returns-in-Ok-clause-told
returns-in-Ok-clause-told g c =
    numbers_told c.args.api.now c.as_slice.result.now c.in-Ok.versions (g.S.Store.kept c.args.store.now) c.rehash_all.result c.as_slice.ensures c.in-Ok.ensures.told c.rehash_all.ensures.defined

pub returns-in-Ok-clause-wrote : goal.returns-in-Ok-clause-wrote
returns-in-Ok-clause-wrote g c =
    written_told c.args.api.now c.as_slice.result.now c.in-Ok.versions _ _ _ (g.S.Store.fault_record c.rehash_all.new.store) c.rehash_all.result c.as_slice.ensures c.in-Ok.ensures.unchanged c.in-Ok.ensures.told c.rehash_all.ensures.wrote

pub returns-in-Ok-clause-untold : goal.returns-in-Ok-clause-untold
returns-in-Ok-clause-untold g c = λ none.
    untold_left (whole_writes c.args.api.now c.as_slice.result.now) (g.S.Store.kept c.versions.new.store) (g.S.Store.kept c.rehash_all.new.store) (g.S.Store.fault_record c.rehash_all.new.store) c.rehash_all.result (c.in-Ok.ensures.unchanged ∙ none) c.rehash_all.ensures.wrote

pub returns-in-Ok-clause-failed : goal.returns-in-Ok-clause-failed
returns-in-Ok-clause-failed g c = nothing_rehashes _ (g.S.Store.fault_record c.rehash_all.new.store) c.rehash_all.result c.rehash_all.ensures.failed

pub returns-in-Err-clause-told : goal.returns-in-Err-clause-told
returns-in-Err-clause-told g c = unread_numbers c.args.api.now (g.S.Store.kept c.args.store.now) c.in-Err.fault c.in-Err.ensures.told

pub returns-in-Err-clause-wrote : goal.returns-in-Err-clause-wrote
returns-in-Err-clause-wrote g c =
    unread_left c.args.api.now (g.S.Store.kept c.args.store.now) (g.S.Store.kept c.versions.new.store) (g.S.Store.fault_record c.versions.new.store) c.in-Err.fault c.in-Err.ensures.unchanged
