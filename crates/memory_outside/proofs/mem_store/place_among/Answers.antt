use Rattle.std.proofs.Common.{rules}
use Rattle.std.proofs.lemmas.Fn.{always_returns_same}
use Rattle.memory_outside.proofs.Places.{by_path, searched, within_search}
use Rattle.memory_outside.proofs.mem_store.place_among.Goals as goal

pub returns-clause-place : goal.returns-clause-place
returns-clause-place c =
    let facts = c.binary_search_by.ensures in
    searched c.args.path.now c.args.files.now c.binary_search_by.result c.requires facts.bound (facts.position (by_path c.args.path.now) (always_returns_same _ _ _ (λ a r g called. (search rules, search rules))))

pub returns-clause-within : goal.returns-clause-within
returns-clause-within c = within_search _ _ c.binary_search_by.ensures.bound
