use Rattle.std.proofs.Common.{◌<◌, length, slice_index, ◌∙◌, arith, rules}
use Rattle.std.proofs.lemmas.Grind.{get_or_default_zero}
use Rattle.std.proofs.lemmas.List.Elements.{All-from_get_or}
use Rattle.std.proofs.lemmas.List.Sorted.{All-permutation, Contains-permutation, IsNonDecreasingBy-from_sort_by_key}
use Rattle.const_eval.proofs.ranked.ranked.Goals as goal

pub returns-clause-each : goal.returns-clause-each
returns-clause-each c n lt =
    let e = c.in_ok-order.ensures in
    let within : n < length c.in_ok-order.order.items = omega arith in
    Contains-permutation c.in_ok-order.order.items c.sort_by_key.new.self.items n c.in_ok-sort_by_key.ensures.permutation
    (n, within, get_or_default_zero c.in_ok-order.order.items n n within ∙ e.at n lt)

pub returns-clause-below : goal.returns-clause-below
returns-clause-below c =
    let e = c.in_ok-order.ensures in
    All-permutation (λ n. n < c.args.count) c.in_ok-order.order.items c.sort_by_key.new.self.items c.in_ok-sort_by_key.ensures.permutation
    (All-from_get_or (λ n. n < c.args.count) c.in_ok-order.order.items 0 (λ i lt. let same = e.at i (omega arith) in omega arith))

pub returns-clause-order : goal.returns-clause-order
returns-clause-order c =
    IsNonDecreasingBy-from_sort_by_key (λ n. slice_index c.args.ranks.now n) _ c.in_ok-sort_by_key.ensures.sorted (λ a r q k. search rules)
