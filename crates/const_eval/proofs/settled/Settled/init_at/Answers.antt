use Rattle.std.proofs.Common.{◌≡◌, ◌≤◌, ℕ, List, Option, Some, length, map, ◌<◌, sym, ◌∙◌, arith}
use Rattle.std.proofs.lemmas.Option.{MatchOption-at_some}
use Rattle.const_items.specs.declared.item.ItemRef.{ItemRef}
use Rattle.const_items.specs.Items.{number_at}
use Rattle.const_items.specs.ItemViews.{item_of}
use Rattle.const_items.proofs.lemmas.Numbers.{at_within}
use Rattle.const_eval.proofs.settled.Settled.init_at.Goals as goal

below : (list : List ItemRef) (most file place n : ℕ) (o : Option ℕ) → length list ≤ most → o ≡ number_at (map item_of list) file place → o ≡ Some n → n < most
below list most file place n o le is e = MatchOption-at_some _ (λ k. k < most) n (sym is ∙ e) (at_within list most file place le)

pub overflow_cast-result : goal.overflow_cast-result
overflow_cast-result c =
    let less : c.in-Some.number < 4294967296 =
    below c.args.self.now.items.list.items 4294967296 c.args.file c.args.offset c.in-Some.number c.number_at.result (omega (arith, c.args.self.now.items.few)) c.number_at.ensures c.in-Some.is in
    omega arith

pub returns-in-Some-clause-within : goal.returns-in-Some-clause-within
returns-in-Some-clause-within c =
    let list = c.args.self.now.items.list.items in
    below list (length list) c.args.file c.args.offset c.in-Some.number c.number_at.result (omega arith) c.number_at.ensures c.in-Some.is
