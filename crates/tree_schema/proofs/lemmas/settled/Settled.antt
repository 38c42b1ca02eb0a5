-- Each item of a tree without breaches has a value that fits, and the schema finds it at the item's place.
use Rattle.std.proofs.Common.{◌≡◌, ◌<◌, ℕ, true, false, List, Some, length, slice_get, ap, ◌∙◌}
use Rattle.std.proofs.lemmas.Option.{slice_get_within}
use Rattle.aidl_base.specs.declared.constant.Const.{Const, out-Const}
use Rattle.aidl_syntax.specs.Sources.{Source}
use Rattle.const_values.specs.declared.fault.ConstFault.{ConstFault}
use Rattle.const_eval.specs.declared.outcome.Outcome.TheVariants.{Given, Fault}
use Rattle.const_items.specs.Items.{Item, items, number_at}
use Rattle.const_eval.specs.Outcomes.{HasOutcome}
use Rattle.const_eval.proofs.lemmas.OneOutcome.{one_outcome}
use Rattle.tree_schema.specs.Values.{Outcomes, value_at, value_of, value_of_item}
use Rattle.tree_schema.proofs.settled.Fit.{is_plain_written, all-fit, has-item}
use Rattle.tree_schema.proofs.settled.Given.{all-given}
use Rattle.tree_schema.proofs.settled.Plain.{fits}

-- each item has an outcome
abbrev pub AreOutcomes : List Source → Outcomes → Type 0
AreOutcomes files outcomes = (n : ℕ) → n < length (items files) → HasOutcome files n (outcomes n)

-- no outcome is a fault
abbrev pub AreFaultless : List Source → Outcomes → Type 0
AreFaultless files outcomes = (n : ℕ) → n < length (items files) → (fault : ConstFault) → outcomes n ≡ Fault fault → ⊥

-- each item has a value, which fits what is wanted of it
abbrev pub AreSettled : List Source → Outcomes → Type 0
AreSettled files outcomes = (n : ℕ) (x : Item) → slice_get (items files) n ≡ Some x → (c : Const) × (outcomes n ≡ Given c) × (fits x.wanted (out-Const c) ≡ true)

-- the item is found at its place
abbrev pub Stands : List Source → Item → Type 0
Stands files x = (n : ℕ) × (number_at (items files) x.file x.place ≡ Some n) × (slice_get (items files) n ≡ Some x)

pub settled : (files : List Source) (outcomes : Outcomes) → ((n : ℕ) (x : Item) → slice_get (items files) n ≡ Some x → x.unjudged ≡ false)
    → ((n : ℕ) (x : Item) → slice_get (items files) n ≡ Some x → is_plain_written x.value ≡ true) → AreOutcomes files outcomes → AreFaultless files outcomes → AreSettled files outcomes
settled files outcomes judged plain are faultless n x at =
    let lt = slice_get_within (items files) n x at in
    let none : (m : ℕ) (fault : ConstFault) → HasOutcome files m (Fault fault) → ⊥ = λ m fault h.
    let y = has-item files plain m (Fault fault) h in
    let within = slice_get_within (items files) m y.0 y.1 in
    faultless m within fault (one_outcome files m (outcomes m) (Fault fault) (are m within) h) in
    let given = all-given files judged none n (outcomes n) (are n lt) in
    (given.0, given.1, all-fit files plain n (outcomes n) (are n lt) x at given.0 given.1)

-- the value at the place of an item
pub value-there : (files : List Source) (outcomes : Outcomes) → AreSettled files outcomes → (x : Item) → Stands files x
    → (c : Const) × (value_at files outcomes x.file x.place ≡ Some c) × (fits x.wanted (out-Const c) ≡ true)
value-there files outcomes all x stands =
    let s = all stands.0 x stands.2 in
    (s.0, ap (value_of_item outcomes) stands.1 ∙ ap value_of s.1, s.2)
