-- What is asked, beyond E1 to E5 and the limits, of a tree whose schema is valid (own).
use Rattle.std.specs.Prelude.{◌≡◌, ◌<◌, ℕ, List, [], length, IsTrue}
use Rattle.aidl_syntax.specs.Sources.{Source}
use Rattle.aidl_schema.specs.Valid.{is_bounded}
use Rattle.const_eval.specs.Breaches.{breaches}
use Rattle.const_items.specs.Items.{items}
use Rattle.const_eval.specs.Outcomes.{HasOutcome}
use Rattle.type_rules.specs.Unbroken.{AreUnbroken}
use Rattle.tree_schema.specs.SchemaOf.{schema_of}
use Rattle.tree_schema.specs.Values.{Outcomes}

-- these are the outcomes of the items
abbrev pub AreOutcomes : List Source → Outcomes → Type 0
AreOutcomes files outcomes = (n : ℕ) → n < length (items files) → HasOutcome files n (outcomes n)

-- each item has its outcome, which is no fault; none of E13 to E21 and E24 is broken; no declaration breaks E22 or E23
pub record IsChecked (files : List Source) (outcomes : Outcomes) : Type 0 where
  pub judged : AreOutcomes files outcomes
  pub constants : breaches outcomes (items files) ≡ []
  pub types : AreUnbroken files
  pub bounds : (n : ℕ) → n < length (schema_of files outcomes) → IsTrue (is_bounded (schema_of files outcomes) n)
