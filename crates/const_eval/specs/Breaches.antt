-- The breaches of the constants stage (E6 to E12): one for each item whose outcome is a fault, at the place of the
-- item (own).
use Rattle.std.specs.Prelude.{ℕ, ◌+◌, List, [], ◌∷◌, Option, Some, None}
use Rattle.std.specs.List.{cons_option}
use Rattle.aidl_base.specs.declared.breach.Breach.{Breach}
use Rattle.const_values.specs.declared.fault.ConstFault.{ConstFault}
use Rattle.const_values.specs.Faults.{fault_number}
use Rattle.const_eval.specs.declared.outcome.Outcome.{Outcome}
use Rattle.const_eval.specs.declared.outcome.Outcome.TheVariants.{Given, Fault, Unjudged}
use Rattle.const_items.specs.Items.{Item}

-- the rules stand in the order of the faults: E6 for the first
abbrev pub breach_of : Item → ConstFault → Breach
breach_of x fault = record { rule = fault_number fault + 5; file = x.file; offset = x.place }

abbrev pub breach_by : Item → Outcome → Option Breach
breach_by x (Fault fault) = Some (breach_of x fault)
breach_by x (Given c) = None
breach_by x Unjudged = None

-- of items from a number on, in their order
abbrev pub breaches_from : (ℕ → Outcome) → ℕ → List Item → List Breach
breaches_from outcome n [] = []
breaches_from outcome n (x ∷ xs) = cons_option (breach_by x (outcome n)) (breaches_from outcome (n + 1) xs)

-- the breaches of items with these outcomes, in the order of the items
abbrev pub breaches : (ℕ → Outcome) → List Item → List Breach
breaches outcome xs = breaches_from outcome 0 xs
