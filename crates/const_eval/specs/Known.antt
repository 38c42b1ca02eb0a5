-- Words for the way to the outcomes: what is known of them, and what names in an expression mean by what is known.
use Rattle.std.specs.Prelude.{◌≡◌, ◌<◌, ℕ, IsTrue, Bool, true, false, List, [], length, map, slice_index}
use Rattle.std.specs.Prelude.{slice_index_or, Option, Some, None, Result, Err, Contains}
use Rattle.std.specs.List.{list_all, slice_get}
use Rattle.aidl_base.specs.declared.constant.Const.{Const}
use Rattle.aidl_base.specs.declared.constant.Const.TheVariants as value
use Rattle.aidl_syntax.specs.declared.tree.DottedTree.{DottedTree}
use Rattle.aidl_syntax.specs.declared.tree.ParsedFile.{ParsedFile}
use Rattle.graph_cycles.specs.Paths.{flag, targets}
use Rattle.aidl_syntax.specs.Sources.{Source, source_of}
use Rattle.const_values.specs.declared.fault.ConstFault.{ConstFault}
use Rattle.const_values.specs.declared.fault.ConstFault.TheVariants.{Cycle, UnknownName}
use Rattle.const_values.specs.Operands.{Operand}
use Rattle.const_items.specs.declared.item.ItemRef.{ItemRef}
use Rattle.const_eval.specs.declared.outcome.Outcome.{Outcome}
use Rattle.const_eval.specs.declared.outcome.Outcome.TheVariants.{Given, Fault, Unjudged}
use Rattle.const_items.specs.Items.{Item, items}
use Rattle.const_items.specs.Dependence.{has_unknown_name, next}
use Rattle.const_eval.specs.Held.{is_held_outcome}
use Rattle.const_eval.specs.Outcomes.{HasOutcome, Values, is_given, judgement_of, meaning, outcome_at, wanted_of}

-- these are the items of a tree
abbrev pub AreItems : List Source → List Item → Type 0
AreItems files xs = xs ≡ items files

-- the item with the number is this one
pub record IsItemAt (list : List ItemRef) (n : ℕ) (x : ItemRef) : Type 0 where
  pub within : n < length list
  pub is : x ≡ slice_index_or list n x

-- the items with these numbers have values
abbrev pub are_given : List Outcome → List ℕ → Bool
are_given outcomes numbers = list_all (λ n. is_given (outcome_at outcomes n)) numbers

-- the value of an outcome; where there is none a brace list, which is no operand, stands for it and is never looked at
abbrev pub value_of : Outcome → Const
value_of (Given c) = c
value_of _ = value.Members []

abbrev pub values_in : List Outcome → Values
values_in outcomes n = value_of (outcome_at outcomes n)

-- what an item is by the outcomes that are known
abbrev pub judgement_by : List Source → List Outcome → Item → Result Const ConstFault
judgement_by files outcomes x = judgement_of files (values_in outcomes) x x.value

-- the files, the number of an item, and outcomes
abbrev pub Known : Type 0
Known = List ParsedFile × (ℕ × List Outcome)

abbrev pub meaning_for : List Source → List Outcome → Option Item → DottedTree → Result Operand ConstFault
meaning_for files outcomes None d = Err UnknownName
meaning_for files outcomes (Some x) d = meaning files (values_in outcomes) x d

-- what a name means in the item
abbrev pub known_meaning : Known → DottedTree → Result Operand ConstFault
known_meaning k d = meaning_for (map source_of k.0) k.1.1 (slice_get (items (map source_of k.0)) k.1.0) d

-- a value in this outcome of the item with a number can stand in an expression
abbrev pub IsHeldAt : List Item → ℕ → Outcome → Type 0
IsHeldAt xs n outcome = IsTrue (is_held_outcome (wanted_of (slice_get xs n)) outcome)

-- each value that is known can stand in an expression
abbrev pub AreHeld : List Item → List Outcome → Type 0
AreHeld xs outcomes = (n : ℕ) → IsHeldAt xs n (outcome_at outcomes n)

-- the outcomes of what an item depends on are known
abbrev pub AreKnown : List Source → List Outcome → ℕ → Type 0
AreKnown files outcomes n = (m : ℕ) → Contains (next files n) m → HasOutcome files m (outcome_at outcomes m)

-- the flags say of each item whether a name in it has no meaning
abbrev pub AreUnknown : List Source → List Bool → Type 0
AreUnknown files flags = flags ≡ map (has_unknown_name files) (items files)

-- the targets of the rows are what the items depend on
abbrev pub AreNext : List Source → List (List ℕ) → Type 0
AreNext files rows = (n : ℕ) → targets rows n ≡ next files n

-- what an item of the order that is on no cycle depends on stands before it
abbrev pub IsInTurn : List Source → List Bool → List ℕ → Type 0
IsInTurn files on order = (k m : ℕ) → k < length order → flag on (slice_index order k) ≡ false
    → Contains (next files (slice_index order k)) m
    → (j : ℕ) × (j < k) × (slice_index order j ≡ m)

-- The outcome of an item that is left unjudged for its form, that has an unknown name, that depends on itself, or
-- that depends on what has no value, in this order; none where it is to be judged by values.
abbrev pub without_value : Bool → Bool → Bool → Bool → Option Outcome
without_value true unknown cyclic given = Some Unjudged
without_value false true cyclic given = Some (Fault UnknownName)
without_value false false true given = Some (Fault Cycle)
without_value false false false false = Some Unjudged
without_value false false false true = None
