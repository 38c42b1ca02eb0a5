-- The outcome of each item: the first that applies of the cases of `HasOutcome` (own, after AOSP, "AIDL language",
-- "Constants").
use Rattle.std.specs.Prelude.{◌≡◌, ◌<◌, ℕ, ℤ, pos, negsuc, ◌+ℤ◌, Bool, true, false, List, length, Option, Some}
use Rattle.std.specs.Prelude.{None, Result, Ok, Err, Contains}
use Rattle.std.specs.List.{slice_get, slice_index_or}
use Rattle.aidl_base.specs.Results.{◌>>=◌}
use Rattle.aidl_base.specs.declared.constant.Const.{Const, out-Const}
use Rattle.aidl_base.specs.declared.constant.Const.TheOpen.{Const-F}
use Rattle.graph_cycles.specs.Paths.{Leads}
use Rattle.aidl_syntax.specs.declared.tree.DottedTree.{DottedTree}
use Rattle.aidl_syntax.specs.Trees.{Expr}
use Rattle.aidl_syntax.specs.Trees.Expr.{name}
use Rattle.aidl_syntax.specs.Sources.{Source}
use Rattle.const_values.specs.declared.fault.ConstFault.{ConstFault}
use Rattle.const_values.specs.declared.fault.ConstFault.TheVariants.{Mismatch, Cycle, UnknownName}
use Rattle.const_values.specs.declared.wanted.Wanted.{Wanted}
use Rattle.const_values.specs.declared.wanted.Wanted.TheVariants as wanted
use Rattle.const_values.specs.declared.width.Width.TheVariants.{Narrow, Wide}
use Rattle.const_values.specs.Operands.{Operand, truth, number, character, text}
use Rattle.const_values.specs.Evaluation.{evaluated}
use Rattle.const_values.specs.Wanted.{fitted}
use Rattle.const_eval.specs.declared.outcome.Outcome.{Outcome}
use Rattle.const_eval.specs.declared.outcome.Outcome.TheVariants.{Given, Fault, Unjudged}
use Rattle.const_items.specs.Items.{Item, Written, written, first, after, items, number_at}
use Rattle.const_items.specs.Dependence.{Target, of_enumerator, target, number_of, has_unknown_name, next}

-- What the value of a constant or enumerator is in an expression, by the value that was wanted of it.

-- a code from 0 up
abbrev pub of_code : ℤ → Result Operand ConstFault
of_code (pos code) = Ok (character code)
of_code (negsuc n) = Err Mismatch

abbrev pub of_number : Wanted → ℤ → Result Operand ConstFault
of_number wanted.Byte z = Ok (number Narrow z)
of_number wanted.Int z = Ok (number Narrow z)
of_number wanted.Long z = Ok (number Wide z)
of_number wanted.Character z = of_code z
of_number _ z = Err Mismatch

abbrev pub of_level : Wanted → Const-F Const → Result Operand ConstFault
of_level w (Const-F.Truth b) = Ok (truth b)
of_level w (Const-F.Number z) = of_number w z
of_level w (Const-F.Text x) = Ok (text x)
of_level w (Const-F.Members cs) = Err Mismatch

-- a constant of byte or int has width 32, one of long 64; one of another type than those and char, boolean and
-- String is no operand
abbrev pub operand_of : Wanted → Const → Result Operand ConstFault
operand_of w c = of_level w (out-Const c)

abbrev pub wanted_of : Option Item → Wanted
wanted_of None = wanted.Nothing
wanted_of (Some x) = x.wanted

-- the values of items, by their numbers
abbrev pub Values : Type 0
Values = ℕ → Const

abbrev pub operand_at : List Item → Values → Option ℕ → Result Operand ConstFault
operand_at xs values None = Err UnknownName
operand_at xs values (Some n) = operand_of (wanted_of (slice_get xs n)) (values n)

-- what a name in the expression of an item means, once what it depends on has values
abbrev pub meaning : List Source → Values → Item → DottedTree → Result Operand ConstFault
meaning files values x d = operand_at (items files) values (number_of files (target files x d))

abbrev pub enum_of : Option Target → Option ℕ
enum_of (Some (of_enumerator e enum x)) = Some enum
enum_of _ = None

-- the enum of whose enumerator an expression is the name, without parentheses
abbrev pub named_enum : List Source → Item → Expr → Option ℕ
named_enum files x (name offset d) = enum_of (target files x d)
named_enum files x _ = None

abbrev pub number_in : Const-F Const → ℤ
number_in (Const-F.Number z) = z
number_in _ = pos 0

-- one more than a value
abbrev pub above : Wanted → Const → Result Const ConstFault
above w c = fitted w None (number Wide (number_in (out-Const c) +ℤ pos 1))

-- one more than the enumerator before
abbrev pub one_more : Wanted → Values → Option ℕ → Result Const ConstFault
one_more w values None = Err UnknownName
one_more w values (Some n) = above w (values n)

-- what an expression of an item is, as the wanted type takes it
abbrev pub expression_of : List Source → Values → Item → Expr → Result Const ConstFault
expression_of files values x e = evaluated (meaning files values x) e >>= fitted x.wanted (named_enum files x e)

-- The value of an item, or its fault: the first in the order of evaluation, or that against the wanted type.
abbrev pub judgement_of : List Source → Values → Item → Written → Result Const ConstFault
judgement_of files values x (written e) = expression_of files values x e
judgement_of files values x first = fitted x.wanted None (number Narrow (pos 0))
judgement_of files values x (after place) = one_more x.wanted values (number_at (items files) x.file place)

abbrev pub outcome_of : Result Const ConstFault → Outcome
outcome_of (Ok c) = Given c
outcome_of (Err fault) = Fault fault

abbrev pub is_given : Outcome → Bool
is_given (Given c) = true
is_given (Fault fault) = false
is_given Unjudged = false

-- the outcome of the item with a number, and Unjudged behind the last
abbrev pub outcome_at : List Outcome → ℕ → Outcome
outcome_at outcomes n = slice_index_or outcomes n Unjudged

-- it depends on itself
abbrev pub IsCyclic : List Source → ℕ → Type 0
IsCyclic files n = Leads (next files) n n

-- The outcome of the item with a number. In this order: it is left unjudged for the form of its initializer; a name
-- in it has no meaning; it depends on itself; something on which it depends has no value; else what is written is
-- judged by the values of all on which it depends.
pub data HasOutcome (files : List Source) : ℕ → Outcome → Type 0 where
  unformed : (n : ℕ) (x : Item) → slice_get (items files) n ≡ Some x → x.unjudged ≡ true → HasOutcome files n Unjudged
  unknown : (n : ℕ) (x : Item) → slice_get (items files) n ≡ Some x → x.unjudged ≡ false
      → has_unknown_name files x ≡ true → HasOutcome files n (Fault UnknownName)
  cyclic : (n : ℕ) (x : Item) → slice_get (items files) n ≡ Some x → x.unjudged ≡ false
      → has_unknown_name files x ≡ false → IsCyclic files n
      → HasOutcome files n (Fault Cycle)
  behind : (n : ℕ) (x : Item) → slice_get (items files) n ≡ Some x → x.unjudged ≡ false
      → has_unknown_name files x ≡ false → (IsCyclic files n → ⊥)
      → (m : ℕ) (o : Outcome) → Contains (next files n) m → HasOutcome files m o → is_given o ≡ false
      → HasOutcome files n Unjudged
  judged : (n : ℕ) (x : Item) → slice_get (items files) n ≡ Some x → x.unjudged ≡ false
      → has_unknown_name files x ≡ false → (IsCyclic files n → ⊥)
      → (values : Values) → ((m : ℕ) → Contains (next files n) m → HasOutcome files m (Given (values m)))
      → HasOutcome files n (outcome_of (judgement_of files values x x.value))

-- an outcome for each item, in the order of their numbers
pub record AreOutcomes (files : List Source) (outcomes : List Outcome) : Type 0 where
  pub count : length outcomes ≡ length (items files)
  pub each : (n : ℕ) → n < length (items files) → HasOutcome files n (outcome_at outcomes n)
