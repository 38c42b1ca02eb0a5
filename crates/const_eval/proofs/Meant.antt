-- What the code finds of an item and of the names in it.
use Rattle.std.proofs.Common.{◌≡◌, ℕ, ◌<◌, Bool, false, List, length, map, get_or, Option, Some, Result, Ok, Err, option_map, refl, sym, ap, ◌∙◌}
use Rattle.std.specs.List.{slice_get}
use Rattle.std.proofs.lemmas.Option.{slice_get_read, slice_get-map, get_or_from_slice_get}
use Rattle.aidl_base.specs.declared.constant.Const.{Const}
use Rattle.aidl_base.specs.Results.{◌>>=◌}
use Rattle.aidl_syntax.specs.declared.tree.DottedTree.{DottedTree}
use Rattle.aidl_syntax.specs.Trees.{Expr}
use Rattle.graph_cycles.specs.Paths.{flag}
use Rattle.aidl_syntax.specs.Sources.{Source}
use Rattle.const_values.specs.declared.fault.ConstFault.{ConstFault}
use Rattle.const_values.specs.declared.fault.EvalFault.{EvalFault}
use Rattle.const_values.specs.declared.fault.EvalFault.TheVariants as eval
use Rattle.const_values.specs.Evaluation.{evaluated}
use Rattle.const_values.specs.Seen.{Answers, seen}
use Rattle.const_values.specs.Operands.{Operand}
use Rattle.const_values.specs.Wanted.{fitted}
use Rattle.const_items.specs.declared.item.ItemRef.{ItemRef}
use Rattle.const_eval.specs.declared.outcome.Outcome.{Outcome}
use Rattle.const_items.specs.Dependence.{Target, number_among, target}
use Rattle.const_items.specs.Items.{Item, items}
use Rattle.const_items.specs.ItemViews.{item_of}
use Rattle.const_eval.specs.Known.{AreItems, meaning_for, values_in}
use Rattle.const_eval.specs.Outcomes.{expression_of, named_enum, operand_at}

-- the item at an index
pub item_at : (list : List ItemRef) (n : ℕ) (x : ItemRef) → n < length list → x ≡ get_or list n x → slice_get (map item_of list) n ≡ Some (item_of x)
item_at list n x lt is = slice_get-map item_of list n ∙ ap (option_map item_of) (slice_get_read list (length list) n x refl lt is)

module _ (files : List Source) (list : List ItemRef) (all : AreItems files (map item_of list)) (n : ℕ) (x : ItemRef) (lt : n < length list) (is : x ≡ get_or list n x) where
  pub item_in : slice_get (items files) n ≡ Some (item_of x)
  item_in = ap (λ xs. slice_get xs n) (sym all) ∙ item_at list n x lt is

  -- what a name means, by what it is found to be
  pub name_means : (outcomes : List Outcome) (d : DottedTree) (t : Option Target) (m : Option ℕ) (r : Result Operand ConstFault)
      → t ≡ target files (item_of x) d → m ≡ number_among (map item_of list) t → r ≡ operand_at (map item_of list) (values_in outcomes) m
      → r ≡ meaning_for files outcomes (slice_get (items files) n) d
  name_means outcomes d t m r found number value =
      value ∙ ap (operand_at (map item_of list) (values_in outcomes)) (number ∙ ap (number_among (map item_of list)) found)
      ∙ ap (λ xs. operand_at xs (values_in outcomes) (number_among xs (target files (item_of x) d))) all
      ∙ sym (ap (λ o. meaning_for files outcomes o d) item_in)

  module _ (outcomes : List Outcome) (e : Expr) where
    abbrev Known : DottedTree → Result Operand ConstFault
    Known = meaning_for files outcomes (slice_get (items files) n)

    whole : (r : Result Operand ConstFault) → evaluated Known e ≡ r
        → expression_of files (values_in outcomes) (item_of x) e ≡ (r >>= fitted x.wanted (named_enum files (item_of x) e))
    whole r is' = ap (λ s. s >>= fitted x.wanted (named_enum files (item_of x) e)) (sym (ap (λ o. evaluated (meaning_for files outcomes o) e) item_in) ∙ is')

    -- an expression, where it is an operand and where it is none
    pub expression_is : (a : Operand) → evaluated Known e ≡ Ok a → expression_of files (values_in outcomes) (item_of x) e ≡ fitted x.wanted (named_enum files (item_of x) e) a
    expression_is a h = whole (Ok a) h

    pub expression_fails : (fault : EvalFault) → Answers seen (Err fault) (evaluated Known e) → Answers {X = Const} {Y = Const} (λ c. c) (Err fault) (expression_of files (values_in outcomes) (item_of x) e)
    expression_fails (eval.Fault fault) h = whole (Err fault) h
    expression_fails eval.OutOfMemory h = tt

-- the flag of an item
pub flag_of : (f : Item → Bool) (xs : List Item) (flags : List Bool) (n : ℕ) (x : Item) → flags ≡ map f xs → slice_get xs n ≡ Some x → flag flags n ≡ f x
flag_of f xs flags n x is at =
    ap (λ bs. flag bs n) is ∙ get_or_from_slice_get (map f xs) n (f x) false (slice_get-map f xs n ∙ ap (option_map f) at)
