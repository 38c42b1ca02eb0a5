-- The outcome of one item, by what the code finds of it.
use Rattle.std.proofs.Common.{◌≡◌, ℕ, ◌<◌, Bool, false, IsTrue, ◌↔◌, List, length, map, get_or, Option, Some, None, ap, ◌∙◌}
use Rattle.std.specs.List.{slice_get}
use Rattle.graph_cycles.specs.Paths.{TellsCycles, flag, targets}
use Rattle.aidl_syntax.specs.Sources.{Source}
use Rattle.const_items.specs.declared.item.ItemRef.{ItemRef}
use Rattle.const_eval.specs.declared.outcome.Outcome.{Outcome}
use Rattle.const_items.specs.Dependence.{has_unknown_name, next}
use Rattle.const_items.specs.Items.{items}
use Rattle.const_items.specs.ItemViews.{item_of}
use Rattle.const_eval.specs.Known.{AreItems, AreKnown, AreNext, are_given, values_in, without_value}
use Rattle.const_eval.specs.Outcomes.{HasOutcome, IsCyclic, judgement_of, outcome_of}
use Rattle.const_eval.proofs.Meant.{flag_of, item_in}
use Rattle.const_eval.proofs.Settling.{settles, settles_by}
use Rattle.const_eval.proofs.Turns.{tells}

module _ (files : List Source) (list : List ItemRef) (all : AreItems files (map item_of list)) (rows : List (List ℕ)) (same : AreNext files rows)
    (on : List Bool) (told : TellsCycles (targets rows) on) (flags : List Bool) (is : flags ≡ map (has_unknown_name files) (items files))
    (outcomes : List Outcome) (n : ℕ) (x : ItemRef) (lt : n < length list) (here : x ≡ get_or list n x)
    (known : flag on n ≡ false → AreKnown files outcomes n) where
  at : slice_get (items files) n ≡ Some (item_of x)
  at = item_in files list all n x lt here

  cyclic : IsTrue (flag on n) ↔ IsCyclic files n
  cyclic = tells files rows same on told n

  module _ (unknown given : Bool) (u : unknown ≡ flag flags n) (g : given ≡ are_given outcomes (targets rows n)) (o : Option Outcome)
      (e : o ≡ without_value x.unjudged unknown (flag on n) given) where
    is_unknown : unknown ≡ has_unknown_name files (item_of x)
    is_unknown = u ∙ flag_of (has_unknown_name files) (items files) flags n (item_of x) is at

    is_given : given ≡ are_given outcomes (next files n)
    is_given = g ∙ ap (are_given outcomes) (same n)

    -- without values, and by them
    pub without : (outcome : Outcome) → o ≡ Some outcome → HasOutcome files n outcome
    without outcome h = settles files outcomes n (item_of x) at (flag on n) cyclic known unknown given is_unknown is_given o e outcome h

    pub by_values : o ≡ None → HasOutcome files n (outcome_of (judgement_of files (values_in outcomes) (item_of x) (item_of x).value))
    by_values h = settles_by files outcomes n (item_of x) at (flag on n) cyclic known unknown given is_unknown is_given o e h
