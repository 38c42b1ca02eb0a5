-- What a constant is as a value, one level at a time; and its size.
use Rattle.std.proofs.Common.{◌≡◌, ℕ, suc, ◌+◌, max, List, [], ◌∷◌, map, refl, sym, ap, ◌∙◌, subst}
use Rattle.std.specs.Prelude.{sum}
use Rattle.std.proofs.lemmas.List.Sums.{sum_by-cons}
use Rattle.aidl_base.specs.declared.constant.Const.{Const, out-Const, roll-Const, map-Const, ind-Const, out-roll-Const}
use Rattle.aidl_base.specs.declared.constant.Const.TheOpen.{Const-F}
use Rattle.aidl_base.specs.declared.constant.Const.TheFolds.{fold_out-Const}
use Rattle.aidl_schema.specs.Sizes.{greatest_of, const_depth, const_depth_step, const_nodes, const_nodes_step}
use Rattle.aidl_values.specs.Data.{Data, truth, number, text, seq, depth_of, greatest}
use Rattle.aidl_values.specs.Default.{const_step, const_value}
use Rattle.aidl_values.specs.Nodes.{nodes_of, nodes_in}
use Rattle.aidl_values.specs.View.{items_of}

-- a level of a constant as a value
abbrev pub value_step : Const-F Const → Data
value_step (Const-F.Truth b) = truth b
value_step (Const-F.Number n) = number n
value_step (Const-F.Text x) = text x
value_step (Const-F.Members cs) = seq (items_of (map const_value cs))

stepped : (o : Const-F Const) → const_step (map-Const Const Data const_value o) ≡ value_step o
stepped (Const-F.Truth b) = refl
stepped (Const-F.Number n) = refl
stepped (Const-F.Text x) = refl
stepped (Const-F.Members cs) = refl

pub value_is : (c : Const) → const_value c ≡ value_step (out-Const c)
value_is c = fold_out-Const Data const_step c ∙ stepped (out-Const c)

-- The sizes of a constant are those of its value.
pub record IsSized (c : Const) : Type 0 where
  pub depth : depth_of (const_value c) ≡ const_depth c
  pub nodes : nodes_of (const_value c) ≡ const_nodes c

by_level : (c : Const) (o : Const-F Const) → out-Const c ≡ o → depth_of (value_step o) ≡ const_depth_step (map-Const Const ℕ const_depth o)
    → nodes_of (value_step o) ≡ const_nodes_step (map-Const Const ℕ const_nodes o) → IsSized c
by_level c o e depth nodes = record {
  depth = ap depth_of (value_is c ∙ ap value_step e) ∙ depth ∙ sym (fold_out-Const ℕ const_depth_step c ∙ ap (λ p. const_depth_step (map-Const Const ℕ const_depth p)) e);
  nodes = ap nodes_of (value_is c ∙ ap value_step e) ∙ nodes ∙ sym (fold_out-Const ℕ const_nodes_step c ∙ ap (λ p. const_nodes_step (map-Const Const ℕ const_nodes p)) e);
}

-- a level of constants that are sized
module _ {X : Type 0} (pr : X → Const) (law : (x : X) → IsSized (pr x)) where
  members_depth : (xs : List X) → greatest (items_of (map const_value (map pr xs))) ≡ greatest_of (map const_depth (map pr xs))
  members_depth [] = refl
  members_depth (x ∷ xs) =
      ap (λ n. max n (greatest (items_of (map const_value (map pr xs))))) (law x).depth ∙ ap (λ n. max (const_depth (pr x)) n) (members_depth xs)

  members_nodes : (xs : List X) → nodes_in (items_of (map const_value (map pr xs))) ≡ sum (map const_nodes (map pr xs))
  members_nodes [] = refl
  members_nodes (x ∷ xs) =
      ap (λ n. n + nodes_in (items_of (map const_value (map pr xs)))) (law x).nodes ∙ ap (λ n. const_nodes (pr x) + n) (members_nodes xs)
      ∙ sym (sum_by-cons (λ n. n) (const_nodes (pr x)) (map const_nodes (map pr xs)))

  at_level : (y : Const-F X) → IsSized (roll-Const (map-Const X Const pr y))
  at_level (Const-F.Truth b) = by_level (roll-Const (Const-F.Truth b)) (Const-F.Truth b) (out-roll-Const (Const-F.Truth b)) refl refl
  at_level (Const-F.Number n) = by_level (roll-Const (Const-F.Number n)) (Const-F.Number n) (out-roll-Const (Const-F.Number n)) refl refl
  at_level (Const-F.Text x) = by_level (roll-Const (Const-F.Text x)) (Const-F.Text x) (out-roll-Const (Const-F.Text x)) refl refl
  at_level (Const-F.Members xs) =
      by_level (roll-Const (Const-F.Members (map pr xs))) (Const-F.Members (map pr xs)) (out-roll-Const (Const-F.Members (map pr xs))) (ap suc (members_depth xs)) (ap suc (members_nodes xs))

pub sized : (c : Const) → IsSized c
sized c = ind-Const (λ c. IsSized c) (λ x y e. subst (λ z. IsSized (roll-Const z)) e (at_level (λ s. s.0) (λ s. s.1) y)) c
