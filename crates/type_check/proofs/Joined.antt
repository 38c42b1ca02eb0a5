-- The breaches of the types stage, as they are joined.
use Rattle.std.proofs.Common.{IsTrue, ◌≡◌, ◌≤◌, ◌++◌, ℕ, true, nat_le, List, length, map, sym, ap, ◌∙◌, arith}
use Rattle.std.specs.List.{range_with_len}
use Rattle.std.proofs.lemmas.Bool.Decides.{nat_tests}
use Rattle.std.proofs.lemmas.List.{append_assoc, length-map}
use Rattle.std.proofs.lemmas.List.FromFn.{length-map-range_with_len}
use Rattle.aidl_base.proofs.lemmas.Tests.{both}
use Rattle.aidl_base.specs.declared.breach.Breach.{Breach}
use Rattle.declared_names.specs.declared.found.Found.{Found}
use Rattle.aidl_names.specs.Breaches.{in_order}
use Rattle.declared_names.specs.Declarations.{declarations}
use Rattle.declared_names.specs.Entries.{entry_of}
use Rattle.declared_names.specs.Numbered.{in_each}
use Rattle.aidl_syntax.specs.Sources.{Source}
use Rattle.aidl_schema.specs.declared.schema.Decl.{Decl}
use Rattle.aidl_schema.specs.Valid.{is_within_limits}
use Rattle.schema_bounds.specs.declared.bound.Bound.{Bound}
use Rattle.schema_bounds.specs.Bounds.{bound}
use Rattle.tree_schema.specs.declared.tree.Placed.{Placed}
use Rattle.tree_schema.specs.Numbers.{sorted}
use Rattle.tree_schema.specs.TreeViews.{numbered_of}
use Rattle.type_rules.specs.Breaches.{unsorted}
use Rattle.type_check.specs.Bounds.{bound_at, broken_at, broken}
use Rattle.type_check.specs.Stages.{types_broken}
use Rattle.type_check.proofs.Within.{of-bounds}

-- a schema that is within its limits has few declarations
pub few-of : (S : List Decl) → IsTrue (is_within_limits S) → length S ≤ 16384
unfolding is_within_limits
few-of S h =
    let few : nat_le (length S) 16384 ≡ true = (both (nat_le (length S) 16384) _ h).0 in
    grind (arith, nat_tests)

module _ (files : List Source) (S : List Decl) (found : List Found) (all-are : map entry_of found ≡ declarations files) (same : length (sorted (declarations files)) ≡ length S) where
  -- each declaration has its bound
  pub same-count : (bounds : List Bound) (all : List Placed) → bounds ≡ map (bound S) (range_with_len 0 (length S)) → map numbered_of all ≡ sorted (map entry_of found) → length bounds ≡ length all
  same-count bounds all e o =
      ap length e ∙ length-map-range_with_len (bound S) 0 (length S) ∙ sym same ∙ ap (λ es. length (sorted es)) (sym all-are) ∙ ap length (sym o) ∙ length-map all numbered_of

  rule-rows : (rule : ℕ) (bounds : List Bound) (all : List Placed) → bounds ≡ map (bound S) (range_with_len 0 (length S)) → map numbered_of all ≡ sorted (map entry_of found)
      → in_each (broken_at rule (bound_at bounds)) 0 (map numbered_of all) ≡ broken rule files S
  unfolding broken
  rule-rows rule bounds all e o =
      ap (in_each (broken_at rule (bound_at bounds)) 0) (o ∙ ap sorted all-are) ∙ of-bounds rule bounds S (sorted (declarations files)) e same

  -- the breaches of E13 to E21 and E24, then those of E22, then those of E23
  pub types-joined : (r0 r1 r2 : List Breach) (b1 b2 : List Bound) (xs1 xs2 : List Placed)
      → b1 ≡ map (bound S) (range_with_len 0 (length S)) → b2 ≡ map (bound S) (range_with_len 0 (length S))
      → map numbered_of xs1 ≡ sorted (map entry_of found) → map numbered_of xs2 ≡ sorted (map entry_of found)
      → r0 ≡ unsorted files → r1 ≡ r0 ++ in_each (broken_at 22 (bound_at b1)) 0 (map numbered_of xs1) → r2 ≡ r1 ++ in_each (broken_at 23 (bound_at b2)) 0 (map numbered_of xs2)
      → in_order r2 ≡ types_broken files S
  unfolding types_broken
  types-joined r0 r1 r2 b1 b2 xs1 xs2 e1 e2 o1 o2 q0 q1 q2 =
      let a = rule-rows 22 b1 xs1 e1 o1 in
      let b = rule-rows 23 b2 xs2 e2 o2 in
      let first : r1 ≡ unsorted files ++ broken 22 files S = q1 ∙ ap (λ r. r ++ in_each (broken_at 22 (bound_at b1)) 0 (map numbered_of xs1)) q0 ∙ ap (λ x. unsorted files ++ x) a in
      let second : r2 ≡ (unsorted files ++ broken 22 files S) ++ broken 23 files S = q2 ∙ ap (λ r. r ++ in_each (broken_at 23 (bound_at b2)) 0 (map numbered_of xs2)) first ∙ ap (λ x. (unsorted files ++ broken 22 files S) ++ x) b in
      ap in_order (second ∙ append_assoc (unsorted files) (broken 22 files S) (broken 23 files S))
