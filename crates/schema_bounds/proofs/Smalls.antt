-- A size that is right up to one more than a bound is within it where the default's is.
use Rattle.std.proofs.Common.{◌≡◌, ℕ, suc, ◌≤◌, min, Bool, true, false, ◌&&◌, List, refl, ap, ◌∙◌, arith}
use Rattle.std.specs.Prelude.{nat_le, slice_index_or}
use Rattle.std.proofs.lemmas.Bool.Decides.{nat_tests}
use Rattle.aidl_schema.specs.declared.schema.Decl.{Decl}
use Rattle.aidl_schema.specs.Sizes.{default_depth, default_nodes, has_small_default}
use Rattle.aidl_schema.specs.Valid.{one_of}
use Rattle.schema_bounds.specs.declared.measure.Measure.TheVariants.{Depth, Nodes}
use Rattle.schema_bounds.specs.steps.Measures.{AreRight}

within : (x d k : ℕ) → min (suc k) x ≡ min (suc k) d → (b c : Bool) → nat_le x k ≡ b → nat_le d k ≡ c → b ≡ c
within x d k same true true e f = refl
within x d k same false false e f = refl
within x d k same true false e f = absurd (apart (le x k e) (more d k f))
  where
    le : (y j : ℕ) → nat_le y j ≡ true → y ≤ j
    le y j h = grind (arith, nat_tests)

    more : (y j : ℕ) → nat_le y j ≡ false → suc j ≤ y
    more y j h = grind (arith, nat_tests)

    apart : x ≤ k → suc k ≤ d → ⊥
    apart p q = omega arith
within x d k same false true e f = absurd (apart (more x k e) (le d k f))
  where
    le : (y j : ℕ) → nat_le y j ≡ true → y ≤ j
    le y j h = grind (arith, nat_tests)

    more : (y j : ℕ) → nat_le y j ≡ false → suc j ≤ y
    more y j h = grind (arith, nat_tests)

    apart : suc k ≤ x → d ≤ k → ⊥
    apart p q = omega arith

pub small : (S : List Decl) (depths nodes : List ℕ) → AreRight Depth S depths 33 → AreRight Nodes S nodes 513 → (n : ℕ)
    → (nat_le (slice_index_or depths n 0) 32 && nat_le (slice_index_or nodes n 1) 512) ≡ has_small_default S (one_of n)
small S depths nodes deep many n =
    ap (λ b. b && nat_le (slice_index_or nodes n 1) 512) (within (slice_index_or depths n 0) (default_depth S (one_of n)) 32 (deep n) (nat_le (slice_index_or depths n 0) 32) (nat_le (default_depth S (one_of n)) 32) refl refl)
    ∙ ap (λ b. nat_le (default_depth S (one_of n)) 32 && b) (within (slice_index_or nodes n 1) (default_nodes S (one_of n)) 512 (many n) (nat_le (slice_index_or nodes n 1) 512) (nat_le (default_nodes S (one_of n)) 512) refl refl)
