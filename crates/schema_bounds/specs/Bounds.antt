-- Which of E22 and E23 a declaration breaks (own). They take declarations that needn't be valid.
use Rattle.std.specs.Prelude.{◌≡◌, ℕ, Bool, ◌&&◌, ◌||◌, if◌then◌else◌, List, length, ◌⊎◌, IsTrue}
use Rattle.std.specs.List.{list_any, range_with_len}
use Rattle.aidl_schema.specs.declared.schema.Decl.{Decl}
use Rattle.aidl_schema.specs.Containment.{Reaches, reaches_within, holds_itself}
use Rattle.aidl_schema.specs.Sizes.{has_small_default}
use Rattle.aidl_schema.specs.Valid.{one_of}
use Rattle.schema_bounds.specs.declared.bound.Bound.{Bound}
use Rattle.schema_bounds.specs.declared.bound.Bound.TheVariants.{Within, HoldsItself, TooLarge}

-- A declaration reaches a cycle of containment: it holds itself, or a chain leads from it to one that does.
abbrev pub ReachesCycle : List Decl → ℕ → Type 0
ReachesCycle S n = (m : ℕ) × ((n ≡ m) ⊎ Reaches S n m) × IsTrue (holds_itself S m)

-- the same as a test
abbrev pub reaches_cycle : List Decl → ℕ → Bool
reaches_cycle S n = holds_itself S n
    || list_any (λ m. reaches_within (length S) S n m && holds_itself S m) (range_with_len 0 (length S))

-- E22 comes before E23, and E23 is judged where no cycle is reached.
abbrev pub bound_by : Bool → Bool → Bool → Bound
bound_by holds reaches small = if holds then HoldsItself
    else (if reaches then Within else (if small then Within else TooLarge))

-- the rule that a declaration breaks
abbrev pub bound : List Decl → ℕ → Bound
bound S n = bound_by (holds_itself S n) (reaches_cycle S n) (has_small_default S (one_of n))
