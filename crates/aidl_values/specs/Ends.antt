-- Of which declarations every default has an end (own: E22 and E23). They needn't be a valid schema.
use Rattle.std.specs.Prelude.{◌≡◌, ℕ, ◌≤◌, Bool, true, false, List, [], Some, slice_get, ◌⊎◌, IsTrue}
use Rattle.std.specs.List.{list_all}
use Rattle.aidl_schema.specs.declared.schema.Decl.{Decl}
use Rattle.aidl_schema.specs.declared.schema.Kind.{Kind}
use Rattle.aidl_schema.specs.declared.schema.Kind.TheVariants.{Union}
use Rattle.aidl_schema.specs.Containment.{fields_of, Reaches, holds_itself}
use Rattle.aidl_schema.specs.Methods.{is_field_type}
use Rattle.aidl_values.specs.Data.{Data, depth_of}
use Rattle.aidl_values.specs.Nodes.{nodes_of}

-- a default that E23 permits: at most 32 levels and 512 nodes
abbrev pub IsSmall : Data → Type 0
IsSmall v = (depth_of v ≤ 32) × (nodes_of v ≤ 512)

-- a union has a field; the test says nothing of other kinds
abbrev pub has_first : Kind → Bool
has_first (Union []) = false
has_first _ = true

-- The declaration doesn't hold itself, and no chain of containment leads from it to one that does.
abbrev pub ReachesNoCycle : List Decl → ℕ → Type 0
ReachesNoCycle S n = (m : ℕ) → (n ≡ m) ⊎ Reaches S n m → holds_itself S m ≡ false

-- Each field of a declaration has a type of the schema (no rule on types is broken), and a union has a field (E21).
abbrev pub HaveFieldTypes : List Decl → Type 0
HaveFieldTypes S = (n : ℕ) (d : Decl) → slice_get S n ≡ Some d
    → IsTrue (list_all (λ f. is_field_type S f) (fields_of d.kind)) × IsTrue (has_first d.kind)
