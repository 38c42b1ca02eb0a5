-- The rules on what a declaration holds (own), each as the list of its breaches. Files and places are the trees',
-- bounds the schema's.
use Rattle.std.specs.Prelude.{ℕ, nat_eq, List, [], ◌∷◌, if◌then◌else◌}
use Rattle.std.specs.List.{slice_index_or}
use Rattle.aidl_base.specs.declared.breach.Breach.{Breach}
use Rattle.aidl_syntax.specs.Members.{declared_name}
use Rattle.declared_names.specs.Declarations.{declarations}
use Rattle.aidl_names.specs.Rules.{breach}
use Rattle.declared_names.specs.Numbered.{in_each}
use Rattle.aidl_syntax.specs.Sources.{Source}
use Rattle.aidl_schema.specs.declared.schema.Decl.{Decl}
use Rattle.schema_bounds.specs.declared.bound.Bound.{Bound}
use Rattle.schema_bounds.specs.declared.bound.Bound.TheVariants.{Within, HoldsItself as Holding, TooLarge}
use Rattle.schema_bounds.specs.Bounds.{bound}
use Rattle.tree_schema.specs.Numbers.{Numbered, sorted}

-- the number of the rule that a declaration with a bound breaks, and 0 where it breaks none
abbrev pub rule_of : Bound → ℕ
rule_of Within = 0
rule_of Holding = 22
rule_of TooLarge = 23

-- the bound with a number, and Within behind the last
abbrev pub bound_at : List Bound → ℕ → Bound
bound_at bounds n = slice_index_or bounds n Within

-- a breach at the name of the declaration with a number, where its bound breaks the rule
abbrev pub broken_at : ℕ → (ℕ → Bound) → ℕ → Numbered → List Breach
broken_at rule bound_of n x = if nat_eq (rule_of (bound_of n)) rule
    then breach rule x.1.file (declared_name x.1.tree).offset ∷ [] else []

-- those of the trees' declarations, which the schema has in the same order
unfoldable pub broken : ℕ → List Source → List Decl → List Breach
broken rule files S = in_each (broken_at rule (bound S)) 0 (sorted (declarations files))

-- E22 HoldsItself: a parcelable or union reaches itself by containment.
abbrev pub HoldsItself : List Source → List Decl → List Breach
HoldsItself files S = broken 22 files S

-- E23 DefaultTooLarge: a parcelable or union that reaches no cycle of containment has a default of depth above 32
-- or of more than 512 nodes.
abbrev pub DefaultTooLarge : List Source → List Decl → List Breach
DefaultTooLarge files S = broken 23 files S
