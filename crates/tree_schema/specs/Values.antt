-- The values of a schema's constants, initializers and enumerators: what the outcomes of the trees' items give.
use Rattle.std.specs.Prelude.{ℕ, ℤ, pos, Bool, if◌then◌else◌, List, map, Option, Some, None}
use Rattle.aidl_base.specs.declared.constant.Const.{Const, out-Const, roll-Const}
use Rattle.aidl_base.specs.declared.constant.Const.TheOpen.{Const-F}
use Rattle.aidl_syntax.specs.declared.tree.TypeTree.{TypeTree}
use Rattle.aidl_syntax.specs.Trees.{Expr, offset_of, Init, Enumerator}
use Rattle.aidl_syntax.specs.Trees.Init.{single, braces}
use Rattle.declared_names.specs.Declarations.{declarations}
use Rattle.aidl_syntax.specs.Sources.{Source}
use Rattle.const_eval.specs.declared.outcome.Outcome.{Outcome}
use Rattle.const_eval.specs.declared.outcome.Outcome.TheVariants.{Given, Fault, Unjudged}
use Rattle.type_shapes.specs.Initializers.{is_unjudged}
use Rattle.type_shapes.specs.Types.{shape_in}
use Rattle.const_items.specs.Items.{items, number_at, place_of}

-- the outcome of each item, by its number
abbrev pub Outcomes : Type 0
Outcomes = ℕ → Outcome

abbrev pub value_of : Outcome → Option Const
value_of (Given c) = Some c
value_of (Fault fault) = None
value_of Unjudged = None

abbrev pub value_of_item : Outcomes → Option ℕ → Option Const
value_of_item outcomes None = None
value_of_item outcomes (Some number) = value_of (outcomes number)

-- the value of what has its place there in a file
abbrev pub value_at : List Source → Outcomes → ℕ → ℕ → Option Const
value_at files outcomes file place = value_of_item outcomes (number_at (items files) file place)

-- a number for what has no value: where nothing is refused, all have one
abbrev pub or_zero : Option Const → Const
or_zero None = roll-Const (Const-F.Number (pos 0))
or_zero (Some c) = c

abbrev pub whole : Const → ℤ
whole c = elim (out-Const c) [
  | Const-F.Truth b ↦ pos 0
  | Const-F.Number z ↦ z
  | Const-F.Text x ↦ pos 0
  | Const-F.Members cs ↦ pos 0
]

abbrev pub constant_value : List Source → Outcomes → ℕ → Expr → Const
constant_value files outcomes file e = or_zero (value_at files outcomes file (offset_of e))

abbrev pub enumerator_value : List Source → Outcomes → ℕ → Enumerator → ℤ
enumerator_value files outcomes file e = whole (or_zero (value_at files outcomes file (place_of e)))

-- the value of an expression; of a brace list the values of its members
abbrev pub initial_value : List Source → Outcomes → ℕ → Init → Const
initial_value files outcomes file (single e) = constant_value files outcomes file e
initial_value files outcomes file (braces offset es) =
    roll-Const (Const-F.Members (map (λ e. constant_value files outcomes file e) es))

-- The initializer of a field, which may be one after the first of a union. One that E21 refuses, or whose field's
-- type E16 refuses, isn't there.
abbrev pub initial_of : List Source → Outcomes → ℕ → ℕ → Bool → TypeTree → Option Init → Option Const
initial_of files outcomes file scope later ty None = None
initial_of files outcomes file scope later ty (Some init) =
    if is_unjudged (declarations files) later (shape_in files file scope ty) init then None
    else Some (initial_value files outcomes file init)
