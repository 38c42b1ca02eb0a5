-- *Defaults*: the native value-initialized profile (own). E22 and E23 make them end: a type that holds itself has none.
use Rattle.std.specs.Prelude.{◌≡◌, ℕ, zero, suc, pos, false, if◌then◌else◌, List, [], ◌∷◌, Option, Some, None, map}
use Rattle.std.specs.Prelude.{IsTrue, MatchOption}
use Rattle.aidl_base.specs.declared.constant.Const.{Const, fold-Const}
use Rattle.aidl_base.specs.declared.constant.Const.TheOpen.{Const-F}
use Rattle.aidl_schema.specs.declared.schema.Decl.{Decl}
use Rattle.aidl_schema.specs.declared.schema.Field.{Field}
use Rattle.aidl_schema.specs.declared.schema.AidlType.{AidlType}
use Rattle.aidl_schema.specs.Types.{Form, form_of, is_one}
use Rattle.aidl_schema.specs.Types as form
use Rattle.aidl_values.specs.Data.{Data, null, truth, number, text, seq, rec, alt, Items, none, item}
use Rattle.aidl_values.specs.View.{items_of}

-- one level of a constant as a value: a brace list is a sequence
abbrev pub const_step : Const-F Data → Data
const_step (Const-F.Truth b) = truth b
const_step (Const-F.Number n) = number n
const_step (Const-F.Text x) = text x
const_step (Const-F.Members vs) = seq (items_of vs)

-- a constant as a value
abbrev pub const_value : Const → Data
const_value = fold-Const Data const_step

-- of a type of shape one that isn't nullable and has no parts
abbrev pub simple_zero : Form → Option Data
simple_zero form.truth = Some (truth false)
simple_zero form.text = Some (text [])
simple_zero form.byte = Some (number (pos 0))
simple_zero form.char = Some (number (pos 0))
simple_zero form.int = Some (number (pos 0))
simple_zero form.long = Some (number (pos 0))
simple_zero _ = None

-- What a value is the default of, by cases on the value.
abbrev mutual
  -- *Zero*: null for a nullable type, the empty sequence, false, 0, the empty text, the record of the fields'
  -- Initial, or alternative 0 with the Initial of the first field
  pub IsZero : List Decl → AidlType → Data → Type 0
  IsZero S t null = IsTrue t.nullable
  IsZero S t (truth b) = (t.nullable ≡ false) × IsTrue (is_one t.shape)
      × (simple_zero (form_of S t.base) ≡ Some (truth b))
  IsZero S t (number n) = (t.nullable ≡ false) × IsTrue (is_one t.shape)
      × (simple_zero (form_of S t.base) ≡ Some (number n))
  IsZero S t (text x) = (t.nullable ≡ false) × IsTrue (is_one t.shape)
      × (simple_zero (form_of S t.base) ≡ Some (text x))
  IsZero S t (seq vs) = (t.nullable ≡ false) × (is_one t.shape ≡ false) × (vs ≡ none)
  IsZero S t (rec vs) = (t.nullable ≡ false) × IsTrue (is_one t.shape) × (fs : List Field)
      × (form_of S t.base ≡ form.parcelable fs) × AreInitial S fs vs
  IsZero S t (alt k v) = (t.nullable ≡ false) × IsTrue (is_one t.shape) × (f : Field) × (fs : List Field)
      × (form_of S t.base ≡ form.union (f ∷ fs))
      × (k ≡ 0) × MatchOption f.initial (IsZero S f.ty v) (λ c. v ≡ const_value c)

  -- the Initial of each field
  pub AreInitial : List Decl → List Field → Items → Type 0
  AreInitial S [] none = Unit {0}
  AreInitial S [] (item v vs) = ⊥
  AreInitial S (f ∷ fs) none = ⊥
  AreInitial S (f ∷ fs) (item v vs) = MatchOption f.initial (IsZero S f.ty v) (λ c. v ≡ const_value c)
      × AreInitial S fs vs

-- *Initial*: a field's initializer as a value, or else the Zero of its type
abbrev pub IsInitial : List Decl → Field → Data → Type 0
IsInitial S f v = MatchOption f.initial (IsZero S f.ty v) (λ c. v ≡ const_value c)

-- The same as a function, by fuel, of which each level of parts takes one. With 33 it never runs out, since the
-- defaults of a valid schema have at most 32 levels, and the function gives each type's Zero: `law_one_default`.
abbrev pub initial_or : Option Const → Data → Data
initial_or (Some c) v = const_value c
initial_or None v = v

abbrev pub initial_by : (AidlType → Data) → Field → Data
initial_by zero_value f = initial_or f.initial (zero_value f.ty)

abbrev pub initials_by : (AidlType → Data) → List Field → Items
initials_by zero_value fs = items_of (map (λ f. initial_by zero_value f) fs)

abbrev pub zero_of_form : (AidlType → Data) → Form → Data
zero_of_form zero_value form.truth = truth false
zero_of_form zero_value form.text = text []
zero_of_form zero_value (form.parcelable fs) = rec (initials_by zero_value fs)
zero_of_form zero_value (form.union []) = null
zero_of_form zero_value (form.union (f ∷ fs)) = alt 0 (initial_by zero_value f)
zero_of_form zero_value form.nothing = null
zero_of_form zero_value _ = number (pos 0)

-- of a type, from those of its parts
abbrev pub zero_by : List Decl → (AidlType → Data) → AidlType → Data
zero_by S zero_value t = if t.nullable then null
    else (if is_one t.shape then zero_of_form zero_value (form_of S t.base) else seq none)

unfoldable pub zero_within : ℕ → List Decl → AidlType → Data
zero_within zero S t = zero_by S (λ u. null) t
zero_within (suc fuel) S t = zero_by S (λ u. zero_within fuel S u) t
