-- When plans stand for a schema and extra types (own). S is the schema's declarations, `types` has one type for
-- each item of the plans, and an id stands for the type at its number.
use Rattle.std.specs.Prelude.{◌≡◌, ℕ, true, List, [], ◌∷◌, length, take, drop, Option, Some, None, slice_get}
use Rattle.std.specs.Prelude.{MatchBool, Bool}
use Rattle.aidl_schema.specs.declared.schema.AidlType.{AidlType}
use Rattle.aidl_schema.specs.declared.schema.Decl.{Decl}
use Rattle.aidl_schema.specs.declared.schema.Field.{Field}
use Rattle.aidl_schema.specs.Types.{Form, form_of, is_one, is_raw, is_type, elem}
use Rattle.aidl_schema.specs.Types as form
use Rattle.aidl_schema.specs.Valid.{IsValid}
use Rattle.marshal_plans.specs.declared.plans.PlanId.{PlanId}
use Rattle.marshal_plans.specs.declared.plans.PlanItem.{PlanItem}
use Rattle.marshal_plans.specs.declared.plans.PlanItem.TheVariants.{Word, Long, Text, Raw, Seq, Rec, Alt}
use Rattle.marshal_plans.specs.declared.plans.WordKind.TheVariants.{Truth, Byte, Char, Int}
use Rattle.marshal_plans.specs.declared.plans.PlanField.{PlanField}
use Rattle.marshal_plans.specs.declared.plans.PlanStart.{PlanStart}
use Rattle.marshal_plans.specs.declared.plans.Plans.{Plans}
use Rattle.marshal_plans.specs.Slots.{Slot, slots}

-- The lists have the same length, and R holds of what stands at each place.
abbrev pub OneForOne : {X Y : Type 0} → (X → Y → Type 0) → List X → List Y → Type 0
OneForOne R [] [] = Unit {0}
OneForOne R [] (y ∷ ys) = ⊥
OneForOne R (x ∷ xs) [] = ⊥
OneForOne R (x ∷ xs) (y ∷ ys) = R x y × OneForOne R xs ys

-- The id stands for the type at its number.
abbrev pub StandsFor : List AidlType → PlanId → AidlType → Type 0
StandsFor types id t = slice_get types id.0 ≡ Some t

-- The entry is that of the field: its item stands for the field's type, and its initializer is the field's.
abbrev pub IsEntryOf : List AidlType → Field → PlanField → Type 0
IsEntryOf types f g = StandsFor types g.item f.ty × (g.initial ≡ f.initial)

-- so many entries of `fields` from a first one on
abbrev pub entries_of : List PlanField → ℕ → ℕ → List PlanField
entries_of entries first count = take count (drop first entries)

-- The entries from `first` on are those of the fields.
abbrev pub AreEntriesOf : List AidlType → List PlanField → ℕ → List Field → Type 0
AreEntriesOf types entries first fs = OneForOne (λ f g. IsEntryOf types f g) fs (entries_of entries first (length fs))

-- The item of a type of shape one, by what its base means: a word, a long, a text, a record of the fields, or an
-- alternative of them.
abbrev pub IsOneItem : List AidlType → List PlanField → Bool → Form → PlanItem → Type 0
IsOneItem types entries nullable form.truth i = i ≡ Word Truth
IsOneItem types entries nullable form.byte i = i ≡ Word Byte
IsOneItem types entries nullable form.char i = i ≡ Word Char
IsOneItem types entries nullable form.int i = i ≡ Word Int
IsOneItem types entries nullable form.long i = i ≡ Long
IsOneItem types entries nullable form.text i = i ≡ Text nullable
IsOneItem types entries nullable (form.parcelable fs) i = (first : ℕ) × (i ≡ Rec nullable first (length fs))
    × AreEntriesOf types entries first fs
IsOneItem types entries nullable (form.union fs) i = (first : ℕ) × (i ≡ Alt nullable first (length fs))
    × AreEntriesOf types entries first fs
IsOneItem types entries nullable form.nothing i = ⊥

-- The item of any other type: raw bytes, or a sequence whose element stands for the type of an element.
abbrev pub IsManyItem : List Decl → List AidlType → AidlType → PlanItem → Type 0
IsManyItem S types t i = MatchBool (is_raw S t) (i ≡ Raw t.nullable) ((e : PlanId) × (i ≡ Seq t.nullable e)
    × StandsFor types e (elem S t))

-- The item is that of the type.
abbrev pub IsItemOf : List Decl → List AidlType → List PlanField → AidlType → PlanItem → Type 0
IsItemOf S types entries t i =
    MatchBool (is_one t.shape) (IsOneItem types entries t.nullable (form_of S t.base) i) (IsManyItem S types t i)

-- where the entries of an item begin
abbrev pub first_of : PlanItem → Option ℕ
first_of (Rec nullable first count) = Some first
first_of (Alt nullable first count) = Some first
first_of _ = None

-- The start is that of an argument or a result: of the same place, and its item stands for the type.
abbrev pub IsStartOf : List AidlType → Slot → PlanStart → Type 0
IsStartOf types s start = (start.interface ≡ s.interface) × (start.method ≡ s.method) × (start.place ≡ s.place)
    × StandsFor types start.item s.ty

-- Each type at an item is one of the schema.
abbrev pub AreTypesOf : List Decl → List AidlType → Type 0
AreTypesOf S types = (k : ℕ) (t : AidlType) → slice_get types k ≡ Some t → is_type S t ≡ true

-- Two items of one declaration have the same first entry.
abbrev pub ShareEntries : List AidlType → List PlanItem → Type 0
ShareEntries types items = (j k : ℕ) (t u : AidlType) (h i : PlanItem) → slice_get types j ≡ Some t
    → slice_get types k ≡ Some u
    → slice_get items j ≡ Some h → slice_get items k ≡ Some i → t.shape ≡ u.shape → t.base ≡ u.base
    → first_of h ≡ first_of i

-- Plans stand for a schema and extra types, where the items have these types.
pub record StandFor (S : List Decl) (extra types : List AidlType) (plans : Plans) : Type 0 where
  pub schema : IsValid S
  pub of_schema : AreTypesOf S types
  -- there is one type for each item, and the item is that of the type
  pub items : OneForOne (λ t i. IsItemOf S types plans.fields t i) types plans.items
  pub shared : ShareEntries types plans.items
  -- one start for each argument and for each result that isn't void, in their order
  pub starts : OneForOne (λ s start. IsStartOf types s start) (slots S) plans.starts
  -- one id for each extra type, in their order
  pub extras : OneForOne (λ t id. StandsFor types id t) extra plans.extras

-- The id stands for the type t of the schema S.
abbrev pub IsOf : Plans → PlanId → List Decl → AidlType → Type 0
IsOf plans id S t = (extra types : List AidlType) × StandFor S extra types plans × StandsFor types id t

-- P holds of each schema and type for which the id stands.
abbrev pub OfEachType : Plans → PlanId → (List Decl → AidlType → Type 0) → Type 0
OfEachType plans id P = (S : List Decl) (t : AidlType) → IsOf plans id S t → P S t
