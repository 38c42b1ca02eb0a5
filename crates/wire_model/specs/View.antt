-- *View*: what a value is to the receiver, whose schema may be older or newer than the sender's (own).
-- A is the sender's declarations and t its type, B the receiver's and u its type. None: there is nothing that it
-- could be.
use Rattle.std.specs.Prelude.{ℕ, suc, Bool, true, false, ◌&&◌, ◌==◌, List, [], ◌∷◌, Option, Some, None, slice_get}
use Rattle.std.specs.Prelude.{option_map, if◌then◌else◌}
use Rattle.aidl_schema.specs.declared.schema.Decl.{Decl}
use Rattle.aidl_schema.specs.declared.schema.Field.{Field}
use Rattle.aidl_schema.specs.declared.schema.AidlType.{AidlType}
use Rattle.aidl_schema.specs.Broken.{kind_code}
use Rattle.aidl_schema.specs.Same.{same, same_text, decl_of, is_named}
use Rattle.aidl_schema.specs.Types.{form_of, elem}
use Rattle.aidl_values.specs.Data.{Data, null, truth, number, text, seq, rec, alt, Items, none, item}
use Rattle.aidl_values.specs.Sound.{initial_in}
use Rattle.wire_model.specs.Spell.{parcelable_fields, union_fields}

-- declarations of the same kind
abbrev pub same_kind : Option Decl → Option Decl → Bool
same_kind (Some d) (Some e) = kind_code d.kind == kind_code e.kind
same_kind (Some d) None = false
same_kind None o = false

-- the same type, and of the same kind in both where its base is declared
abbrev pub agree : List Decl → AidlType → List Decl → AidlType → Bool
agree A t B u = same A t B u && (if is_named t.base then same_kind (decl_of A t.base) (decl_of B u.base) else true)

-- the view where the test holds, else None
abbrev pub when : Bool → Option Data → Option Data
when true v = v
when false v = None

-- the first, and then what is made of it; None if there is none of either
infixl 10 ◌>>=◌
abbrev pub ◌>>=◌ : {A B : Type 0} → Option A → (A → Option B) → Option B
None >>= F = None
Some x >>= F = F x

-- one item after another; None if either is
abbrev pub item_first : Option Data → Option Items → Option Items
item_first first others = do
  v ← first
  vs ← others
  Some (item v vs)

-- one item for each of the receiver's fields; None if one of them is
abbrev pub each_field : (Field → Option Data) → List Field → Option Items
each_field F [] = Some none
each_field F (g ∷ gs) = item_first (F g) (each_field F gs)

-- what is seen of the sender's field, or the default where the sender has none
abbrev pub or_initial : Option (Option Data) → Data → Option Data
or_initial (Some seen) v = seen
or_initial None v = Some v

-- the first field of a name and its position, counted from n
abbrev pub field_named : ℕ → List ℕ → List Field → Option (ℕ × Field)
field_named n name [] = None
field_named n name (f ∷ fs) = if same_text name f.name.0 then Some (n, f) else field_named (suc n) name fs

abbrev mutual
  -- Null, a truth value, a number and a text are themselves, and a sequence is the views of its elements. A record
  -- has for each field of the receiver the view of the sender's field of the same name, or the default where the
  -- sender has none; a field that the receiver lacks is dropped. An alternative is that of the receiver's field of
  -- the same name.
  pub view_of : List Decl → AidlType → List Decl → AidlType → Data → Option Data
  view_of A t B u null = when (agree A t B u) (Some null)
  view_of A t B u (truth b) = when (agree A t B u) (Some (truth b))
  view_of A t B u (number n) = when (agree A t B u) (Some (number n))
  view_of A t B u (text x) = when (agree A t B u) (Some (text x))
  view_of A t B u (seq vs) = when (agree A t B u) (option_map seq (view_items A (elem A t) B (elem B u) vs))
  view_of A t B u (rec vs) = when (agree A t B u) (option_map rec
      (each_field (λ g. or_initial (view_named A (parcelable_fields (form_of A t.base)) B g vs) (initial_in B g))
      (parcelable_fields (form_of B u.base))))
  view_of A t B u (alt k v) = when (agree A t B u) (do
    f ← slice_get (union_fields (form_of A t.base)) k
    place ← field_named 0 f.name.0 (union_fields (form_of B u.base))
    option_map (alt place.0) (view_of A f.ty B place.1.ty v))

  -- of each element
  pub view_items : List Decl → AidlType → List Decl → AidlType → Items → Option Items
  view_items A t B u none = Some none
  view_items A t B u (item v vs) = item_first (view_of A t B u v) (view_items A t B u vs)

  -- of the sender's field that has the name of the receiver's field g; None where it has no such field
  pub view_named : List Decl → List Field → List Decl → Field → Items → Option (Option Data)
  view_named A fs B g none = None
  view_named A [] B g (item v vs) = None
  view_named A (f ∷ fs) B g (item v vs) = if same_text f.name.0 g.name.0 then Some (view_of A f.ty B g.ty v)
      else view_named A fs B g vs
