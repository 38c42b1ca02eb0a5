-- What the receiver has of what was sent, said of both values (own): common fields are what they were, what the
-- sender lacks is the default, and what the receiver lacks is dropped. A is the sender's declarations and t its
-- type, B the receiver's and u its type.
use Rattle.std.specs.Prelude.{◌≡◌, ℕ, List, [], ◌∷◌, Option, Some, None, slice_get, MatchBool}
use Rattle.aidl_schema.specs.declared.schema.AidlType.{AidlType}
use Rattle.aidl_schema.specs.declared.schema.Arg.{Arg}
use Rattle.aidl_schema.specs.declared.schema.Decl.{Decl}
use Rattle.aidl_schema.specs.declared.schema.Field.{Field}
use Rattle.aidl_schema.specs.Same.{same_text}
use Rattle.aidl_schema.specs.Types.{form_of, elem}
use Rattle.aidl_values.specs.Data.{Data, null, truth, number, text, seq, rec, alt, Items, none, item}
use Rattle.aidl_values.specs.Sound.{initial_in}
use Rattle.wire_model.specs.Calls.{is_out}
use Rattle.wire_model.specs.Receiver.{opening}
use Rattle.wire_model.specs.Requests.{sent_length}
use Rattle.wire_model.specs.Spell.{parcelable_fields, union_fields}
use Rattle.wire_model.specs.View.{field_named}

-- one value for each of these fields, and no other
abbrev pub EachFieldHas : (Field → Data → Type 0) → List Field → Items → Type 0
EachFieldHas P [] none = Unit {0}
EachFieldHas P [] (item w ws) = ⊥
EachFieldHas P (g ∷ gs) none = ⊥
EachFieldHas P (g ∷ gs) (item w ws) = P g w × EachFieldHas P gs ws

abbrev mutual
  -- Null, a truth value, a number and a text are unchanged, and a sequence has what its elements are seen as. A
  -- record has a value for each of the receiver's fields. An alternative is that of the receiver's field of the
  -- same name.
  pub SeenAs : List Decl → AidlType → List Decl → AidlType → Data → Data → Type 0
  SeenAs A t B u null w = w ≡ null
  SeenAs A t B u (truth b) w = w ≡ truth b
  SeenAs A t B u (number n) w = w ≡ number n
  SeenAs A t B u (text x) w = w ≡ text x
  SeenAs A t B u (seq vs) w = (ws : Items) × (w ≡ seq ws) × EachSeenAs A (elem A t) B (elem B u) vs ws
  SeenAs A t B u (rec vs) w = (ws : Items) × (w ≡ rec ws)
      × EachFieldHas (λ g x. FieldSeenAs A (parcelable_fields (form_of A t.base)) B g vs x)
      (parcelable_fields (form_of B u.base)) ws
  SeenAs A t B u (alt k v) w = (f : Field) × (slice_get (union_fields (form_of A t.base)) k ≡ Some f)
      × (j : ℕ) × (g : Field) × (field_named 0 f.name.0 (union_fields (form_of B u.base)) ≡ Some (j, g))
      × (x : Data) × (w ≡ alt j x) × SeenAs A f.ty B g.ty v x

  -- each element
  pub EachSeenAs : List Decl → AidlType → List Decl → AidlType → Items → Items → Type 0
  EachSeenAs A t B u none ws = ws ≡ none
  EachSeenAs A t B u (item v vs) ws = (x : Data) × (xs : Items) × (ws ≡ item x xs) × SeenAs A t B u v x
      × EachSeenAs A t B u vs xs

  -- the value of the receiver's field g: what the sender's field of its name is seen as, or the default where the
  -- sender has none
  pub FieldSeenAs : List Decl → List Field → List Decl → Field → Items → Data → Type 0
  FieldSeenAs A fs B g none x = x ≡ initial_in B g
  FieldSeenAs A [] B g (item v vs) x = x ≡ initial_in B g
  FieldSeenAs A (f ∷ fs) B g (item v vs) x =
      MatchBool (same_text f.name.0 g.name.0) (SeenAs A f.ty B g.ty v x) (FieldSeenAs A fs B g vs x)

-- what a handler sees of an argument: of an `out` one its own opening
abbrev pub ArgumentSeenAs : List Decl → Arg → List Decl → Arg → Data → Data → Type 0
ArgumentSeenAs A a B b v w = MatchBool (is_out a.way) (w ≡ opening B b.ty (sent_length v)) (SeenAs A a.ty B b.ty v w)

-- and of arguments that are as many on both sides
abbrev pub ArgumentsSeenAs : List Decl → List Arg → List Decl → List Arg → Items → Items → Type 0
ArgumentsSeenAs A (a ∷ xs) B (b ∷ ys) (item v vs) ws = (x : Data) × (rest : Items) × (ws ≡ item x rest)
    × ArgumentSeenAs A a B b v x × ArgumentsSeenAs A xs B ys vs rest
ArgumentsSeenAs A (a ∷ xs) B (b ∷ ys) none ws = ws ≡ none
ArgumentsSeenAs A (a ∷ xs) B [] vs ws = ws ≡ none
ArgumentsSeenAs A [] B ys vs ws = ws ≡ none

-- what a client has of the outs
abbrev pub OutsSeenAs : List Decl → List AidlType → List Decl → List AidlType → Items → Items → Type 0
OutsSeenAs B (t ∷ ts) A (u ∷ us) (item v vs) ws = (x : Data) × (rest : Items) × (ws ≡ item x rest)
    × SeenAs B t A u v x × OutsSeenAs B ts A us vs rest
OutsSeenAs B (t ∷ ts) A (u ∷ us) none ws = ws ≡ none
OutsSeenAs B (t ∷ ts) A [] vs ws = ws ≡ none
OutsSeenAs B [] A us vs ws = ws ≡ none

-- and of a result, where there is one
abbrev pub ResultSeenAs : List Decl → Option AidlType → List Decl → Option AidlType → Option Data → Option Data → Type 0
ResultSeenAs B (Some t) A (Some u) (Some v) r = (x : Data) × (r ≡ Some x) × SeenAs B t A u v x
ResultSeenAs B (Some t) A (Some u) None r = r ≡ None
ResultSeenAs B (Some t) A None v r = r ≡ None
ResultSeenAs B None A u v r = r ≡ None
