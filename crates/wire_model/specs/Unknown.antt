-- *Unknown tag*: what hinders a view (own). A union tag is unknown to the receiver where its union has no field of
-- the tag's name. A is the sender's declarations and t its type, B the receiver's and u its type. What stands below
-- a field that the receiver drops isn't looked at.
use Rattle.std.specs.Prelude.{◌≡◌, ℕ, Bool, true, false, ◌||◌, if◌then◌else◌, List, [], ◌∷◌, Option, Some, None}
use Rattle.std.specs.Prelude.{is_none, slice_get}
use Rattle.std.specs.List.{list_any}
use Rattle.aidl_schema.specs.declared.schema.AidlType.{AidlType}
use Rattle.aidl_schema.specs.declared.schema.Arg.{Arg}
use Rattle.aidl_schema.specs.declared.schema.Decl.{Decl}
use Rattle.aidl_schema.specs.declared.schema.Field.{Field}
use Rattle.aidl_schema.specs.Same.{same_text}
use Rattle.aidl_schema.specs.Types.{form_of, elem}
use Rattle.aidl_values.specs.Data.{Data, null, truth, number, text, seq, rec, alt, Items, none, item}
use Rattle.wire_model.specs.Calls.{returned, arguments, is_out, out_types, result_type}
use Rattle.wire_model.specs.MethodOf.{MethodOf}
use Rattle.wire_model.specs.Outcome.{Reaches, view_arguments, view_result, view_values}
use Rattle.wire_model.specs.Requests.{ArgumentsFit, IsAnswer}
use Rattle.wire_model.specs.Spell.{parcelable_fields, union_fields}
use Rattle.wire_model.specs.View.{field_named}

-- of the sender's field of a tag; a value that has the type has one
abbrev pub in_tag : Option Field → (Field → Bool) → Bool
in_tag None unknown = true
in_tag (Some f) unknown = unknown f

-- The receiver has no field of the name, or what stands in the alternative is unknown.
abbrev pub unless_named : Option (ℕ × Field) → (Field → Bool) → Bool
unless_named None unknown = true
unless_named (Some p) unknown = unknown p.1

abbrev mutual
  -- Null, a truth value, a number and a text have no tag. A sequence has an unknown one where an element has one, a
  -- record where for one of the receiver's fields the sender's field of its name has one. An alternative has one
  -- where the receiver has no field of its field's name, or inside.
  pub has_unknown_tag : List Decl → AidlType → List Decl → AidlType → Data → Bool
  has_unknown_tag A t B u null = false
  has_unknown_tag A t B u (truth b) = false
  has_unknown_tag A t B u (number n) = false
  has_unknown_tag A t B u (text x) = false
  has_unknown_tag A t B u (seq vs) = have_unknown_tag A (elem A t) B (elem B u) vs
  has_unknown_tag A t B u (rec vs) =
      list_any (λ g. named_has_unknown_tag A (parcelable_fields (form_of A t.base)) B g vs)
      (parcelable_fields (form_of B u.base))
  has_unknown_tag A t B u (alt k v) =
      in_tag (slice_get (union_fields (form_of A t.base)) k) (λ f.
      unless_named (field_named 0 f.name.0 (union_fields (form_of B u.base))) (λ g.
      has_unknown_tag A f.ty B g.ty v))

  -- one of these elements
  pub have_unknown_tag : List Decl → AidlType → List Decl → AidlType → Items → Bool
  have_unknown_tag A t B u none = false
  have_unknown_tag A t B u (item v vs) = has_unknown_tag A t B u v || have_unknown_tag A t B u vs

  -- the value of the sender's field that has the name of the receiver's field g; where it has no such field there
  -- is none
  pub named_has_unknown_tag : List Decl → List Field → List Decl → Field → Items → Bool
  named_has_unknown_tag A fs B g none = false
  named_has_unknown_tag A [] B g (item v vs) = false
  named_has_unknown_tag A (f ∷ fs) B g (item v vs) = if same_text f.name.0 g.name.0
      then has_unknown_tag A f.ty B g.ty v else named_has_unknown_tag A fs B g vs

-- one of the arguments of a call; of an `out` one no value is sent
abbrev pub argument_has_unknown_tag : List Decl → Arg → List Decl → Arg → Data → Bool
argument_has_unknown_tag A a B b v = if is_out a.way then false else has_unknown_tag A a.ty B b.ty v

abbrev pub arguments_have_unknown_tag : List Decl → List Arg → List Decl → List Arg → Items → Bool
arguments_have_unknown_tag A (a ∷ xs) B (b ∷ ys) (item v vs) =
    argument_has_unknown_tag A a B b v || arguments_have_unknown_tag A xs B ys vs
arguments_have_unknown_tag A (a ∷ xs) B (b ∷ ys) none = false
arguments_have_unknown_tag A (a ∷ xs) B [] vs = false
arguments_have_unknown_tag A [] B ys vs = false

-- one of the values of these types
abbrev pub values_have_unknown_tag : List Decl → List AidlType → List Decl → List AidlType → Items → Bool
values_have_unknown_tag B (t ∷ ts) A (u ∷ us) (item v vs) =
    has_unknown_tag B t A u v || values_have_unknown_tag B ts A us vs
values_have_unknown_tag B (t ∷ ts) A (u ∷ us) none = false
values_have_unknown_tag B (t ∷ ts) A [] vs = false
values_have_unknown_tag B [] A us vs = false

-- a result, where there is one
abbrev pub result_has_unknown_tag : List Decl → Option AidlType → List Decl → Option AidlType → Option Data → Bool
result_has_unknown_tag B (Some t) A (Some u) (Some v) = has_unknown_tag B t A u v
result_has_unknown_tag B (Some t) A (Some u) None = false
result_has_unknown_tag B (Some t) A None r = false
result_has_unknown_tag B None A u r = false

-- of a call of the client's method a, which is the server's method b: the server doesn't know a tag in what is sent
abbrev pub is_unknown_sent : MethodOf → MethodOf → Items → Bool
is_unknown_sent a b args =
    arguments_have_unknown_tag a.declarations (arguments a) b.declarations (arguments b) args

-- the client doesn't know one in the result, or in what comes back of an `out` or `inout` argument
abbrev pub is_unknown_answered : MethodOf → MethodOf → Option Data → Items → Bool
is_unknown_answered a b result outs =
    result_has_unknown_tag b.declarations (result_type b) a.declarations (result_type a) result
    || values_have_unknown_tag b.declarations (out_types b) a.declarations (out_types a) outs

-- What is sent has no view exactly where a tag in it is unknown.
abbrev pub TagsHinderSent : MethodOf → MethodOf → Type 0
TagsHinderSent a b = (args : Items) → Reaches a b → ArgumentsFit a.declarations (arguments a) args
    → is_none (view_arguments a.declarations (arguments a) b.declarations (arguments b) args)
    ≡ is_unknown_sent a b args

-- the same of a result and outs
abbrev pub TagsHinderAnswered : MethodOf → MethodOf → Type 0
TagsHinderAnswered a b = (result : Option Data) (outs : Items) → Reaches a b → IsAnswer b (returned result outs)
    → (is_none (view_result b.declarations (result_type b) a.declarations (result_type a) result)
    || is_none (view_values b.declarations (out_types b) a.declarations (out_types a) outs))
    ≡ is_unknown_answered a b result outs
