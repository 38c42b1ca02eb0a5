-- Which methods reach a declaration, and the values that are sent to it (own). A is the client's declarations, B
-- the server's, k the number of the declaration in A.
use Rattle.std.specs.Prelude.{ℕ, zero, suc, pos, Bool, true, false, not, ◌&&◌, ◌==◌, if◌then◌else◌, List, [], ◌∷◌}
use Rattle.std.specs.Prelude.{map, Option, Some, None, option_and_then}
use Rattle.std.specs.List.{filter, flat_map, list_all, enumerate_from}
use Rattle.aidl_schema.specs.declared.schema.AidlType.{AidlType}
use Rattle.aidl_schema.specs.declared.schema.Arg.{Arg}
use Rattle.aidl_schema.specs.declared.schema.Base.{Base}
use Rattle.aidl_schema.specs.declared.schema.Base.TheVariants as base
use Rattle.aidl_schema.specs.declared.schema.Decl.{Decl}
use Rattle.aidl_schema.specs.declared.schema.Field.{Field}
use Rattle.aidl_schema.specs.declared.schema.Method.{Method}
use Rattle.aidl_schema.specs.Broken.{is_one_value, is_there_and}
use Rattle.aidl_schema.specs.Methods.{is_in_way}
use Rattle.aidl_schema.specs.Names.{methods_of}
use Rattle.aidl_schema.specs.Same.{is_named, same}
use Rattle.aidl_schema.specs.Types.{Form}
use Rattle.aidl_schema.specs.Types as form
use Rattle.aidl_values.specs.Data.{Data, truth, number, text, Items, none, item}
use Rattle.aidl_values.specs.Sound.{initial_in}
use Rattle.compat_witness.specs.Candidates.{Candidate, request}
use Rattle.compat_witness.specs.Places.{spot_like}

-- a method's argument, where it has no other
abbrev pub only : List Arg → Option Arg
only [] = None
only (a ∷ []) = Some a
only (a ∷ b ∷ xs) = None

-- the declaration that a base names
abbrev pub number_of : Base → Option ℕ
number_of (base.Named n) = Some n
number_of _ = None

-- Both arguments are `in` and one value of one type, never null.
abbrev pub are_alike : List Decl → List Decl → Arg → Arg → Bool
are_alike A B a b = (is_in_way a.way && is_in_way b.way) && (is_one_value a.ty && same A a.ty B b.ty)

-- The other schema has the method by its names with the same id, and it has this one argument there too.
abbrev pub has_argument : List Decl → List Decl → ℕ → Method → Arg → Bool
has_argument A B i v a = is_there_and
    (λ s. (v.id == s.method.id) && is_there_and (are_alike A B a) (only s.method.args)) (spot_like A i v B)

-- the declaration that a method reaches: the one that its only argument is of, which it has in both
abbrev pub declaration_reached : List Decl → List Decl → ℕ → Method → Option ℕ
declaration_reached A B i v = option_and_then (λ a. option_and_then (λ n. if has_argument A B i v a then Some n
    else None) (number_of a.ty.base)) (only v.args)

-- a number is this one
abbrev pub is_at : ℕ → Option ℕ → Bool
is_at k None = false
is_at k (Some n) = n == k

-- The method reaches the declaration k.
abbrev pub reaches : List Decl → ℕ → List Decl → ℕ → Method → Bool
reaches A k B i v = is_at k (declaration_reached A B i v)

-- the methods of one interface that reach it, each with the number of its interface
abbrev pub reaching_in : List Decl → ℕ → List Decl → ℕ × Decl → List (ℕ × ℕ)
reaching_in A k B x =
    map (λ y. (x.0, y.0)) (filter (λ y. reaches A k B x.0 y.1) (enumerate_from 0 (methods_of x.1.kind)))

-- interface by interface and method by method
abbrev pub methods_reaching : List Decl → ℕ → List Decl → List (ℕ × ℕ)
methods_reaching A k B = flat_map (λ x. reaching_in A k B x) (enumerate_from 0 A)

-- requests of these methods with each of these values, method by method
abbrev pub asks : Bool → List (ℕ × ℕ) → List Data → List Candidate
asks back methods values = flat_map (λ im. map (λ v. request back im.0 im.1 (item v none)) values) methods

-- a plain type: one value of a built-in base, never null
abbrev pub is_plain : AidlType → Bool
is_plain t = is_one_value t && not (is_named t.base)

-- what a base means is a parcelable
abbrev pub is_parcelable : Form → Bool
is_parcelable (form.parcelable fs) = true
is_parcelable _ = false

-- all types of these fields are plain
abbrev pub are_plain : List Field → Bool
are_plain fs = list_all (λ f. is_plain f.ty) fs

-- z0 and z1: false and true, 0 and 1, the empty text and "a"
abbrev pub plain_value : Bool → Base → Data
plain_value high base.Boolean = truth high
plain_value high base.Text = text (if high then 97 ∷ [] else [])
plain_value high _ = number (pos (if high then 1 else 0))

-- the defaults of these fields
abbrev pub initials : List Decl → List Field → Items
initials S [] = none
initials S (f ∷ fs) = item (initial_in S f) (initials S fs)

-- z0 or z1 in the field at a position, and defaults elsewhere
abbrev pub with_value : List Decl → Bool → ℕ → List Field → Items
with_value S high k [] = none
with_value S high zero (f ∷ fs) = item (plain_value high f.ty.base) (initials S fs)
with_value S high (suc k) (f ∷ fs) = item (initial_in S f) (with_value S high k fs)
