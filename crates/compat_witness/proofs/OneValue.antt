-- What is read of a value and what it is projected to are the same for all methods that reach a declaration.
use Rattle.std.proofs.Common.{◌≡◌, ℕ, zero, suc, ◌≤◌, Bool, true, false, not, List, length, Option, Some, None, refl, sym, ap, ◌∙◌, subst}
use Rattle.aidl_base.proofs.lemmas.Tests.{both}
use Rattle.aidl_base.specs.declared.profile.Profile.TheVariants.{Strict}
use Rattle.aidl_schema.specs.declared.schema.AidlType.{AidlType}
use Rattle.aidl_schema.specs.declared.schema.Base.TheVariants as base
use Rattle.aidl_schema.specs.declared.schema.Decl.{Decl}
use Rattle.aidl_schema.specs.declared.schema.Shape.{Shape}
use Rattle.aidl_schema.specs.declared.schema.Shape.TheVariants as shape
use Rattle.aidl_schema.specs.Broken.{is_one_value}
use Rattle.aidl_schema.specs.Holds.{AreApart, AllHold}
use Rattle.aidl_schema.specs.Names.{name_of}
use Rattle.aidl_schema.specs.Types.{is_one}
use Rattle.aidl_values.specs.Data.{Data, null, truth, number, text, seq, rec, alt, none, item}
use Rattle.aidl_values.specs.HasType.{HasType}
use Rattle.wire_model.specs.MethodOf.{method_of}
use Rattle.wire_model.specs.ReadOf.{read_of}
use Rattle.wire_model.specs.Requests.{ArgsFit, request}
use Rattle.wire_model.specs.Spell.{spell}
use Rattle.wire_model.specs.View.{view_of}
use Rattle.compat_witness.specs.Alike.{AreAlike}
use Rattle.compat_witness.specs.Sides.{read_request, projected_request}
use Rattle.compat_witness.proofs.Reached.{BaseOf, base_of, Reached, reached}
use Rattle.compat_witness.proofs.Single.{args_fit, argument_fits, projected_is, read_is, same_sides, seen_whole, side_read, side_view}

-- what is seen whole is what is read to the end
whole_side : (n : ℕ) (o : Option Data) → side_read n (seen_whole o) ≡ side_view n o
whole_side n None = refl
whole_side n (Some y) = refl

-- Whether a type is on the heap or in UTF-8 changes no byte, no reading and no view.

abbrev bare : AidlType → AidlType
bare t = record { base = t.base; shape = t.shape; nullable = t.nullable; heap = false; utf8 = false }

spell_bare : (S : List Decl) (t : AidlType) (x : Data) → spell S (bare t) x ≡ spell S t x
spell_bare S t null = refl
spell_bare S t (truth b) = refl
spell_bare S t (number n) = refl
spell_bare S t (text y) = refl
spell_bare S t (seq vs) = refl
spell_bare S t (rec vs) = refl
spell_bare S t (alt k v) = refl

view_bare : (A : List Decl) (t : AidlType) (B : List Decl) (u : AidlType) (x : Data) → view_of A (bare t) B (bare u) x ≡ view_of A t B u x
view_bare A t B u null = refl
view_bare A t B u (truth b) = refl
view_bare A t B u (number n) = refl
view_bare A t B u (text y) = refl
view_bare A t B u (seq vs) = refl
view_bare A t B u (rec vs) = refl
view_bare A t B u (alt k v) = refl

read_bare : (S : List Decl) (d : ℕ) (t : AidlType) (c : List ℕ) → read_of Strict S d (bare t) false c ≡ read_of Strict S d t false c
unfolding read_of
read_bare S zero t c = refl
read_bare S (suc d) t c = refl

to_typed : (S : List Decl) (t : AidlType) (x : Data) → HasType S t x → HasType S (bare t) x
to_typed S t null h = h
to_typed S t (truth b) h = h
to_typed S t (number n) h = h
to_typed S t (text y) h = h
to_typed S t (seq vs) h = h
to_typed S t (rec vs) h = h
to_typed S t (alt k v) h = h

from_typed : (S : List Decl) (t : AidlType) (x : Data) → HasType S (bare t) x → HasType S t x
from_typed S t null h = h
from_typed S t (truth b) h = h
from_typed S t (number n) h = h
from_typed S t (text y) h = h
from_typed S t (seq vs) h = h
from_typed S t (rec vs) h = h
from_typed S t (alt k v) h = h

-- Two types of one base that are one value, never null, are the same but for that.

one_shape : (s : Shape) → is_one s ≡ true → s ≡ shape.One
one_shape shape.One e = refl
one_shape shape.Array e = cc
one_shape shape.List e = cc

never_null : (n : Bool) → not n ≡ true → n ≡ false
never_null true e = cc
never_null false e = refl

bare_value : (t : AidlType) → is_one_value t ≡ true → bare t ≡ record { base = t.base; shape = shape.One; nullable = false; heap = false; utf8 = false }
bare_value t h =
    let two = both (is_one t.shape) (not t.nullable) h in
    ap (λ s. let z : AidlType = record { base = t.base; shape = s; nullable = t.nullable; heap = false; utf8 = false } in z) (one_shape t.shape two.0)
    ∙ ap (λ n. let z : AidlType = record { base = t.base; shape = shape.One; nullable = n; heap = false; utf8 = false } in z) (never_null t.nullable two.1)

same_bare : (t u : AidlType) → t.base ≡ u.base → is_one_value t ≡ true → is_one_value u ≡ true → bare t ≡ bare u
same_bare t u e h k =
    bare_value t h ∙ ap (λ b. let z : AidlType = record { base = b; shape = shape.One; nullable = false; heap = false; utf8 = false } in z) e ∙ sym (bare_value u k)

-- what is read of a value is its view, to the end
abbrev IsSeen : List Decl → List Decl → Data → AidlType → AidlType → Type 0
IsSeen A B x t u = read_of Strict B 64 u false (spell A t x) ≡ seen_whole (view_of A t B u x)

module _ (A B : List Decl) (x : Data) (t u : AidlType) where
  to_bare : IsSeen A B x t u → IsSeen A B x (bare t) (bare u)
  to_bare e =
      read_bare B 64 u (spell A (bare t) x) ∙ ap (λ c. read_of Strict B 64 u false c) (spell_bare A t x) ∙ e ∙ ap seen_whole (sym (view_bare A t B u x))

  from_bare : IsSeen A B x (bare t) (bare u) → IsSeen A B x t u
  from_bare e =
      ap (λ c. read_of Strict B 64 u false c) (sym (spell_bare A t x)) ∙ sym (read_bare B 64 u (spell A (bare t) x)) ∙ e ∙ ap seen_whole (view_bare A t B u x)

module _ (A B : List Decl) (holds : AllHold B) (apart : AreApart name_of B) (k i m j n : ℕ) (r : Reached A k B i m) (s : Reached A k B j n) (x : Data) where
  base_r : BaseOf A k B r.a.ty r.b.ty
  base_r = base_of A k B r.a.ty r.b.ty r.number r.one r.same_type

  base_s : BaseOf A k B s.a.ty s.b.ty
  base_s = base_of A k B s.a.ty s.b.ty s.number s.one s.same_type

  -- both are of one declaration of B, since its names are apart
  one_number : base_r.number ≡ base_s.number
  one_number =
      let one : ◌≡◌ {A = Option Decl} (Some base_r.mine) (Some base_s.mine) = sym base_r.here ∙ base_s.here in
      let same_mine : base_r.mine ≡ base_s.mine = cc in
      apart base_r.number base_s.number base_r.his base_s.his base_r.there base_s.there (sym base_r.names ∙ ap name_of same_mine ∙ base_s.names)

  bare_a : bare r.a.ty ≡ bare s.a.ty
  bare_a = same_bare r.a.ty s.a.ty (base_r.base_a ∙ sym base_s.base_a) base_r.one_a base_s.one_a

  bare_b : bare r.b.ty ≡ bare s.b.ty
  bare_b = same_bare r.b.ty s.b.ty (base_r.base_b ∙ ap base.Named one_number ∙ sym base_s.base_b) base_r.one_b base_s.one_b

  seen_too : IsSeen A B x r.a.ty r.b.ty → IsSeen A B x s.a.ty s.b.ty
  seen_too e =
      from_bare A B x s.a.ty s.b.ty (subst (λ t. IsSeen A B x t (bare s.b.ty)) bare_a (subst (λ u. IsSeen A B x (bare r.a.ty) u) bare_b (to_bare A B x r.a.ty r.b.ty e)))

  -- The value fits the one, and so it does the other.
  fits_too : ArgsFit (method_of A j n) (item x none) → ArgsFit (method_of A i m) (item x none)
  fits_too h =
      let fits = argument_fits A B holds j n s.decl s.method s.here s.at s.other s.like s.id s.a s.b s.only_a s.only_b s.in_a s.in_b x h in
      args_fit A B holds i m r.decl r.method r.here r.at r.other r.like r.id r.a r.b r.only_a r.only_b r.in_a r.in_b x
      (record { typed = from_typed A r.a.ty x (subst (λ t. HasType A t x) (sym bare_a) (to_typed A s.a.ty x fits.typed)); deep = fits.deep })

  -- The sides of the one are equal, and so are those of the other.
  equal_too : length (request (method_of A i m) (item x none)) ≤ 1048576 → length (request (method_of A j n) (item x none)) ≤ 1048576
      → read_request (method_of A i m) B (request (method_of A i m) (item x none)) ≡ projected_request (method_of A i m) B (item x none)
      → read_request (method_of A j n) B (request (method_of A j n) (item x none)) ≡ projected_request (method_of A j n) B (item x none)
  equal_too few_r few_s e =
      let seen = same_sides r.other.position (read_of Strict B 64 r.b.ty false (spell A r.a.ty x)) (view_of A r.a.ty B r.b.ty x)
      (sym (read_is A B holds i m r.decl r.method r.here r.at r.other r.like r.id r.a r.b r.only_a r.only_b r.in_a r.in_b x few_r) ∙ e
      ∙ projected_is A B holds i m r.decl r.method r.here r.at r.other r.like r.id r.a r.b r.only_a r.only_b r.in_a r.in_b x) in
      read_is A B holds j n s.decl s.method s.here s.at s.other s.like s.id s.a s.b s.only_a s.only_b s.in_a s.in_b x few_s
      ∙ ap (side_read s.other.position) (seen_too seen) ∙ whole_side s.other.position (view_of A s.a.ty B s.b.ty x)
      ∙ sym (projected_is A B holds j n s.decl s.method s.here s.at s.other s.like s.id s.a s.b s.only_a s.only_b s.in_a s.in_b x)

-- What counts and differs at one method does at another, where it isn't too long.
pub alike : (A B : List Decl) → AllHold B → AreApart name_of B → AreAlike A B
alike A B holds apart k r s has_r has_s x short counts differs =
    let at_r = reached A k B r.0 r.1 has_r in
    let at_s = reached A k B s.0 s.1 has_s in
    let fits = fits_too A B holds apart k r.0 r.1 s.0 s.1 at_r at_s x counts.fits in (
      record { fits = fits; small = short fits },
      λ equal. differs (equal_too A B holds apart k r.0 r.1 s.0 s.1 at_r at_s x (short fits) counts.small equal),
    )
