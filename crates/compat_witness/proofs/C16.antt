-- The backings of an enum differ: a number shows it.
use Rattle.std.proofs.Common.{◌≡◌, ℕ, ◌≤◌, ℤ, pos, Bool, true, false, not, ◌==◌, List, ◌++◌, length, Option, Some, slice_get, refl, sym, ap, ◌∙◌, subst, arith}
use Rattle.std.proofs.lemmas.Bool.Decides.{nat_tests}
use Rattle.aidl_base.specs.declared.profile.Profile.TheVariants.{Strict}
use Rattle.aidl_schema.proofs.lemmas.Sames.{same_text_is}
use Rattle.aidl_schema.specs.declared.schema.AidlType.{AidlType}
use Rattle.aidl_schema.specs.declared.schema.Backing.{Backing}
use Rattle.aidl_schema.specs.declared.schema.Backing.TheVariants as backing
use Rattle.aidl_schema.specs.declared.schema.Decl.{Decl}
use Rattle.aidl_schema.specs.declared.schema.Enumerator.{Enumerator}
use Rattle.aidl_schema.specs.declared.schema.Kind.{Kind}
use Rattle.aidl_schema.specs.declared.schema.Kind.TheVariants.{Interface, Parcelable, Union, Enum}
use Rattle.aidl_schema.specs.Broken.{Place, same_name, whole, kind_code, backing_code, C16, broken}
use Rattle.aidl_schema.specs.Constants.{in_range}
use Rattle.aidl_schema.specs.Holds.{AreApart, AllHold}
use Rattle.aidl_schema.specs.Names.{name_of}
use Rattle.aidl_schema.specs.Same.{same_text, is_named, decl_of}
use Rattle.aidl_schema.specs.Types.{form_of, form_of_decl, form_of_kind, is_one}
use Rattle.aidl_schema.specs.Unbroken.{Has}
use Rattle.aidl_base.proofs.lemmas.Tests.{both}
use Rattle.aidl_values.specs.Data.{number, none, item}
use Rattle.wire_model.specs.MethodOf.{method_of}
use Rattle.wire_model.specs.Outcome.{declared_as}
use Rattle.wire_model.specs.ReadOf.{read_of}
use Rattle.wire_model.specs.Requests.{ArgsFit, request}
use Rattle.wire_model.specs.Spell.{spell_number}
use Rattle.wire_model.specs.View.{agree, same_kind, view_of}
use Rattle.wire_model.proofs.lemmas.Lookups.{found_is, same_place, position_passes}
use Rattle.compat_witness.specs.Candidates.{Candidate, Counts, AreSmall, Shows}
use Rattle.compat_witness.specs.Candidates as candidate
use Rattle.compat_witness.specs.Reaching.{methods_reaching, asks}
use Rattle.compat_witness.specs.Rows.{candidates_if, is_empty, decl_at, zero_and_200, ask_C16, row_C16}
use Rattle.compat_witness.specs.Sides.{read_request, projected_request}
use Rattle.compat_witness.proofs.Lists.{in_front, in_back}
use Rattle.compat_witness.proofs.Entries.{entry, in_place}
use Rattle.compat_witness.proofs.Numbers.{large_byte, short_long, long_byte, long_int}
use Rattle.compat_witness.proofs.Reached.{Reached, reached, BaseOf, base_of, back_has, head_of, asked}
use Rattle.compat_witness.proofs.Single.{seen_whole, args_fit, differs_by}
use Rattle.compat_witness.proofs.Spots.{and_then_is}

pub given_is : (b : Bool) (cs ds : List Candidate) → candidates_if b cs ≡ Some ds → (b ≡ true) × (cs ≡ ds)
given_is true cs ds e = let is : cs ≡ ds = cc in (refl, is)
given_is false cs ds e = cc

pub turned : (a b : ℕ) → (a == b) ≡ true → (b == a) ≡ true
turned a b e = grind (arith, nat_tests)

-- the declaration of a name that was found is the one of that name
pub found_decl : (S : List Decl) (apart : AreApart name_of S) (p : Place) (k : ℕ) (d : Decl) → Has S d → p ≡ name_of d → declared_as S p ≡ Some k → slice_get S k ≡ Some d
found_decl S apart p k d here name e =
    let x = position_passes (λ (z : Decl). same_text p (name_of z)) S k e in
    let one : x.0 ≡ d = same_place name_of S apart x.0 d (k, x.1) here (sym (same_text_is p (name_of x.0) x.2) ∙ name) in
    x.1 ∙ ap (λ z. let o : Option Decl = Some z in o) one

-- A number that is sent for the declaration k of A.
module _ (A B : List Decl) (holds : AllHold B) (k i m : ℕ) (r : Reached A k B i m) (n : ℤ) where
  pub of_base : BaseOf A k B r.a.ty r.b.ty
  of_base = base_of A k B r.a.ty r.b.ty r.number r.one r.same_type

  pub number_fits : in_range (form_of A r.a.ty.base) n ≡ true → ArgsFit (method_of A i m) (item (number n) none)
  number_fits range =
      let shape : is_one r.a.ty.shape ≡ true = (both (is_one r.a.ty.shape) (not r.a.ty.nullable) r.one).0 in
      args_fit A B holds i m r.decl r.method r.here r.at r.other r.like r.id r.a r.b r.only_a r.only_b r.in_a r.in_b (number n)
      (record { typed = (shape, range); deep = omega arith })

  -- a number is its own view, where both are of one kind
  seen : (kind_code of_base.mine.kind == kind_code of_base.his.kind) ≡ true → view_of A r.a.ty B r.b.ty (number n) ≡ Some (number n)
  seen kinds =
      let kind : same_kind (decl_of A r.a.ty.base) (decl_of B r.b.ty.base) ≡ true =
      ap (λ b. same_kind (decl_of A b) (decl_of B r.b.ty.base)) of_base.base_a ∙ ap (λ b. same_kind (slice_get A k) (decl_of B b)) of_base.base_b
      ∙ ap (λ o. same_kind o (slice_get B of_base.number)) of_base.here ∙ ap (λ o. same_kind (Some of_base.mine) o) of_base.there ∙ kinds in
      let named : is_named r.a.ty.base ≡ true = ap is_named of_base.base_a in
      let agrees : agree A r.a.ty B r.b.ty ≡ true = rw (r.same_type, named, kind) refl in
      rw agrees refl

  pub number_differs : (kind_code of_base.mine.kind == kind_code of_base.his.kind) ≡ true → length (request (method_of A i m) (item (number n) none)) ≤ 1048576
      → (read_of Strict B 64 r.b.ty false (spell_number (form_of A r.a.ty.base) n) ≡ seen_whole (Some (number n)) → ⊥)
      → read_request (method_of A i m) B (request (method_of A i m) (item (number n) none)) ≡ projected_request (method_of A i m) B (item (number n) none) → ⊥
  number_differs kinds small differs =
      differs_by A B holds i m r.decl r.method r.here r.at r.other r.like r.id r.a r.b r.only_a r.only_b r.in_a r.in_b (number n) small
      (λ e. differs (e ∙ ap seen_whole (seen kinds)))

-- By the declarations d of A and e of B, which have one name and kind.
module _ (A B : List Decl) (holds : AllHold B) (apart : AreApart name_of B) (k l : ℕ) (d e : Decl) (mine : slice_get A k ≡ Some d) (his : slice_get B l ≡ Some e) (names : name_of d ≡ name_of e)
    (kinds : (kind_code d.kind == kind_code e.kind) ≡ true) (i m : ℕ) (has : Has (methods_reaching A k B) (i, m)) where
  r : Reached A k B i m
  r = reached A k B i m has

  b : BaseOf A k B r.a.ty r.b.ty
  b = base_of A k B r.a.ty r.b.ty r.number r.one r.same_type

  mine_is : b.mine ≡ d
  mine_is = let one : ◌≡◌ {A = Option Decl} (Some b.mine) (Some d) = sym b.here ∙ mine in cc

  his_is : b.his ≡ e
  his_is = same_place name_of B apart b.his e (b.number, b.there) (l, his) (sym b.names ∙ ap name_of mine_is ∙ names)

  form_a : form_of A r.a.ty.base ≡ form_of_kind d.kind
  form_a = ap (form_of A) b.base_a ∙ ap form_of_decl b.here ∙ ap (λ (z : Decl). form_of_kind z.kind) mine_is

  form_b : form_of B r.b.ty.base ≡ form_of_kind e.kind
  form_b = ap (form_of B) b.base_b ∙ ap form_of_decl b.there ∙ ap (λ (z : Decl). form_of_kind z.kind) his_is

  one_b : is_one r.b.ty.shape ≡ true
  one_b = (both (is_one r.b.ty.shape) (not r.b.ty.nullable) b.one_b).0

  kinds' : (kind_code b.mine.kind == kind_code b.his.kind) ≡ true
  kinds' = ap (λ (z : Decl). kind_code z.kind == kind_code b.his.kind) mine_is ∙ ap (λ (z : Decl). kind_code d.kind == kind_code z.kind) his_is ∙ kinds

  fits_way : (n : ℤ) → in_range (form_of_kind d.kind) n ≡ true → ArgsFit (method_of A i m) (item (number n) none)
  fits_way n range = number_fits A B holds k i m r n (subst (λ f. in_range f n ≡ true) (sym form_a) range)

  differs_way : (n : ℤ) → length (request (method_of A i m) (item (number n) none)) ≤ 1048576
      → ((u : AidlType) → is_one u.shape ≡ true → form_of B u.base ≡ form_of_kind e.kind → read_of Strict B 64 u false (spell_number (form_of_kind d.kind) n) ≡ seen_whole (Some (number n)) → ⊥)
      → read_request (method_of A i m) B (request (method_of A i m) (item (number n) none)) ≡ projected_request (method_of A i m) B (item (number n) none) → ⊥
  unfolding of_base b
  differs_way n small differs = number_differs A B holds k i m r n kinds' small
      (λ q. differs r.b.ty one_b form_b (subst (λ f. read_of Strict B 64 r.b.ty false (spell_number f n) ≡ seen_whole (Some (number n))) form_a q))

-- two kinds that are one, with backings that differ, are enums
enums : (x y : Kind) → (kind_code x == kind_code y) ≡ true → not (backing_code x == backing_code y) ≡ true
    → (b : Backing) × (c : Backing) × (es : List Enumerator) × (fs : List Enumerator) × (x ≡ Enum b es) × (y ≡ Enum c fs)
enums (Enum b es) (Enum c fs) kinds differ = (b, c, es, fs, refl, refl)
enums (Enum b es) (Interface ms) kinds differ = cc
enums (Enum b es) (Parcelable gs) kinds differ = cc
enums (Enum b es) (Union gs) kinds differ = cc
enums (Interface ms) (Interface ns) kinds differ = cc
enums (Interface ms) (Parcelable gs) kinds differ = cc
enums (Interface ms) (Union gs) kinds differ = cc
enums (Interface ms) (Enum c fs) kinds differ = cc
enums (Parcelable gs) (Interface ns) kinds differ = cc
enums (Parcelable gs) (Parcelable hs) kinds differ = cc
enums (Parcelable gs) (Union hs) kinds differ = cc
enums (Parcelable gs) (Enum c fs) kinds differ = cc
enums (Union gs) (Interface ns) kinds differ = cc
enums (Union gs) (Parcelable hs) kinds differ = cc
enums (Union gs) (Union hs) kinds differ = cc
enums (Union gs) (Enum c fs) kinds differ = cc

module _ (old new : List Decl) (holds_old : AllHold old) (holds_new : AllHold new) (apart_old : AreApart name_of old) (apart_new : AreApart name_of new) (p : Place) (cs : List Candidate)
    (small : AreSmall old new cs) where
  module _ (k l : ℕ) (d e : Decl) (mine : slice_get old k ≡ Some d) (his : slice_get new l ≡ Some e) (names : name_of d ≡ name_of e)
      (kinds : (kind_code d.kind == kind_code e.kind) ≡ true) (is : asks false (methods_reaching old k new) zero_and_200 ++ asks true (methods_reaching new l old) zero_and_200 ≡ cs)
      (i m : ℕ) (has : Has (methods_reaching old k new) (i, m)) where
    -- from old to new
    forth : (n : ℤ) → Has zero_and_200 (number n) → in_range (form_of_kind d.kind) n ≡ true
        → ((u : AidlType) → is_one u.shape ≡ true → form_of new u.base ≡ form_of_kind e.kind → read_of Strict new 64 u false (spell_number (form_of_kind d.kind) n) ≡ seen_whole (Some (number n)) → ⊥)
        → Shows old new cs
    forth n value range differs =
        let c = candidate.request false i m (item (number n) none) in
        let there : Has cs c = subst (λ ds. Has ds c) is (in_front (asks false (methods_reaching old k new) zero_and_200) (asks true (methods_reaching new l old) zero_and_200) c (asked false (methods_reaching old k new) zero_and_200 i m (number n) has value)) in
        let fits = fits_way old new holds_new apart_new k l d e mine his names kinds i m has n range in
        let few = small c there fits in
        (c, there, record { fits = fits; small = few }, differs_way old new holds_new apart_new k l d e mine his names kinds i m has n few differs)

    -- and from new to old
    back : (n : ℤ) → Has zero_and_200 (number n) → in_range (form_of_kind e.kind) n ≡ true
        → ((u : AidlType) → is_one u.shape ≡ true → form_of old u.base ≡ form_of_kind d.kind → read_of Strict old 64 u false (spell_number (form_of_kind e.kind) n) ≡ seen_whole (Some (number n)) → ⊥)
        → Shows old new cs
    back n value range differs =
        let r = reached old k new i m has in
        let j = r.other.interface in
        let o = r.other.position in
        let has' = back_has old new k l holds_old apart_old apart_new d e mine his names i m r in
        let kinds' : (kind_code e.kind == kind_code d.kind) ≡ true = turned (kind_code d.kind) (kind_code e.kind) kinds in
        let c = candidate.request true j o (item (number n) none) in
        let there : Has cs c = subst (λ ds. Has ds c) is (in_back (asks false (methods_reaching old k new) zero_and_200) (asks true (methods_reaching new l old) zero_and_200) c (asked true (methods_reaching new l old) zero_and_200 j o (number n) has' value)) in
        let fits = fits_way new old holds_old apart_old l k e d his mine (sym names) kinds' j o has' n range in
        let few = small c there fits in
        (c, there, record { fits = fits; small = few }, differs_way new old holds_old apart_old l k e d his mine (sym names) kinds' j o has' n few differs)

    module _ (x y : Backing) (es fs : List Enumerator) (f : d.kind ≡ Enum x es) (g : e.kind ≡ Enum y fs) where
      of_new : (u : AidlType) → form_of new u.base ≡ form_of_kind e.kind → form_of new u.base ≡ form_of_kind (Enum y fs)
      of_new u h = h ∙ ap form_of_kind g

      of_old : (u : AidlType) → form_of old u.base ≡ form_of_kind d.kind → form_of old u.base ≡ form_of_kind (Enum x es)
      of_old u h = h ∙ ap form_of_kind f

      read_forth : (u : AidlType) (n : ℤ) → read_of Strict new 64 u false (spell_number (form_of_kind d.kind) n) ≡ seen_whole (Some (number n))
          → read_of Strict new 64 u false (spell_number (form_of_kind (Enum x es)) n) ≡ seen_whole (Some (number n))
      read_forth u n = subst (λ K. read_of Strict new 64 u false (spell_number (form_of_kind K) n) ≡ seen_whole (Some (number n))) f

      read_back : (u : AidlType) (n : ℤ) → read_of Strict old 64 u false (spell_number (form_of_kind e.kind) n) ≡ seen_whole (Some (number n))
          → read_of Strict old 64 u false (spell_number (form_of_kind (Enum y fs)) n) ≡ seen_whole (Some (number n))
      read_back u n = subst (λ K. read_of Strict old 64 u false (spell_number (form_of_kind K) n) ≡ seen_whole (Some (number n))) g

    by_backings : (x y : Backing) (es fs : List Enumerator) → d.kind ≡ Enum x es → e.kind ≡ Enum y fs → not (backing_code (Enum x es) == backing_code (Enum y fs)) ≡ true → Shows old new cs
    by_backings backing.Byte backing.Byte es fs f g differ = cc
    by_backings backing.Byte backing.Int es fs f g differ = back (pos 200) (1, refl) (rw g refl) (λ u one is q. large_byte old u one (of_old backing.Byte backing.Int es fs f g u is) (read_back backing.Byte backing.Int es fs f g u (pos 200) q))
    by_backings backing.Byte backing.Long es fs f g differ = forth (pos 0) (0, refl) (rw f refl) (λ u one is q. short_long new u one (of_new backing.Byte backing.Long es fs f g u is) (read_forth backing.Byte backing.Long es fs f g u (pos 0) q))
    by_backings backing.Int backing.Byte es fs f g differ = forth (pos 200) (1, refl) (rw f refl) (λ u one is q. large_byte new u one (of_new backing.Int backing.Byte es fs f g u is) (read_forth backing.Int backing.Byte es fs f g u (pos 200) q))
    by_backings backing.Int backing.Int es fs f g differ = cc
    by_backings backing.Int backing.Long es fs f g differ = forth (pos 0) (0, refl) (rw f refl) (λ u one is q. short_long new u one (of_new backing.Int backing.Long es fs f g u is) (read_forth backing.Int backing.Long es fs f g u (pos 0) q))
    by_backings backing.Long backing.Byte es fs f g differ = forth (pos 0) (0, refl) (rw f refl) (λ u one is q. long_byte new u one (of_new backing.Long backing.Byte es fs f g u is) (read_forth backing.Long backing.Byte es fs f g u (pos 0) q))
    by_backings backing.Long backing.Int es fs f g differ = forth (pos 0) (0, refl) (rw f refl) (λ u one is q. long_int new u one (of_new backing.Long backing.Int es fs f g u is) (read_forth backing.Long backing.Int es fs f g u (pos 0) q))
    by_backings backing.Long backing.Long es fs f g differ = cc

  -- One candidate of an entry of C16 that counts differs.
  pub c16 : Has (broken old new) (16, p) → row_C16 old new p ≡ Some cs → Shows old new cs
  c16 h row =
      let e = entry old new 16 p 13 C16 refl (λ q. absurd (omega (arith, q))) (λ q. absurd (omega (arith, q))) h in
      let d = e.before in
      let said = in_place (whole d) (not (backing_code d.kind == backing_code e.after.kind)) p e.places in
      let found = found_is (λ z. same_name d z) new e.after e.there in
      let names : name_of d ≡ name_of e.after = same_text_is (name_of d) (name_of e.after) found.1 in
      let x = and_then_is (λ k. decl_at new p (λ l. ask_C16 old k new l)) (declared_as old p) cs row in
      let y = and_then_is (λ l. ask_C16 old x.0 new l) (declared_as new p) cs x.2 in
      let mine = found_decl old apart_old p x.0 d e.here said.0 x.1 in
      let his = found_decl new apart_new p y.0 e.after found.0 (said.0 ∙ names) y.1 in
      let met = given_is (not (is_empty (methods_reaching old x.0 new))) (asks false (methods_reaching old x.0 new) zero_and_200 ++ asks true (methods_reaching new y.0 old) zero_and_200) cs y.2 in
      let first = head_of (methods_reaching old x.0 new) is_empty refl met.0 in
      let two = enums d.kind e.after.kind e.kinds said.1 in
      let differ : not (backing_code (Enum two.0 two.2) == backing_code (Enum two.1 two.3)) ≡ true =
      subst (λ (z : Kind). not (backing_code z == backing_code (Enum two.1 two.3)) ≡ true) two.4 (subst (λ (z : Kind). not (backing_code d.kind == backing_code z) ≡ true) two.5 said.1) in
      by_backings x.0 y.0 d e.after mine his names e.kinds met.1 first.0.0 first.0.1 first.1 two.0 two.1 two.2 two.3 two.4 two.5 differ
