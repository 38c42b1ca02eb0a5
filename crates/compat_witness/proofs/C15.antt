-- A field of a union has another name or type in new: its tag with z0 shows it.
use Rattle.std.proofs.Common.{◌≡◌, ℕ, suc, ◌+◌, ◌<◌, ◌≤◌, ◌^◌, ℤ, pos, Bool, true, false, not, ◌&&◌, List, [], ◌∷◌, ◌++◌, length, Option, Some, None, slice_get, Ok, Err, refl, sym, ap, ◌∙◌, subst, arith}
use Rattle.std.specs.Prelude.{option_map}
use Rattle.std.specs.List.{position}
use Rattle.std.proofs.lemmas.Option.{slice_get_within}
use Rattle.aidl_base.proofs.lemmas.Tests.{both, all_at}
use Rattle.aidl_base.proofs.lemmas.Values.{truth_again}
use Rattle.aidl_base.proofs.lemmas.Words.{word_again, fits_pos}
use Rattle.aidl_base.specs.declared.profile.Profile.TheVariants.{Strict}
use Rattle.aidl_base.specs.Words.{word}
use Rattle.aidl_schema.proofs.lemmas.Sames.{same_text_is}
use Rattle.aidl_schema.specs.declared.schema.AidlType.{AidlType}
use Rattle.aidl_schema.specs.declared.schema.Decl.{Decl}
use Rattle.aidl_schema.specs.declared.schema.Field.{Field}
use Rattle.aidl_schema.specs.declared.schema.Kind.{Kind}
use Rattle.aidl_schema.specs.declared.schema.Kind.TheVariants.{Interface, Parcelable, Union, Enum}
use Rattle.aidl_schema.specs.Broken.{Place, union_fields}
use Rattle.aidl_schema.specs.Containment.{fields_of}
use Rattle.aidl_schema.specs.Holds.{AreApart, AllHold}
use Rattle.aidl_schema.specs.Names.{name_of}
use Rattle.aidl_schema.specs.Same.{same, same_text}
use Rattle.aidl_schema.specs.Types.{form_of, form_of_decl, form_of_kind, is_one, type_of_field}
use Rattle.aidl_schema.specs.Types as form
use Rattle.aidl_schema.specs.Unbroken.{Has}
use Rattle.aidl_values.specs.Data.{Data, alt, none, item}
use Rattle.wire_model.specs.Outcome.{declared_as}
use Rattle.wire_model.proofs.lemmas.Lookups.{same_place, position_passes}
use Rattle.wire_model.specs.ReadOf.{Read, ◌>>=◌, there_of, marker_at, marked_at, ok_field, tag_of, tag_at, tagged_at, union_at, read_of}
use Rattle.wire_model.specs.Spell.{spell}
use Rattle.wire_model.specs.Spell as sent
use Rattle.wire_model.specs.Status.{bad_value}
use Rattle.wire_model.specs.View.{◌>>=◌ as and_then, agree, when, field_named, view_of}
use Rattle.compat_witness.specs.Candidates.{Candidate, AreSmall, Shows}
use Rattle.compat_witness.specs.Candidates as candidate
use Rattle.compat_witness.specs.Places.{at_last_dot}
use Rattle.compat_witness.specs.Reaching.{methods_reaching, asks, is_plain, are_plain, plain_value}
use Rattle.compat_witness.specs.Rows.{is_empty, decl_at, candidates_if, differ_at, alternatives_of_decl, alternatives_in, low_alternative, ask_named, ask_C15, row_C15}
use Rattle.compat_witness.proofs.C16.{given_is}
use Rattle.compat_witness.proofs.Low.{is_bad, low_bytes, low_spelled, low_fine, no_view, not_same}
use Rattle.compat_witness.proofs.Numbers.{read_one}
use Rattle.compat_witness.proofs.Plain.{IsPlain, plain_is, plain_typed, flat_value}
use Rattle.compat_witness.proofs.Reached.{reached, base_of, head_of, asked}
use Rattle.compat_witness.proofs.Single.{seen_whole, args_fit, differs_by}
use Rattle.compat_witness.proofs.Spots.{and_then_is}

-- An alternative is read as its field.
module _ (S : List Decl) (d : ℕ) (u : AidlType) (gs : List Field) (k : ℕ) (g : Field) (at : slice_get gs k ≡ Some g) (small : k < 2 ^ 31) (bytes : List ℕ) where
  abbrev reading : AidlType → List ℕ → Read Data
  reading v c = read_of Strict S d v false c

  abbrev then_there : Read Bool → Read Bool
  then_there t = t >>= λ t. there_of u.nullable t.0 >>= λ m. Ok (m, t.1)

  abbrev then_marked : Read Bool → Read Data
  then_marked x = x >>= λ m. marked_at true (λ c. tagged_at (λ f c. reading f.ty c) gs false c) m.0 m.1

  abbrev then_tag : Read ℤ → Read ℕ
  then_tag w = w >>= λ w. tag_of w.0 >>= λ k. Ok (k, w.1)

  abbrev then_tagged : Read ℕ → Read Data
  then_tagged x = x >>= λ k. ok_field (slice_get gs k.0) >>= λ f. reading f.ty k.1 >>= λ v. Ok (alt k.0 v.0, v.1)

  abbrev then_field : Option Field → Read Data
  then_field o = ok_field o >>= λ f. reading f.ty bytes >>= λ v. Ok (alt k v.0, v.1)

  marked : marker_at Strict u.nullable false (word (pos 1) ++ (word (pos k) ++ bytes)) ≡ Ok (true, word (pos k) ++ bytes)
  unfolding marker_at
  marked = ap then_there (truth_again Strict true false (word (pos k) ++ bytes))

  tagged : tag_at false (word (pos k) ++ bytes) ≡ Ok (k, bytes)
  unfolding tag_at
  tagged = ap then_tag (word_again (pos k) false bytes (fits_pos k small))

  abbrev pub as_alternative : Read Data → Read Data
  as_alternative x = x >>= λ v. Ok (alt k v.0, v.1)

  pub alternative_read : union_at Strict true u.nullable (λ f c. reading f.ty c) gs false (word (pos 1) ++ (word (pos k) ++ bytes)) ≡ as_alternative (reading g.ty bytes)
  unfolding union_at tagged_at
  alternative_read = ap then_marked marked ∙ ap then_tagged tagged ∙ ap then_field at

-- what is found by its name
named_is : (n : ℕ) (name : List ℕ) (gs : List Field) (q : ℕ × Field) → field_named n name gs ≡ Some q → (j : ℕ) × (q.0 ≡ n + j) × (slice_get gs j ≡ Some q.1) × (same_text name q.1.name.0 ≡ true)
named_is n name [] q e = cc
named_is n name (g ∷ gs) q e = by (same_text name g.name.0) refl e (λ h. named_is (suc n) name gs q h)
  where
    by : (b : Bool) → same_text name g.name.0 ≡ b → field_named n name (g ∷ gs) ≡ Some q → (field_named (suc n) name gs ≡ Some q → (j : ℕ) × (q.0 ≡ suc n + j) × (slice_get gs j ≡ Some q.1) × (same_text name q.1.name.0 ≡ true))
        → (j : ℕ) × (q.0 ≡ n + j) × (slice_get (g ∷ gs) j ≡ Some q.1) × (same_text name q.1.name.0 ≡ true)
    by true is e later =
        let here : ◌≡◌ {A = Option (ℕ × Field)} (Some (n, g)) (Some q) = rw is at e in
        let pair : ◌≡◌ {A = ℕ × Field} (n, g) q = cc in
        let at : n ≡ q.0 = ap (λ (z : ℕ × Field). z.0) pair in
        (0, omega (arith, at), ap (λ (z : ℕ × Field). let o : Option Field = Some z.1 in o) pair, subst (λ (z : ℕ × Field). same_text name z.1.name.0 ≡ true) pair is)
    by false is e later = let r = later (rw is at e) in (suc r.0, omega (arith, r.1), r.2, r.3)

when_is : (b : Bool) (o : Option Data) (y : Data) → when b o ≡ Some y → (b ≡ true) × (o ≡ Some y)
when_is true o y e = (refl, e)
when_is false o y e = cc

-- A value of a type that has a view has the same type on the other side.
pub viewed_same : (A : List Decl) (t : AidlType) (B : List Decl) (u : AidlType) (v w : Data) → view_of A t B u v ≡ Some w → same A t B u ≡ true
viewed_same A t B u v w e = by (same A t B u) refl
  where
    by : (b : Bool) → same A t B u ≡ b → same A t B u ≡ true
    by true h = h
    by false h = let wrong : ◌≡◌ {A = Option Data} None (Some w) = sym (no_view A t B u v (not_same A t B u h)) ∙ e in cc

module _ (A B : List Decl) (t u : AidlType) (fs gs : List Field) (form_a : form_of A t.base ≡ form.union fs) (form_b : form_of B u.base ≡ form.union gs) (k : ℕ) (f g : Field)
    (at_f : slice_get fs k ≡ Some f) (at_g : slice_get gs k ≡ Some g) where
  -- An alternative that is seen at its own position has its name and type there.
  seen_there : (x y : Data) → view_of A t B u (alt k x) ≡ Some (alt k y) → (same_text f.name.0 g.name.0 ≡ true) × (same A f.ty B g.ty ≡ true)
  seen_there x y e =
      let placed : List Field → Field → Option Data = λ zs f. and_then (field_named 0 f.name.0 zs) (λ q. option_map (alt q.0) (view_of A f.ty B q.1.ty x)) in
      let one = (when_is (agree A t B u) (and_then (slice_get (sent.union_fields (form_of A t.base)) k) (placed (sent.union_fields (form_of B u.base)))) (alt k y) e).1 in
      let two : and_then (slice_get fs k) (placed gs) ≡ Some (alt k y) =
      subst (λ z. and_then (slice_get (sent.union_fields z) k) (placed gs) ≡ Some (alt k y)) form_a
      (subst (λ z. and_then (slice_get (sent.union_fields (form_of A t.base)) k) (placed (sent.union_fields z)) ≡ Some (alt k y)) form_b one) in
      let three : placed gs f ≡ Some (alt k y) = subst (λ o. and_then o (placed gs) ≡ Some (alt k y)) at_f two in
      by (field_named 0 f.name.0 gs) refl three
    where
      same_place : (j : ℕ) (h : Field) → slice_get gs j ≡ Some h → j ≡ k → h ≡ g
      same_place j h at e = let one : ◌≡◌ {A = Option Field} (Some h) (Some g) = sym at ∙ ap (slice_get gs) e ∙ at_g in cc

      by : (o : Option (ℕ × Field)) → field_named 0 f.name.0 gs ≡ o → and_then o (λ q. option_map (alt q.0) (view_of A f.ty B q.1.ty x)) ≡ Some (alt k y) → (same_text f.name.0 g.name.0 ≡ true) × (same A f.ty B g.ty ≡ true)
      by None is e = cc
      by (Some q) is e = viewed (view_of A f.ty B q.1.ty x) refl e
        where
          viewed : (o : Option Data) → view_of A f.ty B q.1.ty x ≡ o → option_map (alt q.0) o ≡ Some (alt k y) → (same_text f.name.0 g.name.0 ≡ true) × (same A f.ty B g.ty ≡ true)
          viewed None h e = cc
          viewed (Some z) h e =
              let alike : alt q.0 z ≡ alt k y = cc in
              let tag : q.0 ≡ k = cc in
              let found = named_is 0 f.name.0 gs q is in
              let place : found.0 ≡ k = omega (arith, found.1, tag) in
              let one : q.1 ≡ g = same_place found.0 q.1 found.2 place in
              (subst (λ (c : Field). same_text f.name.0 c.name.0 ≡ true) one found.3, subst (λ (c : Field). same A f.ty B c.ty ≡ true) one (viewed_same A f.ty B q.1.ty x z h))

  module _ (one_u : is_one u.shape ≡ true) (plain_f : IsPlain f.ty) (plain_g : IsPlain g.ty) (few : k < 2 ^ 31) (differ : not (same_text f.name.0 g.name.0 && same A f.ty B g.ty) ≡ true) where
    abbrev low : Data
    low = plain_value false f.ty.base

    abbrev inner : Read Data
    inner = read_of Strict B 63 g.ty false (low_bytes f.ty.base)

    spelled : spell A t (alt k low) ≡ word (pos 1) ++ (word (pos k) ++ low_bytes f.ty.base)
    spelled =
        ap (λ z. word (pos 1) ++ word (pos k) ++ spell A (type_of_field (slice_get (sent.union_fields z) k)) low) form_a
        ∙ ap (λ o. word (pos 1) ++ word (pos k) ++ spell A (type_of_field o) low) at_f
        ∙ ap (λ b. word (pos 1) ++ (word (pos k) ++ b)) (low_spelled A f.ty f.ty.base refl plain_f.built_in)

    read : read_of Strict B 64 u false (spell A t (alt k low)) ≡ as_alternative B 63 u gs k g at_g few (low_bytes f.ty.base) inner
    read = ap (read_of Strict B 64 u false) spelled ∙ read_one B 63 u false (form.union gs) (word (pos 1) ++ (word (pos k) ++ low_bytes f.ty.base)) one_u form_b
        ∙ alternative_read B 63 u gs k g at_g few (low_bytes f.ty.base)

    pub alternative_differs : read_of Strict B 64 u false (spell A t (alt k low)) ≡ seen_whole (view_of A t B u (alt k low)) → ⊥
    alternative_differs e = by (view_of A t B u (alt k low)) refl inner refl (sym read ∙ e)
      where
        clash : (a b : Bool) → a ≡ true → b ≡ true → not (a && b) ≡ true → ⊥
        clash true true p q h = cc
        clash true false p q h = cc
        clash false b p q h = cc

        by : (o : Option Data) → view_of A t B u (alt k low) ≡ o → (x : Read Data) → inner ≡ x → as_alternative B 63 u gs k g at_g few (low_bytes f.ty.base) x ≡ seen_whole o → ⊥
        by None view (Ok y) is e = cc
        by None view (Err s) is e =
            let bad : s ≡ bad_value = cc in
            let stops : inner ≡ Err bad_value = is ∙ ap (λ z. let x : Read Data = Err z in x) bad in
            let wrong : false ≡ true = sym (low_fine B 62 g.ty plain_g.one f.ty.base plain_g.built_in) ∙ ap is_bad stops in absurd cc
        by (Some y) view (Err s) is e = cc
        by (Some y) view (Ok z) is e =
            let pair : ◌≡◌ {A = Data × List ℕ} (alt k z.0, z.1) (y, []) = cc in
            let value : y ≡ alt k z.0 = sym (ap (λ (q : Data × List ℕ). q.0) pair) in
            let there = seen_there low z.0 (view ∙ ap (λ d. let o : Option Data = Some d in o) value) in
            clash (same_text f.name.0 g.name.0) (same A f.ty B g.ty) there.0 there.1 differ

-- a declaration with such a field is a union
union_is : (K : Kind) (k : ℕ) (f : Field) → slice_get (union_fields K) k ≡ Some f → (fields_of K ≡ union_fields K) × (form_of_kind K ≡ form.union (union_fields K))
union_is (Union fs) k f e = (refl, refl)
union_is (Interface ms) k f e = cc
union_is (Parcelable fs) k f e = cc
union_is (Enum b es) k f e = cc

both_there : (old new : List Decl) (o r : Option Field) → differ_at old new o r ≡ true → (f : Field) × (g : Field) × (o ≡ Some f) × (r ≡ Some g) × (not (same_text f.name.0 g.name.0 && same old f.ty new g.ty) ≡ true)
both_there old new None r e = cc
both_there old new (Some f) None e = cc
both_there old new (Some f) (Some g) e = (f, g, refl, refl, e)

module _ (old new : List Decl) (holds_old : AllHold old) (holds_new : AllHold new) (apart_old : AreApart name_of old) (apart_new : AreApart name_of new) (p : Place) (cs : List Candidate)
    (small : AreSmall old new cs) where
  by_parts : (c l : ℕ) (d e : Decl) → slice_get old c ≡ Some d → slice_get new l ≡ Some e → name_of d ≡ name_of e → (k : ℕ) (f g : Field)
      → slice_get (union_fields d.kind) k ≡ Some f → slice_get (union_fields e.kind) k ≡ Some g → not (same_text f.name.0 g.name.0 && same old f.ty new g.ty) ≡ true
      → not (is_empty (methods_reaching old c new)) ≡ true → are_plain (union_fields d.kind) ≡ true → are_plain (union_fields e.kind) ≡ true
      → asks false (methods_reaching old c new) (alt k (plain_value false f.ty.base) ∷ []) ≡ cs → Shows old new cs
  by_parts c l d e mine his names k f g at_f at_g differ some all_f all_g is =
      let fs = union_fields d.kind in
      let gs = union_fields e.kind in
      let first = head_of (methods_reaching old c new) is_empty refl some in
      let i = first.0.0 in
      let m = first.0.1 in
      let r = reached old c new i m first.1 in
      let b = base_of old c new r.a.ty r.b.ty r.number r.one r.same_type in
      let one : ◌≡◌ {A = Option Decl} (Some b.mine) (Some d) = sym b.here ∙ mine in
      let mine_is : b.mine ≡ d = cc in
      let his_is = same_place name_of new apart_new b.his e (b.number, b.there) (l, his) (sym b.names ∙ ap name_of mine_is ∙ names) in
      let kind_f = union_is d.kind k f at_f in
      let form_a : form_of old r.a.ty.base ≡ form.union fs = ap (form_of old) b.base_a ∙ ap form_of_decl b.here ∙ ap (λ (z : Decl). form_of_kind z.kind) mine_is ∙ kind_f.1 in
      let form_b : form_of new r.b.ty.base ≡ form.union gs = ap (form_of new) b.base_b ∙ ap form_of_decl b.there ∙ ap (λ (z : Decl). form_of_kind z.kind) his_is ∙ (union_is e.kind k g at_g).1 in
      let one_a = (both (is_one r.a.ty.shape) (not r.a.ty.nullable) b.one_a).0 in
      let one_b = (both (is_one r.b.ty.shape) (not r.b.ty.nullable) b.one_b).0 in
      let plain_f = plain_is f.ty (all_at (λ (z : Field). is_plain z.ty) fs k f all_f at_f) in
      let plain_g = plain_is g.ty (all_at (λ (z : Field). is_plain z.ty) gs k g all_g at_g) in
      let few_fields : length fs ≤ 4096 = subst (λ zs. length zs ≤ 4096) kind_f.0 (holds_old c d mine).few_fields in
      let few_k : k < 2 ^ 31 = omega (arith, slice_get_within fs k f at_f) in
      let low = plain_value false f.ty.base in
      let typed = plain_typed old f.ty false f.ty.base refl plain_f.one plain_f.built_in in
      let flat = flat_value old f.ty low plain_f typed in
      let fits = args_fit old new holds_new i m r.decl r.method r.here r.at r.other r.like r.id r.a r.b r.only_a r.only_b r.in_a r.in_b (alt k low)
      (record { typed = (one_a, fs, form_a, f, at_f, typed); deep = omega (arith, flat) }) in
      let ask = candidate.request false i m (item (alt k low) none) in
      let there : Has cs ask = subst (λ ds. Has ds ask) is (asked false (methods_reaching old c new) (alt k low ∷ []) i m (alt k low) first.1 (0, refl)) in
      let few = small ask there fits in (
        ask,
        there,
        record { fits = fits; small = few },
        differs_by old new holds_new i m r.decl r.method r.here r.at r.other r.like r.id r.a r.b r.only_a r.only_b r.in_a r.in_b (alt k low) few
            (alternative_differs old new r.a.ty r.b.ty fs gs form_a form_b k f g at_f at_g one_b plain_f plain_g few_k differ),
      )

  -- One candidate of an entry of C15 at a field that counts differs.
  pub c15 : row_C15 old new p ≡ Some cs → Shows old new cs
  c15 row =
      let by_decls : List ℕ × List ℕ → Option (List Candidate) = λ q. decl_at old q.0 (λ k. decl_at new q.0 (λ l. ask_named ask_C15 old k new l q.1 (alternatives_in old k) (alternatives_in new l))) in
      let y = and_then_is by_decls (at_last_dot p) cs row in
      let z = and_then_is (λ k. decl_at new y.0.0 (λ l. ask_named ask_C15 old k new l y.0.1 (alternatives_in old k) (alternatives_in new l))) (declared_as old y.0.0) cs y.2 in
      let w = and_then_is (λ l. ask_named ask_C15 old z.0 new l y.0.1 (alternatives_in old z.0) (alternatives_in new l)) (declared_as new y.0.0) cs z.2 in
      let d = position_passes (λ (q : Decl). same_text y.0.0 (name_of q)) old z.0 z.1 in
      let e = position_passes (λ (q : Decl). same_text y.0.0 (name_of q)) new w.0 w.1 in
      let names : name_of d.0 ≡ name_of e.0 = sym (same_text_is y.0.0 (name_of d.0) d.2) ∙ same_text_is y.0.0 (name_of e.0) e.2 in
      let fs = union_fields d.0.kind in
      let gs = union_fields e.0.kind in
      let asked' : ask_named ask_C15 old z.0 new w.0 y.0.1 fs gs ≡ Some cs =
      subst (λ xs. ask_named ask_C15 old z.0 new w.0 y.0.1 fs xs ≡ Some cs) (ap alternatives_of_decl e.1) (subst (λ xs. ask_named ask_C15 old z.0 new w.0 y.0.1 xs (alternatives_in new w.0) ≡ Some cs) (ap alternatives_of_decl d.1) w.2) in
      let test = λ (k : ℕ). not (is_empty (methods_reaching old z.0 new)) && ((are_plain fs && are_plain gs) && differ_at old new (slice_get fs k) (slice_get gs k)) in
      let value = λ (k : ℕ). low_alternative k fs in
      let u = and_then_is (λ k. candidates_if (test k) (asks false (methods_reaching old z.0 new) (value k ∷ []))) (position (λ (q : Field). same_text q.name.0 y.0.1) fs) cs asked' in
      let met = given_is (test u.0) (asks false (methods_reaching old z.0 new) (value u.0 ∷ [])) cs u.2 in
      let two = both (not (is_empty (methods_reaching old z.0 new))) ((are_plain fs && are_plain gs) && differ_at old new (slice_get fs u.0) (slice_get gs u.0)) met.0 in
      let three = both (are_plain fs && are_plain gs) (differ_at old new (slice_get fs u.0) (slice_get gs u.0)) two.1 in
      let four = both (are_plain fs) (are_plain gs) three.0 in
      let x = both_there old new (slice_get fs u.0) (slice_get gs u.0) three.1 in
      let is : asks false (methods_reaching old z.0 new) (alt u.0 (plain_value false x.0.ty.base) ∷ []) ≡ cs = subst (λ o. asks false (methods_reaching old z.0 new) (alt u.0 (plain_value false (type_of_field o).base) ∷ []) ≡ cs) x.2 met.1 in
      by_parts z.0 w.0 d.0 e.0 d.1 e.1 names u.0 x.0 x.1 x.2 x.3 x.4 two.0 four.0 four.1 is
