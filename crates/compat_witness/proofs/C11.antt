-- The type of the last field of a parcelable differs: z0 in it shows it, one way or the other. Of the two values of eight or four zeros, the longer
-- is read by the shorter type, and what is left over in a record is skipped; while it has no view.
use Rattle.std.proofs.Common.{◌≡◌, ℕ, zero, suc, ◌+◌, ◌≤◌, pos, Bool, true, false, not, ◌&&◌, ◌==◌, List, [], ◌∷◌, ◌++◌, length, take, Option, Some, None, slice_get, Ok, ◌⊎◌, inl, inr, refl, sym, ap, ◌∙◌, subst, arith, length-append}
use Rattle.std.specs.Prelude.{option_map}
use Rattle.std.specs.List.{position, zip}
use Rattle.std.proofs.lemmas.Bool.Decides.{nat_tests}
use Rattle.std.proofs.lemmas.List.{append-nil}
use Rattle.aidl_base.proofs.lemmas.Tests.{both}
use Rattle.aidl_base.proofs.lemmas.Values.{truth_word}
use Rattle.aidl_base.specs.declared.profile.Profile.TheVariants.{Strict}
use Rattle.aidl_base.specs.Identifiers.{is_identifier}
use Rattle.aidl_base.specs.Words.{word}
use Rattle.aidl_schema.proofs.lemmas.Places.{unzipped}
use Rattle.aidl_schema.proofs.lemmas.Sames.{same_text_is, same_text_sym, same_sym}
use Rattle.aidl_schema.specs.declared.schema.Base.{Base}
use Rattle.aidl_schema.specs.declared.schema.Base.TheVariants as base
use Rattle.aidl_schema.specs.declared.schema.Decl.{Decl}
use Rattle.aidl_schema.specs.declared.schema.Field.{Field}
use Rattle.aidl_schema.specs.Broken.{Place, member, same_name, parcelable_fields, C11, broken}
use Rattle.aidl_schema.specs.Containment.{fields_of}
use Rattle.aidl_schema.specs.Holds.{AreApart, AllHold}
use Rattle.aidl_schema.specs.Names.{name_of}
use Rattle.aidl_schema.specs.Same.{same, same_text}
use Rattle.aidl_schema.specs.Types.{form_of, form_of_decl, form_of_kind, is_one}
use Rattle.aidl_schema.specs.Types as form
use Rattle.aidl_schema.specs.Unbroken.{Has}
use Rattle.aidl_values.specs.Data.{Data, rec, Items, none, item, depth_of}
use Rattle.aidl_values.specs.HasType.{FieldsHaveType}
use Rattle.aidl_values.specs.Sound.{initial_in, HaveDefaults, IsSound}
use Rattle.wire_model.specs.Outcome.{declared_as}
use Rattle.wire_model.specs.ReadOf.{Read, read_of}
use Rattle.wire_model.specs.Calls.{descriptor, arguments}
use Rattle.wire_model.specs.MethodOf.{method_of}
use Rattle.wire_model.specs.Reads.{Reads, FieldsRead}
use Rattle.wire_model.specs.Requests.{ArgsFit, argument_parts, request, token}
use Rattle.wire_model.specs.Spell.{spell, spell_fields, body}
use Rattle.wire_model.specs.Spell as sent
use Rattle.wire_model.specs.View.{agree, when, item_first, each_field, or_initial, view_of, view_named}
use Rattle.wire_model.proofs.lemmas.Lookups.{found_is, same_place, position_passes}
use Rattle.wire_model.proofs.lemmas.Reading.{reads_read}
use Rattle.wire_model.proofs.lemmas.Sound.{is_whole}
use Rattle.wire_model.proofs.lemmas.spelled.Reads.{spelled_reads}
use Rattle.wire_model.proofs.lemmas.spelled.Sizes.{spell_fields_whole}
use Rattle.compat_witness.specs.Candidates.{Candidate, AreSmall, Shows}
use Rattle.compat_witness.specs.Candidates as candidate
use Rattle.compat_witness.specs.Places.{at_last_dot}
use Rattle.compat_witness.specs.Reaching.{methods_reaching, asks, are_plain, is_plain, plain_value, with_value}
use Rattle.compat_witness.specs.Rows.{is_empty, decl_at, candidates_if, types_agree, names_agree, fields_of_parcelable, fields_in, is_last, low_either_way, ask_named, ask_C11, row_C11}
use Rattle.compat_witness.specs.Sides.{read_request, projected_request}
use Rattle.compat_witness.proofs.Entries.{entry, in_places}
use Rattle.compat_witness.proofs.C10.{argument_type, parcelable_is}
use Rattle.compat_witness.proofs.C16.{given_is, found_decl}
use Rattle.compat_witness.proofs.Lists.{in_front, in_back}
use Rattle.compat_witness.proofs.Low.{four, eight, low_bytes, low_spelled, four_or_eight, no_view, not_same}
use Rattle.compat_witness.proofs.Plain.{plain_is, plain_typed, plain_reads, shared, with_typed, flat_fields}
use Rattle.compat_witness.proofs.Reached.{Reached, reached, base_of, back_has, head_of, asked}
use Rattle.compat_witness.proofs.Single.{seen_whole, args_fit, part_is, differs_by}
use Rattle.compat_witness.proofs.Spots.{and_then_is, cut_member, all_mapped}

flat_low : (b : Base) → depth_of (plain_value false b) ≡ 0
flat_low base.Boolean = refl
flat_low base.Byte = refl
flat_low base.Char = refl
flat_low base.Int = refl
flat_low base.Long = refl
flat_low base.Text = refl
flat_low (base.Named n) = refl

few_low : (b : Base) → length (low_bytes b) ≤ 1048576
few_low b = by (four_or_eight b)
  where
    by : (low_bytes b ≡ four) ⊎ (low_bytes b ≡ eight) → length (low_bytes b) ≤ 1048576
    by (inl e) = subst (λ b. length b ≤ 1048576) (sym e) (omega arith)
    by (inr e) = subst (λ b. length b ≤ 1048576) (sym e) (omega arith)

-- of z0 of two bases one begins with the other
low_front : (b c : Base) → ((rest : List ℕ) × (low_bytes b ≡ low_bytes c ++ rest)) ⊎ ((rest : List ℕ) × (low_bytes c ≡ low_bytes b ++ rest))
low_front b c = by (four_or_eight b) (four_or_eight c)
  where
    by : (low_bytes b ≡ four) ⊎ (low_bytes b ≡ eight) → (low_bytes c ≡ four) ⊎ (low_bytes c ≡ eight)
        → ((rest : List ℕ) × (low_bytes b ≡ low_bytes c ++ rest)) ⊎ ((rest : List ℕ) × (low_bytes c ≡ low_bytes b ++ rest))
    by (inl e) (inl f) = inl ([], e ∙ ap (λ x. x ++ []) (sym f))
    by (inr e) (inl f) = inl (four, e ∙ ap (λ x. x ++ four) (sym f))
    by (inl e) (inr f) = inr (four, f ∙ ap (λ x. x ++ four) (sym e))
    by (inr e) (inr f) = inl ([], e ∙ ap (λ x. x ++ []) (sym f))

-- the fields before the last are read as they are, the last as z0 of its own type
module _ (A B : List Decl) (d : ℕ) where
  pub last_read : (k : ℕ) (fs gs : List Field) (f g : Field) (rest : List ℕ) → slice_get fs k ≡ Some f → slice_get gs k ≡ Some g → k + 1 ≡ length fs → names_agree fs gs ≡ true
      → are_plain fs ≡ true → are_plain gs ≡ true → types_agree A (take k fs) B gs ≡ true → HaveDefaults A fs → low_bytes f.ty.base ≡ low_bytes g.ty.base ++ rest
      → length (spell_fields A fs (with_value A false k fs)) ≤ 1048576
      → (ws : Items) × FieldsRead B (λ u b v. Reads Strict B d u b v) gs (spell_fields A fs (with_value A false k fs)) ws × FieldsHaveType B gs ws
  last_read k [] gs f g rest at_f at_g last names pf pg agree have low small = cc
  last_read k (x ∷ fs) [] f g rest at_f at_g last names pf pg agree have low small = cc
  last_read zero (x ∷ a ∷ fs) (y ∷ gs) f g rest at_f at_g last names pf pg agree have low small = absurd (omega (arith, last))
  last_read zero (x ∷ []) (y ∷ b ∷ gs) f g rest at_f at_g last names pf pg agree have low small = let wrong : names_agree [] (b ∷ gs) ≡ true = (both (same_text x.name.0 y.name.0) false names).1 in cc
  last_read zero (x ∷ []) (y ∷ []) f g rest at_f at_g last names pf pg agree have low small =
      let one : x ≡ f = cc in
      let two : y ≡ g = cc in
      let p = plain_is x.ty (both (is_plain x.ty) true pf).0 in
      let q = plain_is y.ty (both (is_plain y.ty) true pg).0 in
      let z = plain_value false y.ty.base in
      let typed = plain_typed B y.ty false y.ty.base refl q.one q.built_in in
      let few : length (spell B y.ty z) ≤ 1048576 = subst (λ b. length b ≤ 1048576) (sym (low_spelled B y.ty y.ty.base refl q.built_in)) (few_low y.ty.base) in
      let reads = subst (λ b. Reads Strict B d y.ty b z) (low_spelled B y.ty y.ty.base refl q.built_in) (spelled_reads Strict B d y.ty z typed (omega (arith, flat_low y.ty.base)) few) in
      let cut : low_bytes x.ty.base ≡ low_bytes y.ty.base ++ rest = subst (λ (c : Field). low_bytes c.ty.base ≡ low_bytes y.ty.base ++ rest) (sym one) (subst (λ (c : Field). low_bytes f.ty.base ≡ low_bytes c.ty.base ++ rest) (sym two) low) in
      let whole = append-nil (spell A x.ty (plain_value false x.ty.base)) ∙ low_spelled A x.ty x.ty.base refl p.built_in ∙ cut in
      (item z none, inr (low_bytes y.ty.base, rest, whole, reads, tt), (typed, tt))
  last_read (suc k) (x ∷ fs) (y ∷ gs) f g rest at_f at_g last names pf pg agree have low small =
      let v = initial_in A x in
      let vs = with_value A false k fs in
      let sum = length-append (spell A x.ty v) (spell_fields A fs vs) in
      let plain_f = both (is_plain x.ty) (are_plain fs) pf in
      let plain_g = both (is_plain y.ty) (are_plain gs) pg in
      let types = both (same A x.ty B y.ty) (types_agree A (take k fs) B gs) agree in
      let called = both (same_text x.name.0 y.name.0) (names_agree fs gs) names in
      let one = plain_is x.ty plain_f.0 in
      let two = plain_is y.ty plain_g.0 in
      let later = last_read k fs gs f g rest at_f at_g (omega (arith, last)) called.1 plain_f.1 plain_g.1 types.1 have.1 low (omega arith) in (
        item v later.0,
        inr (spell A x.ty v, spell_fields A fs vs, refl, plain_reads A B x.ty y.ty one two types.0 d v have.0.1 (omega arith), later.1),
        ((shared A B x.ty y.ty one two types.0 v have.0.1).typed, later.2),
      )

-- by its name the last field isn't seen
at_name : (A B : List Decl) (g : Field) (k : ℕ) (fs : List Field) (f : Field) → slice_get fs k ≡ Some f → same_text f.name.0 g.name.0 ≡ true
    → ((j : ℕ) (h : Field) → slice_get fs j ≡ Some h → same_text h.name.0 g.name.0 ≡ true → j ≡ k) → view_named A fs B g (with_value A false k fs) ≡ Some (view_of A f.ty B g.ty (plain_value false f.ty.base))
at_name A B g k [] f at is only = cc
at_name A B g zero (x ∷ fs) f at is only =
    let one : x ≡ f = cc in
    let here : same_text x.name.0 g.name.0 ≡ true = subst (λ (c : Field). same_text c.name.0 g.name.0 ≡ true) (sym one) is in
    rw here (ap (λ (c : Field). let o : Option (Option Data) = Some (view_of A c.ty B g.ty (plain_value false c.ty.base)) in o) one)
at_name A B g (suc k) (x ∷ fs) f at is only = by (same_text x.name.0 g.name.0) refl (at_name A B g k fs f at is (λ j h p q. omega (arith, only (suc j) h p q)))
  where
    by : (b : Bool) → same_text x.name.0 g.name.0 ≡ b → view_named A fs B g (with_value A false k fs) ≡ Some (view_of A f.ty B g.ty (plain_value false f.ty.base))
        → view_named A (x ∷ fs) B g (with_value A false (suc k) (x ∷ fs)) ≡ Some (view_of A f.ty B g.ty (plain_value false f.ty.base))
    by true q later = absurd (omega (arith, only 0 x refl q))
    by false q later = rw q later

-- a record with such a field isn't seen
none_at : (F : Field → Option Data) (gs : List Field) (k : ℕ) (g : Field) → slice_get gs k ≡ Some g → F g ≡ None → each_field F gs ≡ None
none_at F [] k g at h = cc
none_at F (y ∷ gs) zero g at h = let one : y ≡ g = cc in let here : F y ≡ None = ap F one ∙ h in rw here refl
none_at F (y ∷ gs) (suc k) g at h = by (F y) (each_field F gs) (none_at F gs k g at h)
  where
    by : (o : Option Data) (os : Option Items) → os ≡ None → item_first o os ≡ None
    by None os e = refl
    by (Some v) None e = refl
    by (Some v) (Some vs) e = cc

when_none : (b : Bool) (o : Option Data) → o ≡ None → when b o ≡ None
when_none true o e = e
when_none false o e = refl

module _ (A B : List Decl) (sound_A : IsSound A) (sound_B : IsSound B) (holds_A : AllHold A) (holds_B : AllHold B) (c i m : ℕ) (r : Reached A c B i m) (fs gs : List Field)
    (form_a : form_of A r.a.ty.base ≡ form.parcelable fs) (form_b : form_of B r.b.ty.base ≡ form.parcelable gs) (one_a : is_one r.a.ty.shape ≡ true) (one_b : is_one r.b.ty.shape ≡ true)
    (plain_f : are_plain fs ≡ true) (plain_g : are_plain gs ≡ true) (k : ℕ) (f g : Field) (at_f : slice_get fs k ≡ Some f) (at_g : slice_get gs k ≡ Some g)
    (last : k + 1 ≡ length fs) (names : names_agree fs gs ≡ true) (agreed : types_agree A (take k fs) B gs ≡ true) (differ : same A f.ty B g.ty ≡ false) (named : same_text f.name.0 g.name.0 ≡ true)
    (only : (j : ℕ) (h : Field) → slice_get fs j ≡ Some h → same_text h.name.0 g.name.0 ≡ true → j ≡ k) (rest : List ℕ) (low : low_bytes f.ty.base ≡ low_bytes g.ty.base ++ rest) where
  abbrev pub value : Data
  value = rec (with_value A false k fs)

  have_a : HaveDefaults A fs
  have_a = ((is_whole A sound_A).fields r.a.ty.base fs form_a).1

  typed : FieldsHaveType A fs (with_value A false k fs)
  typed = with_typed A false k fs plain_f have_a

  pub value_fits : ArgsFit (method_of A i m) (item value none)
  value_fits = args_fit A B holds_B i m r.decl r.method r.here r.at r.other r.like r.id r.a r.b r.only_a r.only_b r.in_a r.in_b value
      (record { typed = (one_a, fs, form_a, typed); deep = omega (arith, flat_fields A fs (with_value A false k fs) plain_f typed) })

  value_small : length (request (method_of A i m) (item value none)) ≤ 1048576 → length (spell A r.a.ty value) ≤ 1048576
  value_small small =
      let part = part_is A B holds_B i m r.decl r.method r.here r.at r.other r.like r.id r.a r.b r.only_a r.only_b r.in_a r.in_b value in
      omega (arith, length-append (token (descriptor A i)) (argument_parts A (arguments (method_of A i m)) (item value none)), ap length part)

  -- it is read to the end
  value_read : length (request (method_of A i m) (item value none)) ≤ 1048576 → (ws : Items) × (read_of Strict B 64 r.b.ty false (spell A r.a.ty value) ≡ Ok (rec ws, []))
  value_read small =
      let vs = with_value A false k fs in
      let inner = spell_fields A fs vs in
      let spelled : spell A r.a.ty value ≡ word (pos 1) ++ body inner = ap (λ gs. word (pos 1) ++ body (spell_fields A gs vs)) (ap sent.parcelable_fields form_a) in
      let words = spell_fields_whole A fs vs in
      let sum = length-append (word (pos 1)) (body inner) in
      let sum' = length-append (word (pos (4 + length inner))) inner in
      let fits : length inner ≤ 1048576 = omega (arith, ap length spelled, value_small small) in
      let x = last_read A B 63 k fs gs f g rest at_f at_g last names plain_f plain_g agreed have_a low fits in
      let reads : Reads Strict B 64 r.b.ty (spell A r.a.ty value) (rec x.0) =
      ((one_b, gs, form_b, x.2), gs, form_b, word (pos 1), body inner, spelled, truth_word Strict true, (inner, refl, omega (arith, words.1), omega arith, x.1)) in (
        x.0,
        ap (read_of Strict B 64 r.b.ty false) (sym (append-nil (spell A r.a.ty value)))
            ∙ reads_read Strict B sound_B 64 r.b.ty (argument_type B holds_B r.other r.like.spot r.b r.only_b) false (spell A r.a.ty value) [] (rec x.0) reads,
      )

  -- and isn't seen
  not_seen : view_of A r.a.ty B r.b.ty value ≡ None
  not_seen =
      let fields : List Field → List Field → Option Items = λ xs ys. each_field (λ y. or_initial (view_named A xs B y (with_value A false k fs)) (initial_in B y)) ys in
      let field : or_initial (view_named A fs B g (with_value A false k fs)) (initial_in B g) ≡ None =
      ap (λ o. or_initial o (initial_in B g)) (at_name A B g k fs f at_f named only) ∙ no_view A f.ty B g.ty (plain_value false f.ty.base) (not_same A f.ty B g.ty differ) in
      let each : fields fs gs ≡ None = none_at (λ y. or_initial (view_named A fs B y (with_value A false k fs)) (initial_in B y)) gs k g at_g field in
      when_none (agree A r.a.ty B r.b.ty) _ (ap (option_map rec)
      (ap (λ x. fields (sent.parcelable_fields x) (sent.parcelable_fields (form_of B r.b.ty.base))) form_a ∙ ap (λ x. fields fs (sent.parcelable_fields x)) form_b ∙ each))

  pub value_differs : length (request (method_of A i m) (item value none)) ≤ 1048576 → read_request (method_of A i m) B (request (method_of A i m) (item value none)) ≡ projected_request (method_of A i m) B (item value none) → ⊥
  value_differs small =
      differs_by A B holds_B i m r.decl r.method r.here r.at r.other r.like r.id r.a r.b r.only_a r.only_b r.in_a r.in_b value small
      (λ e. clash (value_read small) (e ∙ ap seen_whole not_seen))
    where
      clash : (x : (ws : Items) × (read_of Strict B 64 r.b.ty false (spell A r.a.ty value) ≡ Ok (rec ws, []))) → read_of Strict B 64 r.b.ty false (spell A r.a.ty value) ≡ seen_whole None → ⊥
      clash x e = let wrong : ◌≡◌ {A = Read Data} (Ok (rec x.0, [])) (seen_whole None) = sym x.1 ∙ e in absurd cc

-- the condition, the other way round
types_back : (old new : List Decl) (k : ℕ) (fs gs : List Field) → types_agree old (take k fs) new gs ≡ true → types_agree new (take k gs) old fs ≡ true
types_back old new zero [] [] h = refl
types_back old new zero [] (g ∷ gs) h = refl
types_back old new zero (f ∷ fs) [] h = refl
types_back old new zero (f ∷ fs) (g ∷ gs) h = refl
types_back old new (suc k) [] [] h = refl
types_back old new (suc k) [] (g ∷ gs) h = refl
types_back old new (suc k) (f ∷ fs) [] h = refl
types_back old new (suc k) (f ∷ fs) (g ∷ gs) h =
    let two = both (same old f.ty new g.ty) (types_agree old (take k fs) new gs) h in
    rw (same_sym old f.ty new g.ty two.0) (types_back old new k fs gs two.1)

names_back : (fs gs : List Field) → names_agree fs gs ≡ true → (names_agree gs fs ≡ true) × (length fs ≡ length gs)
names_back [] [] h = (refl, refl)
names_back [] (g ∷ gs) h = cc
names_back (f ∷ fs) [] h = cc
names_back (f ∷ fs) (g ∷ gs) h =
    let two = both (same_text f.name.0 g.name.0) (names_agree fs gs) h in
    let later = names_back fs gs two.1 in
    (rw (same_text_sym g.name.0 f.name.0 ∙ two.0) later.0, ap suc later.1)

flipped : (b : Bool) → not b ≡ true → b ≡ false
flipped true h = cc
flipped false h = refl

nat_is : (m n : ℕ) → (m == n) ≡ true → m ≡ n
nat_is m n e = grind (arith, nat_tests)

module _ (old new : List Decl) (sound_old : IsSound old) (sound_new : IsSound new) (holds_old : AllHold old) (holds_new : AllHold new) (apart_old : AreApart name_of old) (apart_new : AreApart name_of new)
    (p : Place) (cs : List Candidate) (small : AreSmall old new cs) where
  module _ (c l : ℕ) (d e : Decl) (mine : slice_get old c ≡ Some d) (his : slice_get new l ≡ Some e) (names : name_of d ≡ name_of e) (k : ℕ) (f g : Field)
      (at_f : slice_get (parcelable_fields d.kind) k ≡ Some f) (at_g : slice_get (parcelable_fields e.kind) k ≡ Some g) (differ : same old f.ty new g.ty ≡ false) (named : same_text f.name.0 g.name.0 ≡ true)
      (some : not (is_empty (methods_reaching old c new)) ≡ true) (plain_f : are_plain (parcelable_fields d.kind) ≡ true) (plain_g : are_plain (parcelable_fields e.kind) ≡ true)
      (called : names_agree (parcelable_fields d.kind) (parcelable_fields e.kind) ≡ true) (last : k + 1 ≡ length (parcelable_fields d.kind))
      (agreed : types_agree old (take k (parcelable_fields d.kind)) new (parcelable_fields e.kind) ≡ true) where
    abbrev fs : List Field
    fs = parcelable_fields d.kind

    abbrev gs : List Field
    gs = parcelable_fields e.kind

    abbrev forth_asks : List Candidate
    forth_asks = asks false (methods_reaching old c new) (rec (with_value old false k fs) ∷ [])

    abbrev back_asks : List Candidate
    back_asks = asks true (methods_reaching new l old) (rec (with_value new false k gs) ∷ [])

    first : (im : ℕ × ℕ) × Has (methods_reaching old c new) im
    first = head_of (methods_reaching old c new) is_empty refl some

    -- a field of that name is at that place
    only_f : (j : ℕ) (h : Field) → slice_get fs j ≡ Some h → same_text h.name.0 g.name.0 ≡ true → j ≡ k
    only_f j h at q =
        let fields = (parcelable_is d.kind k f at_f).0 in
        (holds_old c d mine).fields j k h f (ap (λ zs. slice_get zs j) fields ∙ at) (ap (λ zs. slice_get zs k) fields ∙ at_f) (same_text_is h.name.0 g.name.0 q ∙ sym (same_text_is f.name.0 g.name.0 named))

    only_g : (j : ℕ) (h : Field) → slice_get gs j ≡ Some h → same_text h.name.0 f.name.0 ≡ true → j ≡ k
    only_g j h at q =
        let fields = (parcelable_is e.kind k g at_g).0 in
        (holds_new l e his).fields j k h g (ap (λ zs. slice_get zs j) fields ∙ at) (ap (λ zs. slice_get zs k) fields ∙ at_g) (same_text_is h.name.0 f.name.0 q ∙ same_text_is f.name.0 g.name.0 named)

    forth : forth_asks ++ back_asks ≡ cs → (rest : List ℕ) → low_bytes f.ty.base ≡ low_bytes g.ty.base ++ rest → Shows old new cs
    forth is rest low =
        let i = first.0.0 in
        let m = first.0.1 in
        let r = reached old c new i m first.1 in
        let b = base_of old c new r.a.ty r.b.ty r.number r.one r.same_type in
        let one : ◌≡◌ {A = Option Decl} (Some b.mine) (Some d) = sym b.here ∙ mine in
        let mine_is : b.mine ≡ d = cc in
        let his_is = same_place name_of new apart_new b.his e (b.number, b.there) (l, his) (sym b.names ∙ ap name_of mine_is ∙ names) in
        let form_a : form_of old r.a.ty.base ≡ form.parcelable fs = ap (form_of old) b.base_a ∙ ap form_of_decl b.here ∙ ap (λ (z : Decl). form_of_kind z.kind) mine_is ∙ (parcelable_is d.kind k f at_f).1 in
        let form_b : form_of new r.b.ty.base ≡ form.parcelable gs = ap (form_of new) b.base_b ∙ ap form_of_decl b.there ∙ ap (λ (z : Decl). form_of_kind z.kind) his_is ∙ (parcelable_is e.kind k g at_g).1 in
        let one_a = (both (is_one r.a.ty.shape) (not r.a.ty.nullable) b.one_a).0 in
        let one_b = (both (is_one r.b.ty.shape) (not r.b.ty.nullable) b.one_b).0 in
        let v = rec (with_value old false k fs) in
        let ask = candidate.request false i m (item v none) in
        let there : Has cs ask = subst (λ ds. Has ds ask) is (in_front forth_asks back_asks ask (asked false (methods_reaching old c new) (v ∷ []) i m v first.1 (0, refl))) in
        let fits = value_fits old new sound_old sound_new holds_old holds_new c i m r fs gs form_a form_b one_a one_b plain_f plain_g k f g at_f at_g last called agreed differ named only_f rest low in
        let few = small ask there fits in (
          ask,
          there,
          record { fits = fits; small = few },
          value_differs old new sound_old sound_new holds_old holds_new c i m r fs gs form_a form_b one_a one_b plain_f plain_g k f g at_f at_g last called agreed differ named only_f rest low few,
        )

    back : forth_asks ++ back_asks ≡ cs → (rest : List ℕ) → low_bytes g.ty.base ≡ low_bytes f.ty.base ++ rest → Shows old new cs
    back is rest low =
        let s = reached old c new first.0.0 first.0.1 first.1 in
        let i = s.other.interface in
        let m = s.other.position in
        let has = back_has old new c l holds_old apart_old apart_new d e mine his names first.0.0 first.0.1 s in
        let r = reached new l old i m has in
        let b = base_of new l old r.a.ty r.b.ty r.number r.one r.same_type in
        let one : ◌≡◌ {A = Option Decl} (Some b.mine) (Some e) = sym b.here ∙ his in
        let mine_is : b.mine ≡ e = cc in
        let his_is = same_place name_of old apart_old b.his d (b.number, b.there) (c, mine) (sym b.names ∙ ap name_of mine_is ∙ sym names) in
        let form_a : form_of new r.a.ty.base ≡ form.parcelable gs = ap (form_of new) b.base_a ∙ ap form_of_decl b.here ∙ ap (λ (z : Decl). form_of_kind z.kind) mine_is ∙ (parcelable_is e.kind k g at_g).1 in
        let form_b : form_of old r.b.ty.base ≡ form.parcelable fs = ap (form_of old) b.base_b ∙ ap form_of_decl b.there ∙ ap (λ (z : Decl). form_of_kind z.kind) his_is ∙ (parcelable_is d.kind k f at_f).1 in
        let one_a = (both (is_one r.a.ty.shape) (not r.a.ty.nullable) b.one_a).0 in
        let one_b = (both (is_one r.b.ty.shape) (not r.b.ty.nullable) b.one_b).0 in
        let v = rec (with_value new false k gs) in
        let ask = candidate.request true i m (item v none) in
        let there : Has cs ask = subst (λ ds. Has ds ask) is (in_back forth_asks back_asks ask (asked true (methods_reaching new l old) (v ∷ []) i m v has (0, refl))) in
        let turned = names_back fs gs called in
        let named' : same_text g.name.0 f.name.0 ≡ true = same_text_sym g.name.0 f.name.0 ∙ named in
        let last' : k + 1 ≡ length gs = last ∙ turned.1 in
        let agreed' = types_back old new k fs gs agreed in
        let differ' : same new g.ty old f.ty ≡ false = unlike (same new g.ty old f.ty) refl in
        let fits = value_fits new old sound_new sound_old holds_new holds_old l i m r gs fs form_a form_b one_a one_b plain_g plain_f k g f at_g at_f last' turned.0 agreed' differ' named' only_g rest low in
        let few = small ask there fits in (
          ask,
          there,
          record { fits = fits; small = few },
          value_differs new old sound_new sound_old holds_new holds_old l i m r gs fs form_a form_b one_a one_b plain_g plain_f k g f at_g at_f last' turned.0 agreed' differ' named' only_g rest low few,
        )
      where
        unlike : (b : Bool) → same new g.ty old f.ty ≡ b → same new g.ty old f.ty ≡ false
        unlike true h = let wrong : true ≡ false = sym (same_sym new g.ty old f.ty h) ∙ differ in cc
        unlike false h = h

    one_way : forth_asks ++ back_asks ≡ cs → Shows old new cs
    one_way is = by (low_front f.ty.base g.ty.base)
      where
        by : ((rest : List ℕ) × (low_bytes f.ty.base ≡ low_bytes g.ty.base ++ rest)) ⊎ ((rest : List ℕ) × (low_bytes g.ty.base ≡ low_bytes f.ty.base ++ rest)) → Shows old new cs
        by (inl x) = forth is x.0 x.1
        by (inr x) = back is x.0 x.1

  names_at : (fs gs : List Field) (k : ℕ) (f g : Field) → names_agree fs gs ≡ true → slice_get fs k ≡ Some f → slice_get gs k ≡ Some g → same_text f.name.0 g.name.0 ≡ true
  names_at [] gs k f g h p q = cc
  names_at (x ∷ fs) [] k f g h p q = cc
  names_at (x ∷ fs) (y ∷ gs) zero f g h p q =
      let one : x ≡ f = cc in
      let two : y ≡ g = cc in
      subst (λ (z : Field). same_text z.name.0 g.name.0 ≡ true) one (subst (λ (z : Field). same_text x.name.0 z.name.0 ≡ true) two (both (same_text x.name.0 y.name.0) (names_agree fs gs) h).0)
  names_at (x ∷ fs) (y ∷ gs) (suc k) f g h p q = names_at fs gs k f g (both (same_text x.name.0 y.name.0) (names_agree fs gs) h).1 p q

  -- One candidate of an entry of C11 that counts differs.
  pub c11 : Has (broken old new) (11, p) → row_C11 old new p ≡ Some cs → Shows old new cs
  c11 h row =
      let e = entry old new 11 p 8 C11 refl (λ q. absurd (omega (arith, q))) (λ q. absurd (omega (arith, q))) h in
      let d = e.before in
      let fs = parcelable_fields d.kind in
      let gs = parcelable_fields e.after.kind in
      let x = in_places (λ (q : Field × Field). member d q.0.name) (λ (q : Field × Field). not (same old q.0.ty new q.1.ty)) (zip fs gs) p e.places in
      let f = x.0.0 in
      let g = x.0.1 in
      let at = unzipped fs gs x.1.0 x.0 x.1.1 in
      let kind = parcelable_is d.kind x.1.0 f at.0 in
      let at_fields : slice_get (fields_of d.kind) x.1.0 ≡ Some f = ap (λ zs. slice_get zs x.1.0) kind.0 ∙ at.0 in
      let identifier : is_identifier f.name.0 ≡ true = all_mapped (λ (z : Field). z.name.0) (fields_of d.kind) x.1.0 f (holds_old e.here.0 d e.here.1).field_identifiers at_fields in
      let found = found_is (λ z. same_name d z) new e.after e.there in
      let names : name_of d ≡ name_of e.after = same_text_is (name_of d) (name_of e.after) found.1 in
      let row' = subst (λ q. row_C11 old new q ≡ Some cs) x.3 row in
      let by_decls = λ (q : List ℕ × List ℕ). decl_at old q.0 (λ k. decl_at new q.0 (λ l. ask_named ask_C11 old k new l q.1 (fields_in old k) (fields_in new l))) in
      let y = and_then_is by_decls (at_last_dot (member d f.name)) cs row' in
      let parts : ◌≡◌ {A = Option (List ℕ × List ℕ)} (Some (name_of d, f.name.0)) (Some y.0) = sym (cut_member (name_of d) f.name.0 identifier) ∙ y.1 in
      let pair : ◌≡◌ {A = List ℕ × List ℕ} (name_of d, f.name.0) y.0 = cc in
      let named : y.0.0 ≡ name_of d = sym (ap (λ (q : List ℕ × List ℕ). q.0) pair) in
      let field : y.0.1 ≡ f.name.0 = sym (ap (λ (q : List ℕ × List ℕ). q.1) pair) in
      let z = and_then_is (λ k. decl_at new y.0.0 (λ l. ask_named ask_C11 old k new l y.0.1 (fields_in old k) (fields_in new l))) (declared_as old y.0.0) cs y.2 in
      let w = and_then_is (λ l. ask_named ask_C11 old z.0 new l y.0.1 (fields_in old z.0) (fields_in new l)) (declared_as new y.0.0) cs z.2 in
      let mine = found_decl old apart_old y.0.0 z.0 d e.here named z.1 in
      let his = found_decl new apart_new y.0.0 w.0 e.after found.0 (named ∙ names) w.1 in
      let in_old : fields_in old z.0 ≡ fs = ap fields_of_parcelable mine in
      let in_new : fields_in new w.0 ≡ gs = ap fields_of_parcelable his in
      let asked' : ask_named ask_C11 old z.0 new w.0 y.0.1 fs gs ≡ Some cs = subst (λ xs. ask_named ask_C11 old z.0 new w.0 y.0.1 fs xs ≡ Some cs) in_new (subst (λ xs. ask_named ask_C11 old z.0 new w.0 y.0.1 xs (fields_in new w.0) ≡ Some cs) in_old w.2) in
      let test = λ (k : ℕ). not (is_empty (methods_reaching old z.0 new)) && ((are_plain fs && are_plain gs) && (names_agree fs gs && (is_last k fs && types_agree old (take k fs) new gs))) in
      let both_asks = λ (k : ℕ). low_either_way old z.0 new w.0 k fs gs in
      let u = and_then_is (λ k. candidates_if (test k) (both_asks k)) (position (λ (q : Field). same_text q.name.0 y.0.1) fs) cs asked' in
      let v = position_passes (λ (q : Field). same_text q.name.0 y.0.1) fs u.0 u.1 in
      let v_fields : slice_get (fields_of d.kind) u.0 ≡ Some v.0 = ap (λ zs. slice_get zs u.0) kind.0 ∙ v.1 in
      let v_name : v.0.name.0 ≡ f.name.0 = same_text_is v.0.name.0 y.0.1 v.2 ∙ field in
      let place : u.0 ≡ x.1.0 = (holds_old e.here.0 d e.here.1).fields u.0 x.1.0 v.0 f v_fields at_fields v_name in
      let met = given_is (test u.0) (both_asks u.0) cs u.2 in
      let tested : test x.1.0 ≡ true = subst (λ k. test k ≡ true) place met.0 in
      let k = x.1.0 in
      let two = both (not (is_empty (methods_reaching old z.0 new))) ((are_plain fs && are_plain gs) && (names_agree fs gs && (is_last k fs && types_agree old (take k fs) new gs))) tested in
      let three = both (are_plain fs && are_plain gs) (names_agree fs gs && (is_last k fs && types_agree old (take k fs) new gs)) two.1 in
      let four = both (are_plain fs) (are_plain gs) three.0 in
      let five = both (names_agree fs gs) (is_last k fs && types_agree old (take k fs) new gs) three.1 in
      let six = both (is_last k fs) (types_agree old (take k fs) new gs) five.1 in
      let is = subst (λ k. both_asks k ≡ cs) place met.1 in
      one_way z.0 w.0 d e.after mine his names k f g at.0 at.1 (flipped (same old f.ty new g.ty) x.2) (names_at fs gs k f g five.0 at.0 at.1) two.0 four.0 four.1 five.0
      (nat_is (k + 1) (length fs) six.0) six.1 is
