-- A field of a parcelable has another name in new: z0 or z1 in it shows it.
use Rattle.std.proofs.Common.{◌≡◌, ℕ, zero, suc, ◌≤◌, pos, Bool, true, false, not, ◌&&◌, ◌||◌, List, [], ◌∷◌, length, Option, Some, None, slice_get, Ok, ◌⊎◌, inl, inr, refl, sym, ap, ◌∙◌, subst, arith, length-append}
use Rattle.std.specs.Prelude.{option_map}
use Rattle.std.specs.List.{list_all, position, zip}
use Rattle.std.specs.Ordering.{int_eq}
use Rattle.aidl_base.proofs.lemmas.Tests.{both, all_at}
use Rattle.aidl_base.specs.declared.profile.Profile.TheVariants.{Strict}
use Rattle.aidl_base.specs.Identifiers.{is_identifier}
use Rattle.aidl_schema.proofs.lemmas.Places.{unzipped}
use Rattle.aidl_schema.proofs.lemmas.Sames.{same_text_is}
use Rattle.aidl_schema.specs.declared.schema.Arg.{Arg}
use Rattle.aidl_schema.specs.declared.schema.Base.{Base}
use Rattle.aidl_schema.specs.declared.schema.Base.TheVariants as base
use Rattle.aidl_schema.specs.declared.schema.Decl.{Decl}
use Rattle.aidl_schema.specs.declared.schema.Field.{Field}
use Rattle.aidl_schema.specs.declared.schema.Kind.{Kind}
use Rattle.aidl_schema.specs.declared.schema.Kind.TheVariants.{Interface, Parcelable, Union, Enum}
use Rattle.aidl_schema.specs.Broken.{Place, member, same_name, parcelable_fields, C10, broken}
use Rattle.aidl_schema.specs.Constants.{is_string}
use Rattle.aidl_schema.specs.Containment.{fields_of}
use Rattle.aidl_schema.specs.Holds.{AreApart, AllHold}
use Rattle.aidl_schema.specs.Methods.{has_method_types, is_passed_type, is_result_type, is_whole_type}
use Rattle.aidl_schema.specs.Names.{methods_of, name_of}
use Rattle.aidl_schema.specs.Same.{same_text}
use Rattle.aidl_schema.specs.Types.{form_of, form_of_decl, form_of_kind, is_one, is_type}
use Rattle.aidl_schema.specs.Types as form
use Rattle.aidl_schema.specs.Unbroken.{Has}
use Rattle.aidl_values.specs.Data.{Data, truth, number, text, rec, Items, none, item}
use Rattle.aidl_values.specs.HasType.{FieldsHaveType}
use Rattle.aidl_values.specs.Sound.{initial_in, IsSound}
use Rattle.wire_model.specs.Outcome.{declared_as}
use Rattle.wire_model.specs.ReadOf.{Read, read_of}
use Rattle.wire_model.specs.Calls.{descriptor, arguments}
use Rattle.wire_model.specs.MethodOf.{method_of}
use Rattle.wire_model.specs.Requests.{ArgsFit, argument_parts, request, token}
use Rattle.wire_model.specs.Spell.{spell}
use Rattle.wire_model.specs.Spell as sent
use Rattle.wire_model.specs.View.{agree, when, item_first, each_field, or_initial, view_of, view_named}
use Rattle.wire_model.proofs.lemmas.Lookups.{found_is, same_place, position_passes}
use Rattle.wire_model.proofs.lemmas.Reading.{reads_read}
use Rattle.wire_model.proofs.lemmas.Sound.{is_whole}
use Rattle.std.proofs.lemmas.List.{append-nil}
use Rattle.compat_witness.specs.Candidates.{Candidate, AreSmall, Shows}
use Rattle.compat_witness.specs.Candidates as candidate
use Rattle.compat_witness.specs.Places.{at_last_dot, Spot}
use Rattle.compat_witness.specs.Reaching.{methods_reaching, asks, are_plain, plain_value, with_value}
use Rattle.compat_witness.specs.Rows.{is_empty, decl_at, candidates_if, types_agree, fields_of_parcelable, fields_in, low_then_high, ask_named, ask_C10, row_C10}
use Rattle.compat_witness.specs.Sides.{read_request, projected_request}
use Rattle.compat_witness.proofs.Entries.{entry, in_places}
use Rattle.compat_witness.proofs.C16.{given_is, found_decl}
use Rattle.compat_witness.proofs.Plain.{positional, record_read, with_typed, flat_fields}
use Rattle.compat_witness.proofs.Reached.{Reached, reached, base_of, head_of, asked}
use Rattle.compat_witness.proofs.Single.{seen_whole, args_fit, part_is, differs_by}
use Rattle.compat_witness.proofs.Spots.{and_then_is, cut_member, all_mapped, IsSpot}

-- z0 and z1 are apart: no value is both
abbrev is_low : Data → Bool
is_low (truth b) = not b
is_low (number n) = int_eq n (pos 0)
is_low (text x) = is_empty x
is_low _ = false

low_is : (b : Base) → is_low (plain_value false b) ≡ true
low_is base.Boolean = refl
low_is base.Byte = refl
low_is base.Char = refl
low_is base.Int = refl
low_is base.Long = refl
low_is base.Text = refl
low_is (base.Named n) = refl

high_is : (b : Base) → is_low (plain_value true b) ≡ false
high_is base.Boolean = refl
high_is base.Byte = refl
high_is base.Char = refl
high_is base.Int = refl
high_is base.Long = refl
high_is base.Text = refl
high_is (base.Named n) = refl

one_or_other : (b : Base) (o : Option Data) → (o ≡ Some (plain_value false b) → ⊥) ⊎ (o ≡ Some (plain_value true b) → ⊥)
one_or_other b None = inl (λ e. absurd cc)
one_or_other b (Some v) = by (is_low v) refl
  where
    is_value : (w : Data) → ◌≡◌ {A = Option Data} (Some v) (Some w) → v ≡ w
    is_value w e = cc

    by : (low : Bool) → is_low v ≡ low → (◌≡◌ {A = Option Data} (Some v) (Some (plain_value false b)) → ⊥) ⊎ (◌≡◌ {A = Option Data} (Some v) (Some (plain_value true b)) → ⊥)
    by true h = inr (λ e. let wrong : true ≡ false = sym h ∙ ap is_low (is_value (plain_value true b) e) ∙ high_is b in absurd cc)
    by false h = inl (λ e. let wrong : false ≡ true = sym h ∙ ap is_low (is_value (plain_value false b) e) ∙ low_is b in absurd cc)

-- the item at a position
abbrev item_at : ℕ → Items → Option Data
item_at k none = None
item_at zero (item v vs) = Some v
item_at (suc k) (item v vs) = item_at k vs

-- By position the receiver's field has the value of the sender's field there.
at_position : (A B : List Decl) (high : Bool) (k : ℕ) (fs gs : List Field) (f g : Field) → slice_get fs k ≡ Some f → slice_get gs k ≡ Some g
    → item_at k (positional B fs gs (with_value A high k fs)) ≡ Some (plain_value high f.ty.base)
at_position A B high k [] gs f g p q = cc
at_position A B high k (x ∷ fs) [] f g p q = cc
at_position A B high zero (x ∷ fs) (y ∷ gs) f g p q = let one : x ≡ f = cc in ap (λ (z : Field). let o : Option Data = Some (plain_value high z.ty.base) in o) one
at_position A B high (suc k) (x ∷ fs) (y ∷ gs) f g p q = at_position A B high k fs gs f g p q

-- By name it doesn't depend on that value, where the names differ.
by_name : (A B : List Decl) (g : Field) (k : ℕ) (fs : List Field) (f : Field) → slice_get fs k ≡ Some f → same_text f.name.0 g.name.0 ≡ false
    → view_named A fs B g (with_value A false k fs) ≡ view_named A fs B g (with_value A true k fs)
by_name A B g k [] f p differ = cc
by_name A B g zero (x ∷ fs) f p differ = let one : x ≡ f = cc in let here : same_text x.name.0 g.name.0 ≡ false = subst (λ (z : Field). same_text z.name.0 g.name.0 ≡ false) (sym one) differ in rw here refl
by_name A B g (suc k) (x ∷ fs) f p differ = rw (by_name A B g k fs f p differ) refl

-- what each field is seen as
each_at : (F : Field → Option Data) (gs : List Field) (ws : Items) (k : ℕ) (g : Field) → each_field F gs ≡ Some ws → slice_get gs k ≡ Some g → F g ≡ item_at k ws
each_at F [] ws k g e p = cc
each_at F (y ∷ gs) ws k g e p = by (F y) refl (each_field F gs) refl e k p (λ vs j h q. each_at F gs vs j g h q)
  where
    by : (o : Option Data) → F y ≡ o → (os : Option Items) → each_field F gs ≡ os → item_first o os ≡ Some ws → (k : ℕ) → slice_get (y ∷ gs) k ≡ Some g
        → ((vs : Items) (j : ℕ) → each_field F gs ≡ Some vs → slice_get gs j ≡ Some g → F g ≡ item_at j vs) → F g ≡ item_at k ws
    by None p os q e k at later = cc
    by (Some v) p None q e k at later = cc
    by (Some v) p (Some vs) q e zero at later = let is : item v vs ≡ ws = cc in let one : y ≡ g = cc in subst (λ (z : Field). F z ≡ item_at 0 ws) one (p ∙ ap (item_at 0) is)
    by (Some v) p (Some vs) q e (suc k) at later = let is : item v vs ≡ ws = cc in later vs k q at ∙ ap (item_at (suc k)) is

-- a declaration with such a field is a parcelable
pub parcelable_is : (K : Kind) (k : ℕ) (f : Field) → slice_get (parcelable_fields K) k ≡ Some f → (fields_of K ≡ parcelable_fields K) × (form_of_kind K ≡ form.parcelable (parcelable_fields K))
parcelable_is (Parcelable fs) k f e = (refl, refl)
parcelable_is (Interface ms) k f e = cc
parcelable_is (Union fs) k f e = cc
parcelable_is (Enum b es) k f e = cc

seen_is : (o : Option Data) (w : Data) → ◌≡◌ {A = Read Data} (Ok (w, [])) (seen_whole o) → o ≡ Some w
seen_is None w e = cc
seen_is (Some y) w e = let is : ◌≡◌ {A = Data × List ℕ} (w, []) (y, []) = cc in ap (λ (q : Data × List ℕ). let o : Option Data = Some q.0 in o) (sym is)

when_is : (b : Bool) (o : Option Data) (y : Data) → when b o ≡ Some y → o ≡ Some y
when_is true o y e = e
when_is false o y e = cc

rec_is : (os : Option Items) (ws : Items) → option_map rec os ≡ Some (rec ws) → os ≡ Some ws
rec_is None ws e = cc
rec_is (Some vs) ws e = let is : rec vs ≡ rec ws = cc in let one : vs ≡ ws = cc in ap (λ x. let o : Option Items = Some x in o) one

-- the type of the one argument of a method is one of the schema
pub argument_type : (S : List Decl) (holds : AllHold S) (s : Spot) (is : IsSpot S s) (b : Arg) → s.method.args ≡ b ∷ [] → is_type S b.ty ≡ true
argument_type S holds s is b only =
    let types : has_method_types S s.method ≡ true = all_at (λ m. has_method_types S m) (methods_of is.decl.kind) s.position s.method (holds s.interface is.decl is.here).method_types is.at in
    let args = both (is_result_type S s.method.result) (list_all (λ (a : Arg). is_passed_type S a.ty) s.method.args) types in
    let passed : list_all (λ (a : Arg). is_passed_type S a.ty) (b ∷ []) ≡ true = subst (λ xs. list_all (λ (a : Arg). is_passed_type S a.ty) xs ≡ true) only args.1 in
    let one = both (is_passed_type S b.ty) true passed in
    (both (is_type S b.ty) (not b.ty.utf8 || is_string b.ty.base) (both (is_whole_type S b.ty) (not b.ty.heap) one.0).0).0

module _ (A B : List Decl) (sound_A : IsSound A) (sound_B : IsSound B) (holds_B : AllHold B) (c i m : ℕ) (r : Reached A c B i m) (fs gs : List Field)
    (form_a : form_of A r.a.ty.base ≡ form.parcelable fs) (form_b : form_of B r.b.ty.base ≡ form.parcelable gs) (one_a : is_one r.a.ty.shape ≡ true) (one_b : is_one r.b.ty.shape ≡ true)
    (plain_f : are_plain fs ≡ true) (plain_g : are_plain gs ≡ true) (agreed : types_agree A fs B gs ≡ true) (k : ℕ) (f g : Field) (at_f : slice_get fs k ≡ Some f) (at_g : slice_get gs k ≡ Some g)
    (differ : same_text f.name.0 g.name.0 ≡ false) where
  abbrev pub value : Bool → Data
  value high = rec (with_value A high k fs)

  abbrev pub sent_small : Bool → Type 0
  sent_small high = length (request (method_of A i m) (item (value high) none)) ≤ 1048576

  typed : (high : Bool) → FieldsHaveType A fs (with_value A high k fs)
  typed high = with_typed A high k fs plain_f ((is_whole A sound_A).fields r.a.ty.base fs form_a).1

  pub value_fits : (high : Bool) → ArgsFit (method_of A i m) (item (value high) none)
  value_fits high = args_fit A B holds_B i m r.decl r.method r.here r.at r.other r.like r.id r.a r.b r.only_a r.only_b r.in_a r.in_b (value high)
      (record { typed = (one_a, fs, form_a, typed high); deep = omega (arith, flat_fields A fs (with_value A high k fs) plain_f (typed high)) })

  value_small : (high : Bool) → sent_small high → length (spell A r.a.ty (value high)) ≤ 1048576
  value_small high small =
      let part = part_is A B holds_B i m r.decl r.method r.here r.at r.other r.like r.id r.a r.b r.only_a r.only_b r.in_a r.in_b (value high) in
      omega (arith, length-append (token (descriptor A i)) (argument_parts A (arguments (method_of A i m)) (item (value high) none)), ap length part)

  -- what is read of it
  value_read : (high : Bool) → sent_small high → read_of Strict B 64 r.b.ty false (spell A r.a.ty (value high)) ≡ Ok (rec (positional B fs gs (with_value A high k fs)), [])
  value_read high small =
      let reads = record_read A B 63 r.a.ty r.b.ty fs gs (with_value A high k fs) form_a form_b one_b plain_f plain_g agreed (typed high) (value_small high small)
      ((is_whole B sound_B).fields r.b.ty.base gs form_b).1 in
      ap (read_of Strict B 64 r.b.ty false) (sym (append-nil (spell A r.a.ty (value high))))
      ∙ reads_read Strict B sound_B 64 r.b.ty (argument_type B holds_B r.other r.like.spot r.b r.only_b) false (spell A r.a.ty (value high)) [] (rec (positional B fs gs (with_value A high k fs))) reads

  -- what the receiver's field of that position is to be seen as
  abbrev pub field_seen : Bool → Option Data
  field_seen high = or_initial (view_named A fs B g (with_value A high k fs)) (initial_in B g)

  -- Where the sides agree, it is z0 or z1.
  field_is : (high : Bool) → sent_small high → read_of Strict B 64 r.b.ty false (spell A r.a.ty (value high)) ≡ seen_whole (view_of A r.a.ty B r.b.ty (value high)) → field_seen high ≡ Some (plain_value high f.ty.base)
  field_is high small e =
      let ws = positional B fs gs (with_value A high k fs) in
      let view = seen_is (view_of A r.a.ty B r.b.ty (value high)) (rec ws) (sym (value_read high small) ∙ e) in
      let fields : List Field → List Field → Option Items = λ xs ys. each_field (λ y. or_initial (view_named A xs B y (with_value A high k fs)) (initial_in B y)) ys in
      let here = rec_is (fields (sent.parcelable_fields (form_of A r.a.ty.base)) (sent.parcelable_fields (form_of B r.b.ty.base))) ws (when_is (agree A r.a.ty B r.b.ty) _ (rec ws) view) in
      let there : fields fs gs ≡ Some ws = subst (λ x. fields (sent.parcelable_fields x) gs ≡ Some ws) form_a (subst (λ x. fields (sent.parcelable_fields (form_of A r.a.ty.base)) (sent.parcelable_fields x) ≡ Some ws) form_b here) in
      each_at (λ y. or_initial (view_named A fs B y (with_value A high k fs)) (initial_in B y)) gs ws k g there at_g ∙ at_position A B high k fs gs f g at_f at_g

  -- So one of the two shows that the names differ.
  pub value_differs : (field_seen false ≡ Some (plain_value false f.ty.base) → ⊥) ⊎ (field_seen false ≡ Some (plain_value true f.ty.base) → ⊥)
      → (high : Bool) × (sent_small high → read_request (method_of A i m) B (request (method_of A i m) (item (value high) none)) ≡ projected_request (method_of A i m) B (item (value high) none) → ⊥)
  value_differs (inl h) = (
    false,
    λ small.
        differs_by A B holds_B i m r.decl r.method r.here r.at r.other r.like r.id r.a r.b r.only_a r.only_b r.in_a r.in_b (value false) small (λ e. h (field_is false small e)),
  )
  value_differs (inr h) = (
    true,
    λ small.
        differs_by A B holds_B i m r.decl r.method r.here r.at r.other r.like r.id r.a r.b r.only_a r.only_b r.in_a r.in_b (value true) small
        (λ e. h (ap (λ o. or_initial o (initial_in B g)) (by_name A B g k fs f at_f differ) ∙ field_is true small e)),
  )

values : (old : List Decl) (k : ℕ) (fs : List Field) (high : Bool) → Has (low_then_high old k fs) (rec (with_value old high k fs))
values old k fs false = (0, refl)
values old k fs true = (1, refl)

flipped : (b : Bool) → not b ≡ true → b ≡ false
flipped true h = cc
flipped false h = refl

module _ (old new : List Decl) (sound_old : IsSound old) (sound_new : IsSound new) (holds_old : AllHold old) (holds_new : AllHold new) (apart_old : AreApart name_of old) (apart_new : AreApart name_of new)
    (p : Place) (cs : List Candidate) (small : AreSmall old new cs) where
  by_parts : (c l : ℕ) (d e : Decl) → slice_get old c ≡ Some d → slice_get new l ≡ Some e → name_of d ≡ name_of e → (k : ℕ) (f g : Field)
      → slice_get (parcelable_fields d.kind) k ≡ Some f → slice_get (parcelable_fields e.kind) k ≡ Some g → same_text f.name.0 g.name.0 ≡ false
      → not (is_empty (methods_reaching old c new)) ≡ true → are_plain (parcelable_fields d.kind) ≡ true → are_plain (parcelable_fields e.kind) ≡ true
      → types_agree old (parcelable_fields d.kind) new (parcelable_fields e.kind) ≡ true
      → asks false (methods_reaching old c new) (low_then_high old k (parcelable_fields d.kind)) ≡ cs → Shows old new cs
  by_parts c l d e mine his names k f g at_f at_g differ some plain_f plain_g agreed is =
      let fs = parcelable_fields d.kind in
      let gs = parcelable_fields e.kind in
      let first = head_of (methods_reaching old c new) is_empty refl some in
      let i = first.0.0 in
      let m = first.0.1 in
      let r = reached old c new i m first.1 in
      let b = base_of old c new r.a.ty r.b.ty r.number r.one r.same_type in
      let one : ◌≡◌ {A = Option Decl} (Some b.mine) (Some d) = sym b.here ∙ mine in
      let mine_is : b.mine ≡ d = cc in
      let his_is = same_place name_of new apart_new b.his e (b.number, b.there) (l, his) (sym b.names ∙ ap name_of mine_is ∙ names) in
      let form_a : form_of old r.a.ty.base ≡ form.parcelable fs = ap (form_of old) b.base_a ∙ ap form_of_decl b.here ∙ ap (λ (z : Decl). form_of_kind z.kind) mine_is ∙ (parcelable_is d.kind k f at_f).1 in
      let form_b : form_of new r.b.ty.base ≡ form.parcelable gs = ap (form_of new) b.base_b ∙ ap form_of_decl b.there ∙ ap (λ (z : Decl). form_of_kind z.kind) his_is ∙ (parcelable_is e.kind k g at_g).1 in
      let one_a = (both (is_one r.a.ty.shape) (not r.a.ty.nullable) b.one_a).0 in
      let one_b = (both (is_one r.b.ty.shape) (not r.b.ty.nullable) b.one_b).0 in
      let seen = field_seen old new sound_old sound_new holds_new c i m r fs gs form_a form_b one_a one_b plain_f plain_g agreed k f g at_f at_g differ false in
      let x = value_differs old new sound_old sound_new holds_new c i m r fs gs form_a form_b one_a one_b plain_f plain_g agreed k f g at_f at_g differ (one_or_other f.ty.base seen) in
      let v = rec (with_value old x.0 k fs) in
      let ask = candidate.request false i m (item v none) in
      let there : Has cs ask = subst (λ ds. Has ds ask) is (asked false (methods_reaching old c new) (low_then_high old k fs) i m v first.1 (values old k fs x.0)) in
      let fits = value_fits old new sound_old sound_new holds_new c i m r fs gs form_a form_b one_a one_b plain_f plain_g agreed k f g at_f at_g differ x.0 in
      let few = small ask there fits in
      (ask, there, record { fits = fits; small = few }, x.1 few)

  -- One candidate of an entry of C10 that counts differs.
  pub c10 : Has (broken old new) (10, p) → row_C10 old new p ≡ Some cs → Shows old new cs
  c10 h row =
      let e = entry old new 10 p 7 C10 refl (λ q. absurd (omega (arith, q))) (λ q. absurd (omega (arith, q))) h in
      let d = e.before in
      let fs = parcelable_fields d.kind in
      let gs = parcelable_fields e.after.kind in
      let x = in_places (λ (q : Field × Field). member d q.0.name) (λ (q : Field × Field). not (same_text q.0.name.0 q.1.name.0)) (zip fs gs) p e.places in
      let f = x.0.0 in
      let g = x.0.1 in
      let at = unzipped fs gs x.1.0 x.0 x.1.1 in
      let kind = parcelable_is d.kind x.1.0 f at.0 in
      let at_fields : slice_get (fields_of d.kind) x.1.0 ≡ Some f = ap (λ zs. slice_get zs x.1.0) kind.0 ∙ at.0 in
      let identifier : is_identifier f.name.0 ≡ true = all_mapped (λ (z : Field). z.name.0) (fields_of d.kind) x.1.0 f (holds_old e.here.0 d e.here.1).field_identifiers at_fields in
      let found = found_is (λ z. same_name d z) new e.after e.there in
      let names : name_of d ≡ name_of e.after = same_text_is (name_of d) (name_of e.after) found.1 in
      let row' = subst (λ q. row_C10 old new q ≡ Some cs) x.3 row in
      let by_decls = λ (q : List ℕ × List ℕ). decl_at old q.0 (λ k. decl_at new q.0 (λ l. ask_named ask_C10 old k new l q.1 (fields_in old k) (fields_in new l))) in
      let y = and_then_is by_decls (at_last_dot (member d f.name)) cs row' in
      let parts : ◌≡◌ {A = Option (List ℕ × List ℕ)} (Some (name_of d, f.name.0)) (Some y.0) = sym (cut_member (name_of d) f.name.0 identifier) ∙ y.1 in
      let pair : ◌≡◌ {A = List ℕ × List ℕ} (name_of d, f.name.0) y.0 = cc in
      let named : y.0.0 ≡ name_of d = sym (ap (λ (q : List ℕ × List ℕ). q.0) pair) in
      let field : y.0.1 ≡ f.name.0 = sym (ap (λ (q : List ℕ × List ℕ). q.1) pair) in
      let z = and_then_is (λ k. decl_at new y.0.0 (λ l. ask_named ask_C10 old k new l y.0.1 (fields_in old k) (fields_in new l))) (declared_as old y.0.0) cs y.2 in
      let w = and_then_is (λ l. ask_named ask_C10 old z.0 new l y.0.1 (fields_in old z.0) (fields_in new l)) (declared_as new y.0.0) cs z.2 in
      let mine = found_decl old apart_old y.0.0 z.0 d e.here named z.1 in
      let his = found_decl new apart_new y.0.0 w.0 e.after found.0 (named ∙ names) w.1 in
      let in_old : fields_in old z.0 ≡ fs = ap fields_of_parcelable mine in
      let in_new : fields_in new w.0 ≡ gs = ap fields_of_parcelable his in
      let asked' : ask_named ask_C10 old z.0 new w.0 y.0.1 fs gs ≡ Some cs = subst (λ xs. ask_named ask_C10 old z.0 new w.0 y.0.1 fs xs ≡ Some cs) in_new (subst (λ xs. ask_named ask_C10 old z.0 new w.0 y.0.1 xs (fields_in new w.0) ≡ Some cs) in_old w.2) in
      let test = λ (k : ℕ). not (is_empty (methods_reaching old z.0 new)) && ((are_plain fs && are_plain gs) && types_agree old fs new gs) in
      let u = and_then_is (λ k. candidates_if (test k) (asks false (methods_reaching old z.0 new) (low_then_high old k fs))) (position (λ (q : Field). same_text q.name.0 y.0.1) fs) cs asked' in
      let v = position_passes (λ (q : Field). same_text q.name.0 y.0.1) fs u.0 u.1 in
      let v_fields : slice_get (fields_of d.kind) u.0 ≡ Some v.0 = ap (λ zs. slice_get zs u.0) kind.0 ∙ v.1 in
      let v_name : v.0.name.0 ≡ f.name.0 = same_text_is v.0.name.0 y.0.1 v.2 ∙ field in
      let place : u.0 ≡ x.1.0 = (holds_old e.here.0 d e.here.1).fields u.0 x.1.0 v.0 f v_fields at_fields v_name in
      let met = given_is (test u.0) (asks false (methods_reaching old z.0 new) (low_then_high old u.0 fs)) cs u.2 in
      let two = both (not (is_empty (methods_reaching old z.0 new))) ((are_plain fs && are_plain gs) && types_agree old fs new gs) met.0 in
      let three = both (are_plain fs && are_plain gs) (types_agree old fs new gs) two.1 in
      let four = both (are_plain fs) (are_plain gs) three.0 in
      let is = subst (λ k. asks false (methods_reaching old z.0 new) (low_then_high old k fs) ≡ cs) place met.1 in
      by_parts z.0 w.0 d e.after mine his names x.1.0 f g at.0 at.1 (flipped (same_text f.name.0 g.name.0) x.2) two.0 four.0 four.1 three.1 is
