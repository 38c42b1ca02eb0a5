-- A value has no view exactly where it has an unknown tag: `law_view_none`.
use Rattle.std.proofs.Common.{◌≡◌, ℕ, ◌+◌, true, false, Bool, ◌||◌, List, [], ◌∷◌, Option, Some, None, option_map, slice_get, inl, inr, refl, sym, ap, ◌∙◌, subst}
use Rattle.std.specs.Prelude.{is_none}
use Rattle.std.specs.List.{list_any}
use Rattle.aidl_base.specs.declared.profile.Profile.TheVariants.{Strict}
use Rattle.aidl_schema.proofs.lemmas.Sames.{same_text_refl}
use Rattle.aidl_schema.specs.declared.schema.Decl.{Decl}
use Rattle.aidl_schema.specs.declared.schema.Field.{Field}
use Rattle.aidl_schema.specs.declared.schema.AidlType.{AidlType}
use Rattle.aidl_schema.specs.Same.{same, same_text}
use Rattle.aidl_schema.specs.Types.{form_of, elem}
use Rattle.aidl_values.specs.Data.{Data, null, truth, number, text, seq, rec, alt, Items, none, item}
use Rattle.aidl_values.specs.HasType.{HasType, HaveType, FieldsHaveType}
use Rattle.wire_model.proofs.viewed.Alike.{elem_is}
use Rattle.wire_model.proofs.viewed.Parts.{each_initial, others, first_seen, seen_fields, Tagged, tagged}
use Rattle.wire_model.specs.Spell.{parcelable_fields, union_fields}
use Rattle.wire_model.specs.Unknown.{has_unknown_tag, have_unknown_tag, in_tag, named_has_unknown_tag, unless_named}
use Rattle.wire_model.specs.View.{◌>>=◌, agree, when, field_named, item_first, view_of, view_items}
use Rattle.wire_model.specs.steps.Meets.{AreDistinct, FieldsAgree, FormsMeet, IsAbsent, Meets}

-- one item before others
pub none_first : (o : Option Data) (os : Option Items) → is_none (item_first o os) ≡ is_none o || is_none os
none_first None os = refl
none_first (Some v) None = refl
none_first (Some v) (Some vs) = refl

pub none_mapped : {X Y : Type 0} (f : X → Y) (o : Option X) → is_none (option_map f o) ≡ is_none o
none_mapped f None = refl
none_mapped f (Some x) = refl

module _ (A B : List Decl) where
  -- one of the receiver's fields
  abbrev pub unknown_fields : List Field → List Field → Items → Bool
  unknown_fields fs gs vs = list_any (λ g. named_has_unknown_tag A fs B g vs) gs

  nothing_sent : (gs : List Field) → unknown_fields [] gs none ≡ false
  nothing_sent [] = refl
  nothing_sent (g ∷ gs) = nothing_sent gs

  module _ (f : Field) (fs : List Field) (v : Data) (vs : Items) where
    -- fields of other names don't look at the sender's first one
    unknown_others : (gs : List Field) → IsAbsent f.name.0 gs → unknown_fields (f ∷ fs) gs (item v vs) ≡ unknown_fields fs gs vs
    unknown_others [] h = refl
    unknown_others (g ∷ gs) h =
        let head : named_has_unknown_tag A (f ∷ fs) B g (item v vs) ≡ named_has_unknown_tag A fs B g vs = rw h.0 refl in
        ap (λ b. b || unknown_fields (f ∷ fs) gs (item v vs)) head ∙ ap (λ b. named_has_unknown_tag A fs B g vs || b) (unknown_others gs h.1)

    -- the field of its name does
    unknown_first : (g : Field) → f.name.0 ≡ g.name.0 → named_has_unknown_tag A (f ∷ fs) B g (item v vs) ≡ has_unknown_tag A f.ty B g.ty v
    unknown_first g e =
        let named : same_text f.name.0 g.name.0 ≡ true = subst (λ x. same_text f.name.0 x ≡ true) e (same_text_refl f.name.0) in
        rw named refl

  abbrev IsLaw : AidlType → AidlType → Data → Type 0
  IsLaw t u v = is_none (view_of A t B u v) ≡ has_unknown_tag A t B u v

  -- of the field of a tag, by whether the receiver has one of its name
  by_tag : (gs : List Field) (k : ℕ) (f : Field) (v : Data) → Tagged Strict A B gs 0 k f → ((g : Field) → same A f.ty B g.ty ≡ true → IsLaw f.ty g.ty v)
      → is_none (field_named 0 f.name.0 gs >>= (λ q. option_map (alt q.0) (view_of A f.ty B q.1.ty v))) ≡ unless_named (field_named 0 f.name.0 gs) (λ g. has_unknown_tag A f.ty B g.ty v)
  by_tag gs k f v (inl h) law =
      rw h.2 (none_mapped (alt (0 + k)) (view_of A f.ty B h.0.ty v) ∙ law h.0 h.3)
  by_tag gs k f v (inr h) law = rw h.1 refl

  module _ (meets : Meets A B) where
    agreed : (t u : AidlType) (o : Option Data) → same A t B u ≡ true → is_none (when (agree A t B u) o) ≡ is_none o
    agreed t u o is = rw (meets t u is).kinds refl

    mutual
      pub view_none : (t u : AidlType) (v : Data) → same A t B u ≡ true → HasType A t v → is_none (view_of A t B u v) ≡ has_unknown_tag A t B u v
      view_none t u null is h = agreed t u (Some null) is
      view_none t u (truth b) is h = agreed t u (Some (truth b)) is
      view_none t u (number n) is h = agreed t u (Some (number n)) is
      view_none t u (text x) is h = agreed t u (Some (text x)) is
      view_none t u (seq vs) is h =
          agreed t u _ is ∙ none_mapped seq (view_items A (elem A t) B (elem B u) vs) ∙ items_none (elem A t) (elem B u) vs (elem_is A B t u is (meets t u is).forms) h.1
      view_none t u (rec vs) is h =
          let fs = h.1 in
          let meet = subst (λ f. FormsMeet A f B (form_of B u.base)) h.2 (meets t u is).forms in
          let gs = meet.0 in
          agreed t u _ is ∙ none_mapped rec (seen_fields A (parcelable_fields (form_of A t.base)) B (parcelable_fields (form_of B u.base)) vs)
          ∙ ap (λ xs. is_none (seen_fields A xs B (parcelable_fields (form_of B u.base)) vs)) (ap parcelable_fields h.2)
          ∙ ap (λ ys. is_none (seen_fields A fs B ys vs)) (ap parcelable_fields meet.1)
          ∙ fields_none fs gs vs h.3 meet.2.common meet.2.distinct
          ∙ sym (ap (λ xs. unknown_fields xs (parcelable_fields (form_of B u.base)) vs) (ap parcelable_fields h.2) ∙ ap (λ ys. unknown_fields fs ys vs) (ap parcelable_fields meet.1))
      view_none t u (alt k v) is h =
          let fs = h.1 in
          let f = h.3 in
          let meet = subst (λ x. FormsMeet A x B (form_of B u.base)) h.2 (meets t u is).forms in
          let gs = meet.0 in
          let field : slice_get (union_fields (form_of A t.base)) k ≡ Some f = ap (λ x. slice_get (union_fields x) k) h.2 ∙ h.4 in
          let his : union_fields (form_of B u.base) ≡ gs = ap union_fields meet.1 in
          agreed t u _ is
          ∙ ap (λ o. is_none (o >>= (λ f. field_named 0 f.name.0 (union_fields (form_of B u.base)) >>= (λ q. option_map (alt q.0) (view_of A f.ty B q.1.ty v))))) field
          ∙ ap (λ ys. is_none (field_named 0 f.name.0 ys >>= (λ q. option_map (alt q.0) (view_of A f.ty B q.1.ty v)))) his
          ∙ by_tag gs k f v (tagged Strict A B fs gs k 0 f meet.2.common meet.2.distinct h.4) (λ g same. view_none f.ty g.ty v same h.5)
          ∙ sym (ap (λ o. in_tag o (λ f. unless_named (field_named 0 f.name.0 (union_fields (form_of B u.base))) (λ g. has_unknown_tag A f.ty B g.ty v))) field
          ∙ ap (λ ys. unless_named (field_named 0 f.name.0 ys) (λ g. has_unknown_tag A f.ty B g.ty v)) his)

      items_none : (t u : AidlType) (vs : Items) → same A t B u ≡ true → HaveType A t vs → is_none (view_items A t B u vs) ≡ have_unknown_tag A t B u vs
      items_none t u none is h = refl
      items_none t u (item v vs) is h =
          none_first (view_of A t B u v) (view_items A t B u vs)
          ∙ ap (λ b. b || is_none (view_items A t B u vs)) (view_none t u v is h.0) ∙ ap (λ b. has_unknown_tag A t B u v || b) (items_none t u vs is h.1)

      fields_none : (fs gs : List Field) (vs : Items) → FieldsHaveType A fs vs → FieldsAgree A fs B gs → AreDistinct gs → is_none (seen_fields A fs B gs vs) ≡ unknown_fields fs gs vs
      fields_none [] gs (item v vs) h agree distinct = elim h [ ]
      fields_none [] gs none h agree distinct = ap is_none (each_initial B gs) ∙ sym (nothing_sent gs)
      fields_none (f ∷ fs) gs none h agree distinct = elim h [ ]
      fields_none (f ∷ fs) [] (item v vs) h agree distinct = refl
      fields_none (f ∷ fs) (g ∷ gs) (item v vs) h agree distinct =
          let apart : IsAbsent f.name.0 gs = subst (λ x. IsAbsent x gs) (sym agree.0) distinct.0 in
          ap (λ o. is_none (item_first o (seen_fields A (f ∷ fs) B gs (item v vs)))) (first_seen A B f fs v vs g agree.0)
          ∙ ap (λ os. is_none (item_first (view_of A f.ty B g.ty v) os)) (others A B f fs v vs gs apart)
          ∙ none_first (view_of A f.ty B g.ty v) (seen_fields A fs B gs vs)
          ∙ ap (λ b. b || is_none (seen_fields A fs B gs vs)) (view_none f.ty g.ty v agree.1 h.0)
          ∙ ap (λ b. has_unknown_tag A f.ty B g.ty v || b) (fields_none fs gs vs h.1 agree.2 distinct.1)
          ∙ sym (ap (λ b. b || unknown_fields (f ∷ fs) gs (item v vs)) (unknown_first f fs v vs g agree.0)
          ∙ ap (λ b. has_unknown_tag A f.ty B g.ty v || b) (unknown_others f fs v vs gs apart))
