-- Within one schema a value is its own view: `law_view_same`.
use Rattle.std.proofs.Common.{◌≡◌, ℕ, ◌+◌, true, List, [], ◌∷◌, Some, Option, option_map, slice_get, inl, inr, refl, sym, ap, ◌∙◌, subst, arith}
use Rattle.std.proofs.lemmas.Option.{slice_get_within}
use Rattle.aidl_base.specs.declared.profile.Profile.TheVariants.{Strict}
use Rattle.aidl_schema.specs.declared.schema.Decl.{Decl}
use Rattle.aidl_schema.specs.declared.schema.Field.{Field}
use Rattle.aidl_schema.specs.declared.schema.AidlType.{AidlType}
use Rattle.aidl_schema.specs.Same.{same}
use Rattle.aidl_schema.specs.Types.{form_of, elem}
use Rattle.aidl_values.specs.Data.{Data, null, truth, number, text, seq, rec, alt, Items, none, item}
use Rattle.aidl_values.specs.HasType.{HasType, HaveType, FieldsHaveType}
use Rattle.wire_model.specs.Spell.{parcelable_fields, union_fields}
use Rattle.wire_model.specs.View.{◌>>=◌, agree, when, field_named, item_first, view_of, view_items}
use Rattle.wire_model.specs.steps.Meets.{AreDistinct, FieldsAgree, FormsMeet, Meets}
use Rattle.wire_model.proofs.viewed.Alike.{elem_is}
use Rattle.wire_model.proofs.viewed.Parts.{others, first_seen, seen_fields, Tagged, tagged}

module _ (S : List Decl) (meets : Meets S S) where
  agreed : (t : AidlType) (o : Option Data) → same S t S t ≡ true → when (agree S t S t) o ≡ o
  agreed t o is = rw (meets t t is).kinds refl

  tag_same : (fs : List Field) (k : ℕ) (f : Field) → slice_get fs k ≡ Some f → Tagged Strict S S fs 0 k f → (field_named 0 f.name.0 fs ≡ Some (k, f)) × (same S f.ty S f.ty ≡ true)
  tag_same fs k f e (inl h) =
      let one : ◌≡◌ {A = Option Field} (Some h.0) (Some f) = sym h.1 ∙ e in
      let is : h.0 ≡ f = cc in
      let at : 0 + k ≡ k = omega arith in
      let pair : ◌≡◌ {A = Option (ℕ × Field)} (Some (0 + k, h.0)) (Some (k, f)) = rw (at, is) refl in
      (h.2 ∙ pair, subst (λ g. same S f.ty S g.ty ≡ true) is h.3)
  tag_same fs k f e (inr h) = absurd (omega (arith, h.0, slice_get_within fs k f e))

  mutual
    pub view_same : (t : AidlType) (v : Data) → same S t S t ≡ true → HasType S t v → view_of S t S t v ≡ Some v
    view_same t null is h = agreed t (Some null) is
    view_same t (truth b) is h = agreed t (Some (truth b)) is
    view_same t (number n) is h = agreed t (Some (number n)) is
    view_same t (text x) is h = agreed t (Some (text x)) is
    view_same t (seq vs) is h = agreed t _ is ∙ ap (option_map seq) (items_same (elem S t) vs (elem_is S S t t is (meets t t is).forms) h.1)
    view_same t (rec vs) is h =
        let fs = h.1 in
        let meet = subst (λ f. FormsMeet S f S (form_of S t.base)) h.2 (meets t t is).forms in
        let mine : parcelable_fields (form_of S t.base) ≡ fs = ap parcelable_fields h.2 in
        let same_fields : meet.0 ≡ fs = sym (ap parcelable_fields meet.1) ∙ mine in
        agreed t _ is ∙ ap (λ xs. option_map rec (seen_fields S xs S xs vs)) mine
        ∙ ap (option_map rec) (fields_same fs vs h.3 (subst (λ gs. FieldsAgree S fs S gs) same_fields meet.2.common) (subst AreDistinct same_fields meet.2.distinct))
    view_same t (alt k v) is h =
        let fs = h.1 in
        let f = h.3 in
        let meet = subst (λ x. FormsMeet S x S (form_of S t.base)) h.2 (meets t t is).forms in
        let mine : union_fields (form_of S t.base) ≡ fs = ap union_fields h.2 in
        let same_fields : meet.0 ≡ fs = sym (ap union_fields meet.1) ∙ mine in
        let found = tag_same fs k f h.4 (tagged Strict S S fs fs k 0 f (subst (λ gs. FieldsAgree S fs S gs) same_fields meet.2.common) meet.2.distinct h.4) in
        agreed t _ is
        ∙ ap (λ xs. (slice_get xs k >>= (λ f. field_named 0 f.name.0 xs >>= (λ q. option_map (alt q.0) (view_of S f.ty S q.1.ty v))))) mine
        ∙ ap (λ o. (o >>= (λ f. field_named 0 f.name.0 fs >>= (λ q. option_map (alt q.0) (view_of S f.ty S q.1.ty v))))) h.4
        ∙ ap (λ o. (o >>= (λ q. option_map (alt q.0) (view_of S f.ty S q.1.ty v)))) found.0
        ∙ ap (option_map (alt k)) (view_same f.ty v found.1 h.5)

    items_same : (t : AidlType) (vs : Items) → same S t S t ≡ true → HaveType S t vs → view_items S t S t vs ≡ Some vs
    items_same t none is h = refl
    items_same t (item v vs) is h = ap (λ o. item_first o (view_items S t S t vs)) (view_same t v is h.0) ∙ ap (λ os. item_first (Some v) os) (items_same t vs is h.1)

    fields_same : (fs : List Field) (vs : Items) → FieldsHaveType S fs vs → FieldsAgree S fs S fs → AreDistinct fs → seen_fields S fs S fs vs ≡ Some vs
    fields_same [] none h agree distinct = refl
    fields_same [] (item v vs) h agree distinct = elim h [ ]
    fields_same (f ∷ fs) none h agree distinct = elim h [ ]
    fields_same (f ∷ fs) (item v vs) h agree distinct =
        ap (λ o. item_first o (seen_fields S (f ∷ fs) S fs (item v vs))) (first_seen S S f fs v vs f refl ∙ view_same f.ty v agree.1 h.0)
        ∙ ap (λ os. item_first (Some v) os) (others S S f fs v vs fs distinct.0 ∙ fields_same fs vs h.1 agree.2 distinct.1)
