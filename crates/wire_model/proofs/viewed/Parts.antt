-- What is sent of a list of values is read by the receiver item by item, up to the first that stops.
use Rattle.std.proofs.Common.{◌≡◌, ◌≢◌, ℕ, zero, suc, ◌+◌, ◌≤◌, Bool, true, false, List, [], ◌∷◌, ◌++◌, length, Some, None, Option, slice_get, ◌⊎◌, inl, inr, refl, sym, ap, ◌∙◌, subst, arith, append_assoc, length-append}
use Rattle.aidl_base.specs.declared.profile.Profile.{Profile}
use Rattle.aidl_schema.proofs.lemmas.Sames.{same_text_refl, same_text_sym}
use Rattle.aidl_schema.specs.declared.schema.Decl.{Decl}
use Rattle.aidl_schema.specs.declared.schema.Field.{Field}
use Rattle.aidl_schema.specs.declared.schema.AidlType.{AidlType}
use Rattle.aidl_schema.specs.Same.{same, same_text}
use Rattle.aidl_values.specs.Data.{Data, Items, none, item, count, depth_of, greatest}
use Rattle.aidl_values.specs.HasType.{HasType, HaveType, FieldsHaveType}
use Rattle.aidl_values.specs.Sound.{initial_in, HaveDefaults}
use Rattle.wire_model.specs.Spell.{spell, spell_items, spell_fields}
use Rattle.wire_model.specs.Status.{bad_value}
use Rattle.wire_model.specs.Reads.{Reads, EachReads, FieldsRead}
use Rattle.wire_model.specs.Stop.{Stop, ElementsStop, FieldsStop}
use Rattle.wire_model.specs.View.{item_first, each_field, or_initial, field_named, view_of, view_items, view_named}
use Rattle.wire_model.specs.steps.Meets.{IsAbsent, AreDistinct, FieldsAgree}
use Rattle.wire_model.proofs.lemmas.spelled.Sizes.{spell_whole}
use Rattle.wire_model.proofs.told.All.{reads_type}
use Rattle.wire_model.proofs.lemmas.Defaults.{initials_in, are_initial, initials_typed}

-- The bytes are a reading of what the view is; or, if there is none, reading stops whatever follows.
abbrev pub ReadsOrStops : Profile → List Decl → ℕ → AidlType → List ℕ → Option Data → Type 0
ReadsOrStops p B d u b (Some w) = Reads p B d u b w
ReadsOrStops p B d u b None = (c : List ℕ) (inside : Bool) → Stop p B d u (b ++ c) inside bad_value

pub read_types : (p : Profile) (S : List Decl) (d : ℕ) (t : AidlType) (vs : Items) (b : List ℕ) → EachReads (λ front v. Reads p S d t front v) b vs → HaveType S t vs
read_types p S d t none b h = tt
read_types p S d t (item v vs) b h = (reads_type p S d t h.0 v h.3, read_types p S d t vs h.1 h.4)

-- what comes of n elements
abbrev pub ElementsOutcome : Profile → List Decl → ℕ → AidlType → ℕ → List ℕ → Option Items → Type 0
ElementsOutcome p B d u n b (Some ws) = (count ws ≡ n) × EachReads (λ front w. Reads p B d u front w) b ws
ElementsOutcome p B d u n b None = (c : List ℕ) (inside : Bool)
    → ElementsStop (λ front w. Reads p B d u front w) (λ rest s. Stop p B d u rest inside s) n (b ++ c) bad_value

module _ (p : Profile) (B : List Decl) (d : ℕ) (u : AidlType) (n : ℕ) (front rest : List ℕ) where
  later : (w : Data) (c : List ℕ) (inside : Bool) → Reads p B d u front w
      → ElementsStop (λ front w. Reads p B d u front w) (λ rest s. Stop p B d u rest inside s) n (rest ++ c) bad_value
      → ElementsStop (λ front w. Reads p B d u front w) (λ rest s. Stop p B d u rest inside s) (suc n) ((front ++ rest) ++ c) bad_value
  later w c inside h (ElementsStop.at_element vs lt front' rest' e each stop) =
      ElementsStop.at_element (item w vs) (omega arith) (front ++ front') rest' (append_assoc front rest c ∙ ap (λ x. front ++ x) e ∙ sym (append_assoc front front' rest'))
      (front, front', refl, h, each) stop

  element : (o : Option Data) (os : Option Items) → ReadsOrStops p B d u front o → ElementsOutcome p B d u n rest os
      → ElementsOutcome p B d u (suc n) (front ++ rest) (item_first o os)
  element None os h hs = λ c inside. ElementsStop.at_element none (omega arith) [] ((front ++ rest) ++ c) refl refl
      (subst (λ b. Stop p B d u b inside bad_value) (sym (append_assoc front rest c)) (h (rest ++ c) inside))
  element (Some w) (Some ws) h hs = (ap suc hs.0, (front, rest, refl, h, hs.1))
  element (Some w) None h hs = λ c inside. later w c inside h (hs c inside)

-- what comes of the fields of a record whose bytes these are
abbrev pub FieldsOutcome : Profile → List Decl → ℕ → List Field → List ℕ → Option Items → Type 0
FieldsOutcome p B d gs b (Some ws) = FieldsRead B (λ u x w. Reads p B d u x w) gs b ws × FieldsHaveType B gs ws
FieldsOutcome p B d gs b None = FieldsStop gs (λ u x w. Reads p B d u x w) (λ u rest j s. Stop p B d u rest j s) b bad_value

module _ (p : Profile) (B : List Decl) (d : ℕ) (g : Field) (gs : List Field) (front rest : List ℕ) where
  later_field : (w : Data) → Reads p B d g.ty front w → FieldsStop gs (λ u x w. Reads p B d u x w) (λ u rest j s. Stop p B d u rest j s) rest bad_value
      → FieldsStop (g ∷ gs) (λ u x w. Reads p B d u x w) (λ u rest j s. Stop p B d u rest j s) (front ++ rest) bad_value
  later_field w h (FieldsStop.at_field i f at vs front' rest' e there some stop) =
      FieldsStop.at_field (suc i) f at (item w vs) (front ++ front') rest' (ap (λ x. front ++ x) e ∙ sym (append_assoc front front' rest')) (front, front', refl, h, there) some stop

  field : (o : Option Data) (os : Option Items) → front ++ rest ≢ [] → ReadsOrStops p B d g.ty front o → FieldsOutcome p B d gs rest os
      → FieldsOutcome p B d (g ∷ gs) (front ++ rest) (item_first o os)
  field None os some h hs = FieldsStop.at_field 0 g refl none [] (front ++ rest) refl refl some (h rest true)
  field (Some w) (Some ws) some h hs = (inr (front, rest, refl, h, hs.0), (reads_type p B d g.ty front w h, hs.1))
  field (Some w) None some h hs = later_field w h hs

pub each_initial : (S : List Decl) (gs : List Field) → each_field (λ g. Some (initial_in S g)) gs ≡ Some (initials_in S gs)
each_initial S [] = refl
each_initial S (g ∷ gs) = ap (λ vs. item_first (Some (initial_in S g)) vs) (each_initial S gs)

-- what the receiver has of the sender's fields
abbrev pub seen_fields : List Decl → List Field → List Decl → List Field → Items → Option Items
seen_fields A fs B gs vs = each_field (λ g. or_initial (view_named A fs B g vs) (initial_in B g)) gs

module _ (A B : List Decl) (f : Field) (fs : List Field) (v : Data) (vs : Items) where
  -- fields of other names don't see the sender's first one
  pub others : (gs : List Field) → IsAbsent f.name.0 gs → seen_fields A (f ∷ fs) B gs (item v vs) ≡ seen_fields A fs B gs vs
  others [] h = refl
  others (g ∷ gs) h =
      let head : or_initial (view_named A (f ∷ fs) B g (item v vs)) (initial_in B g) ≡ or_initial (view_named A fs B g vs) (initial_in B g) = rw h.0 refl in
      ap (λ o. item_first o (seen_fields A (f ∷ fs) B gs (item v vs))) head
      ∙ ap (λ os. item_first (or_initial (view_named A fs B g vs) (initial_in B g)) os) (others gs h.1)

  -- the field of its name sees it
  pub first_seen : (g : Field) → f.name.0 ≡ g.name.0 → or_initial (view_named A (f ∷ fs) B g (item v vs)) (initial_in B g) ≡ view_of A f.ty B g.ty v
  first_seen g e =
      let named : same_text f.name.0 g.name.0 ≡ true = subst (λ x. same_text f.name.0 x ≡ true) e (same_text_refl f.name.0) in
      rw named refl

module _ (p : Profile) (A B : List Decl) where
  -- what the law says of every value of at most so many levels
  abbrev pub Lawful : ℕ → Type 0
  Lawful d = (t u : AidlType) (v : Data) → same A t B u ≡ true → HasType A t v → depth_of v ≤ d → length (spell A t v) ≤ 1048576
      → ReadsOrStops p B d u (spell A t v) (view_of A t B u v)

  pub elements : (d : ℕ) (t u : AidlType) (vs : Items) → Lawful d → same A t B u ≡ true → HaveType A t vs → greatest vs ≤ d → length (spell_items A t vs) ≤ 1048576
      → ElementsOutcome p B d u (count vs) (spell_items A t vs) (view_items A t B u vs)
  elements d t u none law is h le fits = (refl, refl)
  elements d t u (item v vs) law is h le fits =
      let sum = length-append (spell A t v) (spell_items A t vs) in
      element p B d u (count vs) (spell A t v) (spell_items A t vs) (view_of A t B u v) (view_items A t B u vs)
      (law t u v is h.0 (omega arith) (omega arith)) (elements d t u vs law is h.1 (omega arith) (omega arith))

  not_empty : (t : AidlType) (v : Data) (b : List ℕ) → spell A t v ++ b ≢ []
  not_empty t v b e = let words = spell_whole A t v in absurd (omega (arith, words.1, length-append (spell A t v) b, ap length e))

  pub fields : (d : ℕ) (fs gs : List Field) (vs : Items) → Lawful d → FieldsHaveType A fs vs → greatest vs ≤ d → length (spell_fields A fs vs) ≤ 1048576
      → FieldsAgree A fs B gs → HaveDefaults B gs → AreDistinct gs
      → FieldsOutcome p B d gs (spell_fields A fs vs) (seen_fields A fs B gs vs)
  fields d [] gs (item v vs) law h le fits agree defaults distinct = elim h [ ]
  fields d [] [] none law h le fits agree defaults distinct = (tt, tt)
  fields d [] (g ∷ gs) none law h le fits agree defaults distinct =
      subst (λ os. FieldsOutcome p B d (g ∷ gs) [] os) (sym (each_initial B (g ∷ gs))) (inl (refl, are_initial B (g ∷ gs) defaults), initials_typed B (g ∷ gs) defaults)
  fields d (f ∷ fs) gs none law h le fits agree defaults distinct = elim h [ ]
  fields d (f ∷ fs) [] (item v vs) law h le fits agree defaults distinct = (tt, tt)
  fields d (f ∷ fs) (g ∷ gs) (item v vs) law h le fits agree defaults distinct =
      let sum = length-append (spell A f.ty v) (spell_fields A fs vs) in
      let apart : IsAbsent f.name.0 gs = subst (λ x. IsAbsent x gs) (sym agree.0) distinct.0 in
      let step = field p B d g gs (spell A f.ty v) (spell_fields A fs vs) (view_of A f.ty B g.ty v) (seen_fields A fs B gs vs) (not_empty f.ty v (spell_fields A fs vs))
      (law f.ty g.ty v agree.1 h.0 (omega arith) (omega arith)) (fields d fs gs vs law h.1 (omega arith) (omega arith) agree.2 defaults.1 distinct.1) in
      subst (λ os. FieldsOutcome p B d (g ∷ gs) (spell A f.ty v ++ spell_fields A fs vs) os)
      (sym (ap (λ o. item_first o (seen_fields A (f ∷ fs) B gs (item v vs))) (first_seen A B f fs v vs g agree.0)
      ∙ ap (λ os. item_first (view_of A f.ty B g.ty v) os) (others A B f fs v vs gs apart))) step

  -- where the receiver has the field of a tag: at the same position; else it has no field of that name
  absent_at : (name : List ℕ) (fs : List Field) (k : ℕ) (f : Field) → IsAbsent name fs → slice_get fs k ≡ Some f → same_text name f.name.0 ≡ false
  absent_at name [] k f h e = absurd cc
  absent_at name (f' ∷ fs) zero f h e = let is : f' ≡ f = cc in subst (λ x. same_text name x.name.0 ≡ false) is h.0
  absent_at name (f' ∷ fs) (suc k) f h e = absent_at name fs k f h.1 e

  abbrev pub Tagged : List Field → ℕ → ℕ → Field → Type 0
  Tagged gs n k f = ((g : Field) × (slice_get gs k ≡ Some g) × (field_named n f.name.0 gs ≡ Some (n + k, g)) × (same A f.ty B g.ty ≡ true))
      ⊎ ((length gs ≤ k) × (field_named n f.name.0 gs ≡ None))

  pub tagged : (fs gs : List Field) (k n : ℕ) (f : Field) → FieldsAgree A fs B gs → AreDistinct fs → slice_get fs k ≡ Some f → Tagged gs n k f
  tagged [] gs k n f agree distinct e = absurd cc
  tagged (f' ∷ fs) [] k n f agree distinct e = inr (omega arith, refl)
  tagged (f' ∷ fs) (g ∷ gs) zero n f agree distinct e =
      let is : f' ≡ f = cc in
      let name : f.name.0 ≡ g.name.0 = subst (λ x. x.name.0 ≡ g.name.0) is agree.0 in
      let named : same_text f.name.0 g.name.0 ≡ true = subst (λ x. same_text f.name.0 x ≡ true) name (same_text_refl f.name.0) in
      let at : (n + 0) ≡ n = omega arith in
      inl (g, refl, rw (named, at) refl, subst (λ x. same A x.ty B g.ty ≡ true) is agree.1)
  tagged (f' ∷ fs) (g ∷ gs) (suc k) n f agree distinct e = further (tagged fs gs k (suc n) f agree.2 distinct.1 e)
    where
      other : same_text f.name.0 g.name.0 ≡ false
      other = same_text_sym f.name.0 g.name.0 ∙ subst (λ x. same_text x f.name.0 ≡ false) agree.0 (absent_at f'.name.0 fs k f distinct.0 e)

      further : Tagged gs (suc n) k f → Tagged (g ∷ gs) n (suc k) f
      further (inl h) = let at : n + suc k ≡ suc n + k = omega arith in inl (h.0, h.1, rw (other, at) h.2, h.3)
      further (inr h) = inr (omega (arith, h.0), rw other h.1)
