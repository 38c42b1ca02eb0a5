-- What is read of bytes has few levels more than were left: `law_depth`.
use Rattle.std.proofs.Common.{◌≡◌, ℕ, zero, suc, ◌+◌, ◌≤◌, Bool, true, false, List, [], ◌∷◌, inl, inr, refl, ap, arith}
use Rattle.std.specs.Prelude.{MatchBool}
use Rattle.aidl_base.specs.declared.profile.Profile.{Profile}
use Rattle.aidl_base.specs.Profiles.{IsPadded}
use Rattle.aidl_schema.specs.declared.schema.Decl.{Decl}
use Rattle.aidl_schema.specs.declared.schema.Field.{Field}
use Rattle.aidl_schema.specs.declared.schema.Base.{Base}
use Rattle.aidl_schema.specs.declared.schema.Shape.TheVariants as shape
use Rattle.aidl_schema.specs.declared.schema.AidlType.{AidlType}
use Rattle.aidl_schema.specs.Types.{form_of, is_type, is_raw, elem}
use Rattle.aidl_schema.specs.Types as form
use Rattle.aidl_values.specs.Data.{Data, null, truth, number, text, seq, rec, alt, Items, none, item, depth_of, greatest}
use Rattle.aidl_values.specs.Default.{IsZero}
use Rattle.aidl_values.specs.HasType.{HaveType}
use Rattle.aidl_values.specs.Sound.{HaveDefaults}
use Rattle.wire_model.specs.Reads.{Readings, Reads, EachReads, FieldsRead}
use Rattle.wire_model.specs.Spell.{raw_bytes}
use Rattle.wire_model.proofs.again.All.{are_bytes}
use Rattle.wire_model.proofs.again.Texts.{AreByteNumbers}
use Rattle.wire_model.proofs.lemmas.Defaults.{initials_in, are_initial}
use Rattle.wire_model.proofs.lemmas.Nodes.{defaults_are}
use Rattle.wire_model.proofs.Forms.{raw_form}
use Rattle.wire_model.proofs.lemmas.Sound.{IsWhole}

-- bytes have no levels
bytes_flat : (vs : Items) → AreByteNumbers vs → greatest vs ≡ 0
bytes_flat none h = refl
bytes_flat (item v vs) h = omega (arith, ap depth_of h.1, bytes_flat vs h.3)

-- parts of at most m levels, one after the other
module _ (m : ℕ) where
  each_depth : (PartReads : List ℕ → Data → Type 0) → ((c : List ℕ) (v : Data) → PartReads c v → depth_of v ≤ m) → (vs : Items) (b : List ℕ)
      → EachReads PartReads b vs → greatest vs ≤ m
  each_depth PartReads law none b h = omega arith
  each_depth PartReads law (item v vs) b h = omega (arith, law h.0 v h.3, each_depth PartReads law vs h.1 h.4)

  fields_depth : (S : List Decl) (PartReads : Readings) → ((u : AidlType) (c : List ℕ) (v : Data) → PartReads u c v → depth_of v ≤ m)
      → (fs : List Field) (vs : Items) (b : List ℕ) → FieldsRead S PartReads fs b vs → HaveDefaults S fs → greatest (initials_in S fs) ≤ m → greatest vs ≤ m
  fields_depth S PartReads law [] none b h all le = omega arith
  fields_depth S PartReads law [] (item v vs) b h all le = elim h [ ]
  fields_depth S PartReads law (f ∷ fs) none b h all le = elim h [ ]
  fields_depth S PartReads law (f ∷ fs) (item v vs) b (inl h) all le = omega (arith, le, ap greatest (defaults_are S (f ∷ fs) (item v vs) h.1 all))
  fields_depth S PartReads law (f ∷ fs) (item v vs) b (inr h) all le =
      let later : greatest (initials_in S fs) ≤ m = omega (arith, le) in
      omega (arith, law f.ty h.0 v h.3, fields_depth S PartReads law fs vs h.1 h.4 all.1 later)

module _ (p : Profile) (S : List Decl) (sound : IsWhole S) (shallow : (t : AidlType) (v : Data) → is_type S t ≡ true → IsZero S t v → depth_of v ≤ 32) where
  -- a parcelable's value, not null
  abbrev one : Base → AidlType
  one b = record { base = b; shape = shape.One; nullable = false; heap = false; utf8 = false }

  -- a record's defaults, but for the record itself
  defaults_shallow : (b : Base) (fs : List Field) → form_of S b ≡ form.parcelable fs → HaveDefaults S fs → greatest (initials_in S fs) ≤ 31
  defaults_shallow b fs is all =
      let type : is_type S (one b) ≡ true = rw is refl in
      let whole : suc (greatest (initials_in S fs)) ≤ 32 = shallow (one b) (rec (initials_in S fs)) type (refl, refl, fs, is, are_initial S fs all) in
      omega arith

  -- raw bytes, or elements
  parts_depth : (m : ℕ) (t : AidlType) (vs : Items) (rest : List ℕ) (PartReads : List ℕ → Data → Type 0) → ((c : List ℕ) (v : Data) → PartReads c v → depth_of v ≤ m)
      → HaveType S (elem S t) vs → (raw : Bool) → is_raw S t ≡ raw → MatchBool raw (IsPadded p (raw_bytes vs) rest) (EachReads PartReads rest vs) → greatest vs ≤ m
  parts_depth m t vs rest PartReads law typed true is h = omega (arith, bytes_flat vs (are_bytes p S sound t vs (raw_form S t is) typed))
  parts_depth m t vs rest PartReads law typed false is h = each_depth m PartReads law vs rest h

  pub depths : (d : ℕ) (t : AidlType) (b : List ℕ) (v : Data) → Reads p S d t b v → depth_of v ≤ d + 31
  depths d t b null h = omega arith
  depths d t b (truth x) h = omega arith
  depths d t b (number n) h = omega arith
  depths d t b (text x) h = omega arith
  depths zero t b (seq vs) h = elim h [ ]
  depths zero t b (rec vs) h = elim h [ ]
  depths zero t b (alt k v) h = elim h [ ]
  depths (suc d) t b (seq vs) h =
      let parts = parts_depth (d + 31) t vs h.2 (λ c v. Reads p S d (elem S t) c v) (λ c v k. depths d (elem S t) c v k) h.0.1 (is_raw S t) refl h.4 in
      omega (arith, parts)
  depths (suc d) t b (rec vs) h =
      let all = (sound.fields t.base h.1 h.2).1 in
      let left_out = defaults_shallow t.base h.1 h.2 all in
      let parts = fields_depth (d + 31) S (λ u c v. Reads p S d u c v) (λ u c v k. depths d u c v k) h.1 vs h.7.0 h.7.4 all (omega (arith, left_out)) in
      omega (arith, parts)
  depths (suc d) t b (alt k v) h = omega (arith, depths d h.3.ty h.6 v h.9)
