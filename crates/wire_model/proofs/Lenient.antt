-- What the strict profile reads, the lenient one reads: `law_strict_is_lenient`.
use Rattle.std.proofs.Common.{ℕ, zero, suc, ℤ, Bool, true, false, List, [], ◌∷◌, inl, inr, refl}
use Rattle.std.specs.Prelude.{MatchBool}
use Rattle.aidl_base.specs.declared.profile.Profile.TheVariants.{Strict, Lenient}
use Rattle.aidl_base.specs.Profiles.{IsPadded}
use Rattle.aidl_schema.specs.declared.schema.Decl.{Decl}
use Rattle.aidl_schema.specs.declared.schema.Field.{Field}
use Rattle.aidl_schema.specs.declared.schema.AidlType.{AidlType}
use Rattle.aidl_schema.specs.Types.{Form, form_of, is_raw, elem}
use Rattle.aidl_schema.specs.Types as form
use Rattle.aidl_values.specs.Data.{Data, null, truth, number, text, seq, rec, alt, Items, none, item}
use Rattle.wire_model.specs.Reads.{Readings, NumberReads, EachReads, FieldsRead, Reads}
use Rattle.wire_model.specs.Spell.{raw_bytes}

padded_lenient : (bytes b : List ℕ) → IsPadded Strict bytes b → IsPadded Lenient bytes b
padded_lenient bytes b h = (h.0, h.1, h.2, refl)

number_lenient : (f : Form) (b : List ℕ) (n : ℤ) → NumberReads Strict f b n → NumberReads Lenient f b n
number_lenient form.byte b n h = (h.0, refl, h.2)
number_lenient form.char b n h = (h.0, refl, h.2)
number_lenient form.truth b n h = h
number_lenient form.int b n h = h
number_lenient form.long b n h = h
number_lenient form.text b n h = h
number_lenient (form.parcelable fs) b n h = h
number_lenient (form.union fs) b n h = h
number_lenient form.nothing b n h = h

each_lenient : (P Q : List ℕ → Data → Type 0) → ((c : List ℕ) (v : Data) → P c v → Q c v) → (b : List ℕ) (vs : Items) → EachReads P b vs → EachReads Q b vs
each_lenient P Q law b none h = h
each_lenient P Q law b (item v vs) h = (h.0, h.1, h.2, law h.0 v h.3, each_lenient P Q law h.1 vs h.4)

fields_lenient : (S : List Decl) (P Q : Readings) → ((t : AidlType) (c : List ℕ) (v : Data) → P t c v → Q t c v) → (fs : List Field) (b : List ℕ) (vs : Items)
    → FieldsRead S P fs b vs → FieldsRead S Q fs b vs
fields_lenient S P Q law [] b none h = h
fields_lenient S P Q law [] b (item v vs) h = h
fields_lenient S P Q law (f ∷ fs) b none h = h
fields_lenient S P Q law (f ∷ fs) b (item v vs) (inl h) = inl h
fields_lenient S P Q law (f ∷ fs) b (item v vs) (inr h) = inr (h.0, h.1, h.2, law f.ty h.0 v h.3, fields_lenient S P Q law fs h.1 vs h.4)

elements_lenient : (raw : Bool) (bytes b : List ℕ) (P Q : Type 0) → (P → Q) → MatchBool raw (IsPadded Strict bytes b) P → MatchBool raw (IsPadded Lenient bytes b) Q
elements_lenient true bytes b P Q law h = padded_lenient bytes b h
elements_lenient false bytes b P Q law h = law h

pub strict_is_lenient : (S : List Decl) (d : ℕ) (t : AidlType) (b : List ℕ) (v : Data) → Reads Strict S d t b v → Reads Lenient S d t b v
strict_is_lenient S d t b null h = h
strict_is_lenient S d t b (truth x) h = (h.0, (h.1.0, refl, h.1.2))
strict_is_lenient S d t b (number n) h = (h.0, number_lenient (form_of S t.base) b n h.1)
strict_is_lenient S d t b (text x) h = (h.0, h.1, h.2, h.3, padded_lenient _ h.2 h.4)
strict_is_lenient S zero t b (seq vs) h = h
strict_is_lenient S zero t b (rec vs) h = h
strict_is_lenient S zero t b (alt k v) h = h
strict_is_lenient S (suc d) t b (seq vs) h = (
  h.0,
  h.1,
  h.2,
  h.3,
  elements_lenient (is_raw S t) (raw_bytes vs) h.2 _ _
      (λ each. each_lenient (λ c v. Reads Strict S d (elem S t) c v) (λ c v. Reads Lenient S d (elem S t) c v) (λ c v k. strict_is_lenient S d (elem S t) c v k) h.2 vs each) h.4,
)
strict_is_lenient S (suc d) t b (rec vs) h = (
  h.0,
  h.1,
  h.2,
  h.3,
  h.4,
  h.5,
  (h.6.0, refl, h.6.2),
  (
    h.7.0,
    h.7.1,
    h.7.2,
    h.7.3,
    fields_lenient S (λ u c v. Reads Strict S d u c v) (λ u c v. Reads Lenient S d u c v) (λ u c v k. strict_is_lenient S d u c v k) h.1 h.7.0 vs h.7.4,
  ),
)
strict_is_lenient S (suc d) t b (alt k v) h = (h.0, h.1, h.2, h.3, h.4, h.5, h.6, h.7, (h.8.0, refl, h.8.2), strict_is_lenient S d h.3.ty h.6 v h.9)
