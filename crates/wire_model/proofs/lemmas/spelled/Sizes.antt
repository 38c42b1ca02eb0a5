-- Spellings are whole words, and have at least one.
use Rattle.std.proofs.Common.{◌≡◌, ℕ, suc, ◌+◌, ◌*◌, ◌/◌, ◌≤◌, ℤ, pos, Bool, true, false, cond, List, [], ◌∷◌, ◌++◌, length, slice_get, refl, ap, ◌∙◌, arith, length-append}
use Rattle.std.proofs.lemmas.List.{length-replicate}
use Rattle.aidl_base.specs.Words.{word, pad, padding, units, unit_bytes, block}
use Rattle.aidl_schema.specs.declared.schema.Decl.{Decl}
use Rattle.aidl_schema.specs.declared.schema.Field.{Field}
use Rattle.aidl_schema.specs.declared.schema.AidlType.{AidlType}
use Rattle.aidl_schema.specs.Types.{Form, form_of, is_one, is_raw, elem, type_of_field}
use Rattle.aidl_schema.specs.Types as form
use Rattle.aidl_values.specs.Data.{Data, null, truth, number, text, seq, rec, alt, Items, none, item, count}
use Rattle.wire_model.specs.Spell.{spell, spell_items, spell_fields, spell_number, spell_text, raw_bytes, body, parcelable_fields, union_fields}

-- so many words, at least one
abbrev pub Whole : List ℕ → Type 0
Whole b = (k : ℕ) × (length b ≡ 4 * suc k)

pub length-word : (n : ℤ) → length (word n) ≡ 4
length-word n = refl

padded : (n : ℕ) → (k : ℕ) × (n + padding n ≡ 4 * k)
padded n = ((n + padding n) / 4, omega arith)

pub length-pad : (b : List ℕ) → length (pad b) ≡ length b + padding (length b)
length-pad b = simp (length-append, length-replicate)

pub pad_whole : (b : List ℕ) → (k : ℕ) × (length (pad b) ≡ 4 * k) × (length b ≤ 4 * k)
pad_whole b = let p = padded (length b) in (p.0, length-pad b ∙ p.1, omega (arith, p.1))

word_and : (n : ℤ) (b : List ℕ) (k : ℕ) → length b ≡ 4 * k → Whole (word n ++ b)
word_and n b k e = (k, omega (arith, length-append (word n) b, length-word n))

number_whole : (f : Form) (n : ℤ) → Whole (spell_number f n)
number_whole form.long n = (1, refl)
number_whole form.truth n = (0, refl)
number_whole form.byte n = (0, refl)
number_whole form.char n = (0, refl)
number_whole form.int n = (0, refl)
number_whole form.text n = (0, refl)
number_whole (form.parcelable fs) n = (0, refl)
number_whole (form.union fs) n = (0, refl)
number_whole form.nothing n = (0, refl)

text_whole : (x : List ℕ) → Whole (spell_text x)
text_whole x = let p = pad_whole (unit_bytes (units x ++ 0 ∷ [])) in word_and (pos (length (units x))) (block x) p.0 p.1

pub length-raw_bytes : (vs : Items) → length (raw_bytes vs) ≡ count vs
length-raw_bytes none = refl
length-raw_bytes (item v vs) = ap suc (length-raw_bytes vs)

-- a sequence after its count has as many words, or bytes, at least
elements_whole : (raw : Bool) (bytes items : List ℕ) (n k : ℕ) → length bytes ≡ n → length items ≡ 4 * k → n ≤ k
    → (j : ℕ) × (length (cond raw (pad bytes) items) ≡ 4 * j) × (n ≤ 4 * j)
elements_whole true bytes items n k e f le = let p = pad_whole bytes in (p.0, p.1, omega (arith, p.2))
elements_whole false bytes items n k e f le = (k, f, omega arith)

mutual
  pub spell_whole : (S : List Decl) (t : AidlType) (v : Data) → Whole (spell S t v)
  spell_whole S t null = (0, refl)
  spell_whole S t (truth b) = (0, refl)
  spell_whole S t (number n) = number_whole (form_of S t.base) n
  spell_whole S t (text x) = text_whole x
  spell_whole S t (seq vs) =
      let p = spell_items_whole S (elem S t) vs in
      let q = elements_whole (is_raw S t) (raw_bytes vs) (spell_items S (elem S t) vs) (count vs) p.0 (length-raw_bytes vs) p.1 p.2 in
      word_and (pos (count vs)) _ q.0 q.1
  spell_whole S t (rec vs) =
      let fields = spell_fields S (parcelable_fields (form_of S t.base)) vs in
      let p = spell_fields_whole S (parcelable_fields (form_of S t.base)) vs in
      let q = word_and (pos (4 + length fields)) fields p.0 p.1 in
      word_and (pos 1) (body fields) (suc q.0) q.1
  spell_whole S t (alt k v) =
      let u = type_of_field (slice_get (union_fields (form_of S t.base)) k) in
      let p = spell_whole S u v in
      let q = word_and (pos k) (spell S u v) (suc p.0) p.1 in
      word_and (pos 1) (word (pos k) ++ spell S u v) (suc q.0) q.1

  pub spell_items_whole : (S : List Decl) (t : AidlType) (vs : Items) → (k : ℕ) × (length (spell_items S t vs) ≡ 4 * k) × (count vs ≤ k)
  spell_items_whole S t none = (0, refl, omega arith)
  spell_items_whole S t (item v vs) =
      let p = spell_whole S t v in
      let q = spell_items_whole S t vs in
      (suc p.0 + q.0, omega (arith, p.1, q.1, length-append (spell S t v) (spell_items S t vs)), omega (arith, q.2))

  pub spell_fields_whole : (S : List Decl) (fs : List Field) (vs : Items) → (k : ℕ) × (length (spell_fields S fs vs) ≡ 4 * k)
  spell_fields_whole S [] none = (0, refl)
  spell_fields_whole S [] (item v vs) = (0, refl)
  spell_fields_whole S (f ∷ fs) none = (0, refl)
  spell_fields_whole S (f ∷ fs) (item v vs) =
      let p = spell_whole S f.ty v in
      let q = spell_fields_whole S fs vs in
      (suc p.0 + q.0, omega (arith, p.1, q.1, length-append (spell S f.ty v) (spell_fields S fs vs)))
