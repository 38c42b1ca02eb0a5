-- what spells a value is a reading of it.
use Rattle.std.proofs.Common.{◌≡◌, ℕ, zero, suc, ◌+◌, ◌^◌, ◌≤◌, ◌<◌, ℤ, pos, Bool, true, false, cond, List, [], ◌∷◌, ◌++◌, length, slice_get, refl, ap, ◌∙◌, inr, arith, length-append}
use Rattle.std.specs.Prelude.{MatchBool}
use Rattle.aidl_base.specs.declared.profile.Profile.{Profile}
use Rattle.aidl_base.specs.Profiles.{IsPadded}
use Rattle.aidl_base.specs.Words.{word, pad, units, unit_bytes, block}
use Rattle.aidl_base.proofs.lemmas.Profiles.{padded}
use Rattle.aidl_base.proofs.lemmas.Ranges.{byte_fits}
use Rattle.aidl_base.proofs.lemmas.Values.{truth_word, byte_word, char_number_word}
use Rattle.aidl_schema.specs.Constants.{in_range}
use Rattle.aidl_schema.specs.Types as form
use Rattle.aidl_schema.specs.declared.schema.Decl.{Decl}
use Rattle.aidl_schema.specs.declared.schema.Field.{Field}
use Rattle.aidl_schema.specs.declared.schema.AidlType.{AidlType}
use Rattle.aidl_schema.specs.Types.{Form, form_of, is_raw, elem, type_of_field}
use Rattle.aidl_values.specs.Data.{Data, null, truth, number, text, seq, rec, alt, Items, none, item, count, depth_of, greatest}
use Rattle.aidl_values.specs.HasType.{HasType, HaveType, FieldsHaveType}
use Rattle.wire_model.specs.Spell.{spell, spell_number, spell_items, spell_fields, spell_text, raw_bytes, body, parcelable_fields, union_fields}
use Rattle.wire_model.specs.Reads.{Reads, EachReads, FieldsRead, NumberReads}
use Rattle.wire_model.proofs.lemmas.spelled.Sizes.{length-word, pad_whole, length-raw_bytes, spell_items_whole, spell_fields_whole}
use Rattle.aidl_base.proofs.lemmas.Blocks.{length-unit_bytes}

-- every value of the type whose depth is at most d and whose spelling is small enough is read from it
Lawful : Profile → List Decl → ℕ → Type 0
Lawful p S d = (t : AidlType) (v : Data) → HasType S t v → depth_of v ≤ d → length (spell S t v) ≤ 1048576 → Reads p S d t (spell S t v) v

-- so are items of a type
each : (p : Profile) (S : List Decl) (d : ℕ) (t : AidlType) (vs : Items) → Lawful p S d → HaveType S t vs → greatest vs ≤ d → length (spell_items S t vs) ≤ 1048576
    → EachReads (λ front v. Reads p S d t front v) (spell_items S t vs) vs
unfolding Lawful
each p S d t none law h le fits = refl
each p S d t (item v vs) law h le fits =
    let sum = length-append (spell S t v) (spell_items S t vs) in
    (spell S t v, spell_items S t vs, refl, law t v h.0 (omega arith) (omega arith), each p S d t vs law h.1 (omega arith) (omega arith))

fields : (p : Profile) (S : List Decl) (d : ℕ) (fs : List Field) (vs : Items) → Lawful p S d → FieldsHaveType S fs vs → greatest vs ≤ d
    → length (spell_fields S fs vs) ≤ 1048576
    → FieldsRead S (λ u front v. Reads p S d u front v) fs (spell_fields S fs vs) vs
unfolding Lawful
fields p S d [] none law h le fits = tt
fields p S d [] (item v vs) law h le fits = elim h [ ]
fields p S d (f ∷ fs) none law h le fits = elim h [ ]
fields p S d (f ∷ fs) (item v vs) law h le fits =
    let sum = length-append (spell S f.ty v) (spell_fields S fs vs) in
    inr (spell S f.ty v, spell_fields S fs vs, refl, law f.ty v h.0 (omega arith) (omega arith), fields p S d fs vs law h.1 (omega arith) (omega arith))

-- a number's spelling is a reading of it
pub number_spelled : (p : Profile) (f : Form) (n : ℤ) → in_range f n ≡ true → NumberReads p f (spell_number f n) n
number_spelled p form.byte n h = byte_word p n (byte_fits n h)
number_spelled p form.char n h = char_number_word p n h
number_spelled p form.int n h = refl
number_spelled p form.long n h = refl
number_spelled p form.truth n h = refl
number_spelled p form.text n h = refl
number_spelled p (form.parcelable fs) n h = refl
number_spelled p (form.union fs) n h = refl
number_spelled p form.nothing n h = refl

pub units_small : (x : List ℕ) → length (spell_text x) ≤ 1048576 → length (units x) < 2 ^ 31
units_small x fits =
    let us = units x ++ 0 ∷ [] in
    let p = pad_whole (unit_bytes us) in
    omega (arith, p.1, p.2, length-unit_bytes us, length-append (units x) (0 ∷ []), length-append (word (pos (length (units x)))) (block x), length-word (pos (length (units x))))

pub items_small : (S : List Decl) (t : AidlType) (vs : Items) → length (spell S t (seq vs)) ≤ 1048576 → (raw : Bool) → is_raw S t ≡ raw
    → (count vs ≤ 1048576) × (length (cond raw [] (spell_items S (elem S t) vs)) ≤ 1048576)
items_small S t vs fits true e =
    let p = pad_whole (raw_bytes vs) in
    let whole : length (word (pos (count vs)) ++ pad (raw_bytes vs)) ≤ 1048576 = rw e at fits in
    (omega (arith, p.1, p.2, length-raw_bytes vs, length-append (word (pos (count vs))) (pad (raw_bytes vs))), omega arith)
items_small S t vs fits false e =
    let p = spell_items_whole S (elem S t) vs in
    let whole : length (word (pos (count vs)) ++ spell_items S (elem S t) vs) ≤ 1048576 = rw e at fits in
    (omega (arith, p.1, p.2, length-append (word (pos (count vs))) (spell_items S (elem S t) vs)), omega (arith, length-append (word (pos (count vs))) (spell_items S (elem S t) vs)))

-- the items of a sequence that isn't raw, read one by one
sequence : (p : Profile) (S : List Decl) (d : ℕ) (t : AidlType) (vs : Items) → Lawful p S d → HaveType S (elem S t) vs → greatest vs ≤ d → (raw : Bool)
    → length (cond raw [] (spell_items S (elem S t) vs)) ≤ 1048576
    → MatchBool raw (IsPadded p (raw_bytes vs) (cond raw (pad (raw_bytes vs)) (spell_items S (elem S t) vs))) (EachReads (λ front v. Reads p S d (elem S t) front v) (cond raw (pad (raw_bytes vs)) (spell_items S (elem S t) vs)) vs)
sequence p S d t vs law h le true fits = padded p (raw_bytes vs)
sequence p S d t vs law h le false fits = each p S d (elem S t) vs law h le fits

pub spelled_reads : (p : Profile) (S : List Decl) (d : ℕ) (t : AidlType) (v : Data) → HasType S t v → depth_of v ≤ d → length (spell S t v) ≤ 1048576
    → Reads p S d t (spell S t v) v
unfolding Lawful
spelled_reads p S d t null h le fits = (h, refl)
spelled_reads p S d t (truth b) h le fits = (h, truth_word p b)
spelled_reads p S d t (number n) h le fits = (h, number_spelled p (form_of S t.base) n h.1)
spelled_reads p S d t (text x) h le fits = (h, units_small x fits, block x, refl, padded p _)
spelled_reads p S zero t (seq vs) h le fits = absurd (omega arith)
spelled_reads p S zero t (rec vs) h le fits = absurd (omega arith)
spelled_reads p S zero t (alt k v) h le fits = absurd (omega arith)
spelled_reads p S (suc d) t (seq vs) h le fits =
    let small = items_small S t vs fits (is_raw S t) refl in (
      h,
      omega (arith, small.0),
      cond (is_raw S t) (pad (raw_bytes vs)) (spell_items S (elem S t) vs),
      refl,
      sequence p S d t vs (λ u w. spelled_reads p S d u w) h.1 (omega arith) (is_raw S t) small.1,
    )
spelled_reads p S (suc d) t (rec vs) h le fits =
    let fs = h.1 in
    let inner = spell_fields S fs vs in
    let spelled : spell S t (rec vs) ≡ word (pos 1) ++ body inner = ap (λ gs. word (pos 1) ++ body (spell_fields S gs vs)) (ap parcelable_fields h.2) in
    let words = spell_fields_whole S fs vs in
    let sum = length-append (word (pos 1)) (body inner) in
    let sum' = length-append (word (pos (4 + length inner))) inner in
    let fits' : length inner ≤ 1048576 = omega (arith, ap length spelled) in
    (h, fs, h.2, word (pos 1), body inner, spelled, truth_word p true, (inner, refl, omega (arith, words.1), omega arith, fields p S d fs vs (λ u w. spelled_reads p S d u w) h.3 (omega arith) fits'))
spelled_reads p S (suc d) t (alt k v) h le fits =
    let f = h.3 in
    let spelled : spell S t (alt k v) ≡ word (pos 1) ++ (word (pos k) ++ spell S f.ty v) =
    ap (λ gs. word (pos 1) ++ word (pos k) ++ spell S (type_of_field (slice_get (union_fields gs) k)) v) h.2
    ∙ ap (λ o. word (pos 1) ++ word (pos k) ++ spell S (type_of_field o) v) h.4 in
    let sum = length-append (word (pos 1) ++ word (pos k)) (spell S f.ty v) in
    let fits' : length (spell S f.ty v) ≤ 1048576 = omega (arith, ap length spelled) in
    (h, h.1, h.2, f, h.4, word (pos 1), spell S f.ty v, spelled, truth_word p true, spelled_reads p S d f.ty v h.5 (omega arith) fits')
