-- What is read of bytes has few nodes for their number: `law_nodes`.
use Rattle.std.proofs.Common.{◌≡◌, ℕ, zero, suc, ◌+◌, ◌*◌, ◌≤◌, pos, Bool, true, false, List, [], ◌∷◌, ◌++◌, length, inl, inr, refl, ap, ◌∙◌, arith, length-append}
use Rattle.std.specs.Prelude.{MatchBool}
use Rattle.aidl_base.specs.declared.profile.Profile.{Profile}
use Rattle.aidl_base.specs.Profiles.{IsPadded}
use Rattle.aidl_base.specs.Words.{word, units}
use Rattle.aidl_base.proofs.lemmas.Blocks.{length-text_block}
use Rattle.aidl_base.proofs.lemmas.Texts.{chars_le_units}
use Rattle.aidl_schema.specs.declared.schema.Decl.{Decl}
use Rattle.aidl_schema.specs.declared.schema.Field.{Field}
use Rattle.aidl_schema.specs.declared.schema.Base.{Base}
use Rattle.aidl_schema.specs.declared.schema.Shape.TheVariants as shape
use Rattle.aidl_schema.specs.declared.schema.AidlType.{AidlType}
use Rattle.aidl_schema.specs.Types.{form_of, is_type, is_raw, elem}
use Rattle.aidl_schema.specs.Types as form
use Rattle.aidl_values.specs.Data.{Data, null, truth, number, text, seq, rec, alt, Items, none, item, count}
use Rattle.aidl_values.specs.Default.{IsZero, AreInitial}
use Rattle.aidl_values.specs.HasType.{HaveType}
use Rattle.aidl_values.specs.Nodes.{nodes_of, nodes_in}
use Rattle.aidl_values.specs.Sound.{initial_in, HaveDefaults}
use Rattle.wire_model.specs.Reads.{Readings, Reads, EachReads, FieldsRead}
use Rattle.wire_model.specs.Spell.{raw_bytes}
use Rattle.wire_model.proofs.again.All.{are_bytes, unique_initial, reads_some}
use Rattle.wire_model.proofs.again.Texts.{AreByteNumbers}
use Rattle.wire_model.proofs.lemmas.Defaults.{initials_in, are_initial}
use Rattle.wire_model.proofs.lemmas.spelled.Sizes.{length-raw_bytes}
use Rattle.wire_model.proofs.Forms.{raw_form}
use Rattle.wire_model.proofs.lemmas.Sound.{IsWhole}

-- each byte is one node
bytes_nodes : (vs : Items) → AreByteNumbers vs → nodes_in vs ≡ count vs
bytes_nodes none h = refl
bytes_nodes (item v vs) h = omega (arith, ap nodes_of h.1, bytes_nodes vs h.3)

-- few nodes for so many bytes
abbrev Few : Data → List ℕ → Type 0
Few v b = nodes_of v ≤ 64 * length b

some_byte : (b : List ℕ) → (b ≡ [] → ⊥) → 1 ≤ length b
some_byte [] h = elim (h refl) [ ]
some_byte (x ∷ b) h = omega arith

each_nodes : (PartReads : List ℕ → Data → Type 0) → ((c : List ℕ) (v : Data) → PartReads c v → Few v c) → (vs : Items) (b : List ℕ) → EachReads PartReads b vs
    → nodes_in vs ≤ 64 * length b
each_nodes PartReads law none b h = omega arith
each_nodes PartReads law (item v vs) b h =
    omega (arith, law h.0 v h.3, each_nodes PartReads law vs h.1 h.4, ap length h.2, length-append h.0 h.1)

module _ (S : List Decl) where
  -- the fields that are not there have their defaults
  pub defaults_are : (fs : List Field) (vs : Items) → AreInitial S fs vs → HaveDefaults S fs → vs ≡ initials_in S fs
  defaults_are [] none h all = refl
  defaults_are [] (item v vs) h all = elim h [ ]
  defaults_are (f ∷ fs) none h all = elim h [ ]
  defaults_are (f ∷ fs) (item v vs) h all =
      ap (λ w. item w vs) (unique_initial S f.ty f.initial v (initial_in S f) h.0 all.0.0) ∙ ap (λ ws. item (initial_in S f) ws) (defaults_are fs vs h.1 all.1)

  fields_nodes : (PartReads : Readings) → ((u : AidlType) (c : List ℕ) (v : Data) → PartReads u c v → Few v c) → (fs : List Field) (vs : Items) (b : List ℕ)
      → FieldsRead S PartReads fs b vs → HaveDefaults S fs → nodes_in vs ≤ 64 * length b + nodes_in (initials_in S fs)
  fields_nodes PartReads law [] none b h all = omega arith
  fields_nodes PartReads law [] (item v vs) b h all = elim h [ ]
  fields_nodes PartReads law (f ∷ fs) none b h all = elim h [ ]
  fields_nodes PartReads law (f ∷ fs) (item v vs) b (inl h) all = omega (arith, ap nodes_in (defaults_are (f ∷ fs) (item v vs) h.1 all))
  fields_nodes PartReads law (f ∷ fs) (item v vs) b (inr h) all =
      omega (arith, law f.ty h.0 v h.3, fields_nodes PartReads law fs vs h.1 h.4 all.1, ap length h.2, length-append h.0 h.1)

module _ (p : Profile) (S : List Decl) (sound : IsWhole S) (small : (t : AidlType) (v : Data) → is_type S t ≡ true → IsZero S t v → nodes_of v ≤ 512) where
  -- a parcelable's value, not null
  abbrev one : Base → AidlType
  one b = record { base = b; shape = shape.One; nullable = false; heap = false; utf8 = false }

  -- a record's defaults, but for the record itself
  defaults_small : (b : Base) (fs : List Field) → form_of S b ≡ form.parcelable fs → HaveDefaults S fs → nodes_in (initials_in S fs) ≤ 511
  defaults_small b fs is all =
      let type : is_type S (one b) ≡ true = rw is refl in
      let whole : suc (nodes_in (initials_in S fs)) ≤ 512 = small (one b) (rec (initials_in S fs)) type (refl, refl, fs, is, are_initial S fs all) in
      omega arith

  -- raw bytes, or elements
  parts_nodes : (t : AidlType) (vs : Items) (rest : List ℕ) (PartReads : List ℕ → Data → Type 0) → ((c : List ℕ) (v : Data) → PartReads c v → Few v c) → HaveType S (elem S t) vs
      → (raw : Bool) → is_raw S t ≡ raw → MatchBool raw (IsPadded p (raw_bytes vs) rest) (EachReads PartReads rest vs) → nodes_in vs ≤ 64 * length rest
  parts_nodes t vs rest PartReads law typed true is h =
      omega (arith, bytes_nodes vs (are_bytes p S sound t vs (raw_form S t is) typed), length-raw_bytes vs, ap length h.1, length-append (raw_bytes vs) h.0)
  parts_nodes t vs rest PartReads law typed false is h = each_nodes PartReads law vs rest h

  pub nodes : (d : ℕ) (t : AidlType) (b : List ℕ) (v : Data) → Reads p S d t b v → nodes_of v ≤ 64 * length b
  nodes d t b null h = omega (arith, some_byte b (reads_some p S d t b null h))
  nodes d t b (truth x) h = omega (arith, some_byte b (reads_some p S d t b (truth x) h))
  nodes d t b (number n) h = omega (arith, some_byte b (reads_some p S d t b (number n) h))
  nodes d t b (text x) h =
      omega (arith, chars_le_units x, length-text_block p x h.2 h.4, ap length h.3, length-append (word (pos (length (units x)))) h.2)
  nodes zero t b (seq vs) h = elim h [ ]
  nodes zero t b (rec vs) h = elim h [ ]
  nodes zero t b (alt k v) h = elim h [ ]
  nodes (suc d) t b (seq vs) h =
      let parts = parts_nodes t vs h.2 (λ c v. Reads p S d (elem S t) c v) (λ c v k. nodes d (elem S t) c v k) h.0.1 (is_raw S t) refl h.4 in
      omega (arith, parts, ap length h.3, length-append (word (pos (count vs))) h.2)
  nodes (suc d) t b (rec vs) h =
      let all = (sound.fields t.base h.1 h.2).1 in
      let inner = h.7.0 in
      let parts = fields_nodes S (λ u c v. Reads p S d u c v) (λ u c v k. nodes d u c v k) h.1 vs inner h.7.4 all in
      let few = defaults_small t.base h.1 h.2 all in
      omega (arith, parts, few, h.6.0, ap length h.5, length-append h.3 h.4, ap length h.7.1, length-append (word (pos (4 + length inner))) inner)
  nodes (suc d) t b (alt k v) h =
      omega (arith, nodes d h.3.ty h.6 v h.9, h.8.0, ap length h.7, length-append h.5 (word (pos k) ++ h.6), length-append (word (pos k)) h.6)
