-- Where the bytes stop, reading as a function answers that status.
use Rattle.std.proofs.Common.{◌≡◌, ◌≢◌, ℕ, zero, suc, ◌+◌, ◌-◌, ◌%◌, ◌<◌, ◌≤◌, ℤ, pos, negsuc, Bool, true, false, ◌&&◌, ◌==◌, cond, nat_lt, nat_le, List, [], ◌∷◌, ◌++◌, length, take, drop, Some, slice_get, Ok, Err, refl, sym, ap, ◌∙◌, subst, arith, append_assoc, true≢false}
use Rattle.std.proofs.lemmas.Bool.{le-ltb}
use Rattle.std.proofs.lemmas.Bool.Decides.{nat_tests}
use Rattle.std.proofs.lemmas.List.{length-drop, length-take-le, take-append-drop}
use Rattle.std.proofs.lemmas.Option.{slice_get_past}
use Rattle.aidl_base.specs.declared.profile.Profile.{Profile}
use Rattle.aidl_base.specs.Profiles.{is_truth_word, truth_of, is_byte_word, byte_of, is_char_word, char_of, is_padding, IsPadded}
use Rattle.aidl_base.specs.Words.{padding}
use Rattle.aidl_base.proofs.lemmas.Profiles.{permits_written, padded_by}
use Rattle.aidl_schema.specs.declared.schema.Decl.{Decl}
use Rattle.aidl_schema.specs.declared.schema.Field.{Field}
use Rattle.aidl_schema.specs.declared.schema.AidlType.{AidlType}
use Rattle.aidl_schema.specs.Types.{Form, form_of, is_one, is_raw, is_type, is_meant, is_well_shaped, elem}
use Rattle.aidl_schema.specs.Types as form
use Rattle.aidl_schema.specs.declared.schema.Base.{Base}
use Rattle.aidl_values.specs.Data.{Data, truth, number, Items, none, item, count}
use Rattle.aidl_values.specs.Sound.{initial_in, AreTypes}
use Rattle.wire_model.specs.Stop.{Stoppings, Stop, OneStop, StopBy, first_word, after_word, Begins, LongStop, WordStop, CountStop, MarkerStop, BlockStop, TextStop, block_len, IsBlock, ElementsStop, SequenceStop, SizeStop, FieldsStop, RecordStop, TagStop, UnionStop, FieldsThere, fields_bytes}
use Rattle.wire_model.specs.Reads.{Readings, IsMarker, Reads, EachReads}
use Rattle.wire_model.specs.Status.{bad_value, past}
use Rattle.wire_model.specs.ReadOf.{Read, ◌>>=◌, word_at, word_as, truth_at, text_at, read_as, char_data, text_data, count_at, marker_at, bytes_at, raw_items, raw_items_at, each_at, elements_at, array_at, field_at, fields_at, size_of, body_at, body_value_at, record_at, tag_at, tagged_at, union_at, one_at, read_by, read_of}
use Rattle.wire_model.proofs.Forms.{elem_is_type}
use Rattle.wire_model.proofs.lemmas.Sound.{IsWhole, field_type}
use Rattle.wire_model.proofs.TextForms.{text_form}
use Rattle.wire_model.proofs.again.All.{again, marker_again}
use Rattle.wire_model.proofs.Steps.{ok_text, text_block_at, text_value_steps, raw_items_steps, then_count, then_marker, then_size, then_tag, then_text, then_elements, then_block, then_raw, then_items, with_item, then_seq, then_there, then_inner, then_fields, then_others, with_field, then_rec, then_alternative, then_field}
use Rattle.aidl_base.proofs.lemmas.Tests.{both}
use Rattle.aidl_base.proofs.lemmas.Lists.{AreBytes, AreBytes-drop, AreBytes-rest, AreBytes-take, no_rest}

pub short_word : (inside : Bool) (b : List ℕ) → length b < 4 → word_at inside b ≡ Err (past inside)
short_word inside b lt = let e : nat_lt (length b) 4 ≡ true = grind (arith, nat_tests) in rw e refl

pub whole_word : (inside : Bool) (b : List ℕ) → 4 ≤ length b → word_at inside b ≡ Ok (first_word b, after_word b)
whole_word inside b le = let e : nat_lt (length b) 4 ≡ false = le-ltb _ _ le in rw e refl

word_stops : {A : Type 0} (may : ℤ → Bool) (means : ℤ → A) (inside : Bool) (b : List ℕ) (s : ℤ) → WordStop may b inside s → word_as may means inside b ≡ Err s
unfolding word_as
word_stops {A} may means inside b s (WordStop.short lt) = ap (λ (w : Read ℤ). w >>= λ x. cond {A = Read A} (may x.0) (Ok (means x.0, x.1)) (Err bad_value)) (short_word inside b lt)
word_stops {A} may means inside b s (WordStop.not_permitted le wrong) =
    ap (λ (w : Read ℤ). w >>= λ x. cond {A = Read A} (may x.0) (Ok (means x.0, x.1)) (Err bad_value)) (whole_word inside b le) ∙ rw wrong refl

count_stops : (nullable inside : Bool) (b : List ℕ) (s : ℤ) → CountStop nullable b inside s → count_at nullable inside b ≡ Err s
unfolding count_at
count_stops nullable inside b s (CountStop.short lt) = ap (then_count nullable) (short_word inside b lt)
count_stops nullable inside b s (CountStop.null_count begins may) =
    ap (then_count nullable) (whole_word inside b begins.0) ∙ rw (begins.1, may) refl
count_stops nullable inside b s (CountStop.negative n begins) =
    ap (then_count nullable) (whole_word inside b begins.0) ∙ rw begins.1 refl

counted : (nullable inside : Bool) (b : List ℕ) (n : ℕ) → Begins (pos n) b → count_at nullable inside b ≡ Ok (Some n, after_word b)
unfolding count_at
counted nullable inside b n begins = ap (then_count nullable) (whole_word inside b begins.0) ∙ rw begins.1 refl

marker_stops : (p : Profile) (nullable inside : Bool) (b : List ℕ) (s : ℤ) → MarkerStop p nullable b inside s → marker_at p nullable inside b ≡ Err s
unfolding marker_at word_as
marker_stops p nullable inside b s (MarkerStop.at_word h) = ap (then_marker nullable) (word_stops (λ w. is_truth_word p w) truth_of inside b s h)
marker_stops p nullable inside b s (MarkerStop.null_marker begins may st) =
    let permitted : is_truth_word p (pos 0) ≡ true = permits_written p true refl in
    let read : truth_at p inside b ≡ Ok (false, after_word b) =
    ap (λ (w : Read ℤ). w >>= λ x. cond {A = Read Bool} (is_truth_word p x.0) (Ok (truth_of x.0, x.1)) (Err bad_value)) (whole_word inside b begins.0) ∙ rw (begins.1, permitted) refl in
    ap (then_marker nullable) read ∙ rw (may, st) refl

marked : (p : Profile) (nullable inside : Bool) (b : List ℕ) → IsMarker p (take 4 b) → marker_at p nullable inside b ≡ Ok (true, after_word b)
marked p nullable inside b m = ap (λ c. marker_at p nullable inside c) (sym (take-append-drop 4 b)) ∙ marker_again p nullable inside (take 4 b) (after_word b) m

pub short_bytes : (n : ℕ) (inside : Bool) (b : List ℕ) → length b < n → bytes_at n inside b ≡ Err (past inside)
short_bytes n inside b lt = let e : nat_lt (length b) n ≡ true = grind (arith, nat_tests) in rw e refl

pub whole_bytes : (n : ℕ) (inside : Bool) (b : List ℕ) → n ≤ length b → bytes_at n inside b ≡ Ok (take n b, drop n b)
whole_bytes n inside b le = let e : nat_lt (length b) n ≡ false = le-ltb _ _ le in rw e refl

-- items: so many read, and the next one stops
items_stop : (PartReads : List ℕ → Data → Type 0) (PartStops : List ℕ → ℤ → Type 0) (read : List ℕ → Read Data)
    → ((c q : List ℕ) (v : Data) → PartReads c v → read (c ++ q) ≡ Ok (v, q)) → ((c : List ℕ) (s : ℤ) → PartStops c s → read c ≡ Err s)
    → (vs : Items) (n : ℕ) (b front rest : List ℕ) (s : ℤ) → count vs < n → b ≡ front ++ rest → EachReads PartReads front vs → PartStops rest s
    → each_at read n b ≡ Err s
items_stop PartReads PartStops read law stop vs zero b front rest s lt e each h = absurd (omega arith)
items_stop PartReads PartStops read law stop none (suc n) b front rest s lt e each h =
    let at : b ≡ rest = e ∙ ap (λ x. x ++ rest) each in
    ap (then_items read n) (ap read at ∙ stop rest s h)
items_stop PartReads PartStops read law stop (item v vs) (suc n) b front rest s lt e each h =
    let one = each.0 in
    let more = each.1 in
    let at : b ≡ one ++ (more ++ rest) = e ∙ ap (λ x. x ++ rest) each.2 ∙ append_assoc one more rest in
    ap (then_items read n) (ap read at ∙ law one (more ++ rest) v each.3)
    ∙ ap (with_item v) (items_stop PartReads PartStops read law stop vs n (more ++ rest) more rest s (omega arith) refl each.4 h)

field_is : (initial : Field → Data) (read : AidlType → List ℕ → Read Data) (g : Field) (c : List ℕ) → c ≢ [] → field_at initial (λ f c. read f.ty c) g c ≡ read g.ty c
field_is initial read g [] some = absurd (some refl)
field_is initial read g (x ∷ c) some = refl

-- fields: so many there, something left, and the next one stops
fields_stop : (S : List Decl) (initial : Field → Data) (PartReads : Readings) (read : AidlType → List ℕ → Read Data) (law : (t : AidlType) (c q : List ℕ) (v : Data) → is_type S t ≡ true → PartReads t c v → read t (c ++ q) ≡ Ok (v, q))
    → (fs : List Field) (i : ℕ) (f : Field) (vs : Items) (b front rest : List ℕ) (s : ℤ) → AreTypes S fs → slice_get fs i ≡ Some f → b ≡ front ++ rest
    → FieldsThere PartReads (take i fs) front vs → rest ≢ [] → read f.ty rest ≡ Err s
    → fields_at initial (λ f c. read f.ty c) fs b ≡ Err s
fields_stop S initial PartReads read law [] i f vs b front rest s types at e there some h = absurd cc
fields_stop S initial PartReads read law (g ∷ fs) zero f none b front rest s types at e there some h =
    let is : g ≡ f = cc in
    let left : b ≡ rest = e ∙ ap (λ x. x ++ rest) there in
    let stops : field_at initial (λ f c. read f.ty c) g b ≡ Err s = ap (field_at initial (λ f c. read f.ty c) g) left ∙ field_is initial read g rest some ∙ ap (λ x. read x.ty rest) is ∙ h in
    ap (then_others initial (λ f c. read f.ty c) fs) stops
fields_stop S initial PartReads read law (g ∷ fs) zero f (item v vs) b front rest s types at e there some h = elim there [ ]
fields_stop S initial PartReads read law (g ∷ fs) (suc i) f none b front rest s types at e there some h = elim there [ ]
fields_stop S initial PartReads read law (g ∷ fs) (suc i) f (item v vs) b front rest s types at e there some h =
    let one = there.0 in
    let more = there.1 in
    let left : b ≡ one ++ (more ++ rest) = e ∙ ap (λ x. x ++ rest) there.2 ∙ append_assoc one more rest in
    let present : one ++ (more ++ rest) ≢ [] = λ k. some (no_rest more rest (no_rest one (more ++ rest) k)) in
    let first : field_at initial (λ f c. read f.ty c) g b ≡ Ok (v, more ++ rest) = ap (field_at initial (λ f c. read f.ty c) g) left ∙ field_is initial read g (one ++ (more ++ rest)) present ∙ law g.ty one (more ++ rest) v types.0 there.3 in
    ap (then_others initial (λ f c. read f.ty c) fs) first
    ∙ ap (with_field v) (fields_stop S initial PartReads read law fs i f vs (more ++ rest) more rest s types.1 at refl there.4 some h)

-- a size word
no_size : (w : ℤ) → ((z : ℕ) → w ≡ pos z → 4 ≤ z → z % 4 ≡ 0 → ⊥) → size_of w ≡ Err bad_value
no_size (negsuc z) h = refl
no_size (pos z) h = by_test (nat_le 4 z && (z % 4 == 0)) refl
  where
    by_test : (b : Bool) → (nat_le 4 z && (z % 4 == 0)) ≡ b → cond (nat_le 4 z && (z % 4 == 0)) (Ok z) (Err bad_value) ≡ Err bad_value
    by_test true e = let two = both (nat_le 4 z) (z % 4 == 0) e in let le : 4 ≤ z = grind (arith, nat_tests, two.0) in let rem : z % 4 ≡ 0 = grind (arith, nat_tests, two.1) in elim (h z refl le rem) [ ]
    by_test false e = rw e refl

pub a_size : (z : ℕ) → 4 ≤ z → z % 4 ≡ 0 → size_of (pos z) ≡ Ok z
a_size z le e = let a : nat_le 4 z ≡ true = grind (arith, nat_tests) in let b : (z % 4 == 0) ≡ true = grind (arith, nat_tests) in rw (a, b) refl

pub after_len : (b : List ℕ) → 4 ≤ length b → length (after_word b) + 4 ≡ length b
after_len b le = simp (length-drop) (omega arith)

size_stops : (inside : Bool) (b : List ℕ) (s : ℤ) → SizeStop b inside s → body_at inside b ≡ Err s
unfolding body_at
size_stops inside b s (SizeStop.short lt) = ap (then_size inside) (short_word inside b lt)
size_stops inside b s (SizeStop.no_size le h) = ap (then_size inside) (whole_word inside b le)
    ∙ ap (then_inner inside (after_word b)) (no_size (first_word b) (λ z e four rem. h z ((le, e), four, rem)))
size_stops inside b s (SizeStop.long_record z size lt) =
    let le = size.0.0 in
    let len : length (after_word b) + 4 ≡ length b = after_len b le in
    let four = size.1 in
    ap (then_size inside) (whole_word inside b le)
    ∙ ap (then_inner inside (after_word b)) (ap size_of size.0.1 ∙ a_size z size.1 size.2)
    ∙ short_bytes (z - 4) inside (after_word b) (omega arith)

block_stops : (p : Profile) (n : ℕ) (inside : Bool) (b : List ℕ) (s : ℤ) → AreBytes b → BlockStop (block_len n) (λ c. IsBlock p n c) b inside s
    → text_block_at p inside (Some n) b ≡ Err s
unfolding text_block_at
block_stops p n inside b s bytes (BlockStop.long_block lt) = ap (then_block p n) (short_bytes (block_len n) inside b lt)
block_stops p n inside b s bytes (BlockStop.wrong_block le wrong) =
    ap (then_block p n) (whole_bytes (block_len n) inside b le)
    ∙ ap (λ o. ok_text o (drop (block_len n) b)) (text_form p n (take (block_len n) b) (AreBytes-take (block_len n) b bytes) (length-take-le (block_len n) b le) wrong)

text_stops : (p : Profile) (nullable inside : Bool) (b : List ℕ) (s : ℤ) → AreBytes b → TextStop p nullable b inside s → read_as text_data (text_at p nullable inside b) ≡ Err s
text_stops p nullable inside b s bytes (TextStop.at_count h) = text_value_steps p nullable inside b ∙ ap (then_text p inside) (count_stops nullable inside b s h)
text_stops p nullable inside b s bytes (TextStop.at_block n begins h) =
    text_value_steps p nullable inside b ∙ ap (then_text p inside) (counted nullable inside b n begins) ∙ block_stops p n inside (after_word b) s (AreBytes-drop 4 b bytes) h

raw_stops : (p : Profile) (n : ℕ) (inside : Bool) (b : List ℕ) (s : ℤ) → BlockStop (n + padding n) (λ c. IsPadded p (take n c) c) b inside s → raw_items_at p n inside b ≡ Err s
raw_stops p n inside b s (BlockStop.long_block lt) = raw_items_steps p n inside b ∙ ap (then_raw p n) (short_bytes (n + padding n) inside b lt)
raw_stops p n inside b s (BlockStop.wrong_block le wrong) =
    raw_items_steps p n inside b
    ∙ ap (then_raw p n) (whole_bytes (n + padding n) inside b le)
    ∙ by_test (is_padding p (drop n (take (n + padding n) b))) refl
  where
    by_test : (x : Bool) → is_padding p (drop n (take (n + padding n) b)) ≡ x
        → cond {A = Read Items} (is_padding p (drop n (take (n + padding n) b))) (Ok (raw_items (take n (take (n + padding n) b)), drop (n + padding n) b)) (Err bad_value) ≡ Err bad_value
    by_test true e = elim (wrong (padded_by p n (take (n + padding n) b) (length-take-le (n + padding n) b le) e)) [ ]
    by_test false e = rw e refl

module _ (p : Profile) (S : List Decl) (sound : IsWhole S) (left : Bool) (PartReads : Readings) (PartStops : Stoppings) (read : AidlType → Bool → List ℕ → Read Data)
    (law : (t : AidlType) (j : Bool) (c q : List ℕ) (v : Data) → is_type S t ≡ true → PartReads t c v → read t j (c ++ q) ≡ Ok (v, q))
    (stop : (t : AidlType) (j : Bool) (c : List ℕ) (s : ℤ) → is_type S t ≡ true → AreBytes c → PartStops t c j s → read t j c ≡ Err s) where
  bytes_after : (front rest b : List ℕ) → b ≡ front ++ rest → AreBytes b → AreBytes rest
  bytes_after front rest b e bytes = AreBytes-rest front rest (subst AreBytes e bytes)

  record_stops : (nullable inside : Bool) (fs : List Field) (base : Base) (b : List ℕ) (s : ℤ) → form_of S base ≡ form.parcelable fs → AreBytes b
      → RecordStop p left nullable fs PartReads PartStops b inside s
      → record_at p left nullable (λ f. initial_in S f) (λ f c. read f.ty true c) fs inside b ≡ Err s
  unfolding record_at body_value_at body_at
  record_stops nullable inside fs base b s is bytes (RecordStop.at_marker h) =
      ap (then_there left (λ c. body_value_at (λ f. initial_in S f) (λ f c. read f.ty true c) fs inside c)) (marker_stops p nullable inside b s h)
  record_stops nullable inside fs base b s is bytes (RecordStop.too_deep begins no_left st) =
      ap (then_there left (λ c. body_value_at (λ f. initial_in S f) (λ f c. read f.ty true c) fs inside c)) (marked p nullable inside b begins) ∙ rw (no_left, st) refl
  record_stops nullable inside fs base b s is bytes (RecordStop.at_size begins has h) =
      ap (then_there left (λ c. body_value_at (λ f. initial_in S f) (λ f c. read f.ty true c) fs inside c)) (marked p nullable inside b begins)
      ∙ rw has (ap (then_fields (λ f. initial_in S f) (λ f c. read f.ty true c) fs) (size_stops inside (after_word b) s h))
  record_stops nullable inside fs base b s is bytes (RecordStop.at_fields begins has z size within (FieldsStop.at_field i f at vs front rest split there some st)) =
      let aw = after_word b in
      let body : body_at inside aw ≡ Ok (fields_bytes z aw, drop (z - 4) (after_word aw)) =
      ap (then_size inside) (whole_word inside aw size.0.0)
      ∙ ap (then_inner inside (after_word aw)) (ap size_of size.0.1 ∙ a_size z size.1 size.2)
      ∙ whole_bytes (z - 4) inside (after_word aw) (omega (arith, after_len aw size.0.0)) in
      let inner_bytes : AreBytes (fields_bytes z aw) = AreBytes-take (z - 4) (after_word aw) (AreBytes-drop 4 aw (AreBytes-drop 4 b bytes)) in
      let types = (sound.fields base fs is).0 in
      let stopped : read f.ty true rest ≡ Err s = stop f.ty true rest s (field_type S fs i f types at) (bytes_after front rest (fields_bytes z aw) split inner_bytes) st in
      let all : fields_at (λ f. initial_in S f) (λ f c. read f.ty true c) fs (fields_bytes z aw) ≡ Err s =
      fields_stop S (λ f. initial_in S f) PartReads (λ u c. read u true c) (λ t c q v type h. law t true c q v type h) fs i f vs (fields_bytes z aw) front rest s types at split there some stopped in
      ap (then_there left (λ c. body_value_at (λ f. initial_in S f) (λ f c. read f.ty true c) fs inside c)) (marked p nullable inside b begins)
      ∙ rw has (ap (then_fields (λ f. initial_in S f) (λ f c. read f.ty true c) fs) body
      ∙ ap (then_rec (drop (z - 4) (after_word aw))) all)

  union_stops : (nullable inside : Bool) (fs : List Field) (base : Base) (b : List ℕ) (s : ℤ) → form_of S base ≡ form.union fs → AreBytes b
      → UnionStop p left nullable fs PartStops b inside s
      → union_at p left nullable (λ f c. read f.ty inside c) fs inside b ≡ Err s
  unfolding union_at tagged_at tag_at
  union_stops nullable inside fs base b s is bytes (UnionStop.at_marker h) =
      ap (then_there left (λ c. tagged_at (λ f c. read f.ty inside c) fs inside c)) (marker_stops p nullable inside b s h)
  union_stops nullable inside fs base b s is bytes (UnionStop.too_deep begins no_left st) =
      ap (then_there left (λ c. tagged_at (λ f c. read f.ty inside c) fs inside c)) (marked p nullable inside b begins) ∙ rw (no_left, st) refl
  union_stops nullable inside fs base b s is bytes (UnionStop.at_tag begins has (TagStop.short lt)) =
      ap (then_there left (λ c. tagged_at (λ f c. read f.ty inside c) fs inside c)) (marked p nullable inside b begins)
      ∙ rw has (ap (λ (w : Read ℤ). then_alternative (λ f c. read f.ty inside c) fs (then_tag w)) (short_word inside (after_word b) lt))
  union_stops nullable inside fs base b s is bytes (UnionStop.at_tag begins has (TagStop.no_tag le h)) =
      ap (then_there left (λ c. tagged_at (λ f c. read f.ty inside c) fs inside c)) (marked p nullable inside b begins)
      ∙ rw has (ap (λ (w : Read ℤ). then_alternative (λ f c. read f.ty inside c) fs (then_tag w)) (whole_word inside (after_word b) le)
      ∙ no_field (first_word (after_word b)) h)
    where
      no_field : (w : ℤ) → ((k : ℕ) → w ≡ pos k → length fs ≤ k)
          → then_alternative (λ f c. read f.ty inside c) fs (then_tag (Ok (w, after_word (after_word b)))) ≡ Err bad_value
      no_field (negsuc k) h = refl
      no_field (pos k) h = ap (then_field (λ f c. read f.ty inside c) k (after_word (after_word b))) (slice_get_past fs k (h k refl))
  union_stops nullable inside fs base b s is bytes (UnionStop.at_field begins has k tag f at st) =
      let tail = after_word (after_word b) in
      let stopped : read f.ty inside tail ≡ Err s = stop f.ty inside tail s (field_type S fs k f (sound.tags base fs is).0 at) (AreBytes-drop 4 (after_word b) (AreBytes-drop 4 b bytes)) st in
      ap (then_there left (λ c. tagged_at (λ f c. read f.ty inside c) fs inside c)) (marked p nullable inside b begins)
      ∙ rw has (ap (λ (w : Read ℤ). then_alternative (λ f c. read f.ty inside c) fs (then_tag w)) (whole_word inside (after_word b) tag.0)
      ∙ rw (tag.1, at, stopped) refl)

  sequence_stops : (t : AidlType) (inside : Bool) (b : List ℕ) (s : ℤ) → is_type S (elem S t) ≡ true → AreBytes b
      → SequenceStop p left (is_raw S t) t.nullable (PartReads (elem S t)) (λ rest s. PartStops (elem S t) rest inside s) b inside s
      → array_at p left (is_raw S t) t.nullable (λ c. read (elem S t) inside c) inside b ≡ Err s
  unfolding array_at elements_at
  sequence_stops t inside b s type bytes (SequenceStop.at_count h) =
      ap (then_elements p left (is_raw S t) (λ c. read (elem S t) inside c) inside) (count_stops t.nullable inside b s h)
  sequence_stops t inside b s type bytes (SequenceStop.too_deep n begins no_left st) =
      ap (then_elements p left (is_raw S t) (λ c. read (elem S t) inside c) inside) (counted t.nullable inside b n begins) ∙ rw (no_left, st) refl
  sequence_stops t inside b s type bytes (SequenceStop.at_bytes n begins has raw h) =
      ap (then_elements p left (is_raw S t) (λ c. read (elem S t) inside c) inside) (counted t.nullable inside b n begins)
      ∙ rw (has, raw) (ap (then_seq) (raw_stops p n inside (after_word b) s h))
  sequence_stops t inside b s type bytes (SequenceStop.at_elements n begins has raw (ElementsStop.at_element vs lt front rest split each st)) =
      let aw = after_word b in
      let stopped : read (elem S t) inside rest ≡ Err s = stop (elem S t) inside rest s type (bytes_after front rest aw split (AreBytes-drop 4 b bytes)) st in
      ap (then_elements p left (is_raw S t) (λ c. read (elem S t) inside c) inside) (counted t.nullable inside b n begins)
      ∙ rw (has, raw) (ap (then_seq)
      (items_stop (PartReads (elem S t)) (λ c s. read (elem S t) inside c ≡ Err s) (λ c. read (elem S t) inside c) (λ c q v h. law (elem S t) inside c q v type h) (λ c s h. h) vs n aw front rest s lt split each stopped))

  one_stops : (nullable inside : Bool) (base : Base) (f : Form) (b : List ℕ) (s : ℤ) → form_of S base ≡ f → AreBytes b
      → OneStop p left PartReads PartStops nullable f b inside s → one_at p left (λ f. initial_in S f) read nullable f inside b ≡ Err s
  one_stops nullable inside base form.truth b s is bytes h = ap (read_as truth) (word_stops (λ w. is_truth_word p w) truth_of inside b s h)
  one_stops nullable inside base form.byte b s is bytes h = ap (read_as number) (word_stops (λ w. is_byte_word p w) byte_of inside b s h)
  one_stops nullable inside base form.char b s is bytes h = ap (read_as char_data) (word_stops (λ w. is_char_word p w) char_of inside b s h)
  one_stops nullable inside base form.int b s is bytes (WordStop.short lt) = ap (read_as number) (short_word inside b lt)
  one_stops nullable inside base form.int b s is bytes (WordStop.not_permitted le wrong) = absurd (true≢false wrong)
  one_stops nullable inside base form.long b s is bytes (LongStop.short lt) = let e : nat_lt (length b) 8 ≡ true = grind (arith, nat_tests) in rw e refl
  one_stops nullable inside base form.text b s is bytes h = text_stops p nullable inside b s bytes h
  one_stops nullable inside base (form.parcelable fs) b s is bytes h = record_stops nullable inside fs base b s is bytes h
  one_stops nullable inside base (form.union fs) b s is bytes h = union_stops nullable inside fs base b s is bytes h
  one_stops nullable inside base form.nothing b s is bytes h = elim h [ ]

  by_stops : (t : AidlType) (inside : Bool) (b : List ℕ) (s : ℤ) (single : Bool) → is_one t.shape ≡ single → is_type S t ≡ true → AreBytes b
      → StopBy p S left PartReads PartStops t b inside s → read_by p S left read t inside b ≡ Err s
  by_stops t inside b s true is type bytes h =
      let one : OneStop p left PartReads PartStops t.nullable (form_of S t.base) b inside s = rw is at h in
      rw is (one_stops t.nullable inside t.base (form_of S t.base) b s refl bytes one)
  by_stops t inside b s false is type bytes h =
      let many : SequenceStop p left (is_raw S t) t.nullable (PartReads (elem S t)) (λ rest s. PartStops (elem S t) rest inside s) b inside s = rw is at h in
      let elem_is = elem_is_type S t type in
      rw is (sequence_stops t inside b s elem_is bytes many)

-- The status of a stop is what reading answers: so there is one, and no front is a reading.
pub stopped : (p : Profile) (S : List Decl) → IsWhole S → (d : ℕ) (t : AidlType) (inside : Bool) (b : List ℕ) (s : ℤ) → is_type S t ≡ true → AreBytes b
    → Stop p S d t b inside s → read_of p S d t inside b ≡ Err s
unfolding Stop read_of
stopped p S sound zero t inside b s type bytes h =
    by_stops p S sound false (λ u front v. ⊥) (λ u rest j s. ⊥) (λ u j b. Err bad_value) (λ u j c q v type h. elim h [ ]) (λ u j c s type bytes h. elim h [ ]) t inside b s (is_one t.shape) refl type bytes h
stopped p S sound (suc d) t inside b s type bytes h =
    by_stops p S sound true (λ u front v. Reads p S d u front v) (λ u rest j s. Stop p S d u rest j s) (λ u j b. read_of p S d u j b)
    (λ u j c q v type h. again p S sound d u j v c q type h) (λ u j c s type bytes h. stopped p S sound d u j c s type bytes h) t inside b s (is_one t.shape) refl type bytes h
