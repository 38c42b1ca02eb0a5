-- What reading an array or a List answers is a reading of a front, or the stop.
use Rattle.std.proofs.Common.{◌≡◌, ℕ, zero, suc, ◌+◌, ◌<◌, ◌≤◌, ◌^◌, ℤ, pos, negsuc, Bool, true, false, cond, nat_lt, List, [], ◌++◌, length, take, drop, Option, Some, None, Ok, Err, refl, sym, ap, ◌∙◌, subst, arith, append_assoc, true≢false}
use Rattle.std.specs.Prelude.{MatchBool}
use Rattle.std.proofs.lemmas.List.{take-append-drop, length-take-le}
use Rattle.std.proofs.lemmas.Bool.{ltb-true, ltb-false}
use Rattle.aidl_base.specs.declared.profile.Profile.{Profile}
use Rattle.aidl_base.specs.Profiles.{is_padding, IsPadded}
use Rattle.aidl_base.specs.Words.{word, padding}
use Rattle.aidl_base.proofs.lemmas.Profiles.{padded_by, tail_padded}
use Rattle.aidl_schema.specs.declared.schema.Decl.{Decl}
use Rattle.aidl_schema.specs.declared.schema.AidlType.{AidlType}
use Rattle.aidl_schema.specs.Types.{form_of, is_raw, elem}
use Rattle.aidl_schema.specs.Types as form
use Rattle.aidl_values.specs.Data.{Data, null, seq, Items, none, item, count}
use Rattle.aidl_values.specs.HasType.{HasType, HaveType}
use Rattle.wire_model.specs.Spell.{raw_bytes}
use Rattle.wire_model.specs.Status.{bad_value}
use Rattle.wire_model.specs.Reads.{EachReads}
use Rattle.wire_model.specs.Stop.{after_word, BlockStop, CountStop, ElementsStop, SequenceStop}
use Rattle.wire_model.specs.ReadOf.{Read, raw_items, raw_items_at, each_at, count_at, elements_at, array_at}
use Rattle.wire_model.proofs.Forms.{raw_form}
use Rattle.wire_model.proofs.RawForms.{bytes_of_items, count_of_items, items_typed}
use Rattle.wire_model.proofs.told.Words.{Told, told_then, CountReads, count_told, begins, tail_word}
use Rattle.wire_model.proofs.Steps.{raw_items_steps, then_items, with_item, then_seq}
use Rattle.aidl_base.proofs.lemmas.Lists.{AreBytes, AreBytes-take, AreBytes-rest}

module _ (PartReads : List ℕ → Data → Type 0) (PartStops : List ℕ → ℤ → Type 0) (read : List ℕ → Read Data) (law : (b : List ℕ) → AreBytes b → Told PartReads (λ s. PartStops b s) b (read b)) where
  abbrev pub CountRead : ℕ → List ℕ → Items → Type 0
  CountRead n front vs = (count vs ≡ n) × EachReads PartReads front vs

  later : (n : ℕ) (v : Data) (front rest b : List ℕ) → b ≡ front ++ rest → PartReads front v → (y : Read Items)
      → Told (CountRead n) (λ s. ElementsStop PartReads PartStops n rest s) rest y
      → Told (CountRead (suc n)) (λ s. ElementsStop PartReads PartStops (suc n) b s) b (with_item v y)
  later n v front rest b e here (Ok x) h =
      (front ++ h.0, e ∙ ap (λ c. front ++ c) h.1 ∙ sym (append_assoc front h.0 x.1), (ap suc h.2.0, (front, h.0, refl, here, h.2.1)))
  later n v front rest b e here (Err s) (ElementsStop.at_element vs lt front' rest' e' each stop) =
      ElementsStop.at_element (item v vs) (omega arith) (front ++ front') rest' (e ∙ ap (λ c. front ++ c) e' ∙ sym (append_assoc front front' rest')) (front, front', refl, here, each) stop

  first_told : (n : ℕ) (b : List ℕ) → AreBytes b → (x : Read Data) → Told PartReads (λ s. PartStops b s) b x
      → ((c : List ℕ) → AreBytes c → Told (CountRead n) (λ s. ElementsStop PartReads PartStops n c s) c (each_at read n c))
      → Told (CountRead (suc n)) (λ s. ElementsStop PartReads PartStops (suc n) b s) b (then_items read n x)
  first_told n b bytes (Ok x) h ih = later n x.0 h.0 x.1 b h.1 h.2 (each_at read n x.1) (ih x.1 (AreBytes-rest h.0 x.1 (subst AreBytes h.1 bytes)))
  first_told n b bytes (Err s) h ih = ElementsStop.at_element none (omega arith) [] b refl refl h

  pub items_told : (n : ℕ) (b : List ℕ) → AreBytes b → Told (CountRead n) (λ s. ElementsStop PartReads PartStops n b s) b (each_at read n b)
  items_told zero b bytes = ([], refl, (refl, refl))
  items_told (suc n) b bytes = first_told n b bytes (read b) (law b bytes) (λ c p. items_told n c p)

-- raw bytes with their padding
abbrev pub RawRead : Profile → List Decl → AidlType → ℕ → List ℕ → Items → Type 0
RawRead p S t n front vs = (count vs ≡ n) × IsPadded p (raw_bytes vs) front × HaveType S (elem S t) vs

module _ (p : Profile) (S : List Decl) (t : AidlType) (byte : form_of S t.base ≡ form.byte) (n : ℕ) (inside : Bool) (b : List ℕ) (bytes : AreBytes b) where
  -- the item
  abbrev block : List ℕ
  block = take (n + padding n) b

  block_told : n + padding n ≤ length b → (zeros : Bool) → is_padding p (drop n block) ≡ zeros
      → Told (λ c vs. RawRead p S t n c vs) (λ s. BlockStop (n + padding n) (λ c. IsPadded p (take n c) c) b inside s) b (cond {A = Read Items} zeros (Ok (raw_items (take n block), drop (n + padding n) b)) (Err bad_value))
  block_told le true is =
      let len : length block ≡ n + padding n = length-take-le (n + padding n) b le in
      let xs = take n block in
      let xs_bytes : AreBytes xs = AreBytes-take n block (AreBytes-take (n + padding n) b bytes) in
      let counted : count (raw_items xs) ≡ n = count_of_items xs ∙ length-take-le n block (omega arith) in
      let padded : IsPadded p (raw_bytes (raw_items xs)) block = subst (λ c. IsPadded p c block) (sym (bytes_of_items xs xs_bytes)) (padded_by p n block len is) in
      (block, sym (take-append-drop (n + padding n) b), (counted, padded, items_typed S t byte xs xs_bytes))
  block_told le false is = BlockStop.wrong_block le (λ h. wrong (tail_padded p (take n block) block n (length-take-le n block (omega (arith, length-take-le (n + padding n) b le))) h))
    where
      wrong : is_padding p (drop n block) ≡ true → ⊥
      wrong e = let both_ways : ◌≡◌ {A = Bool} true false = sym e ∙ is in absurd (true≢false both_ways)

  pub raw_told : (short : Bool) → nat_lt (length b) (n + padding n) ≡ short
      → Told (λ c vs. RawRead p S t n c vs) (λ s. BlockStop (n + padding n) (λ c. IsPadded p (take n c) c) b inside s) b (raw_items_at p n inside b)
  raw_told true is = rw (raw_items_steps p n inside b, is) (BlockStop.long_block (ltb-true _ _ is))
  raw_told false is = rw (raw_items_steps p n inside b, is) (block_told (ltb-false _ _ is) (is_padding p (drop n block)) refl)

-- what is read at a sequence's place; `left` says that a level is left
abbrev pub SequenceReads : Profile → Bool → List Decl → AidlType → (List ℕ → Data → Type 0) → List ℕ → Data → Type 0
SequenceReads p left S t PartReads front null = (t.nullable ≡ true) × (front ≡ word (negsuc 0))
SequenceReads p left S t PartReads front (seq vs) = (left ≡ true) × (count vs < 2 ^ 31) × HaveType S (elem S t) vs × (rest : List ℕ) × (front ≡ word (pos (count vs)) ++ rest)
    × MatchBool (is_raw S t) (IsPadded p (raw_bytes vs) rest) (EachReads PartReads rest vs)
SequenceReads p left S t PartReads front _ = ⊥

read_types : (S : List Decl) (u : AidlType) (PartReads : List ℕ → Data → Type 0) → ((c : List ℕ) (v : Data) → PartReads c v → HasType S u v)
    → (vs : Items) (b : List ℕ) → EachReads PartReads b vs → HaveType S u vs
read_types S u PartReads typed none b h = tt
read_types S u PartReads typed (item v vs) b h = (typed h.0 v h.3, read_types S u PartReads typed vs h.1 h.4)

module _ (p : Profile) (left : Bool) (S : List Decl) (t : AidlType) (PartReads : List ℕ → Data → Type 0) (PartStops : List ℕ → ℤ → Type 0) (read : List ℕ → Read Data)
    (typed : (c : List ℕ) (v : Data) → PartReads c v → HasType S (elem S t) v)
    (law : left ≡ true → (c : List ℕ) → AreBytes c → Told PartReads (λ s. PartStops c s) c (read c))
    (inside : Bool) (b : List ℕ) (bytes : AreBytes b) where
  abbrev Outcome : Read Data → Type 0
  Outcome = λ x. Told (λ c v. SequenceReads p left S t PartReads c v) (λ s. SequenceStop p left (is_raw S t) t.nullable PartReads PartStops b inside s) b x

  -- after the count n
  module _ (has : left ≡ true) (n : ℕ) (lt : n < 2 ^ 31) (rest : List ℕ) (e : b ≡ word (pos n) ++ rest) where
    tail : rest ≡ after_word b
    tail = sym (tail_word b rest n lt e)

    raw_outcome : is_raw S t ≡ true → (y : Read Items) → Told (λ c vs. RawRead p S t n c vs) (λ s. BlockStop (n + padding n) (λ c. IsPadded p (take n c) c) rest inside s) rest y
        → Outcome (then_seq y)
    raw_outcome raw (Ok x) h = (
      word (pos n) ++ h.0,
      e ∙ ap (λ c. word (pos n) ++ c) h.1,
      (has, subst (λ m. m < 2 ^ 31) (sym h.2.0) lt, h.2.2, h.0, ap (λ m. word (pos m) ++ h.0) (sym h.2.0), rw raw h.2.1),
    )
    raw_outcome raw (Err s) h =
        SequenceStop.at_bytes n (begins b rest n lt e) has raw (subst (λ c. BlockStop (n + padding n) (λ d. IsPadded p (take n d) d) c inside s) tail h)

    items_outcome : is_raw S t ≡ false → (y : Read Items)
        → Told (CountRead PartReads PartStops read (law has) n) (λ s. ElementsStop PartReads PartStops n rest s) rest y → Outcome (then_seq y)
    items_outcome apart (Ok x) h = (
      word (pos n) ++ h.0,
      e ∙ ap (λ c. word (pos n) ++ c) h.1,
      (has, subst (λ m. m < 2 ^ 31) (sym h.2.0) lt, read_types S (elem S t) PartReads typed x.0 h.0 h.2.1, h.0, ap (λ m. word (pos m) ++ h.0) (sym h.2.0), rw apart h.2.1),
    )
    items_outcome apart (Err s) h =
        SequenceStop.at_elements n (begins b rest n lt e) has apart (subst (λ c. ElementsStop PartReads PartStops n c s) tail h)

    parts_told : AreBytes rest → (raw : Bool) → is_raw S t ≡ raw → Outcome (then_seq (cond raw (raw_items_at p n inside rest) (each_at read n rest)))
    parts_told rest_bytes true is = raw_outcome is (raw_items_at p n inside rest) (raw_told p S t (raw_form S t is) n inside rest rest_bytes (nat_lt (length rest) (n + padding n)) refl)
    parts_told rest_bytes false is = items_outcome is (each_at read n rest) (items_told PartReads PartStops read (law has) n rest rest_bytes)

  pub sequence_told : Outcome (array_at p left (is_raw S t) t.nullable read inside b)
  unfolding array_at elements_at
  sequence_told = told_then (CountReads t.nullable) (λ c v. SequenceReads p left S t PartReads c v) (λ s. CountStop t.nullable b inside s) (λ s. SequenceStop p left (is_raw S t) t.nullable PartReads PartStops b inside s) b
      (λ n. elements_at p left (is_raw S t) read inside n.0 n.1) (count_at t.nullable inside b)
      (count_told t.nullable inside b bytes (nat_lt (length b) 4) refl) (λ s h. SequenceStop.at_count h) (λ o front rest e h. by_count o front rest e h)
    where
      by_count : (o : Option ℕ) (front rest : List ℕ) → b ≡ front ++ rest → CountReads t.nullable front o
          → Outcome (elements_at p left (is_raw S t) read inside o rest)
      by_count None front rest e h = (front, e, h)
      by_count (Some n) front rest e h = by_level left refl (e ∙ ap (λ c. c ++ rest) h.1) (AreBytes-rest front rest (subst AreBytes e bytes))
        where
          by_level : (l : Bool) → left ≡ l → b ≡ word (pos n) ++ rest → AreBytes rest → Outcome (elements_at p l (is_raw S t) read inside (Some n) rest)
          by_level false has split rest_bytes = SequenceStop.too_deep n (begins b rest n h.0 split) has refl
          by_level true has split rest_bytes = parts_told has n h.0 rest split rest_bytes (is_raw S t) refl
