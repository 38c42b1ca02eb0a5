-- What reading as a function answers is a reading, or a stop.
use Rattle.std.proofs.Common.{◌≡◌, ℕ, zero, suc, ◌<◌, ◌≤◌, ◌^◌, ℤ, pos, negsuc, Bool, true, false, List, ◌++◌, length, take, drop, nat_lt, Option, Some, None, Ok, Err, refl, sym, ap, ◌∙◌, subst, arith, length-append}
use Rattle.std.specs.Prelude.{FitsSigned}
use Rattle.std.specs.Int.{w32, w64}
use Rattle.std.proofs.lemmas.Bool.{ltb-true, ltb-false}
use Rattle.std.proofs.lemmas.Int.{ints}
use Rattle.std.proofs.lemmas.List.{take-append-drop, length-take-le}
use Rattle.aidl_base.specs.declared.profile.Profile.{Profile}
use Rattle.aidl_base.specs.Profiles.{is_truth_word, truth_of, IsWord}
use Rattle.aidl_base.specs.Words.{word, word_of, long_word, long_of}
use Rattle.aidl_base.proofs.lemmas.Lists.{AreBytes, AreBytes-front, AreBytes-take, drop_front, take_front}
use Rattle.aidl_values.specs.Data.{Data}
use Rattle.wire_model.specs.Reads.{IsMarker}
use Rattle.wire_model.specs.Stop.{first_word, after_word, WordStop, LongStop, Begins, CountStop, MarkerStop}
use Rattle.aidl_base.specs.Readings.{count_of}
use Rattle.wire_model.specs.ReadOf.{Read, ◌>>=◌, read_as, word_as, word_at, long_at, truth_at, count_at, there_of, marker_at}
use Rattle.aidl_base.proofs.lemmas.Words.{word-word_of, word_of-fits, long_word-long_of, long_of-fits, word_of-word, fits_pos}

module _ (b : List ℕ) (bytes : AreBytes b) where
  pub spells_word : 4 ≤ length b → word (word_of (take 4 b)) ≡ take 4 b
  spells_word le = word-word_of (take 4 b) (AreBytes-take 4 b bytes) (length-take-le 4 b le)

  pub word_fits : FitsSigned w32 (word_of (take 4 b))
  word_fits = word_of-fits (take 4 b) (AreBytes-take 4 b bytes)

  pub spells_long : 8 ≤ length b → long_word (long_of (take 8 b)) ≡ take 8 b
  spells_long le = long_word-long_of (take 8 b) (AreBytes-take 8 b bytes) (length-take-le 8 b le)

  pub long_fits : FitsSigned w64 (long_of (take 8 b))
  long_fits = long_of-fits (take 8 b) (AreBytes-take 8 b bytes)

-- what was read is a reading of the front; a status is that of a stop
abbrev pub Told : {A : Type 0} → (List ℕ → A → Type 0) → (ℤ → Type 0) → List ℕ → Read A → Type 0
Told IsRead IsStop b (Ok x) = (front : List ℕ) × (b ≡ front ++ x.1) × IsRead front x.0
Told IsRead IsStop b (Err s) = IsStop s

-- the same reading in other words
pub told_as : {A : Type 0} (One Other : List ℕ → A → Type 0) (IsStop : ℤ → Type 0) (b : List ℕ) (x : Read A)
    → ((front : List ℕ) (v : A) → One front v → Other front v) → Told One IsStop b x → Told Other IsStop b x
told_as One Other IsStop b (Ok x) reads h = (h.0, h.1, reads h.0 x.0 h.2)
told_as One Other IsStop b (Err s) reads h = h

-- one step of reading after another
pub told_then : {A B : Type 0} (First : List ℕ → A → Type 0) (Next : List ℕ → B → Type 0) (FirstStops NextStops : ℤ → Type 0) (b : List ℕ) (k : A × List ℕ → Read B) (x : Read A)
    → Told First FirstStops b x → ((s : ℤ) → FirstStops s → NextStops s)
    → ((v : A) (front rest : List ℕ) → b ≡ front ++ rest → First front v → Told Next NextStops b (k (v, rest))) → Told Next NextStops b (x >>= k)
told_then First Next FirstStops NextStops b k (Ok x) h stop next = next x.0 h.0 x.1 h.1 h.2
told_then First Next FirstStops NextStops b k (Err s) h stop next = stop s h

-- what an item says, as a value
pub told_value : {A : Type 0} (One : List ℕ → A → Type 0) (Other : List ℕ → Data → Type 0) (IsStop : ℤ → Type 0) (b : List ℕ) (seen : A → Data) (x : Read A)
    → ((front : List ℕ) (v : A) → One front v → Other front (seen v)) → Told One IsStop b x → Told Other IsStop b (read_as seen x)
told_value One Other IsStop b seen (Ok x) reads h = (h.0, h.1, reads h.0 x.0 h.2)
told_value One Other IsStop b seen (Err s) reads h = h

module _ {A : Type 0} (may : ℤ → Bool) (means : ℤ → A) (inside : Bool) (b : List ℕ) where
  by_word : (short ok : Bool) → nat_lt (length b) 4 ≡ short → may (word_of (take 4 b)) ≡ ok → Told (λ front x. IsWord may means front x) (λ s. WordStop may b inside s) b (word_as may means inside b)
  unfolding word_as
  by_word true ok e g = rw e (WordStop.short (ltb-true _ _ e))
  by_word false true e g = let le : 4 ≤ length b = ltb-false _ _ e in rw (e, g) (take 4 b, sym (take-append-drop 4 b), (length-take-le 4 b le, g, refl))
  by_word false false e g = let le : 4 ≤ length b = ltb-false _ _ e in rw (e, g) (WordStop.not_permitted le g)

  -- a word that may stand for a value
  pub word_as_told : Told (λ front x. IsWord may means front x) (λ s. WordStop may b inside s) b (word_as may means inside b)
  word_as_told = by_word (nat_lt (length b) 4) (may (word_of (take 4 b))) refl refl

module _ (inside : Bool) (b : List ℕ) (bytes : AreBytes b) where
  -- any word
  pub word_told : (short : Bool) → nat_lt (length b) 4 ≡ short → Told (λ front n. (front ≡ word n) × FitsSigned w32 n) (λ s. WordStop (λ w. true) b inside s) b (word_at inside b)
  word_told true e = rw e (WordStop.short (ltb-true _ _ e))
  word_told false e = let le : 4 ≤ length b = ltb-false _ _ e in rw e (take 4 b, sym (take-append-drop 4 b), (sym (spells_word b bytes le), word_fits b bytes))

  -- any long
  pub long_told : (short : Bool) → nat_lt (length b) 8 ≡ short → Told (λ front n. (front ≡ long_word n) × FitsSigned w64 n) (λ s. LongStop b inside s) b (long_at inside b)
  long_told true e = rw e (LongStop.short (ltb-true _ _ e))
  long_told false e = let le : 8 ≤ length b = ltb-false _ _ e in rw e (take 8 b, sym (take-append-drop 8 b), (sym (spells_long b bytes le), long_fits b bytes))

-- a count's word, and whether it is one
abbrev pub CountReads : Bool → List ℕ → Option ℕ → Type 0
CountReads nullable front None = (nullable ≡ true) × (front ≡ word (negsuc 0))
CountReads nullable front (Some n) = (n < 2 ^ 31) × (front ≡ word (pos n))

module _ (nullable inside : Bool) (b : List ℕ) (bytes : AreBytes b) where
  count_of_told : (w : ℤ) → FitsSigned w32 w → 4 ≤ length b → first_word b ≡ w → word w ≡ take 4 b → (may : Bool) → nullable ≡ may
      → Told (CountReads nullable) (λ s. CountStop nullable b inside s) b (count_of nullable w >>= λ m. Ok (m, drop 4 b))
  count_of_told (pos n) fits le is spelled may e = (take 4 b, sym (take-append-drop 4 b), (omega (arith, ints), sym spelled))
  count_of_told (negsuc zero) fits le is spelled true e = rw e (take 4 b, sym (take-append-drop 4 b), (refl, sym spelled))
  count_of_told (negsuc zero) fits le is spelled false e = rw e (CountStop.null_count (le, is) refl)
  count_of_told (negsuc (suc n)) fits le is spelled may e = CountStop.negative n (le, is)

  pub count_told : (short : Bool) → nat_lt (length b) 4 ≡ short → Told (CountReads nullable) (λ s. CountStop nullable b inside s) b (count_at nullable inside b)
  unfolding count_at
  count_told true e = rw e (CountStop.short (ltb-true _ _ e))
  count_told false e = let le : 4 ≤ length b = ltb-false _ _ e in rw e (count_of_told (first_word b) (word_fits b bytes) le refl (spells_word b bytes le) nullable refl)

-- markers
abbrev pub MarkerReads : Profile → Bool → List ℕ → Bool → Type 0
MarkerReads p nullable front true = IsMarker p front
MarkerReads p nullable front false = (nullable ≡ true) × (front ≡ word (pos 0))

false_zero : (w : ℤ) → truth_of w ≡ false → w ≡ pos 0
false_zero (pos zero) e = refl
false_zero (pos (suc n)) e = cc
false_zero (negsuc n) e = cc

-- bytes that begin with a word
module _ (b front rest : List ℕ) (e : b ≡ front ++ rest) (four : length front ≡ 4) where
  pub first_is : take 4 b ≡ front
  first_is = ap (take 4) e ∙ take_front front rest 4 four

  pub after_is : after_word b ≡ rest
  after_is = ap (drop 4) e ∙ drop_front front rest 4 four

  pub marks : (p : Profile) → IsMarker p front → IsMarker p (take 4 b)
  marks p m = subst (λ c. IsMarker p c) (sym first_is) m

module _ (p : Profile) (nullable inside : Bool) (b : List ℕ) (bytes : AreBytes b) where
  there_told : (t : Bool) (front rest : List ℕ) → b ≡ front ++ rest → IsWord (λ w. is_truth_word p w) truth_of front t → (may : Bool) → nullable ≡ may
      → Told (λ c m. MarkerReads p nullable c m) (λ s. MarkerStop p nullable b inside s) b (there_of nullable t >>= λ m. Ok (m, rest))
  there_told true front rest e is may n = (front, e, is)
  there_told false front rest e is true n =
      let spelled : front ≡ word (pos 0) = sym (word-word_of front (AreBytes-front front rest (subst AreBytes e bytes)) is.0) ∙ ap word (false_zero _ is.2) in
      rw n (front, e, (refl, spelled))
  there_told false front rest e is false n =
      let enough : 4 ≤ length b = omega (arith, ap length e, length-append front rest, is.0) in
      let first : first_word b ≡ pos 0 = ap word_of (first_is b front rest e is.0) ∙ false_zero _ is.2 in
      rw n (MarkerStop.null_marker (enough, first) refl refl)

  pub marker_told : Told (λ c m. MarkerReads p nullable c m) (λ s. MarkerStop p nullable b inside s) b (marker_at p nullable inside b)
  unfolding marker_at
  marker_told = told_then (λ c t. IsWord (λ w. is_truth_word p w) truth_of c t) (λ c m. MarkerReads p nullable c m) (λ s. WordStop (λ w. is_truth_word p w) b inside s) (λ s. MarkerStop p nullable b inside s) b
      (λ t. there_of nullable t.0 >>= λ m. Ok (m, t.1)) (truth_at p inside b) (word_as_told (λ w. is_truth_word p w) truth_of inside b) (λ s h. MarkerStop.at_word h)
      (λ t front rest e h. there_told t front rest e h nullable refl)

-- a word of a number and what follows it
module _ (b rest : List ℕ) (n : ℕ) (lt : n < 2 ^ 31) (e : b ≡ word (pos n) ++ rest) where
  pub begins : Begins (pos n) b
  begins = (omega (arith, ap length e, length-append (word (pos n)) rest), ap first_word e ∙ word_of-word (pos n) (fits_pos n lt))

  pub tail_word : after_word b ≡ rest
  tail_word = ap after_word e
