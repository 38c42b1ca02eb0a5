-- The block of a text and raw bytes, there and back.
use Rattle.std.proofs.Common.{◌≡◌, ℕ, zero, suc, ◌+◌, ◌*◌, ◌/◌, ◌%◌, ◌^◌, ◌<◌, ◌≤◌, Bool, true, false, not, cond, List, [], ◌∷◌, ◌++◌, map, length, take, drop, replicate, Option, Some, None, Ok, Err, nat_lt, refl, sym, ap, ◌∙◌, subst, arith, append_assoc, length-append}
use Rattle.std.specs.List.{list_any}
use Rattle.std.specs.Option.{unwrap_or, is_some}
use Rattle.std.specs.Int.{w16, to_le_bytes, from_le_bytes}
use Rattle.std.specs.Simd.{first_chunks}
use Rattle.std.specs.Str.{all_scalars}
use Rattle.std.specs.Char.Utf16.{utf16_lossy_chars, has_unpaired_surrogate}
use Rattle.std.proofs.lemmas.Nat.{from_le_bytes-to_le_bytes_2}
use Rattle.std.proofs.lemmas.List.{length-replicate, length-take-le, take-append-drop}
use Rattle.std.proofs.lemmas.Bool.{le-ltb}
use Rattle.aidl_base.specs.Words.{padding, units, unit_bytes, block}
use Rattle.aidl_base.specs.declared.profile.Profile.{Profile}
use Rattle.aidl_base.specs.Profiles.{all_zero, is_padding, IsPadded, IsTextBlock}
use Rattle.aidl_base.specs.Readings.{Read, ◌>>=◌, bad_value, bytes_at, raw_at, units_of, block_len, ends_text, text_of, ok_or_bad_value, block_at}
use Rattle.aidl_base.proofs.lemmas.Lists.{AreBytes, AreBytes-take, all_zero_is, drop_front, take_front}
use Rattle.aidl_base.proofs.lemmas.Profiles.{length-padded, front_padded, tail_padded}
use Rattle.aidl_base.proofs.lemmas.Tests.{both}
use Rattle.aidl_base.proofs.lemmas.Texts.{Below, units_below, none_unpaired, lossless, spelled, utf16_chars-units}

-- the units of pairs of bytes
pub units_of_pairs : (k : ℕ) (bytes : List ℕ) → k ≡ length bytes / 2 → map (from_le_bytes w16) (first_chunks 2 k bytes) ≡ units_of bytes
units_of_pairs zero [] e = refl
units_of_pairs zero (x ∷ []) e = refl
units_of_pairs zero (x ∷ y ∷ bytes) e = absurd (omega arith)
units_of_pairs (suc k) [] e = absurd (omega arith)
units_of_pairs (suc k) (x ∷ []) e = absurd (omega arith)
units_of_pairs (suc k) (x ∷ y ∷ bytes) e = ap (λ us. from_le_bytes w16 (x ∷ y ∷ []) ∷ us) (units_of_pairs k bytes (omega arith))

pub unit_bytes_append : (us vs : List ℕ) → unit_bytes (us ++ vs) ≡ unit_bytes us ++ unit_bytes vs
unit_bytes_append [] vs = refl
unit_bytes_append (u ∷ us) vs = ap (λ bs. to_le_bytes w16 u ++ bs) (unit_bytes_append us vs)

pub length-unit_bytes : (us : List ℕ) → length (unit_bytes us) ≡ 2 * length us
length-unit_bytes [] = refl
length-unit_bytes (u ∷ us) = omega (arith, length-unit_bytes us)

-- a block is the units, a zero unit and zeros
pub block_is : (x : List ℕ) → block x ≡ unit_bytes (units x) ++ replicate (2 + padding (2 * (length (units x) + 1))) 0
block_is x =
    let us = units x in
    let n : length (unit_bytes (us ++ 0 ∷ [])) ≡ 2 * (length us + 1) = omega (arith, length-unit_bytes (us ++ 0 ∷ []), length-append us (0 ∷ [])) in
    ap (λ k. unit_bytes (us ++ 0 ∷ []) ++ replicate (padding k) 0) n ∙ ap (λ bs. bs ++ replicate (padding (2 * (length us + 1))) 0) (unit_bytes_append us (0 ∷ []))
    ∙ append_assoc (unit_bytes us) (0 ∷ (0 ∷ [])) _ ∙ ap (λ bs. unit_bytes us ++ bs) (two (padding (2 * (length us + 1))))
  where
    two : (k : ℕ) → ◌≡◌ {A = List ℕ} (0 ∷ (0 ∷ replicate k 0)) (replicate (2 + k) 0)
    two k = let e : 2 + k ≡ suc (suc k) = omega arith in rw e refl

-- the length of a block, by its parts and by the number of its units
pub length_block_parts : (x : List ℕ) → length (block x) ≡ length (unit_bytes (units x)) + (2 + padding (2 * (length (units x) + 1)))
length_block_parts x = ap length (block_is x) ∙ simp (length-append, length-replicate)

pub length-block : (x : List ℕ) → length (block x) ≡ block_len (length (units x))
length-block x = omega (arith, length_block_parts x, length-unit_bytes (units x))

-- an item of n bytes is read, whatever follows it
pub bytes_again : (n : ℕ) (inside : Bool) (item rest : List ℕ) → length item ≡ n → bytes_at n inside (item ++ rest) ≡ Ok (item, rest)
bytes_again n inside item rest e =
    let enough : nat_lt (length (item ++ rest)) n ≡ false = le-ltb _ _ (omega (arith, length-append item rest)) in
    rw (enough, take_front item rest n e, drop_front item rest n e) refl

-- raw bytes and their padding are read again
pub raw_again : (p : Profile) (bytes b : List ℕ) (n : ℕ) (inside : Bool) (rest : List ℕ) → length bytes ≡ n → IsPadded p bytes b → raw_at p n inside (b ++ rest) ≡ Ok (bytes, rest)
unfolding raw_at
raw_again p bytes b n inside rest len is =
    ap (λ (x : Read (List ℕ)). x >>= λ y. cond (is_padding p (drop n y.0)) (Ok (take n y.0, y.1)) (Err bad_value)) (bytes_again (n + padding n) inside b rest (length-padded p bytes b n len is))
    ∙ rw (tail_padded p bytes b n len is, front_padded p bytes b n len is) refl

units_back : (us : List ℕ) → Below us → units_of (unit_bytes us) ≡ us
units_back [] h = refl
units_back (u ∷ us) h = ap (λ v. v ∷ units_of (unit_bytes us)) (from_le_bytes-to_le_bytes_2 u h.0) ∙ ap (λ vs. u ∷ vs) (units_back us h.1)

-- the units and the zero unit of a text, as bytes
text_bytes : (x : List ℕ) → unit_bytes (units x ++ 0 ∷ []) ≡ unit_bytes (units x) ++ 0 ∷ 0 ∷ []
text_bytes x = unit_bytes_append (units x) (0 ∷ [])

length-text_bytes : (x : List ℕ) → length (unit_bytes (units x ++ 0 ∷ [])) ≡ 2 * (length (units x) + 1)
length-text_bytes x = omega (arith, length-unit_bytes (units x ++ 0 ∷ []), length-append (units x) (0 ∷ []))

pub length-text_block : (p : Profile) (x b : List ℕ) → IsTextBlock p x b → length b ≡ block_len (length (units x))
length-text_block p x b is = length-padded p (unit_bytes (units x ++ 0 ∷ [])) b _ (length-text_bytes x) is

-- a block is a block of its text
pub text_back : (p : Profile) (x b : List ℕ) → all_scalars x ≡ true → IsTextBlock p x b → text_of p (length (units x)) b ≡ Some x
unfolding text_of
text_back p x b ok is =
    let n = length (units x) in
    let len : length (unit_bytes (units x)) ≡ 2 * n = length-unit_bytes (units x) in
    let tail : List ℕ = 0 ∷ 0 ∷ is.0 in
    let whole : b ≡ unit_bytes (units x) ++ tail = is.1 ∙ ap (λ c. c ++ is.0) (text_bytes x) ∙ append_assoc (unit_bytes (units x)) (0 ∷ 0 ∷ []) is.0 in
    let front : take (2 * n) b ≡ unit_bytes (units x) = ap (take (2 * n)) whole ∙ take_front (unit_bytes (units x)) tail (2 * n) len in
    let after : drop (2 * n) b ≡ tail = ap (drop (2 * n)) whole ∙ drop_front (unit_bytes (units x)) tail (2 * n) len in
    let us : units_of (take (2 * n) b) ≡ units x = ap units_of front ∙ units_back (units x) (units_below x ok) in
    let paired : has_unpaired_surrogate (units x) ≡ false = ap (λ os. list_any (λ o. not (is_some o)) os) (utf16_chars-units x ok) ∙ none_unpaired x in
    let ends : ends_text p (drop (2 * n) b) ≡ true = ap (ends_text p) after ∙ is.3 in
    let same : utf16_lossy_chars (units x) ≡ x = ap (λ os. map (λ o. unwrap_or o 0xFFFD) os) (utf16_chars-units x ok) ∙ lossless x in
    rw (us, paired, ends, same) refl

pub block_again : (p : Profile) (x b : List ℕ) (inside : Bool) (rest : List ℕ) → all_scalars x ≡ true → IsTextBlock p x b → block_at p (length (units x)) inside (b ++ rest) ≡ Ok (x, rest)
unfolding block_at
block_again p x b inside rest ok is =
    ap (λ (b : Read (List ℕ)). b >>= λ y. ok_or_bad_value (text_of p (length (units x)) y.0) >>= λ t. Ok (t, y.1)) (bytes_again (block_len (length (units x))) inside b rest (length-text_block p x b is))
    ∙ ap (λ o. ok_or_bad_value o >>= λ t. Ok (t, rest)) (text_back p x b ok is)

two_below : (a b : ℕ) → a < 256 → b < 256 → from_le_bytes w16 (a ∷ b ∷ []) < 2 ^ 16
two_below a b p q = omega arith

two_back : (a b : ℕ) → a < 256 → b < 256 → to_le_bytes w16 (from_le_bytes w16 (a ∷ b ∷ [])) ≡ a ∷ b ∷ []
two_back a b p q =
    let low : (a + b * 256) % 256 ≡ a = omega arith in
    let high : ((a + b * 256) / 256) % 256 ≡ b = omega arith in
    pair _ _ (omega arith) (omega arith)
  where
    pair : (x y : ℕ) → x ≡ a → y ≡ b → ◌≡◌ {A = List ℕ} (x ∷ y ∷ []) (a ∷ b ∷ [])
    pair x y e f = rw (e, f) refl

-- bytes of units are the bytes of those units
even_bytes : (k : ℕ) (c : List ℕ) → AreBytes c → length c ≡ 2 * k → (unit_bytes (units_of c) ≡ c) × (length (units_of c) ≡ k) × Below (units_of c)
even_bytes zero [] h e = (refl, refl, tt)
even_bytes (suc k) [] h e = absurd (omega arith)
even_bytes zero (a ∷ c) h e = absurd (omega arith)
even_bytes (suc k) (a ∷ []) h e = absurd (omega arith)
even_bytes (suc k) (a ∷ b ∷ c) h e =
    let rest = even_bytes k c (λ i. h (suc (suc i))) (omega arith) in
    (ap (λ x. x ++ unit_bytes (units_of c)) (two_back a b (h 0) (h 1)) ∙ ap (λ x. a ∷ b ∷ x) rest.0, ap suc rest.1, (two_below a b (h 0) (h 1), rest.2))

two_zeros : (b : List ℕ) → 2 ≤ length b → all_zero (take 2 b) ≡ true → b ≡ 0 ∷ 0 ∷ drop 2 b
two_zeros b le zero_unit =
    let two : length (take 2 b) ≡ 2 = length-take-le 2 b le in
    let zeros : take 2 b ≡ 0 ∷ 0 ∷ [] = all_zero_is (take 2 b) zero_unit ∙ ap (λ n. replicate n 0) two in
    sym (take-append-drop 2 b) ∙ ap (λ c. c ++ drop 2 b) zeros

-- a block by its tests is the block of a text of so many units
pub block_of : (p : Profile) (n : ℕ) (b : List ℕ) → AreBytes b → length b ≡ block_len n → has_unpaired_surrogate (units_of (take (2 * n) b)) ≡ false → ends_text p (drop (2 * n) b) ≡ true
    → (x : List ℕ) × (all_scalars x ≡ true) × (units x ≡ units_of (take (2 * n) b)) × (length (units x) ≡ n) × IsTextBlock p x b
block_of p n b bytes len paired ends =
    let two = both (all_zero (take 2 (drop (2 * n) b))) (is_padding p (drop 2 (drop (2 * n) b))) ends in
    let front : length (take (2 * n) b) ≡ 2 * n = length-take-le (2 * n) b (omega arith) in
    let even = even_bytes n (take (2 * n) b) (AreBytes-take (2 * n) b bytes) front in
    let text = spelled (units_of (take (2 * n) b)) even.2 paired in
    let x = text.0 in
    let count : length (units x) ≡ n = ap length text.2 ∙ even.1 in
    let head : unit_bytes (units x) ≡ take (2 * n) b = ap unit_bytes text.2 ∙ even.0 in
    let rest = drop (2 * n) b in
    let sum : length (take (2 * n) b) + length rest ≡ block_len n = sym (length-append (take (2 * n) b) rest) ∙ ap length (take-append-drop (2 * n) b) ∙ len in
    let zero_unit : rest ≡ 0 ∷ 0 ∷ drop 2 rest = two_zeros rest (omega arith) two.0 in
    let whole : b ≡ unit_bytes (units x ++ 0 ∷ []) ++ drop 2 rest =
    sym (take-append-drop (2 * n) b) ∙ ap (λ c. c ++ rest) (sym head) ∙ ap (λ c. unit_bytes (units x) ++ c) zero_unit
    ∙ sym (append_assoc (unit_bytes (units x)) (0 ∷ 0 ∷ []) (drop 2 rest)) ∙ ap (λ c. c ++ drop 2 rest) (sym (text_bytes x)) in
    let size : length (drop 2 rest) ≡ padding (2 * (n + 1)) = omega (arith, ap length zero_unit) in
    (x, text.1, text.2, count, (drop 2 rest, whole, size ∙ ap (λ k. padding (2 * (k + 1))) (sym count) ∙ ap padding (sym (length-text_bytes x)), two.1))

module _ (p : Profile) (n : ℕ) (b x : List ℕ) (bytes : AreBytes b) (len : length b ≡ block_len n) where
  -- the text that is read is the one whose block the bytes are
  same_text : (y : List ℕ) → all_scalars y ≡ true → units y ≡ units_of (take (2 * n) b) → utf16_lossy_chars (units_of (take (2 * n) b)) ≡ y
  same_text y ok e = ap utf16_lossy_chars (sym e) ∙ ap (λ os. map (λ o. unwrap_or o 0xFFFD) os) (utf16_chars-units y ok) ∙ lossless y

  by_tests : (q r : Bool) → has_unpaired_surrogate (units_of (take (2 * n) b)) ≡ q → ends_text p (drop (2 * n) b) ≡ r → text_of p n b ≡ Some x → (all_scalars x ≡ true) × (length (units x) ≡ n) × IsTextBlock p x b
  unfolding text_of
  by_tests true r e f h = let wrong : ◌≡◌ {A = Option (List ℕ)} None (Some x) = rw e at h in absurd cc
  by_tests false false e f h = let wrong : ◌≡◌ {A = Option (List ℕ)} None (Some x) = rw (e, f) at h in absurd cc
  by_tests false true e f h =
      let found : ◌≡◌ {A = Option (List ℕ)} (Some (utf16_lossy_chars (units_of (take (2 * n) b)))) (Some x) = rw (e, f) at h in
      let lossy : utf16_lossy_chars (units_of (take (2 * n) b)) ≡ x = cc in
      let t = block_of p n b bytes len e f in
      let same : t.0 ≡ x = sym (same_text t.0 t.1 t.2) ∙ lossy in
      subst (λ y. (all_scalars y ≡ true) × (length (units y) ≡ n) × IsTextBlock p y b) same (t.1, t.3, t.4)

  -- a block of which a text is read is the block of that text
  pub block_text : text_of p n b ≡ Some x → (all_scalars x ≡ true) × (length (units x) ≡ n) × IsTextBlock p x b
  block_text h = by_tests (has_unpaired_surrogate (units_of (take (2 * n) b))) (ends_text p (drop (2 * n) b)) refl refl h
