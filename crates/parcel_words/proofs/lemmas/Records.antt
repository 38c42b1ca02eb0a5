-- The bytes that are left after a move, in a record, and after it. To enter a record and leave it takes the bytes of its body.
use Rattle.std.proofs.Common.{◌≡◌, ℕ, ◌+◌, ◌-◌, ◌≤◌, ℤ, pos, negsuc, Bool, true, false, ◌==◌, ◌%◌, cond, nat_lt, nat_le, List, Result, Ok, Err, length, take, drop, refl, sym, ap, ◌∙◌, subst, arith, length-take, length-drop}
use Rattle.std.proofs.lemmas.Bool.{ltb-false}
use Rattle.std.proofs.lemmas.Bool.Decides.{nat_tests}
use Rattle.std.proofs.lemmas.List.{drop-take, drop-drop, take-take}
use Rattle.aidl_base.specs.Readings.{Read, ◌>>=◌, bytes_at, word_at, size_of, past, bad_value}
use Rattle.aidl_base.specs.Words.{word_of}
use Rattle.parcel_words.specs.Place.{Place, limit, left, moved, opened, closed, size_at, MovesOn, Enters, is_inside}

pub left_moved : (p : Place) (n : ℕ) → left (moved p n) ≡ drop n (left p)
left_moved p n = sym (drop-drop n p.position (take (limit p) p.bytes))

-- a record's body is the size's bytes after the size word
pub left_opened : (p : Place) (size : ℕ) → 4 ≤ size → size ≤ length (left p) → left (opened p size) ≡ take (size - 4) (drop 4 (left p))
left_opened p size least fits =
    let at = p.position in
    let bytes = p.bytes in
    let room : length (left p) ≤ limit p - at = simp (length-drop, length-take) (omega arith) in
    let inner : at + size ≡ at + 4 + (size - 4) = omega arith in
    let outer : limit p ≡ at + 4 + (limit p - (at + 4)) = omega (arith, room) in
    let some : size - 4 ≤ limit p - (at + 4) = omega (arith, room) in
    let rest : drop 4 (left p) ≡ take (limit p - (at + 4)) (drop (at + 4) bytes) =
    drop-drop 4 at (take (limit p) bytes) ∙ ap (λ n. drop (at + 4) (take n bytes)) outer ∙ drop-take (at + 4) (limit p - (at + 4)) bytes in
    ap (λ n. drop (at + 4) (take n bytes)) inner ∙ drop-take (at + 4) (size - 4) bytes
    ∙ sym (take-take (size - 4) (limit p - (at + 4)) (drop (at + 4) bytes) some) ∙ ap (take (size - 4)) (sym rest)

-- wherever the record is left, the reader stands after as many bytes as its size says
pub closed_opened : (p : Place) (size n : ℕ) → closed (moved (opened p size) n) ≡ moved p size
closed_opened p size n = refl

-- a size word, and the record's bytes after it, step by step: what a definition of reading a record's body unfolds to
abbrev pub body : Bool → List ℕ → Read (List ℕ)
body inside b = word_at inside b >>= λ w. size_of w.0 >>= λ z. bytes_at (z - 4) inside w.1

-- a body after its size, which is there and fits
abbrev pub after_size : Read ℕ → Read (List ℕ)
after_size size = size >>= λ x. Ok (take (x.0 - 4) x.1, drop (x.0 - 4) x.1)

least : (n : ℤ) (z : ℕ) → size_of n ≡ Ok z → 4 ≤ z
least (negsuc k) z e = absurd cc
least (pos k) z e = by_tests (nat_le 4 k) (k % 4 == 0) refl refl
  where
    by_tests : (p q : Bool) → nat_le 4 k ≡ p → (k % 4 == 0) ≡ q → 4 ≤ z
    by_tests true true p q = let same : ◌≡◌ {A = Result ℕ ℤ} (Ok k) (Ok z) = rw (p, q) at e in let is : k ≡ z = cc in let le : 4 ≤ k = grind (arith, nat_tests) in omega (arith, le, is)
    by_tests true false p q = let same : ◌≡◌ {A = Result ℕ ℤ} (Err bad_value) (Ok z) = rw (p, q) at e in absurd cc
    by_tests false q p r = let same : ◌≡◌ {A = Result ℕ ℤ} (Err bad_value) (Ok z) = rw p at e in absurd cc

module _ (inside : Bool) (b : List ℕ) where
  abbrev sized : Result ℕ ℤ → Read ℕ
  sized size = size >>= λ z. cond {A = Read ℕ} (nat_lt (length b) z) (Err (past inside)) (Ok (z, drop 4 b))

  abbrev bodied : Result ℕ ℤ → Read (List ℕ)
  bodied size = size >>= λ z. bytes_at (z - 4) inside (drop 4 b)

  same_test : (z : ℕ) → 4 ≤ length b → 4 ≤ z → nat_lt (length (drop 4 b)) (z - 4) ≡ nat_lt (length b) z
  same_test z enough le = let len : length (drop 4 b) ≡ length b - 4 = length-drop 4 b in rw len (shifted (length b) z enough le)
    where
      shifted : (m n : ℕ) → 4 ≤ m → 4 ≤ n → nat_lt (m - 4) (n - 4) ≡ nat_lt m n
      shifted m n h k = grind (arith, nat_tests)

  by_fit : (z : ℕ) (short : Bool) → nat_lt (length b) z ≡ short → nat_lt (length (drop 4 b)) (z - 4) ≡ short → bodied (Ok z) ≡ after_size (sized (Ok z))
  by_fit z true e f = rw (e, f) refl
  by_fit z false e f = rw (e, f) refl

  by_size : 4 ≤ length b → (size : Result ℕ ℤ) → ((z : ℕ) → size ≡ Ok z → 4 ≤ z) → bodied size ≡ after_size (sized size)
  by_size enough (Err s) h = refl
  by_size enough (Ok z) h = by_fit z (nat_lt (length b) z) refl (same_test z enough (h z refl))

  by_word : (short : Bool) → nat_lt (length b) 4 ≡ short → body inside b ≡ after_size (size_at inside b)
  unfolding size_at
  by_word true e = rw e refl
  by_word false e = rw e (by_size (ltb-false _ _ e) (size_of (word_of (take 4 b))) (λ z k. least (word_of (take 4 b)) z k))

  pub body_steps : body inside b ≡ after_size (size_at inside b)
  body_steps = by_word (nat_lt (length b) 4) refl

  -- the first word
  abbrev first : ℤ
  first = word_of (take 4 b)

  -- a size that is there fits, and counts itself
  sized_fits : (z : ℕ) (c : List ℕ) → size_at inside b ≡ Ok (z, c) → (4 ≤ z) × (z ≤ length b)
  unfolding size_at
  sized_fits z c e = by_short (nat_lt (length b) 4) refl
    where
      by_long : (size : Result ℕ ℤ) → size_of first ≡ size → sized size ≡ Ok (z, c) → (4 ≤ z) × (z ≤ length b)
      by_long (Err s) is h = absurd cc
      by_long (Ok y) is h = by_end (nat_lt (length b) y) refl
        where
          by_end : (far : Bool) → nat_lt (length b) y ≡ far → (4 ≤ z) × (z ≤ length b)
          by_end true k = let same : ◌≡◌ {A = Read ℕ} (Err (past inside)) (Ok (z, c)) = rw k at h in absurd cc
          by_end false k =
              let same : ◌≡◌ {A = Read ℕ} (Ok (y, drop 4 b)) (Ok (z, c)) = rw k at h in
              let pair : ◌≡◌ {A = ℕ × List ℕ} (y, drop 4 b) (z, c) = cc in
              let y_is : y ≡ z = ap (λ (x : ℕ × List ℕ). x.0) pair in
              let low = least first y is in
              let fits : y ≤ length b = ltb-false _ _ k in
              (omega (arith, low, y_is), omega (arith, fits, y_is))

      by_short : (short : Bool) → nat_lt (length b) 4 ≡ short → (4 ≤ z) × (z ≤ length b)
      by_short true k = let same : ◌≡◌ {A = Read ℕ} (Err (past inside)) (Ok (z, c)) = rw k at e in absurd cc
      by_short false k = by_long (size_of first) refl (rw k at e)

on_by : (p : Place) (n : ℕ) → n ≤ length (left p) → MovesOn p (moved p n)
on_by p n le =
    let len : length (left (moved p n)) ≡ length (left p) - n = ap length (left_moved p n) ∙ length-drop n (left p) in
    let is : n ≡ length (left p) - length (left (moved p n)) = omega (arith, len) in
    ap (moved p) is

-- no bytes on
pub stays : (p : Place) → MovesOn p p
stays p =
    let still : p.position ≡ p.position + (length (left p) - length (left p)) = omega arith in
    ap (λ (n : ℕ). record { profile = p.profile; bytes = p.bytes; position = n; ends = p.ends }) still

-- a record that was entered at p, and left when the reader was at r
module _ (p q r : Place) (enters : Enters p q) (on : MovesOn q r) where
  abbrev z : ℕ
  z = enters.0

  at : size_at (is_inside p) (left p) ≡ Ok (z, drop 4 (left p))
  at = enters.1

  closed_is : closed r ≡ moved p z
  closed_is = ap closed on ∙ ap (λ q. closed (moved q (length (left q) - length (left r)))) enters.2

  fits : (4 ≤ z) × (z ≤ length (left p))
  fits = sized_fits (is_inside p) (left p) z (drop 4 (left p)) at

  pub leaves : MovesOn p (closed r)
  leaves = subst (MovesOn p) (sym closed_is) (on_by p z fits.1)

  pub body_is : body (is_inside p) (left p) ≡ Ok (left q, left (closed r))
  body_is =
      let inner : take (z - 4) (drop 4 (left p)) ≡ left q = sym (left_opened p z fits.0 fits.1) ∙ ap left (sym enters.2) in
      let k : 4 + (z - 4) ≡ z = omega (arith, fits.0) in
      let rest : drop (z - 4) (drop 4 (left p)) ≡ left (closed r) = drop-drop (z - 4) 4 (left p) ∙ ap (λ n. drop n (left p)) k ∙ sym (left_moved p z) ∙ ap left (sym closed_is) in
      body_steps (is_inside p) (left p) ∙ ap after_size at ∙ ap (λ (c : List ℕ). Ok (c, drop (z - 4) (drop 4 (left p)))) inner ∙ ap (λ (c : List ℕ). Ok (left q, c)) rest

-- a record that was entered has a size word
pub entered_some : (p q : Place) → Enters p q → 4 ≤ length (left p)
entered_some p q enters = let fits = sized_fits (is_inside p) (left p) enters.0 (drop 4 (left p)) enters.1 in omega (arith, fits.0, fits.1)
