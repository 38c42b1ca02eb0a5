-- Where a reader's limit is.
use Rattle.std.proofs.Common.{◌≡◌, ℕ, zero, suc, add-one, ◌+◌, ◌-◌, ◌<◌, ◌≤◌, List, [], length, take, drop, get_or, set, ◌≢◌, ◌∷◌, get_or-set_other, get_or-set_same, true, true≢false, refl, sym, ap, ◌∙◌, arith, length-take, length-drop}
use Rattle.std.proofs.lemmas.List.{drop-take}
use Rattle.parcel_words.specs.declared.reader.WordReader.TheInside.{Inside}
use Rattle.parcel_words.specs.Place.{Place, limit, limit_of, left, opened, is_some_open}
use Rattle.parcel_words.specs.Fields.{ends_of, place_of, IsNested, IsPlace}

limit_at : (opened end len : ℕ) (outer : List ℕ) → (opened ≡ 0 → end ≡ len) → limit_of (ends_of opened end outer) len ≡ end
limit_at zero end len outer h = sym (h refl)
limit_at (suc n) end len outer h = refl

pub left_is : (a : Inside) → IsPlace a → left (place_of a) ≡ drop a.position (take a.end a.bytes.now)
left_is a p = ap (λ n. drop a.position (take n a.bytes.now)) (limit_at a.open a.end (length a.bytes.now) a.outer p.whole)

pub length-left : (a : Inside) → IsPlace a → length (left (place_of a)) ≡ a.end - a.position
length-left a p = ap length (left_is a p) ∙ simp (length-drop, length-take) (omega (arith, p.within, p.passed))

-- the bytes up to the limit, as a slice of the bytes
pub rest_is : (a : Inside) → IsPlace a → take (a.end - a.position) (drop a.position a.bytes.now) ≡ left (place_of a)
rest_is a p =
    let n : a.position + (a.end - a.position) ≡ a.end = omega (arith, p.passed) in
    sym (drop-take a.position (a.end - a.position) a.bytes.now) ∙ ap (λ m. drop a.position (take m a.bytes.now)) n ∙ sym (left_is a p)

length-ends : (n end : ℕ) (outer : List ℕ) → length (ends_of n end outer) ≡ n
length-ends zero end outer = refl
length-ends (suc n) end outer = ap suc (length-ends n (get_or outer n 0) outer)

-- a write past the open records changes none of their ends
ends_of-set : (n m end x : ℕ) (outer : List ℕ) → n ≤ m → ends_of n end (set outer m x) ≡ ends_of n end outer
ends_of-set zero m end x outer le = refl
ends_of-set (suc n) m end x outer le =
    let other : n ≢ m = omega arith in
    let same : get_or (set outer m x) n 0 ≡ get_or outer n 0 = get_or-set_other outer m n x 0 other in
    ap (λ es. end ∷ es) (ap (λ e. ends_of n e (set outer m x)) same ∙ ends_of-set n m (get_or outer n 0) x outer (omega arith))

IsNested-set : (n m end x len : ℕ) (outer : List ℕ) → n ≤ m → IsNested n end outer len → IsNested n end (set outer m x) len
IsNested-set zero m end x len outer le h = h
IsNested-set (suc n) m end x len outer le h =
    let other : n ≢ m = omega arith in
    let same : get_or (set outer m x) n 0 ≡ get_or outer n 0 = get_or-set_other outer m n x 0 other in
    rw same (h.0, IsNested-set n m (get_or outer n 0) x len outer (omega arith) h.1)

module _ (n end : ℕ) (outer : List ℕ) (lt : n < length outer) where
  kept : get_or (set outer n end) n 0 ≡ end
  kept = get_or-set_same outer n end 0 lt

  pub open_nested : (e len : ℕ) → e ≤ end → IsNested n end outer len → IsNested (n + 1) e (set outer n end) len
  open_nested e len le h = rw (add-one, kept) (le, IsNested-set n n end end len outer (omega arith) h)

  pub open_ends : (e : ℕ) → ends_of (n + 1) e (set outer n end) ≡ e ∷ ends_of n end outer
  open_ends e = rw (add-one, kept) (ap (λ es. e ∷ es) (ends_of-set n n end end outer (omega arith)))

pub opened_place : (p : Place) (size : ℕ) (es : List ℕ) → es ≡ (p.position + size) ∷ p.ends → ◌≡◌ {A = Place} (record { profile = p.profile; bytes = p.bytes; position = p.position + 4; ends = es }) (opened p size)
opened_place p size es e = ap (λ (f : List ℕ). record { profile = p.profile; bytes = p.bytes; position = p.position + 4; ends = f }) e

pub ends_len : (a : Inside) → length (place_of a).ends ≡ a.open
ends_len a = length-ends a.open a.end a.outer

-- the record that is left was in another one, or it was the outermost
pub outer_within : (n end : ℕ) (outer : List ℕ) (len : ℕ) → 0 < n → IsNested n end outer len → (end ≤ get_or outer (n - 1) 0) × IsNested (n - 1) (get_or outer (n - 1) 0) outer len
outer_within zero end outer len lt h = absurd (omega arith)
outer_within (suc n) end outer len lt h = let k : suc n - 1 ≡ n = omega arith in rw k h

pub nested_within : (n end : ℕ) (outer : List ℕ) (len : ℕ) → IsNested n end outer len → end ≤ len
nested_within zero end outer len h = omega (arith, h)
nested_within (suc n) end outer len h = let up = nested_within n (get_or outer n 0) outer len h.1 in omega (arith, h.0)

pub nested_whole : (n end : ℕ) (outer : List ℕ) (len : ℕ) → IsNested n end outer len → n ≡ 0 → end ≡ len
nested_whole zero end outer len h e = h
nested_whole (suc n) end outer len h e = absurd (omega arith)

pub some_open : (n end : ℕ) (outer : List ℕ) → is_some_open (ends_of n end outer) ≡ true → 0 < n
some_open zero end outer e = absurd (true≢false (sym e))
some_open (suc n) end outer e = omega arith

-- the limit is the end that the reader keeps
pub limit_is : (a : Inside) → IsPlace a → limit (place_of a) ≡ a.end
limit_is a p = limit_at a.open a.end (length a.bytes.now) a.outer p.whole

no_items : (b : List ℕ) → length b ≡ 0 → b ≡ []
no_items [] e = refl
no_items (x ∷ b) e = absurd (omega arith)

-- nothing is left at the limit, and there alone
pub none_left : (a : Inside) → IsPlace a → (a.position ≡ a.end) → left (place_of a) ≡ []
none_left a p e = no_items (left (place_of a)) (omega (arith, length-left a p))

pub left_none : (a : Inside) → IsPlace a → left (place_of a) ≡ [] → a.position ≡ a.end
left_none a p e = omega (arith, length-left a p, ap length e, p.passed)
