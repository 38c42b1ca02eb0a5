-- A record's marker, size and fields, one after the other.
use Rattle.std.proofs.Common.{◌≡◌, ℕ, ◌+◌, ◌-◌, pos, List, ◌++◌, length, take, drop, refl, ap, ◌∙◌, arith, append_assoc, length-append}
use Rattle.aidl_base.specs.Words.{word}
use Rattle.aidl_base.proofs.lemmas.Lists.{take_front, drop_front}
use Rattle.wire_model.specs.Spell.{body}
use Rattle.parcel_words.specs.Written.{Written, with_bytes, sized, with_size}

-- a front, a size and fields
joined : (f g b c : List ℕ) (m : ℕ) → f ≡ g → m ≡ 4 + length c → b ≡ c → f ++ (word (pos m) ++ b) ≡ g ++ body c
joined f g b c m e k h = ap (λ x. x ++ (word (pos m) ++ b)) e ∙ ap (λ n. g ++ (word (pos n) ++ b)) k ∙ ap (λ y. g ++ (word (pos (4 + length c)) ++ y)) h

-- the bytes from the size word on
pub record_length : (a size fields : List ℕ) → length size ≡ 4 → length ((a ++ size) ++ fields) - length a ≡ 4 + length fields
record_length a size fields e = omega (arith, length-append (a ++ size) fields, length-append a size)

-- the size word is set over the one that stood there
sized_record : (a size fields : List ℕ) → length size ≡ 4 → sized ((a ++ size) ++ fields) (length a) ≡ a ++ body fields
sized_record a size fields e =
    let front : take (length a) ((a ++ size) ++ fields) ≡ a = ap (take (length a)) (append_assoc a size fields) ∙ take_front a (size ++ fields) (length a) refl in
    let len : length a + 4 ≡ length (a ++ size) = omega (arith, length-append a size) in
    let back : drop (length a + 4) ((a ++ size) ++ fields) ≡ fields = ap (λ n. drop n ((a ++ size) ++ fields)) len ∙ drop_front (a ++ size) fields (length (a ++ size)) refl in
    joined _ a _ fields _ front (record_length a size fields e) back

-- a record that is opened, filled and closed
pub record_written : (w : Written) (fields : List ℕ)
    → with_size (with_bytes (with_bytes w (word (pos 0))) fields) (length w.bytes) ≡ with_bytes w (body fields)
record_written w fields =
    let size = word (pos 0) in
    same (sized_record w.bytes size fields refl) (omega (arith, length-append (word (pos (4 + length fields))) fields))
  where
    same : {b c : List ℕ} {m n : ℕ} → b ≡ c → m ≡ n → ◌≡◌ {A = Written} (record { bytes = b; room = m }) (record { bytes = c; room = n })
    same e f = rw (e, f) refl
