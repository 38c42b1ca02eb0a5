-- A hash is short.
use Rattle.std.proofs.Common.{◌≡◌, ℕ, ◌≤◌, ◌*◌, Bool, true, false, nat_lt, List, [], ◌∷◌, length, refl, arith, length-append}
use Rattle.std.specs.Char.Escape.{encode_utf16}
use Rattle.aidl_base.proofs.lemmas.Spelled.{length-spell_text}
use Rattle.aidl_base.specs.Words.{units}
use Rattle.meta_calls.specs.Versions.{IsHash}
use Rattle.wire_model.specs.Spell.{spell_text}

-- a character has one unit or two
two_at_most : (c : ℕ) (b : Bool) → nat_lt c 0x1_0000 ≡ b → length (encode_utf16 c) ≤ 2
two_at_most c true small = rw small (omega arith)
two_at_most c false large = rw large (omega arith)

few_units : (hash : List ℕ) → length (units hash) ≤ 2 * length hash
few_units [] = omega arith
few_units (c ∷ hash) = omega (arith, length-append (encode_utf16 c) (units hash), few_units hash, two_at_most c (nat_lt c 0x1_0000) refl)

pub hash_units : (hash : List ℕ) → IsHash hash → length (units hash) ≤ 80
hash_units hash is = omega (arith, few_units hash, is.forty)

pub hash_length : (hash : List ℕ) → IsHash hash → length (spell_text hash) ≤ 168
hash_length hash is = omega (arith, hash_units hash is, length-spell_text hash)
