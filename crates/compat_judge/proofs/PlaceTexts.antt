-- The texts of places.
use Rattle.std.proofs.Common.{◌≡◌, ℕ, suc, ◌<◌, ◌^◌, List, [], ◌∷◌, ◌++◌, Result, Ok, Err, String, Global, string_bytes, IfOk, refl, sym, ap, ◌∙◌}
use Rattle.std.specs.Str.{all_scalars, chars, encode_utf8_all, IsAscii}
use Rattle.std.specs.Fmt.{decimal}
use Rattle.std.proofs.lemmas.Fmt.{IsAscii-decimal}
use Rattle.std.proofs.lemmas.Str.{encode_ascii}
use lib.Utf8.{scalar}
use Rattle.aidl_base.proofs.lemmas.Joined.{Spells, and_true, ascii_scalar}

ascii_spells : (x : List ℕ) → IsAscii x → Spells x x
ascii_spells [] h = record { bytes = refl; scalars = refl }
ascii_spells (c ∷ x) h =
    let rest = ascii_spells x (λ i. h (suc i)) in
    let lt : c < 128 = h 0 in
    record {
      bytes = ap (λ z. c ∷ z) rest.bytes ∙ ap (λ z. z ++ encode_utf8_all x) (sym (encode_ascii c lt));
      scalars = and_true (scalar c) (all_scalars x) (ascii_scalar c lt) rest.scalars;
    }

pub decimal_spells : (n : ℕ) → n < 2 ^ 64 → Spells (decimal n) (decimal n)
decimal_spells n lt = ascii_spells (decimal n) (IsAscii-decimal n lt)

-- a text that was made of these bytes reads as what they spell
pub reads : {E : Type 0} (made : Result (String Global) E) (bytes place : List ℕ) → chars bytes ≡ place → IfOk made (λ text. string_bytes text ≡ bytes) → IfOk made (λ text. chars (string_bytes text) ≡ place)
reads (Ok text) bytes place is same = ap chars same ∙ is
reads (Err fault) bytes place is same = tt
