-- Units below 128 are the characters that they spell.
use Rattle.std.proofs.Common.{◌≡◌, ℕ, suc, ◌<◌, true, false, not, cond, List, [], ◌∷◌, map, Option, Some, None, nat_lt, refl, sym, ap, ◌∙◌, arith}
use Rattle.std.specs.List.{list_any}
use Rattle.std.specs.Option.{unwrap_or, is_some}
use Rattle.std.specs.Str.{IsAscii, all_scalars, chars}
use Rattle.std.specs.Char.Utf16.{utf16_chars, has_unpaired_surrogate, utf16_lossy_chars}
use Rattle.std.proofs.lemmas.Bool.Decides.{nat_tests}
use Rattle.std.proofs.lemmas.Str.{chars-IsAscii}
use lib.Utf8.{scalar}
use Rattle.aidl_base.specs.Words.{units}
use Rattle.aidl_base.proofs.lemmas.Texts.{utf16_chars-units, none_unpaired, lossless}

ascii_units : (x : List ℕ) → IsAscii x → (units x ≡ x) × (all_scalars x ≡ true)
ascii_units [] h = (refl, refl)
ascii_units (c ∷ x) h =
    let rest = ascii_units x (λ k. h (suc k)) in
    let lt : c < 128 = h 0 in
    let small : nat_lt c 0x1_0000 ≡ true = grind (arith, nat_tests) in
    let ok : scalar c ≡ true = grind (arith, nat_tests) in
    (rw small (ap (λ y. c ∷ y) rest.0), rw (ok, rest.1) refl)

-- the text of such units
pub ascii_is : (us text : List ℕ) → text ≡ us → IsAscii us → ◌≡◌ {A = Option (List ℕ)} (Some text) (cond (has_unpaired_surrogate us) None (Some (utf16_lossy_chars us)))
ascii_is us text e h =
    let x = ascii_units us h in
    let each : utf16_chars us ≡ map Some us = ap utf16_chars (sym x.0) ∙ utf16_chars-units us x.1 in
    let paired : has_unpaired_surrogate us ≡ false = ap (λ os. list_any (λ o. not (is_some o)) os) each ∙ none_unpaired us in
    let same : utf16_lossy_chars us ≡ us = ap (λ os. map (λ o. unwrap_or o 0xFFFD) os) each ∙ lossless us in
    rw (paired, same) (ap Some e)

-- a text of such characters is its units
pub ascii_text_units : (bytes : List ℕ) → IsAscii bytes → units (chars bytes) ≡ bytes
ascii_text_units bytes h = ap units (chars-IsAscii bytes h) ∙ (ascii_units bytes h).0
