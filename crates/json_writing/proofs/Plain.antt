-- A text of which no character is escaped stands in its JSON string as it is.
use Rattle.std.proofs.Common.{◌≡◌, ◌≤◌, ◌<◌, ℕ, Bool, true, false, not, List, [], ◌∷◌, ◌++◌, nat_le, refl, sym, ap, ◌∙◌, arith}
use Rattle.std.specs.Prelude.{◌&&◌, ◌==◌}
use Rattle.std.specs.List.{list_all}
use Rattle.std.proofs.lemmas.Bool.{and_parts, ne_eqb, leb-true, le-ltb}
use Rattle.json.specs.Print.{escape_byte, escape}
use Rattle.serde_json.specs.Data.{string}
use Rattle.serde_json.specs.Written.{compact_text}
use Rattle.json_writing.specs.steps.Plain.{is_plain_byte}

fails : (b : Bool) → not b ≡ true → b ≡ false
fails true h = sym h
fails false h = refl

apart : (b k : ℕ) → 32 ≤ b → k < 32 → (b == k) ≡ false
apart b k h l = ne_eqb b k (λ e. absurd (omega (arith, h, l, e)))

plain_byte : (b : ℕ) → is_plain_byte b ≡ true → escape_byte b ≡ b ∷ []
unfolding escape_byte
plain_byte b h =
    let all = and_parts (nat_le 32 b) (not (b == 34) && not (b == 92)) h in
    let two = and_parts (not (b == 34)) (not (b == 92)) all.1 in
    let le : 32 ≤ b = leb-true 32 b all.0 in
    let quote = fails (b == 34) two.0 in
    let slash = fails (b == 92) two.1 in
    rw (quote, slash, apart b 8 le (omega arith), apart b 12 le (omega arith), apart b 10 le (omega arith), apart b 13 le (omega arith), apart b 9 le (omega arith), le-ltb b 32 le) refl

escape-plain : (bytes : List ℕ) → list_all is_plain_byte bytes ≡ true → escape bytes ≡ bytes
escape-plain [] h = refl
escape-plain (b ∷ bytes) h =
    let p = and_parts (is_plain_byte b) (list_all is_plain_byte bytes) h in
    ap (λ (e : List ℕ). e ++ escape bytes) (plain_byte b p.0) ∙ ap (λ (e : List ℕ). b ∷ e) (escape-plain bytes p.1)

pub quoted_plain : (bytes : List ℕ) → list_all is_plain_byte bytes ≡ true → compact_text (string bytes) ≡ 34 ∷ (bytes ++ 34 ∷ [])
quoted_plain bytes h = ap (λ (e : List ℕ). 34 ∷ (e ++ 34 ∷ [])) (escape-plain bytes h)
