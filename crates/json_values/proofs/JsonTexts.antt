-- What a text is parsed as, where it is UTF-8 and where it isn't.
use Rattle.std.proofs.Common.{◌≡◌, ℕ, Bool, true, false, cond, List, Option, None, refl}
use Rattle.std.specs.Str.{IsUtf8, is_utf8}
use Rattle.std.proofs.lemmas.Str.{IsUtf8-from_is_utf8, is_utf8-from_IsUtf8}
use Rattle.serde_json.specs.Data.{Data}
use Rattle.serde_json.specs.Read.{read as read_text}
use Rattle.json_values.specs.JsonText.{parsed_json}

pub parsed-text : (bytes : List ℕ) → IsUtf8 bytes → parsed_json bytes ≡ read_text bytes
unfolding parsed_json
parsed-text bytes text = let test = is_utf8-from_IsUtf8 bytes text in rw test refl

none_by : (test : Bool) (read : Option Data) → (test ≡ true → ⊥) → cond test read None ≡ None
none_by true read bad = absurd (bad refl)
none_by false read bad = refl

pub parsed-bad : (bytes : List ℕ) → ¬ (IsUtf8 bytes) → parsed_json bytes ≡ None
unfolding parsed_json
parsed-bad bytes bad = none_by (is_utf8 bytes) (read_text bytes) (λ test. bad (IsUtf8-from_is_utf8 bytes test))
