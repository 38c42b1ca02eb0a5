-- Refusals of JSON values, each with its place (own). A place is a JSON pointer (RFC 6901) in UTF-8: a slash and a
-- key or an index for each step down.
use Rattle.std.specs.Prelude.{ℕ, List, [], ◌∷◌, ◌++◌, ◌==◌, if◌then◌else◌, Result, Ok, Err}
use Rattle.std.specs.List.{flat_map}
use Rattle.std.specs.Str.{chars, encode_utf8_all}
pub use Rattle.aidl_base.specs.Results.{◌>>=◌}

pub data Reason : Type 0 where
  wrong_shape out_of_range unknown_key unknown_enumerator too_deep : Reason

pub record Refusal : Type 0 where
  pub reason : Reason
  pub at : List ℕ

-- what was asked for, or the first refusal
abbrev pub Answer : Type 0 → Type 0
Answer A = Result A Refusal

-- a refusal of the value itself
abbrev pub refuse : {A : Type 0} → Reason → Answer A
refuse reason = Err (record { reason = reason; at = [] })

-- In a key the character `~` is written `~0`, and `/` is written `~1`.
abbrev pub escaped_character : ℕ → List ℕ
escaped_character c = if c == 126 then 126 ∷ 48 ∷ [] else (if c == 47 then 126 ∷ 49 ∷ [] else c ∷ [])

unfoldable pub escaped : List ℕ → List ℕ
escaped key = encode_utf8_all (flat_map escaped_character (chars key))

-- a refusal of a part, as one of the whole: its place begins with the step to the part
abbrev pub below : List ℕ → Refusal → Refusal
below part r = record { reason = r.reason; at = 47 ∷ part ++ r.at }

abbrev pub within : {A : Type 0} → List ℕ → Answer A → Answer A
within part (Ok x) = Ok x
within part (Err r) = Err (below part r)
