-- Numbers that lie side by side, each as its decimal text.
use Rattle.std.specs.Prelude.{◌≡◌, ℕ, suc, ◌/◌, ◌%◌, Bool, true, List, [], ◌∷◌, ◌++◌}
use Rattle.std.specs.Fmt.{signed_decimal}
use Rattle.std.specs.Int.{w8, cast_signed}
use Rattle.serde_json.specs.Written.{comma_if}
use Rattle.arrayvec.specs.ArrayString.{ArrayString}

-- texts with commas between them, and the closing bracket
abbrev pub row_of_texts : Bool → List (List ℕ) → List ℕ
row_of_texts later [] = 93 ∷ []
row_of_texts later (x ∷ xs) = comma_if later ++ (x ++ row_of_texts true xs)

-- of a byte, which is signed
abbrev pub text_of_byte : ℕ → List ℕ
text_of_byte b = signed_decimal (cast_signed w8 b)

-- texts by number, from one on
abbrev pub AreTexts : (ℕ → List ℕ) → ℕ → List ArrayString → Type 0
AreTexts text n [] = Unit {0}
AreTexts text n (t ∷ ts) = (t.bytes ≡ text n) × AreTexts text (suc n) ts

-- the texts of the bytes from one on, each behind a comma
abbrev pub AreByteTexts : ℕ → List ArrayString → Type 0
AreByteTexts b ts = AreTexts (λ k. 44 ∷ text_of_byte k) b ts

-- of two bytes, each behind a comma
abbrev pub text_of_pair : ℕ → List ℕ
text_of_pair n = (44 ∷ text_of_byte (n / 256)) ++ (44 ∷ text_of_byte (n % 256))

-- the texts of the pairs of bytes from one on
abbrev pub ArePairTexts : ℕ → List ArrayString → Type 0
ArePairTexts n ts = AreTexts text_of_pair n ts
