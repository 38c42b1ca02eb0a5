-- What stops the cutting into tokens. The faults are numbered as the program prints them.
use Rattle.std.specs.Prelude.{◌≡◌, ℕ, Bool, true, false, ◌==◌, List, ◌∷◌, ◌++◌}
use Rattle.std.specs.Char.{is_ascii_digit}
use Rattle.aidl_syntax.specs.declared.token.Token.{Token}
use Rattle.aidl_syntax.specs.declared.token.TokenKind.{TokenKind}
use Rattle.aidl_syntax.specs.Bytes.{has_close}
use Rattle.aidl_base.specs.Identifiers.{begins}
use Rattle.aidl_syntax.specs.Forms.{IsGap, IsToken, IsNumber, IsCharacter, IsString}
use Rattle.aidl_syntax.specs.Tokens.{Cut}

-- no blank and no comment begins the bytes
abbrev pub NoGap : List ℕ → Type 0
NoGap bytes = (piece rest : List ℕ) → bytes ≡ piece ++ rest → IsGap piece rest → ⊥

-- no token begins the bytes
abbrev pub NoToken : List ℕ → Type 0
NoToken bytes = (kind : TokenKind) (piece rest : List ℕ) → bytes ≡ piece ++ rest → IsToken kind piece rest → ⊥

-- `/*` with no `*/` after it
abbrev pub OpenComment : List ℕ → Type 0
OpenComment bytes = (rest : List ℕ) × (bytes ≡ 47 ∷ 42 ∷ rest) × (has_close rest ≡ false)

-- an apostrophe that begins no character
abbrev pub OpenCharacter : List ℕ → Type 0
OpenCharacter bytes = (begins (λ b. b == 39) bytes ≡ true)
    × ((c : ℕ) (piece rest : List ℕ) → bytes ≡ piece ++ rest → IsCharacter c piece → ⊥)

-- a double quote that begins no string
abbrev pub OpenString : List ℕ → Type 0
OpenString bytes = (begins (λ b. b == 34) bytes ≡ true)
    × ((text piece rest : List ℕ) → bytes ≡ piece ++ rest → IsString text piece → ⊥)

-- a run that starts with a digit and isn't a number
abbrev pub BadNumber : List ℕ → Type 0
BadNumber bytes = (begins is_ascii_digit bytes ≡ true)
    × ((bits : ℕ) (hexadecimal long : Bool) (piece rest : List ℕ) → bytes ≡ piece ++ rest
    → IsNumber bits hexadecimal long piece rest → ⊥)

-- a byte that begins none of all these
abbrev pub BadByte : List ℕ → Type 0
BadByte bytes = ((b : ℕ) × (rest : List ℕ) × (bytes ≡ b ∷ rest)) × NoGap bytes × NoToken bytes
    × (OpenComment bytes → ⊥) × (OpenCharacter bytes → ⊥) × (OpenString bytes → ⊥) × (BadNumber bytes → ⊥)

-- the fault of a number that stands at the front
pub data FaultAt : ℕ → List ℕ → Type 0 where
  bad_byte : (bytes : List ℕ) → BadByte bytes → FaultAt 1 bytes
  open_comment : (bytes : List ℕ) → OpenComment bytes → FaultAt 2 bytes
  open_character : (bytes : List ℕ) → OpenCharacter bytes → FaultAt 3 bytes
  open_string : (bytes : List ℕ) → OpenString bytes → FaultAt 3 bytes
  bad_number : (bytes : List ℕ) → BadNumber bytes → FaultAt 4 bytes

-- The bytes before the offset are gaps and tokens, and the fault stands there.
abbrev pub LexFault : List ℕ → ℕ → ℕ → Type 0
LexFault bytes number offset = (tokens : List Token) × (rest : List ℕ) × Cut 0 bytes tokens offset rest
    × FaultAt number rest
