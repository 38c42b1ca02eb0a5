-- The tokens of a file.
use Rattle.std.specs.Prelude.{◌+◌, ℕ, List, [], ◌∷◌, ◌++◌, length}
use Rattle.aidl_syntax.specs.declared.token.Token.{Token}
use Rattle.aidl_syntax.specs.Forms.{IsGap, IsToken}

-- From an offset on, the bytes are gaps and the tokens in turn, up to an offset at which `rest` stands.
pub data Cut : ℕ → List ℕ → List Token → ℕ → List ℕ → Type 0 where
  here : (offset : ℕ) (rest : List ℕ) → Cut offset rest [] offset rest
  gap : (offset : ℕ) (piece bytes : List ℕ) (tokens : List Token) (end : ℕ) (rest : List ℕ)
      → IsGap piece bytes → Cut (offset + length piece) bytes tokens end rest
      → Cut offset (piece ++ bytes) tokens end rest
  token : (t : Token) (piece bytes : List ℕ) (tokens : List Token) (end : ℕ) (rest : List ℕ)
      → IsToken t.kind piece bytes → Cut (t.offset + length piece) bytes tokens end rest
      → Cut t.offset (piece ++ bytes) (t ∷ tokens) end rest

-- The whole bytes are gaps and the tokens in turn.
abbrev pub Tokens : List ℕ → List Token → Type 0
Tokens bytes tokens = (end : ℕ) × Cut 0 bytes tokens end []
