-- The ids of methods (AOSP, "AIDL language", "Interfaces"; the greatest is kMaxUserSetMethodId of AOSP's compiler).
use Rattle.std.specs.Prelude.{ℕ, ◌+◌, nat_le, Bool, false, not, ◌&&◌, List, [], ◌∷◌, Option, Some, None, is_some}
use Rattle.aidl_syntax.specs.declared.token.Token.{Token}
use Rattle.aidl_syntax.specs.declared.token.TokenKind.{TokenKind}
use Rattle.aidl_syntax.specs.declared.token.TokenKind.TheVariants as token
use Rattle.aidl_syntax.specs.Trees.{Method}

-- the value of a number, whatever its spelling; no other token stands there
abbrev pub number_of_kind : TokenKind → ℕ
number_of_kind (token.Number bits hexadecimal long) = bits
number_of_kind _ = 0

abbrev pub number_of : Token → ℕ
number_of t = number_of_kind t.kind

-- a decimal without suffix from 0 to 16777114
abbrev pub is_id_kind : TokenKind → Bool
is_id_kind (token.Number bits hexadecimal long) = not hexadecimal && not long && nat_le bits 16777114
is_id_kind _ = false

abbrev pub is_id : Token → Bool
is_id t = is_id_kind t.kind

abbrev pub has_id : Method → Bool
has_id m = is_some m.id

abbrev pub id_by : ℕ → Option Token → ℕ
id_by position None = position
id_by position (Some t) = number_of t

-- the id of the method at a 0-based position: the number written, or else the position, since then no method of the
-- interface has one
abbrev pub id_of : ℕ → Method → ℕ
id_of position m = id_by position m.id

-- the ids of methods that have the positions from one on
abbrev pub ids_from : ℕ → List Method → List ℕ
ids_from position [] = []
ids_from position (m ∷ ms) = id_of position m ∷ ids_from (position + 1) ms

-- the ids of the methods of an interface
abbrev pub ids : List Method → List ℕ
ids ms = ids_from 0 ms
