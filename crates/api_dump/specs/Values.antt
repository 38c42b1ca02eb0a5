-- How values are written, by their types (own: the canonical dump).
use Rattle.std.specs.Prelude.{ℕ, suc, ℤ, pos, negsuc, Bool, true, false, nat_lt, if◌then◌else◌, List, [], ◌∷◌, ◌++◌}
use Rattle.std.specs.Prelude.{Option, Some, None, slice_get}
use Rattle.std.specs.List.{find}
use Rattle.std.specs.Ordering.{int_eq}
use Rattle.aidl_base.specs.declared.constant.Const.{Const, out-Const}
use Rattle.aidl_base.specs.declared.constant.Const.TheOpen.{Const-F}
use Rattle.aidl_base.specs.declared.reserved.Reserved.{Reserved}
use Rattle.aidl_base.specs.declared.reserved.Reserved.TheVariants as word
use Rattle.aidl_syntax.specs.declared.token.Symbol.TheVariants as mark
use Rattle.aidl_syntax.specs.declared.token.TokenKind.TheVariants as kind
use Rattle.aidl_schema.specs.declared.schema.Decl.{Decl}
use Rattle.aidl_schema.specs.declared.schema.Enumerator.{Enumerator}
use Rattle.aidl_schema.specs.declared.schema.Backing.{Backing}
use Rattle.aidl_schema.specs.declared.schema.Backing.TheVariants as backing
use Rattle.aidl_schema.specs.declared.schema.Base.{Base}
use Rattle.aidl_schema.specs.declared.schema.Base.TheVariants as base
use Rattle.aidl_schema.specs.declared.schema.AidlType.{AidlType}
use Rattle.aidl_schema.specs.Names.{enumerators_of}
use Rattle.aidl_schema.specs.Types.{is_one}
use Rattle.api_dump.specs.Pieces.{Piece, sign, reserved, name, dotted, joined}
use Rattle.api_dump.specs.Pieces.Piece.{space, token}

-- the decimal, with `-` if negative, and with the suffix `L` or without it
abbrev pub decimal_of : Bool → ℤ → List Piece
decimal_of long (pos n) = token (kind.Number n false long) ∷ []
decimal_of long (negsuc n) = sign mark.Minus ∷ token (kind.Number (suc n) false long) ∷ []

-- The least long has no decimal: it is `0x8000000000000000`.
abbrev pub long_of : ℤ → List Piece
long_of n = if int_eq n (negsuc 9223372036854775807) then token (kind.Number 9223372036854775808 true false) ∷ []
    else decimal_of true n

-- an enumerator's value, by the backing of its enum
abbrev pub of_backing : Backing → ℤ → List Piece
of_backing backing.Byte n = decimal_of false n
of_backing backing.Int n = decimal_of false n
of_backing backing.Long n = long_of n

-- `.NAME`, where there is one
abbrev pub after_dot : Option Enumerator → List Piece
after_dot None = []
after_dot (Some e) = sign mark.Dot ∷ name e.name ∷ []

-- the enum's canonical name, a dot, and its first enumerator of the value
abbrev pub named_value : Option Decl → ℤ → List Piece
named_value None n = []
named_value (Some d) n = dotted d.name.0 ++ after_dot (find (λ e. int_eq e.value n) (enumerators_of d.kind))

-- the character of a number, `?` for one that isn't ASCII; a constant of a valid schema has none such
abbrev pub character_of : ℤ → ℕ
character_of (pos n) = if nat_lt n 128 then n else 63
character_of (negsuc n) = 63

-- a number, by its type
abbrev pub number : List Decl → Base → ℤ → List Piece
number S base.Char n = token (kind.Character (character_of n)) ∷ []
number S base.Long n = long_of n
number S (base.Named k) n = named_value (slice_get S k) n
number S _ n = decimal_of false n

abbrev pub truth : Bool → Reserved
truth true = word.True
truth false = word.False

-- `true` or `false`, a number, or a text in quotes
abbrev pub single_value : List Decl → Base → Const-F Const → List Piece
single_value S b (Const-F.Truth x) = reserved (truth x) ∷ []
single_value S b (Const-F.Number n) = number S b n
single_value S b (Const-F.Text x) = token (kind.Str x) ∷ []
single_value S b (Const-F.Members cs) = []

-- one value, by its type
abbrev pub value : List Decl → Base → Const → List Piece
value S b c = single_value S b (out-Const c)

-- `{`, the values joined by `, `, `}`
abbrev pub braced : List Decl → Base → Const-F Const → List Piece
braced S b (Const-F.Members cs) = sign mark.OpenBrace ∷ (joined (λ c. value S b c) cs ++ (sign mark.CloseBrace ∷ []))
braced S b _ = []

abbrev pub initial_value : List Decl → AidlType → Const → List Piece
initial_value S t c = if is_one t.shape then value S t.base c else braced S t.base (out-Const c)

-- ` = VALUE`, where there is an initializer
abbrev pub initial : List Decl → AidlType → Option Const → List Piece
initial S t None = []
initial S t (Some c) = space ∷ sign mark.Equal ∷ space ∷ initial_value S t c
