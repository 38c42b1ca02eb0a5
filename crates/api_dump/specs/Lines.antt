-- The lines of members, each definition one line of the text (own: the canonical dump).
use Rattle.std.specs.Prelude.{ℕ, Bool, true, false, List, [], ◌∷◌, ◌++◌, Option, Some, None}
use Rattle.aidl_base.specs.declared.reserved.Reserved.{Reserved}
use Rattle.aidl_base.specs.declared.reserved.Reserved.TheVariants as word
use Rattle.aidl_syntax.specs.declared.token.Symbol.TheVariants as mark
use Rattle.aidl_syntax.specs.declared.token.TokenKind.TheVariants as kind
use Rattle.aidl_schema.specs.declared.schema.Decl.{Decl}
use Rattle.aidl_schema.specs.declared.schema.Field.{Field}
use Rattle.aidl_schema.specs.declared.schema.Constant.{Constant}
use Rattle.aidl_schema.specs.declared.schema.Enumerator.{Enumerator}
use Rattle.aidl_schema.specs.declared.schema.Arg.{Arg}
use Rattle.aidl_schema.specs.declared.schema.Method.{Method}
use Rattle.aidl_schema.specs.declared.schema.Direction.{Direction}
use Rattle.aidl_schema.specs.declared.schema.Direction.TheVariants as direction
use Rattle.aidl_schema.specs.declared.schema.Backing.{Backing}
use Rattle.aidl_schema.specs.declared.schema.AidlType.{AidlType}
use Rattle.api_dump.specs.Pieces.{Piece, sign, reserved, name, dotted, joined}
use Rattle.api_dump.specs.Pieces.Piece.{space, newline, token}
use Rattle.api_dump.specs.Types.{base_name, marks, plain_type}
use Rattle.api_dump.specs.Values.{of_backing, value, initial}

-- TYPE NAME = VALUE;
abbrev pub field : List Decl → Field → List Piece
field S f = marks f.ty ++ (plain_type S f.ty
    ++ ((space ∷ name f.name ∷ []) ++ (initial S f.ty f.initial ++ (sign mark.Semicolon ∷ newline ∷ []))))

-- const TYPE NAME = VALUE;
abbrev pub constant : List Decl → Constant → List Piece
constant S c = (reserved word.Const ∷ space ∷ []) ++ (dotted (base_name S c.ty) ++ ((space ∷ name c.name ∷ [])
    ++ ((space ∷ sign mark.Equal ∷ space ∷ []) ++ (value S c.ty c.value ++ (sign mark.Semicolon ∷ newline ∷ [])))))

abbrev pub way : Direction → Reserved
way direction.In = word.In
way direction.Out = word.Out
way direction.InOut = word.InOut

-- DIRECTION TYPE NAME
abbrev pub argument : List Decl → Arg → List Piece
argument S a = (reserved (way a.way) ∷ space ∷ []) ++ (marks a.ty ++ (plain_type S a.ty ++ (space ∷ name a.name ∷ [])))

-- `oneway `, where it applies
abbrev pub oneway : Bool → List Piece
oneway false = []
oneway true = reserved word.Oneway ∷ space ∷ []

-- TYPE, with what stands before it
abbrev pub whole_type : List Decl → AidlType → List Piece
whole_type S t = marks t ++ plain_type S t

-- TYPE or `void`
abbrev pub returned : List Decl → Option AidlType → List Piece
returned S None = reserved word.Void ∷ []
returned S (Some t) = whole_type S t

-- (ARGUMENT, ARGUMENT)
abbrev pub arguments : List Decl → List Arg → List Piece
arguments S args = (sign mark.OpenParen ∷ []) ++ (joined (λ a. argument S a) args ++ (sign mark.CloseParen ∷ []))

-- ` = ID;`
abbrev pub identity : ℕ → List Piece
identity id = (space ∷ sign mark.Equal ∷ space ∷ token (kind.Number id false false) ∷ [])
    ++ (sign mark.Semicolon ∷ newline ∷ [])

-- oneway TYPE NAME(ARGUMENT, ARGUMENT) = ID;
abbrev pub method : List Decl → Method → List Piece
method S m = oneway m.oneway
    ++ (returned S m.result ++ ((space ∷ name m.name ∷ []) ++ (arguments S m.args ++ identity m.id)))

-- NAME = VALUE,
abbrev pub enumerator : Backing → Enumerator → List Piece
enumerator b e = (name e.name ∷ [])
    ++ ((space ∷ sign mark.Equal ∷ space ∷ []) ++ (of_backing b e.value ++ (sign mark.Comma ∷ newline ∷ [])))
