-- How types are written (own: the canonical dump).
use Rattle.std.specs.Prelude.{ℕ, Bool, true, false, List, [], ◌∷◌, ◌++◌, Option, Some, None, slice_get, codes}
use Rattle.aidl_base.specs.declared.name.Ident.{Ident}
use Rattle.aidl_base.specs.declared.reserved.Reserved.TheVariants as word
use Rattle.aidl_syntax.specs.declared.token.Symbol.TheVariants as mark
use Rattle.aidl_schema.specs.declared.schema.Decl.{Decl}
use Rattle.aidl_schema.specs.declared.schema.Base.{Base}
use Rattle.aidl_schema.specs.declared.schema.Base.TheVariants as base
use Rattle.aidl_schema.specs.declared.schema.Shape.{Shape}
use Rattle.aidl_schema.specs.declared.schema.Shape.TheVariants as shape
use Rattle.aidl_schema.specs.declared.schema.AidlType.{AidlType}
use Rattle.api_dump.specs.Pieces.{Piece, sign, reserved, name, ident, dotted}
use Rattle.api_dump.specs.Pieces.Piece.{space}

-- the canonical name
abbrev pub declared_name : Option Decl → List Ident
declared_name None = []
declared_name (Some d) = d.name.0

-- a built-in name, or the canonical name
abbrev pub base_name : List Decl → Base → List Ident
base_name S base.Boolean = ident (codes "boolean") ∷ []
base_name S base.Byte = ident (codes "byte") ∷ []
base_name S base.Char = ident (codes "char") ∷ []
base_name S base.Int = ident (codes "int") ∷ []
base_name S base.Long = ident (codes "long") ∷ []
base_name S base.Text = ident (codes "String") ∷ []
base_name S (base.Named n) = declared_name (slice_get S n)

-- `NAME`, `NAME[]` or `List<NAME>`
abbrev pub shaped : Shape → List Piece → List Piece
shaped shape.One ps = ps
shaped shape.Array ps = ps ++ (sign mark.OpenBracket ∷ sign mark.CloseBracket ∷ [])
shaped shape.List ps = name (ident (codes "List")) ∷ sign mark.Less ∷ (ps ++ (sign mark.Greater ∷ []))

-- `@nullable ` or `@nullable(heap=true) `
abbrev pub nullable : Bool → Bool → List Piece
nullable false heap = []
nullable true false = sign mark.At ∷ name (ident (codes "nullable")) ∷ space ∷ []
nullable true true = sign mark.At ∷ name (ident (codes "nullable")) ∷ sign mark.OpenParen
    ∷ name (ident (codes "heap")) ∷ sign mark.Equal ∷ reserved word.True ∷ sign mark.CloseParen ∷ space ∷ []

-- `@NAME `, where it applies
abbrev pub flag : List ℕ → Bool → List Piece
flag text false = []
flag text true = sign mark.At ∷ name (ident text) ∷ space ∷ []

-- what stands before a type
abbrev pub marks : AidlType → List Piece
marks t = nullable t.nullable t.heap ++ flag (codes "utf8InCpp") t.utf8

-- a type without what stands before it
abbrev pub plain_type : List Decl → AidlType → List Piece
plain_type S t = shaped t.shape (dotted (base_name S t.base))
