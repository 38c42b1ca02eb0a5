-- How declarations are written, those inside a declaration last (own: the canonical dump).
use Rattle.std.specs.Prelude.{ℕ, zero, suc, List, [], ◌∷◌, ◌++◌, map, Option, Some, None, slice_get, codes}
use Rattle.std.specs.List.{flat_map, filter, enumerate_from}
use Rattle.aidl_base.specs.declared.reserved.Reserved.{Reserved}
use Rattle.aidl_base.specs.declared.reserved.Reserved.TheVariants as word
use Rattle.aidl_syntax.specs.declared.token.Symbol.TheVariants as mark
use Rattle.aidl_syntax.specs.declared.token.TokenKind.TheVariants as kind
use Rattle.aidl_schema.specs.declared.schema.Decl.{Decl}
use Rattle.aidl_schema.specs.declared.schema.Kind.{Kind}
use Rattle.aidl_schema.specs.declared.schema.Kind.TheVariants.{Interface, Parcelable, Union, Enum}
use Rattle.aidl_schema.specs.declared.schema.Backing.{Backing}
use Rattle.aidl_schema.specs.declared.schema.Backing.TheVariants as backing
use Rattle.aidl_schema.specs.Names.{last_part, is_inside}
use Rattle.api_dump.specs.Pieces.{Piece, sign, reserved, name, ident}
use Rattle.api_dump.specs.Pieces.Piece.{space, newline, token}
use Rattle.api_dump.specs.Types.{flag}
use Rattle.api_dump.specs.Lines.{field, constant, method, enumerator}

-- two spaces a level
abbrev pub indent : ℕ → List Piece
indent zero = []
indent (suc depth) = space ∷ space ∷ indent depth

abbrev pub backing_text : Backing → List ℕ
backing_text backing.Byte = codes "byte"
backing_text backing.Int = codes "int"
backing_text backing.Long = codes "long"

-- `@Backing(type="B") `
abbrev pub backed : Backing → List Piece
backed b = sign mark.At ∷ name (ident (codes "Backing")) ∷ sign mark.OpenParen ∷ name (ident (codes "type"))
    ∷ sign mark.Equal ∷ token (kind.Str (backing_text b)) ∷ sign mark.CloseParen ∷ space ∷ []

-- An enum always has its backing.
abbrev pub backing_mark : Kind → List Piece
backing_mark (Enum b es) = backed b
backing_mark _ = []

-- the annotations that are kept, in their order
abbrev pub annotations : Decl → List Piece
annotations d = backing_mark d.kind ++ (flag (codes "FixedSize") d.fixed ++ flag (codes "VintfStability") d.vintf)

abbrev pub kind_word : Kind → Reserved
kind_word (Interface ms) = word.Interface
kind_word (Parcelable fs) = word.Parcelable
kind_word (Union fs) = word.Union
kind_word (Enum b es) = word.Enum

-- `KIND NAME {`
abbrev pub heading : Decl → List Piece
heading d = (reserved (kind_word d.kind) ∷ space ∷ [])
    ++ ((name (ident (last_part d.name.0)) ∷ []) ++ (space ∷ sign mark.OpenBrace ∷ newline ∷ []))

-- `}`
abbrev pub closing : ℕ → List Piece
closing depth = indent depth ++ (sign mark.CloseBrace ∷ newline ∷ [])

-- fields, methods or enumerators, in their order
abbrev pub member_lines : List Decl → ℕ → Kind → List Piece
member_lines S depth (Interface ms) = flat_map (λ m. indent depth ++ method S m) ms
member_lines S depth (Parcelable fs) = flat_map (λ f. indent depth ++ field S f) fs
member_lines S depth (Union fs) = flat_map (λ f. indent depth ++ field S f) fs
member_lines S depth (Enum b es) = flat_map (λ e. indent depth ++ enumerator b e) es

-- The members, and then the constants, which stand by name in a schema.
abbrev pub own_lines : List Decl → ℕ → Decl → List Piece
own_lines S depth d = member_lines S depth d.kind ++ flat_map (λ c. indent depth ++ constant S c) d.constants

-- annotations, heading and own lines
abbrev pub front : List Decl → ℕ → Decl → List Piece
front S depth d = indent depth ++ (annotations d ++ (heading d ++ own_lines S (suc depth) d))

-- a declaration, with what stands last in it
abbrev pub wrapped : List Decl → ℕ → Decl → List Piece → List Piece
wrapped S depth d last = front S depth d ++ (last ++ closing depth)

abbrev pub wrapped_at : List Decl → ℕ → Option Decl → List Piece → List Piece
wrapped_at S depth None last = []
wrapped_at S depth (Some d) last = wrapped S depth d last

-- the numbers of the declarations inside a declaration, by name as in the schema
abbrev pub inside : List Decl → ℕ → List ℕ
inside S n = map (λ x. x.0) (filter (λ x. is_inside n x.1.outer) (enumerate_from 0 S))

-- The declarations inside one, with so many levels of further ones in them.
abbrev pub nested_lines : List Decl → ℕ → ℕ → ℕ → List Piece
nested_lines S zero depth n = []
nested_lines S (suc levels) depth n =
    flat_map (λ m. wrapped_at S depth (slice_get S m) (nested_lines S levels (suc depth) m)) (inside S n)

-- the declaration of a number, with so many levels of others inside it
abbrev pub declaration : List Decl → ℕ → ℕ → ℕ → List Piece
declaration S levels depth n = wrapped_at S depth (slice_get S n) (nested_lines S levels (suc depth) n)
