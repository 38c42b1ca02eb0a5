-- *DumpText*: the files of a schema's canonical dump (own).
use Rattle.std.specs.Prelude.{ℕ, List, [], ◌∷◌, ◌++◌, map, length, codes, is_none}
use Rattle.std.specs.List.{filter, fold, flat_map, enumerate_from}
use Rattle.std.specs.BTreeMap.{insert_entry}
use Rattle.std.specs.Cmp.Lexicographic.{slice_cmp}
use Rattle.std.specs.Ordering.{nat_cmp}
use Rattle.std.specs.Str.{encode_utf8_all}
use Rattle.aidl_base.specs.declared.name.Ident.{Ident}
use Rattle.aidl_base.specs.declared.source_file.SourceFile.{SourceFile}
use Rattle.aidl_base.specs.declared.reserved.Reserved.TheVariants as word
use Rattle.aidl_syntax.specs.declared.token.Symbol.TheVariants as mark
use Rattle.aidl_schema.specs.declared.schema.Decl.{Decl}
use Rattle.aidl_schema.specs.Names.{without_last}
use Rattle.api_dump.specs.Pieces.{Piece, sign, reserved, dotted, text_of}
use Rattle.api_dump.specs.Pieces.Piece.{space, newline}
use Rattle.api_dump.specs.Declarations.{declaration}

-- a path and bytes
abbrev pub File : Type 0
File = List ℕ × List ℕ

-- a file of the code, as path and bytes
abbrev pub seen : SourceFile → File
seen f = (encode_utf8_all f.path, f.bytes)

-- the parts with `/` between them
abbrev pub slashed : List Ident → List ℕ
slashed [] = []
slashed (i ∷ is) = encode_utf8_all i.0 ++ flat_map (λ j. 47 ∷ encode_utf8_all j.0) is

-- the path of a canonical name: its parts with `/` between them, and `.aidl`
abbrev pub path_of : List Ident → List ℕ
path_of parts = slashed parts ++ codes ".aidl"

-- `package NAME;`, where there is a package
abbrev pub package_line : List Ident → List Piece
package_line [] = []
package_line (i ∷ is) = (reserved word.Package ∷ space ∷ [])
    ++ (dotted (i ∷ is) ++ (sign mark.Semicolon ∷ newline ∷ []))

-- The file of a top-level declaration, with its number. No more levels of declarations can stand inside one another
-- than there are declarations.
abbrev pub file_pieces : List Decl → ℕ × Decl → List Piece
file_pieces S x = package_line (without_last x.1.name.0) ++ declaration S (length S) 0 x.0

abbrev pub file_of : List Decl → ℕ × Decl → File
file_of S x = (path_of x.1.name.0, text_of (file_pieces S x))

-- the declarations that stand in no other, with their numbers
abbrev pub top_level : List Decl → List (ℕ × Decl)
top_level S = filter (λ x. is_none x.1.outer) (enumerate_from 0 S)

-- one more file among files in byte order of their paths
abbrev pub placed : List File → File → List File
placed files f = insert_entry (slice_cmp nat_cmp) files f.0 f.1

-- *DumpText*: a file for each top-level declaration, in byte order of their paths
abbrev pub dump_text : List Decl → List File
dump_text S = fold placed [] (map (file_of S) (top_level S))
