-- *The dump reads back*: what holds of the files of a canonical dump (own).
use Rattle.std.specs.Prelude.{◌≡◌, ℕ, List, Some, None, slice_get}
use Rattle.aidl_schema.specs.declared.schema.Decl.{Decl}
use Rattle.aidl_syntax.specs.declared.token.Token.{Token}
use Rattle.aidl_syntax.specs.Tokens.{Tokens}
use Rattle.aidl_syntax.specs.Trees as tree
use Rattle.aidl_syntax.specs.Productions.{IsFile}
use Rattle.api_dump.specs.Dump.{File, file_of, dump_text}
use Rattle.dump_reading.specs.Bare.{bare_file}
use Rattle.dump_reading.specs.DumpTrees.{file_tree}

-- a declaration of the schema that stands in no other, with its number
abbrev pub IsTop : List Decl → ℕ × Decl → Type 0
IsTop S x = (slice_get S x.0 ≡ Some x.1) × (x.1.outer ≡ None)

-- it holds of each file of the dump, and of the declaration that the file is written for
abbrev pub OfEachFile : List Decl → (File → ℕ × Decl → Type 0) → Type 0
OfEachFile S P = (i : ℕ) (f : File) → slice_get (dump_text S) i ≡ Some f
    → (x : ℕ × Decl) × IsTop S x × (f ≡ file_of S x) × P f x

-- Each file of the dump has tokens.
abbrev pub HaveTokens : List Decl → Type 0
HaveTokens S = OfEachFile S (λ f x. (ts : List Token) × Tokens f.1 ts)

-- The tokens of each file of the dump stand for a tree, which but for its offsets is that of its declaration.
abbrev pub HaveTrees : List Decl → Type 0
HaveTrees S = OfEachFile S
    (λ f x. (ts : List Token) × Tokens f.1 ts × (t : tree.File) × IsFile ts t × (bare_file t ≡ file_tree S x))

-- Each declaration that stands in no other has its file in the dump.
abbrev pub HasEachFile : List Decl → Type 0
HasEachFile S = (x : ℕ × Decl) → IsTop S x → (i : ℕ) × (slice_get (dump_text S) i ≡ Some (file_of S x))
