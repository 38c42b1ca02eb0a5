-- What is seen of the files of a tree, and the condition on them.
use Rattle.std.specs.Prelude.{ℕ, ◌≤◌, List, length}
use Rattle.std.specs.List.{All}
use Rattle.aidl_syntax.specs.declared.token.Token.{Token}
use Rattle.aidl_syntax.specs.declared.tree.ParsedFile.{ParsedFile}
use Rattle.aidl_syntax.specs.Trees.{File, file_of}
use Rattle.aidl_syntax.specs.Tokens.{Tokens}
use Rattle.aidl_syntax.specs.Productions.{Tree}

-- a file: its path, and its tree without where the parts lie in memory
pub record Source : Type 0 where
  pub path : List ℕ
  pub tree : File

abbrev pub source_of : ParsedFile → Source
source_of f = record { path = f.path; tree = file_of f.tree }

-- the tree stands for the tokens of some bytes, at most 262,144 of them
abbrev pub IsOfBytes : ParsedFile → Type 0
IsOfBytes f = (bytes : List ℕ) × (tokens : List Token) × (length bytes ≤ 262144) × Tokens bytes tokens
    × Tree tokens f.tree

-- the files of a tree: at most 4,096, each of some bytes
pub record AreOfBytes (files : List ParsedFile) : Type 0 where
  pub count : length files ≤ 4096
  pub each : All IsOfBytes files
