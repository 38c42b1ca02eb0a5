-- What `dump` writes and prints of the schema of a tree (own).
use Rattle.std.specs.Prelude.{◌≡◌, ℕ, ◌++◌, List, length, map, codes}
use Rattle.std.specs.Fmt.{decimal}
use Rattle.aidl_base.specs.declared.source_file.SourceFile.{SourceFile}
use Rattle.aidl_outside.specs.Files.{path_below}
use Rattle.aidl_syntax.specs.declared.tree.ParsedFile.{ParsedFile}
use Rattle.tree_files.specs.Parsed.{AreParsed}
use Rattle.aidl_schema.specs.declared.schema.Decl.{Decl}
use Rattle.api_dump.specs.Dump.{File, dump_text}
use Rattle.api_versions.specs.Writes.{Write}
use Rattle.dump_reading.specs.Files.{file_pair}
use Rattle.type_check.specs.Checked.{IsSchemaOf}
use Rattle.tool_frame.specs.Acts.{Acts}
use Rattle.tool_frame.specs.Answer.{Answer, done}

-- a file below OUT
abbrev pub file_write : List ℕ → File → Write
file_write out f = record { path = path_below out f.0; bytes = f.1 }

-- the files of the canonical dump below OUT, in path order
abbrev pub dump_writes : List ℕ → List Decl → List Write
dump_writes out S = map (file_write out) (dump_text S)

-- `wrote N files`
abbrev pub wrote : ℕ → Answer
wrote count = done (codes "wrote " ++ decimal count ++ codes " files")

-- they are written, and counted; that they pass a limit is no reason against it
abbrev pub Dumps : List ℕ → List Decl → Acts
Dumps out S made answer = (made ≡ dump_writes out S) × (answer ≡ wrote (length (dump_text S)))

-- Files whose writes below OUT these are read back: where they are parsed, so that no limit on files or tokens is
-- passed, their schema is S.
abbrev pub ReadBack : List ℕ → List Decl → List Write → Type 0
ReadBack out S writes = (files : List SourceFile) (trees : List ParsedFile)
    → map (λ f. file_write out (file_pair f)) files ≡ writes → AreParsed files trees → IsSchemaOf files S
