-- Files with the paths and bytes of a canonical dump (own).
use Rattle.std.specs.Prelude.{◌≡◌, List, map}
use Rattle.std.specs.Str.{encode_utf8_all}
use Rattle.aidl_base.specs.declared.source_file.SourceFile.{SourceFile}
use Rattle.aidl_schema.specs.declared.schema.Decl.{Decl}
use Rattle.api_dump.specs.Dump.{File, dump_text}

-- its path and its bytes
abbrev pub file_pair : SourceFile → File
file_pair f = (encode_utf8_all f.path, f.bytes)

-- these are the files of the dump, in order
abbrev pub AreDumped : List Decl → List SourceFile → Type 0
AreDumped S files = map file_pair files ≡ dump_text S
