-- The lines about places in the files of a tree (own).
use Rattle.std.specs.Prelude.{ℕ, ◌++◌, List, [], length, Option, Some, None, codes}
use Rattle.std.specs.List.{slice_get}
use Rattle.std.specs.Fmt.{decimal}
use Rattle.std.specs.Str.{encode_utf8_all}
use Rattle.aidl_base.specs.declared.breach.Breach.{Breach}
use Rattle.aidl_base.specs.declared.source_file.SourceFile.{SourceFile}
use Rattle.aidl_lexer.specs.Naming.{number_of, offset_of, name_of}
use Rattle.aidl_syntax.specs.declared.token.Token.{Token}
use Rattle.tree_files.specs.declared.fault.LexBreach.{LexBreach}
use Rattle.tool_frame.specs.Answer.{line}
use Rattle.tree_commands.specs.RuleNames.{rule_name}

-- `PATH:OFFSET: ` and what is wrong there, PATH being the root, `/` and the file's path, OFFSET bytes from the
-- file's start
abbrev pub line_at : List ℕ → SourceFile → ℕ → List ℕ → List ℕ
line_at root file offset what =
    line (root ++ codes "/" ++ encode_utf8_all file.path ++ codes ":" ++ decimal offset ++ codes ": " ++ what)

-- what is said of the file with a number; nothing where no file has it
abbrev pub of_file : (SourceFile → List ℕ) → Option SourceFile → List ℕ
of_file say None = []
of_file say (Some file) = say file

-- `lex NUMBER NAME`; nothing of a want of memory
abbrev pub lex_words : List ℕ → SourceFile → Option ℕ → Option ℕ → Option (List ℕ) → List ℕ
lex_words root file (Some offset) (Some number) (Some name) =
    line_at root file offset (codes "lex " ++ decimal number ++ codes " " ++ name)
lex_words root file _ _ _ = []

-- of a file without tokens
abbrev pub lex_line : List ℕ → List SourceFile → LexBreach → List ℕ
lex_line root files b = of_file
    (λ file. lex_words root file (offset_of b.fault) (number_of b.fault) (name_of b.fault)) (slice_get files b.file)

-- of a broken check rule: `E4 UnknownType`
abbrev pub rule_line : List ℕ → SourceFile → ℕ → ℕ → List ℕ
rule_line root file offset rule = line_at root file offset (codes "E" ++ decimal rule ++ codes " " ++ rule_name rule)

abbrev pub breach_line : List ℕ → List SourceFile → Breach → List ℕ
breach_line root files b = of_file (λ file. rule_line root file b.offset b.rule) (slice_get files b.file)

abbrev pub offset_or : ℕ → Option Token → ℕ
offset_or end None = end
offset_or end (Some token) = token.offset

-- the offset of the token with a number, and the file's length behind the last
abbrev pub offset_at : SourceFile → List Token → ℕ → ℕ
offset_at file tokens k = offset_or (length file.bytes) (slice_get tokens k)

-- of a file whose tokens have a syntax fault at this place: `syntax`; nothing where they have none
abbrev pub place_line : List ℕ → SourceFile → List Token → Option ℕ → List ℕ
place_line root file tokens None = []
place_line root file tokens (Some k) = line_at root file (offset_at file tokens k) (codes "syntax")
