-- What is printed of a tree that isn't checked, by the files of the tree and its root: one line per fault, or the
-- limit (own).
use Rattle.std.specs.Prelude.{◌≡◌, ℕ, ◌++◌, List, [], ◌∷◌, Option, Some, None}
use Rattle.std.specs.List.{slice_get, flat_map}
use Rattle.aidl_base.specs.declared.source_file.SourceFile.{SourceFile}
use Rattle.aidl_syntax.specs.declared.token.Token.{Token}
use Rattle.aidl_syntax.specs.Tokens.{Tokens}
use Rattle.parse_places.specs.Viable.{HasTree, IsFaultPlace}
use Rattle.tool_frame.specs.declared.verdict.Verdict.TheVariants.{Negative}
use Rattle.tool_frame.specs.Answer.{Answer, limit_passed}
use Rattle.type_check.specs.declared.fault.CheckFault.{CheckFault}
use Rattle.type_check.specs.declared.fault.CheckFault.TheVariants as fault
use Rattle.type_check.specs.Refusals.{IsRefusal}
use Rattle.tree_commands.specs.Lines.{lex_line, breach_line, place_line}

-- the place of the tokens' syntax fault, and None where a tree stands for them
abbrev pub IsPlace : List Token → Option ℕ → Type 0
IsPlace tokens None = HasTree tokens
IsPlace tokens (Some k) = (HasTree tokens → ⊥) × IsFaultPlace tokens k

-- the line of a file without a tree: that of the place of its tokens' fault
abbrev pub IsSyntaxLine : List ℕ → SourceFile → List ℕ → Type 0
IsSyntaxLine root file text = (tokens : List Token) × Tokens file.bytes tokens × (place : Option ℕ)
    × IsPlace tokens place × (text ≡ place_line root file tokens place)

-- that of the file at a number; nothing where no file has it
abbrev pub IsLineOf : List ℕ → Option SourceFile → List ℕ → Type 0
IsLineOf root None text = text ≡ []
IsLineOf root (Some file) text = IsSyntaxLine root file text

-- the lines of the files with these numbers, one after another
abbrev pub AreSyntaxLines : List ℕ → List SourceFile → List ℕ → List ℕ → Type 0
AreSyntaxLines root files [] text = text ≡ []
AreSyntaxLines root files (n ∷ ns) text = (first rest : List ℕ) × IsLineOf root (slice_get files n) first
    × AreSyntaxLines root files ns rest × (text ≡ first ++ rest)

-- lines with exit 1
abbrev pub refused : List ℕ → Answer
refused text = record { text = text; verdict = Negative }

-- what is printed of a refusal
abbrev pub IsAnswerOf : List ℕ → List SourceFile → CheckFault → Answer → Type 0
-- the limit, with exit 7
IsAnswerOf root files (fault.Limit l) answer = answer ≡ limit_passed l.which
-- else one line per fault, in order, with exit 1
IsAnswerOf root files (fault.Lex rows) answer = answer ≡ refused (flat_map (lex_line root files) rows)
IsAnswerOf root files (fault.Syntax rows) answer = (text : List ℕ) × AreSyntaxLines root files rows text
    × (answer ≡ refused text)
IsAnswerOf root files (fault.Breaches rows) answer = answer ≡ refused (flat_map (breach_line root files) rows)
-- a want of memory prints nothing
IsAnswerOf root files fault.OutOfMemory answer = ⊥

-- what is printed of files that are refused
abbrev pub IsFaultAnswer : List ℕ → List SourceFile → Answer → Type 0
IsFaultAnswer root files answer = (refusal : CheckFault) × IsRefusal files refusal
    × IsAnswerOf root files refusal answer
