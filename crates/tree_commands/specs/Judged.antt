-- What `judge` prints by the schemas of two trees, and what it answers over the files of a store (own).
use Rattle.std.specs.Prelude.{◌≡◌, ℕ, ◌++◌, List, [], ◌∷◌, codes}
use Rattle.std.specs.List.{flat_map}
use Rattle.std.specs.Fmt.{decimal}
use Rattle.std.specs.Str.{encode_utf8_all}
use Rattle.aidl_outside.specs.Files.{Files}
use Rattle.aidl_schema.specs.Broken.{Break, broken}
use Rattle.tool_frame.specs.Answer.{Answer, done, line}
use Rattle.tree_commands.specs.Both.{InBoth}
use Rattle.tree_commands.specs.Faults.{refused}

-- `C10 PLACE`
abbrev pub break_line : Break → List ℕ
break_line b = line (codes "C" ++ decimal b.0 ++ codes " " ++ encode_utf8_all b.1)

-- `yes`, or with exit 1 a line per broken rule
abbrev pub judged : List Break → Answer
judged [] = done (codes "yes")
judged (b ∷ bs) = refused (flat_map break_line (b ∷ bs))

-- `judge OLD NEW`
abbrev pub JudgeAnswers : List ℕ → List ℕ → Files → Answer → Type 0
JudgeAnswers old new files = InBoth old new files (λ A B answer. answer ≡ judged (broken A B))
