-- What `witness` prints by the schemas of two trees, and what it answers over the files of a store (own). What refuses
-- it is what refuses `judge`.
use Rattle.std.specs.Prelude.{◌≡◌, ℕ, List, [], ◌∷◌, codes}
use Rattle.aidl_schema.specs.Broken.{Break, broken}
use Rattle.aidl_schema.specs.declared.schema.Decl.{Decl}
use Rattle.tool_frame.specs.Answer.{Answer, done}
use Rattle.tree_commands.specs.Both.{InBoth}
use Rattle.tree_commands.specs.Faults.{refused}
use Rattle.witness_command.specs.Entries.{AreEntries}
use Rattle.aidl_outside.specs.Files.{Files}

-- the lines of broken rules, with exit 1
abbrev pub IsListed : List Decl → List Decl → List Break → Answer → Type 0
IsListed old new bs answer = (text : List ℕ) × AreEntries old new bs text × (answer ≡ refused text)

-- `yes`, or the lines of each broken rule in the judge's order
abbrev pub IsWitnessed : List Decl → List Decl → List Break → Answer → Type 0
IsWitnessed old new [] answer = answer ≡ done (codes "yes")
IsWitnessed old new (b ∷ bs) answer = IsListed old new (b ∷ bs) answer

-- `witness OLD NEW`
abbrev pub WitnessAnswers : List ℕ → List ℕ → Files → Answer → Type 0
WitnessAnswers old new files = InBoth old new files (λ A B. IsWitnessed A B (broken A B))
