-- What `decode`, `encode` and `explain` answer over the files of a store, in the order of their refusals (own).
use Rattle.std.specs.Prelude.{◌≡◌, ℕ, List, Option}
use Rattle.aidl_outside.specs.Files.{Files}
use Rattle.aidl_schema.specs.declared.schema.Decl.{Decl}
use Rattle.parcel_commands.specs.declared.tasks.Task.{Task}
use Rattle.parcel_commands.specs.declared.tasks.Task.TheVariants.{Decode, Encode, Explain}
use Rattle.tree_commands.specs.InTree.{OfFile}
use Rattle.parcel_commands.specs.Decode.{decode_answer}
use Rattle.parcel_commands.specs.Encode.{encode_answer}
use Rattle.parcel_commands.specs.Explain.{explain_answer}
use Rattle.parcel_commands.specs.Refusals.{parcel_of}
use Rattle.tool_frame.specs.Answer.{Answer, Found}

-- the bytes of FILE: a parcel's, or a text
abbrev pub bytes_for : Task → Found (List ℕ) → Found (List ℕ)
bytes_for (Decode p) file = parcel_of file
bytes_for Encode file = file
bytes_for Explain file = parcel_of file

-- what is answered of them by the declarations of a schema
abbrev pub answer_for : Task → List Decl → List ℕ → List ℕ → Answer
answer_for (Decode p) S types bytes = decode_answer p S types bytes
answer_for Encode S types bytes = encode_answer S types bytes
answer_for Explain S types bytes = explain_answer S types bytes

-- `decode [--lenient] [--tree TREE] TYPES FILE`, `encode [--tree TREE] TYPES FILE`, `explain [--tree TREE] TYPES FILE`
abbrev pub TaskAnswers : Task → Option (List ℕ) → List ℕ → List ℕ → Files → Answer → Type 0
TaskAnswers task tree types path =
    OfFile (bytes_for task) tree path (λ bytes S answer. answer ≡ answer_for task S types bytes)
