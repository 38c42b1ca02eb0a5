-- What a command that writes does over the files that a store told before: which files it writes, and what it
-- answers with them.
use Rattle.std.specs.Prelude.{◌≡◌, List, []}
use Rattle.aidl_outside.specs.Asks.{Asks}
use Rattle.aidl_outside.specs.Files.{Files}
use Rattle.aidl_outside.specs.Writes.{Write}
use Rattle.tool_frame.specs.Answer.{Answer, Refusing}
use Rattle.tool_frame.specs.Meaning.{Meaning, writes_by}

-- the files that are written, in order, and the answer that goes with them
abbrev pub Acts : Type 1
Acts = List Write → Answer → Type 0

-- nothing is written, and this is answered
abbrev pub Only : (Answer → Type 0) → Acts
Only IsAnswer made answer = (made ≡ []) × IsAnswer answer

-- a refusal is answered, and these writes are none
abbrev pub Unwritten : List Write → Refusing Answer
Unwritten made refusal answer = Only (λ a. a ≡ refusal) made answer

abbrev pub writes_of : (Files → Acts) → Files → List Write → Type 0
writes_of acts files made = (answer : Answer) × acts files made answer

abbrev pub answers_of : (Files → Acts) → Files → Answer → Type 0
answers_of acts files answer = (made : List Write) × acts files made answer

-- a command that writes and doesn't carry, by what it asks the store, and what it does over the files
abbrev pub acts_by : Asks → (Files → Acts) → Meaning
acts_by asks acts = writes_by asks (writes_of acts) (answers_of acts)
