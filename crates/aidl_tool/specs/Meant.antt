-- What the words mean. They are unknown where they are in no row of the table of commands.
use Rattle.std.specs.Prelude.{ℕ, List, Option, Some, None}
use Rattle.tool_words.specs.Command.{Command, decode, encode, check, dump, explain, freeze, judge, rehash, run}
use Rattle.tool_words.specs.Command.{verify, replay, ask, make, witness}
use Rattle.tool_words.specs.Rows.{command_of}
use Rattle.api_versions.specs.Asks.{AsksVersions}
use Rattle.parcel_commands.specs.Decode.{profile_of}
use Rattle.tool_frame.specs.Acts.{acts_by}
use Rattle.tool_frame.specs.Asks.{AsksOptional, AsksTree}
use Rattle.tool_frame.specs.Meaning.{Meant, carries_by, reads_by}
use Rattle.tool_frame.specs.Meaning.Meant.{unknown, means}
use Rattle.tree_commands.specs.Checked.{CheckAnswers}
use Rattle.tree_commands.specs.Judged.{JudgeAnswers}
use Rattle.version_commands.specs.Verified.{VerifyAnswers}
use Rattle.ask_command.specs.Asked.{AskAnswers}
use Rattle.version_commands.specs.Acting.{DumpActs, FreezeActs, RehashActs}
use Rattle.tree_commands.specs.Opens.{AsksCheckedThen}
use Rattle.tool_frame.specs.Due.{AsksFileThen, AsksTreeThen}
use Rattle.replay_command.specs.Replaying.{ReplayAnswers}
use Rattle.make_command.specs.Making.{makes}
use Rattle.run_command.specs.Running.{RunTakes}
use Rattle.parcel_commands.specs.Tasks.{TaskAnswers}
use Rattle.parcel_commands.specs.declared.tasks.Task.TheVariants.{Decode, Encode, Explain}
use Rattle.witness_command.specs.Witnessed.{WitnessAnswers}

-- the meaning of a command
abbrev pub meaning : Command → Meant
meaning (decode lenient tree types path) = means
    (reads_by (AsksFileThen path (AsksOptional tree)) (TaskAnswers (Decode (profile_of lenient)) tree types path))
meaning (encode tree types path) =
    means (reads_by (AsksFileThen path (AsksOptional tree)) (TaskAnswers Encode tree types path))
meaning (check tree) = means (reads_by (AsksTree tree) (CheckAnswers tree))
meaning (judge old new) = means (reads_by (AsksTreeThen old (AsksTree new)) (JudgeAnswers old new))
meaning (witness old new) = means (reads_by (AsksTreeThen old (AsksTree new)) (WitnessAnswers old new))
meaning (verify api) = means (reads_by (AsksVersions api) (VerifyAnswers api))
meaning (dump tree out) = means (acts_by (AsksTree tree) (DumpActs tree out))
meaning (freeze tree api) = means (acts_by (AsksCheckedThen tree (AsksVersions api)) (FreezeActs tree api))
meaning (rehash api) = means (acts_by (AsksVersions api) (RehashActs api))
meaning (run trace lenient client server calls) = means (carries_by (AsksFileThen calls
    (AsksTreeThen client (AsksTree server))) (RunTakes (profile_of lenient) trace client server calls))
meaning (explain tree types path) =
    means (reads_by (AsksFileThen path (AsksOptional tree)) (TaskAnswers Explain tree types path))
meaning (replay server interface trace) =
    means (reads_by (AsksFileThen trace (AsksTree server)) (ReplayAnswers server interface trace))
meaning (ask api version interface code path) = means (reads_by (AsksFileThen path (AsksVersions api))
    (AskAnswers (record { api = api; version = version; interface = interface; code = code }) path))
meaning (make count out) = means (makes count out)

-- the meaning of the command that words are, if any
abbrev pub meant_by : Option Command → Meant
meant_by None = unknown
meant_by (Some command) = meaning command

abbrev pub meant : List (List ℕ) → Meant
meant words = meant_by (command_of words)
