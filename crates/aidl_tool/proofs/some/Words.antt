-- What words mean is one thing at the least.
use Rattle.std.proofs.Common.{ℕ, List, Option, Some, None}
use Rattle.tool_words.specs.Command.{Command, decode, encode, check, dump, freeze, verify, rehash, judge, witness, run, make, ask, explain, replay}
use Rattle.tool_words.specs.Rows.{command_of}
use Rattle.parcel_commands.specs.Decode.{profile_of}
use Rattle.aidl_tool.specs.Meant.{meant, meant_by}
use Rattle.aidl_tool.specs.SomeMeaning.{MeansSome}
use Rattle.parcel_commands.specs.declared.tasks.Task.TheVariants.{Decode, Encode, Explain}
use Rattle.aidl_tool.proofs.some.Acting.{means_ask, means_dump, means_rehash, means_verify}
use Rattle.aidl_tool.proofs.some.Freezing.{means_freeze}
use Rattle.aidl_tool.proofs.some.Making.{means_make}
use Rattle.aidl_tool.proofs.some.Meanings.{means_check, means_judge, means_replay, means_run, means_task}
use Rattle.aidl_tool.proofs.some.Witnessing.{means_witness}
use Rattle.aidl_tool.proofs.some.WordsFit.{CommandFits, words_fit}

command_means : (command : Option Command) → CommandFits command → MeansSome (meant_by command)
command_means None h = tt
command_means (Some (decode lenient tree types path)) h = means_task (Decode (profile_of lenient)) _ tree types path
command_means (Some (encode tree types path)) h = means_task Encode _ tree types path
command_means (Some (check tree)) h = means_check tree
command_means (Some (dump tree out)) h = means_dump tree out
command_means (Some (freeze tree api)) h = means_freeze tree api
command_means (Some (verify api)) h = means_verify api
command_means (Some (rehash api)) h = means_rehash api
command_means (Some (judge old new)) h = means_judge old new
command_means (Some (witness old new)) h = means_witness old new
command_means (Some (run trace lenient client server calls)) h = means_run trace lenient client server calls
command_means (Some (make count out)) h = means_make count out h
command_means (Some (ask api version interface code path)) h = means_ask api version interface code path
command_means (Some (explain tree types path)) h = means_task Explain _ tree types path
command_means (Some (replay server interface trace)) h = means_replay server interface trace

pub means_some : (words : List (List ℕ)) → MeansSome (meant words)
means_some words = command_means (command_of words) (words_fit words)
