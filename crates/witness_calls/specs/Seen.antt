-- What the code's calls and sides stand for.
use Rattle.std.specs.Option.{option_map}
use Rattle.aidl_values.specs.View.{views}
use Rattle.wire_model.specs.Calls.{answer_of}
use Rattle.stub_dispatch.specs.Got.{got_of}
use Rattle.compat_witness.specs.Candidates as candidate
use Rattle.compat_witness.specs.Sides as side
use Rattle.witness_calls.specs.declared.call.Call.{Call}
use Rattle.witness_calls.specs.declared.call.Values.{Values}
use Rattle.witness_calls.specs.declared.call.Values.TheVariants.{Arguments, Answer}
use Rattle.witness_calls.specs.declared.reading.Reading.{Reading}
use Rattle.witness_calls.specs.declared.reading.Reading.TheVariants.{Transport, Left, Called, Client, NoReply}

-- what is sent
abbrev pub values_seen : Values → candidate.Values
values_seen (Arguments args) = candidate.arguments (views args)
values_seen (Answer answer) = candidate.answered (option_map answer_of answer)

-- a call is a candidate
abbrev pub call_seen : Call → candidate.Candidate
call_seen c = record { back = c.back; interface = c.interface; method = c.method; values = values_seen c.values }

-- a reading is a side
abbrev pub reading_seen : Reading → side.Side
reading_seen (Transport status) = side.transport status
reading_seen (Left method) = side.left method
reading_seen (Called method saw) = side.called method (views saw)
reading_seen (Client got) = side.client (got_of got)
reading_seen NoReply = side.no_reply
