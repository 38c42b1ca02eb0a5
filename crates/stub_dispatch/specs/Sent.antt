-- What a stub sends back.
use Rattle.std.specs.Prelude.{ℕ, List, Option, Some, None, if◌then◌else◌}
use Rattle.wire_model.specs.Calls.{AnswerData, is_oneway}
use Rattle.wire_model.specs.MethodOf.{MethodOf}
use Rattle.wire_model.specs.Requests.{reply}
pub use Rattle.wire_model.specs.Requests.{unread}

-- the reply of an answer; a oneway method has none
abbrev pub sent_reply : MethodOf → AnswerData → Option (List ℕ)
sent_reply m answer = if is_oneway m then None else Some (reply m answer)
