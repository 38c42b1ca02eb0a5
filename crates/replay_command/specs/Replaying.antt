-- What `replay` prints, and what it answers over the files of a store, in the order of its refusals (own). S is the
-- declarations of SERVER's tree, i the number of its interface, k the number of a line, from 1 on.
use Rattle.std.specs.Prelude.{ℕ, ◌+◌, ℤ, List, [], ◌∷◌, ◌++◌, Option, Some, None, Result, Ok, Err, codes, ◌≡◌}
use Rattle.std.specs.Fmt.{decimal, signed_decimal}
use Rattle.aidl_base.specs.declared.profile.Profile.TheVariants.{Strict}
use Rattle.aidl_schema.specs.declared.schema.Decl.{Decl}
use Rattle.aidl_schema.specs.Find.{interface_named}
use Rattle.parcel_replay.specs.Traced.{Traced, other, not_trace, too_large, request, traced}
use Rattle.run_command.specs.CallLines.{lines_of, lines_held}
use Rattle.run_command.specs.LineText.{called_text, values_text}
use Rattle.tool_frame.specs.Answer.{◌>>=◌, Answer, Found, line, negative}
use Rattle.tool_frame.specs.declared.verdict.Verdict.TheVariants.{Done}
use Rattle.wire_model.specs.Calls.{arguments}
use Rattle.wire_model.specs.MethodOf.{method_of}
use Rattle.wire_model.specs.Receiver.{Received, left, called, stub}
use Rattle.wire_model.specs.Typed.{types_of}
use Rattle.aidl_outside.specs.Files.{Files}
use Rattle.tree_commands.specs.InTree.{OfFile}

-- a request's line that isn't read again, with the name of the refusal
abbrev pub refused_line : ℕ → List ℕ → List ℕ
refused_line k name = line (codes "{\"line\":" ++ decimal k ++ codes ",\"refused\":\"" ++ name ++ codes "\"}")

-- a request that the stub refuses with a status
abbrev pub transport_line : ℕ → ℤ → List ℕ
transport_line k status =
    line (codes "{\"line\":" ++ decimal k ++ codes ",\"transport\":" ++ signed_decimal status ++ codes "}")

-- any other one, with what the handler saw
abbrev pub called_line : ℕ → List ℕ → List ℕ
called_line k saw = line (codes "{" ++ called_text k saw)

-- by what the stub receives; where bytes are left over the handler isn't called
abbrev pub received_line : List Decl → ℕ → ℕ → Result Received ℤ → List ℕ
received_line S i k (Err status) = transport_line k status
received_line S i k (Ok (left m)) = called_line k (codes "null")
received_line S i k (Ok (called m saw)) = called_line k (values_text S (types_of (arguments (method_of S i m))) saw)

-- by what a line of the trace says; its bytes are read strictly
abbrev pub replayed_line : List Decl → ℕ → ℕ → Traced → List ℕ
replayed_line S i k other = []
replayed_line S i k not_trace = refused_line k (codes "NotTrace")
replayed_line S i k too_large = refused_line k (codes "TooLarge")
replayed_line S i k (request code b) = received_line S i k (stub Strict S i code b)

-- all lines in order
abbrev pub replayed_text : List Decl → ℕ → ℕ → List (List ℕ) → List ℕ
replayed_text S i k [] = []
replayed_text S i k (text ∷ lines) = replayed_line S i k (traced text) ++ replayed_text S i (k + 1) lines

-- the interface of this canonical name; else `no interface NAME`
abbrev pub interface_found : List ℕ → Option ℕ → Found ℕ
interface_found name None = Err (negative (codes "no interface " ++ name))
interface_found name (Some i) = Ok i

-- `replay` over a checked tree and the text of a trace
abbrev pub replay_answer : List Decl → List ℕ → List ℕ → Answer
replay_answer S name trace = interface_found name (interface_named S name) >>=
    λ i. record { text = replayed_text S i 1 (lines_of trace); verdict = Done }

-- `replay SERVER INTERFACE TRACE`: the limits of TRACE refuse its bytes
abbrev pub ReplayAnswers : List ℕ → List ℕ → List ℕ → Files → Answer → Type 0
ReplayAnswers server interface trace =
    OfFile lines_held (Some server) trace (λ text S answer. answer ≡ replay_answer S interface text)
