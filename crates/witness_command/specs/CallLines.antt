-- The three lines of a call that shows a broken rule (own). A is the client's declarations, B the server's.
use Rattle.std.specs.Prelude.{ℕ, Bool, if◌then◌else◌, List, ◌++◌, Option, codes}
use Rattle.std.specs.Str.{encode_utf8_all}
use Rattle.aidl_schema.specs.declared.schema.Decl.{Decl}
use Rattle.compat_witness.specs.Candidates.{Candidate, Values, arguments, answered, bytes_of, client_of, server_of}
use Rattle.compat_witness.specs.Candidates.{read_side, projected_side}
use Rattle.compat_witness.specs.Sides.{Side}
use Rattle.tool_frame.specs.Answer.{line}
use Rattle.tool_frame.specs.Shown.{shown}
use Rattle.wire_model.specs.Calls.{descriptor, method_at}
use Rattle.wire_model.specs.MethodOf.{MethodOf, method_of}
use Rattle.wire_model.specs.Outcome.{declared_as}
use Rattle.witness_command.specs.SideText.{name_of_method, side_text}

-- a request or a reply
abbrev pub word_text : Values → List ℕ
word_text (arguments args) = codes "call"
word_text (answered answer) = codes "reply"

-- `>` where the client is old, `<` where it is new
abbrev pub way_text : Bool → List ℕ
way_text back = if back then codes " < " else codes " > "

-- INTERFACE.METHOD, by the name of the client's interface
abbrev pub full_name : List ℕ → MethodOf → List ℕ
full_name name m = encode_utf8_all name ++ codes "." ++ name_of_method (method_at m)

-- `call > INTERFACE.METHOD`
abbrev pub heading_text : List ℕ → List Decl → Candidate → List ℕ
heading_text name A c = word_text c.values ++ way_text c.back ++ full_name name (method_of A c.interface c.method)

-- `call > INTERFACE.METHOD HEX`
abbrev pub call_line : List ℕ → List Decl → Candidate → List ℕ → List ℕ
call_line name A c bytes = line (heading_text name A c ++ codes " " ++ shown bytes)

-- `read SIDE` or `projected SIDE`, by the word with a blank
abbrev pub side_line : List ℕ → List Decl → Option ℕ → Side → List ℕ
side_line word B j side = line (word ++ side_text B j side)

-- both sides, by the interface of the server that has the name
abbrev pub side_lines : List ℕ → List Decl → Side → Side → List ℕ
side_lines name B read projected =
    side_line (codes "read ") B (declared_as B name) read
    ++ side_line (codes "projected ") B (declared_as B name) projected

-- the three lines of a call: its own, what is read of it, and what it is projected to
abbrev pub lines_between : List Decl → List Decl → Candidate → List ℕ → Side → Side → List ℕ
lines_between A B c bytes read projected =
    call_line (descriptor A c.interface) A c bytes ++ side_lines (descriptor A c.interface) B read projected

-- the call with its bytes, what is read of them, and what its values are projected to
abbrev pub call_lines : List Decl → List Decl → Candidate → List ℕ
call_lines old new c =
    lines_between (client_of c.back old new) (server_of c.back old new) c (bytes_of old new c) (read_side old new c)
    (projected_side old new c)
