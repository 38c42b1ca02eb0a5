-- Calls that may show a broken rule: their bytes, their two sides, and when they count (own). `old` and `new` are
-- the declarations of the two schemas.
use Rattle.std.specs.Prelude.{◌≡◌, ℕ, ◌≤◌, Bool, true, false, if◌then◌else◌, List, [], length, Option, Some, None}
use Rattle.std.specs.Prelude.{option_map, option_and_then}
use Rattle.aidl_schema.specs.declared.schema.Decl.{Decl}
use Rattle.aidl_schema.specs.Find.{methods_at}
use Rattle.aidl_schema.specs.Unbroken.{Has}
use Rattle.aidl_values.specs.Data.{Items}
use Rattle.wire_model.specs.Calls.{AnswerData, descriptor, is_oneway, method_at}
use Rattle.wire_model.specs.MethodOf.{MethodOf, method_of}
use Rattle.wire_model.specs.Outcome.{declared_as, method_like}
use Rattle.wire_model.specs.Requests.{ArgsFit, IsAnswer}
use Rattle.wire_model.specs.Requests as wire
use Rattle.compat_witness.specs.Sides.{Side, no_reply, read_request, projected_request, read_reply, projected_reply}

-- What is sent: the arguments of a request, or the answer of a reply, None of a oneway method.
pub data Values : Type 0 where
  arguments : (args : Items) → Values
  answered : (answer : Option AnswerData) → Values

-- the client is old's, and the server new's; or the other way round
abbrev pub old_client : Bool
old_client = false

abbrev pub new_client : Bool
new_client = true

-- A request or a reply to a client, with what is sent. `back` says which client; `interface` and `method` are numbers
-- of the client's schema.
pub record Candidate : Type 0 where
  pub back : Bool
  pub interface : ℕ
  pub method : ℕ
  pub values : Values

-- a request with its arguments
abbrev pub request : Bool → ℕ → ℕ → Items → Candidate
request back i m args = record { back = back; interface = i; method = m; values = arguments args }

-- a reply with the answer
abbrev pub reply : Bool → ℕ → ℕ → Option AnswerData → Candidate
reply back i m a = record { back = back; interface = i; method = m; values = answered a }

-- of two schemas the client's, and the server's
abbrev pub client_of : Bool → List Decl → List Decl → List Decl
client_of back old new = if back then new else old

abbrev pub server_of : Bool → List Decl → List Decl → List Decl
server_of back old new = if back then old else new

-- the client's method
abbrev pub callee : List Decl → List Decl → Candidate → MethodOf
callee old new c = method_of (client_of c.back old new) c.interface c.method

-- the method of B that has the names of the method a
abbrev pub counterpart : MethodOf → List Decl → Option MethodOf
counterpart a B = option_and_then (λ j. option_map (λ n. method_of B j n) (method_like (method_at a) (methods_at B j)))
    (declared_as B (descriptor a.declarations a.interface))

-- something of the server's method, where there is one
abbrev pub at_method : {X : Type 0} → X → (MethodOf → X) → Option MethodOf → X
at_method x F None = x
at_method x F (Some b) = F b

-- the bytes of an answer; none of a oneway method
abbrev pub answer_bytes : MethodOf → Option AnswerData → List ℕ
answer_bytes b None = []
answer_bytes b (Some answer) = wire.reply b answer

-- the bytes of what is sent between a client's method a and a server B: the spelled request or reply; none of a reply
-- whose method the server lacks
abbrev pub bytes_between : MethodOf → List Decl → Values → List ℕ
bytes_between a B (arguments args) = wire.request a args
bytes_between a B (answered answer) = at_method [] (λ b. answer_bytes b answer) (counterpart a B)

-- the bytes of a candidate
abbrev pub bytes_of : List Decl → List Decl → Candidate → List ℕ
bytes_of old new c = bytes_between (callee old new c) (server_of c.back old new) c.values

-- It is an answer of the server's two-way method; there is none exactly where that one is oneway.
abbrev pub IsAnswerOf : MethodOf → Option AnswerData → Type 0
IsAnswerOf b None = is_oneway b ≡ true
IsAnswerOf b (Some answer) = (is_oneway b ≡ false) × IsAnswer b answer

-- the same, where the server has the method
abbrev pub IsAnswerAt : Option MethodOf → Option AnswerData → Type 0
IsAnswerAt None answer = ⊥
IsAnswerAt (Some b) answer = IsAnswerOf b answer

-- the arguments fit the client's method, or the answer the server's
abbrev pub fit_between : MethodOf → List Decl → Values → Type 0
fit_between a B (arguments args) = ArgsFit a args
fit_between a B (answered answer) = IsAnswerAt (counterpart a B) answer

abbrev pub ValuesFit : List Decl → List Decl → Candidate → Type 0
ValuesFit old new c = fit_between (callee old new c) (server_of c.back old new) c.values

-- what is read of the bytes
abbrev pub read_between : MethodOf → List Decl → Values → Side
read_between a B (arguments args) = read_request a B (wire.request a args)
read_between a B (answered answer) =
    at_method no_reply (λ b. read_reply a b (answer_bytes b answer)) (counterpart a B)

abbrev pub read_side : List Decl → List Decl → Candidate → Side
read_side old new c = read_between (callee old new c) (server_of c.back old new) c.values

-- what the values are to the other version
abbrev pub projected_between : MethodOf → List Decl → Values → Side
projected_between a B (arguments args) = projected_request a B args
projected_between a B (answered answer) = at_method no_reply (λ b. projected_reply b a answer) (counterpart a B)

abbrev pub projected_side : List Decl → List Decl → Candidate → Side
projected_side old new c = projected_between (callee old new c) (server_of c.back old new) c.values

-- A candidate counts where its values fit and its bytes are at most 1,048,576.
pub record Counts (old new : List Decl) (c : Candidate) : Type 0 where
  pub fits : ValuesFit old new c
  pub small : length (bytes_of old new c) ≤ 1048576

-- its two sides differ
abbrev pub Differs : List Decl → List Decl → Candidate → Type 0
Differs old new c = read_side old new c ≡ projected_side old new c → ⊥

-- A candidate shows a broken rule where it counts and its two sides differ.
pub record IsShown (old new : List Decl) (c : Candidate) : Type 0 where
  pub counts : Counts old new c
  pub differs : Differs old new c

-- no candidate whose values fit has more bytes
abbrev pub AreSmall : List Decl → List Decl → List Candidate → Type 0
AreSmall old new cs = (c : Candidate) → Has cs c → ValuesFit old new c → length (bytes_of old new c) ≤ 1048576

-- one candidate that counts differs
abbrev pub Shows : List Decl → List Decl → List Candidate → Type 0
Shows old new cs = (c : Candidate) × Has cs c × Counts old new c × Differs old new c
