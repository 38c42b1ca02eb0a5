-- *Script*: what a line of a calls file means between CLIENT's declarations A and SERVER's B, or its first refusal
-- (own).
use Rattle.std.specs.Prelude.{◌≡◌, ℕ, nat_le, List, [], ◌∷◌, length, Option, Some, None, Ok, codes}
use Rattle.serde_json.specs.Data as json
use Rattle.serde_json.specs.Find.{get_member}
use Rattle.aidl_schema.specs.declared.schema.Decl.{Decl}
use Rattle.aidl_values.specs.Data.{Items}
use Rattle.json_values.specs.JsonText.{parsed_json}
use Rattle.wire_model.specs.Calls.{arguments}
use Rattle.wire_model.specs.MethodOf.{MethodOf, method_of}
use Rattle.wire_model.specs.Requests.{reply, request}
use Rattle.call_scripts.specs.declared.refused.RefusedName.{RefusedName}
use Rattle.call_scripts.specs.declared.refused.RefusedName.TheVariants.{NotJson, WrongShape, UnknownMethod, TooLarge}
use Rattle.call_scripts.specs.Answers.{all_known, answer_from, unknown_in}
use Rattle.call_scripts.specs.Arguments.{args_from}
use Rattle.call_scripts.specs.Calls.{CallData, CallFits, TargetData}
use Rattle.call_scripts.specs.Names.{Named, method_meant}
use Rattle.call_scripts.specs.Refusal.{Judged, ◌>>=◌, refuse, unless, at_call, at_args, at_answer}

-- what is there, or a refusal
abbrev pub or_refuse : {A : Type 0} → RefusedName → List ℕ → Option A → Judged A
or_refuse name at None = refuse name at
or_refuse name at (Some x) = Ok x

-- the members of an object
abbrev pub members_of : json.Data → Judged json.Members
members_of (json.object ms) = Ok ms
members_of _ = refuse WrongShape []

abbrev pub line_keys : List (List ℕ)
line_keys = codes "call" ∷ codes "args" ∷ codes "answer" ∷ []

-- a string
abbrev pub text_from : Option json.Data → Judged (List ℕ)
text_from (Some (json.string s)) = Ok s
text_from _ = refuse WrongShape at_call

-- SERVER's method, and its answer, whose reply is small enough
unfoldable pub answered : MethodOf → Option json.Data → Judged TargetData
answered m found = do
  answer ← answer_from m found  -- the refusals of the answer
  small ← unless (nat_le (length (reply m answer)) 1048576) TooLarge at_answer  -- a long reply
  Ok (record { method = m.method; answer = answer })

-- where SERVER lacks the method, `answer` isn't looked at
abbrev pub target_from : List Decl → Option ℕ → Option ℕ → Option json.Data → Judged (Option TargetData)
target_from B (Some j) (Some k) found = do
  target ← answered (method_of B j k) found
  Ok (Some target)
target_from B (Some j) None found = Ok None
target_from B None target found = Ok None

-- the method that `call` names
abbrev pub named_from : List Decl → List Decl → Option json.Data → Judged Named
named_from A B found = do
  text ← text_from found  -- it isn't there, or is no string
  or_refuse UnknownMethod at_call (method_meant A B text)  -- it names no method of CLIENT

-- the arguments, whose request is small enough
unfoldable pub sent_from : MethodOf → Option json.Data → Judged Items
sent_from m found = do
  -- no array or a wrong count; and the refusals of the entries
  args ← args_from m.declarations (arguments m) found
  small ← unless (nat_le (length (request m args)) 1048576) TooLarge at_args  -- a long request
  Ok args

-- of the line's object
unfoldable pub call_from : List Decl → List Decl → json.Members → Judged CallData
call_from A B ms = do
  known ← all_known [] (unknown_in line_keys ms)  -- the least key other than the three
  c ← named_from A B (get_member (codes "call") ms)
  args ← sent_from (method_of A c.interface c.method) (get_member (codes "args") ms)
  target ← target_from B c.server c.target (get_member (codes "answer") ms)
  Ok (record { interface = c.interface; method = c.method; args = args; server = c.server; target = target })

-- *Script*: the refusals in their order
unfoldable pub script : List Decl → List Decl → List ℕ → Judged CallData
script A B line = do
  j ← or_refuse NotJson [] (parsed_json line)  -- no JSON value
  ms ← members_of j  -- no object
  call_from A B ms

-- each line that is a call is one that fits (`law_script_fits`)
abbrev pub ScriptsFit : List Decl → List Decl → Type 0
ScriptsFit A B = (line : List ℕ) (c : CallData) → script A B line ≡ Ok c → CallFits A B c
