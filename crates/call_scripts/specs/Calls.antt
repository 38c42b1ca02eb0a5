-- What a line of a calls file means: a call, and what SERVER's handler answers, without where it lies in memory (own).
use Rattle.std.specs.Prelude.{◌≡◌, ℕ, ◌<◌, ◌≤◌, List, length, Option, Some, None, option_and_then, option_map, Ok, Err}
use Rattle.std.specs.Str.{encode_utf8_all}
use Rattle.aidl_schema.specs.declared.schema.Decl.{Decl}
use Rattle.aidl_schema.specs.Find.{interface_named, methods_at}
use Rattle.aidl_values.specs.Data.{Items}
use Rattle.aidl_values.specs.View.{views}
use Rattle.wire_model.specs.Calls.{AnswerData, answer_of, descriptor, method_at}
use Rattle.wire_model.specs.MethodOf.{MethodOf, method_of}
use Rattle.wire_model.specs.Outcome.{declared_as, method_like}
use Rattle.wire_model.specs.Requests.{AnswerFits, ArgsFit, request}
use Rattle.call_scripts.specs.declared.script.Call.{Call}
use Rattle.call_scripts.specs.declared.script.Script.{Script}
use Rattle.call_scripts.specs.declared.script.Script.TheVariants as script
use Rattle.call_scripts.specs.declared.script.Target.{Target}
use Rattle.call_scripts.specs.declared.refused.Refused.{Refused}
use Rattle.call_scripts.specs.Refusal.{Judged, Refusal}

-- SERVER's method of the call's names, and its answer
pub record TargetData : Type 0 where
  pub method : ℕ
  pub answer : AnswerData

pub record CallData : Type 0 where
  pub interface : ℕ
  pub method : ℕ
  pub args : Items
  -- SERVER's interface of that name, where it has one
  pub server : Option ℕ
  pub target : Option TargetData

-- the method of CLIENT's declarations A that is called
abbrev pub callee : List Decl → CallData → MethodOf
callee A c = method_of A c.interface c.method

abbrev pub target_of : Target → TargetData
target_of t = record { method = t.method; answer = answer_of t.answer }

abbrev pub call_of : Call → CallData
call_of c = record {
  interface = c.interface;
  method = c.method;
  args = views c.args;
  server = c.server;
  target = option_map target_of c.target;
}

abbrev pub refusal_of : Refused → Refusal
refusal_of r = record { name = r.name; at = encode_utf8_all r.at }

-- the data of what the code answers
abbrev pub script_data : Script → Judged CallData
script_data (script.Refused r) = Err (refusal_of r)
script_data (script.Call c) = Ok (call_of c)

-- SERVER's interface of the canonical name of CLIENT's interface i, which is its declaration of that name
pub record IsServer (A B : List Decl) (i : ℕ) (server : Option ℕ) : Type 0 where
  pub named : server ≡ interface_named B (encode_utf8_all (descriptor A i))
  pub declared : (j : ℕ) → server ≡ Some j → declared_as B (descriptor A i) ≡ Some j

-- SERVER's method of the same name as CLIENT's method a, where it has the interface
abbrev pub method_of_server : MethodOf → List Decl → Option ℕ → Option ℕ
method_of_server a B server = option_and_then (λ j. method_like (method_at a) (methods_at B j)) server

-- an answer of SERVER's method, whose reply is small enough
abbrev pub TargetFits : List Decl → Option ℕ → Option TargetData → Type 0
TargetFits B (Some j) (Some t) = AnswerFits (method_of B j t.method) t.answer
TargetFits B None (Some t) = ⊥
TargetFits B server None = Unit {0}

-- what a call between CLIENT's declarations A and SERVER's B has
pub record CallFits (A B : List Decl) (c : CallData) : Type 0 where
  pub there : c.method < length (methods_at A c.interface)
  pub args : ArgsFit (callee A c) c.args
  pub small : length (request (callee A c) c.args) ≤ 1048576
  pub server : IsServer A B c.interface c.server
  pub target : option_map (λ t. t.method) c.target ≡ method_of_server (callee A c) B c.server
  pub answer : TargetFits B c.server c.target

-- a refusal, or such a call
abbrev pub ScriptFits : List Decl → List Decl → Script → Type 0
ScriptFits A B (script.Refused r) = Unit {0}
ScriptFits A B (script.Call c) = CallFits A B (call_of c)
