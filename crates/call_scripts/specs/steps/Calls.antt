-- What is known of the parts of a call.
use Rattle.std.specs.Prelude.{◌≡◌, ℕ, ◌≤◌, List, length, Option, option_map}
use Rattle.aidl_schema.specs.declared.schema.Decl.{Decl}
use Rattle.aidl_values.specs.Data.{Items}
use Rattle.wire_model.specs.MethodOf.{MethodOf}
use Rattle.wire_model.specs.Requests.{AnswerFits, ArgsFit, request}
use Rattle.call_scripts.specs.declared.script.Target.{Target}
use Rattle.call_scripts.specs.Calls.{TargetFits, target_of}

-- arguments, whose request is small enough
pub record IsSent (m : MethodOf) (args : Items) : Type 0 where
  pub fit : ArgsFit m args
  pub small : length (request m args) ≤ 1048576

-- SERVER's method, and its answer
pub record IsAnswered (m : MethodOf) (t : Target) : Type 0 where
  pub method : t.method ≡ m.method
  pub fits : AnswerFits m (target_of t).answer

-- SERVER's method where it has it, and its answer
pub record IsTarget (B : List Decl) (server method : Option ℕ) (t : Option Target) : Type 0 where
  pub at : option_map (λ x. x.method) (option_map target_of t) ≡ method
  pub fits : TargetFits B server (option_map target_of t)
