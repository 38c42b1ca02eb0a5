-- The steps of a stub.
use Rattle.std.specs.Prelude.{ℕ, ℤ, List, Result, Ok}
use Rattle.aidl_base.specs.declared.profile.Profile.{Profile}
use Rattle.wire_model.specs.Calls.{arguments, descriptor}
use Rattle.wire_model.specs.MethodOf.{MethodOf}
use Rattle.wire_model.specs.ReadOf.{◌>>=◌}
use Rattle.wire_model.specs.Receiver.{Received, arguments_at, received, token_at}

-- what is received after the token
abbrev pub arguments_received : Profile → MethodOf → List ℕ → Result Received ℤ
arguments_received p m b =
    arguments_at p m.declarations 0 (arguments m) b >>= λ saw. Ok (received m.method saw.0 saw.1)

-- what is received after the code
abbrev pub call_received : Profile → MethodOf → List ℕ → Result Received ℤ
call_received p m b = token_at p (descriptor m.declarations m.interface) b >>= λ rest. arguments_received p m rest
