-- The steps of what a request and a reply are projected to.
use Rattle.std.specs.Prelude.{ℤ, List, Option, Result, Ok}
use Rattle.aidl_schema.specs.declared.schema.AidlType.{AidlType}
use Rattle.aidl_schema.specs.declared.schema.Arg.{Arg}
use Rattle.aidl_schema.specs.declared.schema.Decl.{Decl}
use Rattle.aidl_values.specs.Data.{Data, Items}
use Rattle.compat_witness.specs.Sides.{projected_arguments, projected_outs, projected_result}
use Rattle.wire_model.specs.Calls.{AnswerData, returned, arguments, result_type}
use Rattle.wire_model.specs.MethodOf.{MethodOf}
use Rattle.wire_model.specs.ReadOf.{◌>>=◌}
use Rattle.wire_model.specs.Receiver.{Received, called, or_status}
use Rattle.wire_model.specs.Status.{bad_value}

-- by the server's method
abbrev pub called_at : MethodOf → MethodOf → Items → Result Received ℤ
called_at a b args =
    or_status bad_value (projected_arguments a.declarations (arguments a) b.declarations (arguments b) args)
    >>= λ saw. Ok (called b.method saw)

-- a result with outs; BAD_VALUE without outs
abbrev pub returned_with : Option Data → Option Items → Result AnswerData ℤ
returned_with r outs = or_status bad_value outs >>= λ vs. Ok (returned r vs)

-- what a result and outs of these types are to the client's method
abbrev pub sent_seen : List Decl → Option AidlType → List Arg → MethodOf → Option Data → Items → Result AnswerData ℤ
sent_seen B t ys a result outs =
    or_status bad_value (projected_result B t a.declarations (result_type a) result) >>=
    λ r. returned_with r (projected_outs B ys a.declarations (arguments a) outs)
