-- Exceptions, while they are read.
use Rattle.std.specs.Prelude.{◌≡◌, ℕ, ℤ, pos, false, if◌then◌else◌, List, Option, Some, None, option_and_then}
use Rattle.std.specs.Ordering.{int_eq}
use Rattle.std.specs.Str.{chars}
use Rattle.serde_json.specs.Data as json
use Rattle.aidl_values.specs.declared.value.Answer.{Answer}
use Rattle.aidl_values.specs.declared.value.Answer.TheVariants.{Returned, Exception}
use Rattle.wire_model.specs.Requests.{ExceptionFits, service_specific}
use Rattle.call_scripts.specs.declared.thrown.Thrown as code
use Rattle.call_scripts.specs.Answers.{Thrown, whole}

abbrev pub thrown_data : code.Thrown → Thrown
thrown_data x = record { code = x.code; message = chars x.message.now; error = x.error }

-- an error number other than 0 comes with the code -8 alone
abbrev pub IsQuiet : ℤ → ℤ → Type 0
IsQuiet code error = int_eq code service_specific ≡ false → error ≡ pos 0

abbrev pub IsException : Answer → Type 0
IsException (Returned result outs) = ⊥
IsException (Exception code message error) = ExceptionFits code message error

-- an error number stands exactly beside the code -8
abbrev pub thrown_with : ℤ → List ℕ → Option json.Data → Option Thrown
thrown_with code message None = if int_eq code service_specific then None
    else Some (record { code = code; message = chars message; error = pos 0 })
thrown_with code message (Some error) = option_and_then (λ e. if int_eq code service_specific
    then Some (record { code = code; message = chars message; error = e }) else None) (whole error)

-- by the entries of an array of two or three
abbrev pub thrown_by : json.Data → json.Data → Option json.Data → Option Thrown
thrown_by code (json.string message) error = option_and_then (λ c. thrown_with c message error) (whole code)
thrown_by code _ error = None
