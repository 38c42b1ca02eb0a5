-- What a stub makes of a request, as what is received or a status (own).
use Rattle.std.specs.Prelude.{ℤ, Result, Ok, Err}
use Rattle.aidl_values.specs.View.{views}
use Rattle.wire_model.specs.Receiver.{Received, left, called}
use Rattle.stub_dispatch.specs.declared.receiving.Receipt.{Receipt}
use Rattle.stub_dispatch.specs.declared.receiving.Receipt.TheVariants.{Refused, Left, Called}

-- what is received, or the status of the refusal
abbrev pub receipt_of : Receipt → Result Received ℤ
receipt_of (Refused status) = Err status
receipt_of (Left method) = Ok (left method)
receipt_of (Called method saw) = Ok (called method (views saw))
