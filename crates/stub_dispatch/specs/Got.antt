-- What a client makes of a reply, as the answer or a status (own).
use Rattle.std.specs.Prelude.{ℤ, Result, Ok, Err}
use Rattle.aidl_values.specs.View.{views}
use Rattle.wire_model.specs.Calls.{AnswerData, returned, exception, optional_view}
use Rattle.stub_dispatch.specs.declared.replies.Got.{Got}
use Rattle.stub_dispatch.specs.declared.replies.Got.TheVariants.{Returned, Exception, Failed}

-- the answer, or the status of the first wrong item
abbrev pub got_of : Got → Result AnswerData ℤ
got_of (Returned result outs) = Ok (returned (optional_view result) (views outs))
got_of (Exception code message error) = Ok (exception code message error)
got_of (Failed status) = Err status
