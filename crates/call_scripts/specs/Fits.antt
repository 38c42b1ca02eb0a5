-- Which answers fit a method.
use Rattle.std.specs.Prelude.{List, Option}
use Rattle.aidl_schema.specs.declared.schema.AidlType.{AidlType}
use Rattle.aidl_schema.specs.declared.schema.Decl.{Decl}
use Rattle.aidl_values.specs.View.{views}
use Rattle.aidl_values.specs.declared.value.Answer.{Answer}
use Rattle.aidl_values.specs.declared.value.Answer.TheVariants.{Returned, Exception}
use Rattle.wire_model.specs.Calls.{optional_view}
use Rattle.wire_model.specs.Requests.{EachFits, ExceptionFits, ResultFits}

-- an exception, or a result of this type and outs of these
abbrev pub IsAnswerOf : List Decl → Option AidlType → List AidlType → Answer → Type 0
IsAnswerOf S t ts (Returned result outs) = ResultFits S t (optional_view result) × EachFits S ts (views outs)
IsAnswerOf S t ts (Exception code message error) = ExceptionFits code message error
