-- The data that an `Answer` stands for.
use Rattle.std.specs.Prelude.{ℕ, ℤ, List, Option, Some, None}
use Rattle.aidl_values.specs.Data.{Data, Items}
use Rattle.aidl_values.specs.View.{view, views}
use Rattle.aidl_values.specs.declared.value.Value.{Value}
use Rattle.aidl_values.specs.declared.value.Answer.{Answer}
use Rattle.aidl_values.specs.declared.value.Answer.TheVariants.{Returned, Exception}

-- what a handler answers, and what a client makes of its reply; of an answer that fits, and of what a client reads,
-- `error` is 0 unless the code is that of a service's own exception
pub data AnswerData : Type 0 where
  returned : (result : Option Data) → (outs : Items) → AnswerData
  exception : (code : ℤ) → (message : List ℕ) → (error : ℤ) → AnswerData

abbrev pub optional_view : Option Value → Option Data
optional_view None = None
optional_view (Some v) = Some (view v)

-- the data of an `Answer`
abbrev pub answer_of : Answer → AnswerData
answer_of (Returned result outs) = returned (optional_view result) (views outs)
answer_of (Exception code message error) = exception code message error
