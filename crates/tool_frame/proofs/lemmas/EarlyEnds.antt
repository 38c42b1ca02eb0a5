-- A step that ends early ends the command.
use Rattle.std.proofs.Common.{◌≡◌, Ok, Err, sym, subst}
use Rattle.std.specs.Prelude.{Result}
use Rattle.tool_frame.specs.declared.printed.Early.{Early}
use Rattle.tool_frame.specs.declared.printed.Early.TheVariants.{Answered, OutOfMemory}
use Rattle.tool_frame.specs.Answer.{Answer, Found, Then, ◌>>=◌}
use Rattle.tool_frame.specs.declared.printed.Printed.{Printed}
use Rattle.tool_frame.specs.Results.{EndsAs, Finds, GivesOne}

pub ends_there : {T A : Type 0} (view : T → A) (early : Early) (found : Found A) (next : A → Answer) → Finds view (Err early) found → EndsAs early (found >>= next)
ends_there view (Answered p) (Ok x) next h = absurd (cc)
ends_there view (Answered p) (Err answer) next h = cc
ends_there view OutOfMemory found next h = tt

-- the same where several answers may follow
pub then_ends : {T A : Type 0} (view : T → A) (early : Early) (found : Found A) (next : A → Answer → Type 0) → Finds view (Err early) found → GivesOne (Err early) (Then found next)
then_ends view (Answered p) (Ok x) next h = absurd (cc)
then_ends view (Answered p) (Err answer) next h = cc
then_ends view OutOfMemory found next h = tt

-- a step that was found
pub then_goes : {A : Type 0} (given : Result Printed Early) (found : Found A) (x : A) (next : A → Answer → Type 0) → found ≡ Ok x → GivesOne given (next x) → GivesOne given (Then found next)
then_goes given found x next e h = subst (λ f. GivesOne given (Then f next)) (sym e) h
