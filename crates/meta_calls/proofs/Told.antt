-- What is answered by *MetaStub*: where something is told, and of every other code.
use Rattle.std.proofs.Common.{◌≡◌, ℕ, ℤ, ◌++◌, pos, List, Option, Some, None, option_map, Result, Ok, Err, IfOk, subst}
use Rattle.std.specs.Borrow.{Bor}
use Rattle.aidl_base.specs.Words.{word}
use Rattle.aidl_base.specs.declared.memory.OutOfMemory.{OutOfMemory}
use Rattle.aidl_base.specs.declared.profile.Profile.TheVariants.{Strict}
use Rattle.aidl_schema.specs.declared.schema.Decl.{Decl}
use Rattle.aidl_values.specs.declared.value.Answer.{Answer}
use Rattle.aidl_values.specs.declared.value.Value.{Value}
use Rattle.meta_calls.specs.MetaAnswers.{MetaAnswers}
use Rattle.meta_calls.specs.steps.Told.{told_answer}
use Rattle.stub_dispatch.specs.Answers.{Answers}
use Rattle.stub_dispatch.specs.declared.answered.Answered.{Answered}
use Rattle.wire_model.specs.Calls.{descriptor}
use Rattle.wire_model.specs.MetaStub.{inner, meta_by, own, own_reply}
use Rattle.wire_model.specs.ReadOf.{◌>>=◌}
use Rattle.wire_model.specs.Receiver.{Received, stub, token_at}

-- the whole reply that tells an item
abbrev pub whole_reply : List ℕ → List ℕ
whole_reply item = word (pos 0) ++ item

-- what is answered for each item that the reply may tell, by the declarations S
abbrev AnswersItem : List ℕ → List Decl → ℕ → List ℕ → Result Answered OutOfMemory → Type 0
AnswersItem b S i whole r = (item : List ℕ) → whole ≡ whole_reply item → IfOk r (λ a. a ≡ told_answer S i item (token_at Strict (descriptor S i) b))

module _ {E : Type 0} (post : ℕ → Bor (List Value) → Result Answer E → Type 0) (S : List Decl) (i : ℕ) where
  told_is : (item : List ℕ) (a : Answered) (r : Result (List ℕ) ℤ) → a ≡ told_answer S i item r → MetaAnswers post S i a (r >>= λ rest. Ok (own (own_reply S i item rest)))
  told_is item a (Err status) h = h
  told_is item a (Ok rest) h = h

  inner_is : (a : Answered) (r : Result Received ℤ) → Answers post S i a r → MetaAnswers post S i a (r >>= λ x. Ok (inner x))
  inner_is a (Err status) h = h
  inner_is a (Ok x) h = h

  module _ (code : ℕ) (b : List ℕ) where
    abbrev IsMeta : Option (List ℕ) → Result Answered OutOfMemory → Type 0
    IsMeta told r = IfOk r (λ a. MetaAnswers post S i a (meta_by S i code b told))

    by_told : (item : List ℕ) (r : Result Answered OutOfMemory) → IfOk r (λ a. a ≡ told_answer S i item (token_at Strict (descriptor S i) b)) → IsMeta (Some item) r
    by_told item (Ok a) h = told_is item a (token_at Strict (descriptor S i) b) h
    by_told item (Err fault) h = tt

    by_inner : (r : Result Answered OutOfMemory) → IfOk r (λ a. Answers post S i a (stub Strict S i code b)) → IsMeta None r
    by_inner (Ok a) h = inner_is a (stub Strict S i code b) h
    by_inner (Err fault) h = tt

    -- where there is a reply, the code tells an item, and that is what is answered
    pub meta_told : (T : List Decl) (j : ℕ) (r : Result Answered OutOfMemory) → T ≡ S → j ≡ i → (told : Option (List ℕ)) (whole : List ℕ) → Some whole ≡ option_map whole_reply told
        → AnswersItem b T j whole r → IsMeta told r
    meta_told T j r decls interface None whole e answers = absurd cc
    meta_told T j r decls interface (Some item) whole e answers =
        by_told item r (subst (λ k. AnswersItem b S k whole r) interface (subst (λ U. AnswersItem b U j whole r) decls answers) item cc)

    -- where there is none, the service inside answers
    pub meta_inner : (r : Result Answered OutOfMemory) (told : Option (List ℕ)) → None ≡ option_map whole_reply told
        → IfOk r (λ a. Answers post S i a (stub Strict S i code b)) → IsMeta told r
    meta_inner r None e answers = by_inner r answers
    meta_inner r (Some item) e answers = absurd cc
