-- What a service answers whose handler answers `not scripted`, and what is printed of it.
use Rattle.std.proofs.Common.{◌≡◌, ℕ, ℤ, pos, List, Option, Some, None, Result, Ok, Err, refl, sym, ap, ◌∙◌, subst}
use Rattle.std.specs.Prelude.{IfOk, codes}
use Rattle.std.specs.Borrow.{Bor}
use Rattle.aidl_base.specs.declared.memory.OutOfMemory.{OutOfMemory}
use Rattle.aidl_base.specs.declared.profile.Profile.TheVariants.{Strict}
use Rattle.aidl_schema.specs.declared.schema.Decl.{Decl}
use Rattle.aidl_schema.specs.Find.{methods_at, position_of_code}
use Rattle.aidl_values.specs.Data.{Items}
use Rattle.aidl_values.specs.View.{views}
use Rattle.aidl_values.specs.declared.value.Answer.{Answer}
use Rattle.aidl_values.specs.declared.value.Value.{Value}
use Rattle.ask_command.specs.Asked.{lines, meta_text}
use Rattle.ask_command.specs.steps.Answered.{AnswersReceived, IsAnswered, IsSeenBy, answered_text, saw_of}
use Rattle.meta_calls.specs.MetaAnswers.{MetaAnswers}
use Rattle.run_command.specs.LineText.{values_text}
use Rattle.stub_dispatch.specs.Answers.{Answers}
use Rattle.stub_dispatch.specs.Sent.{sent_reply}
use Rattle.stub_dispatch.specs.Unscripted.{not_scripted}
use Rattle.stub_dispatch.specs.declared.answered.Answered.{Answered}
use Rattle.wire_model.specs.Calls.{AnswerData, answer_of, arguments, descriptor}
use Rattle.wire_model.specs.MetaStub.{MetaReceived, inner, meta_by, own, own_reply}
use Rattle.wire_model.specs.MethodOf.{method_of}
use Rattle.wire_model.specs.ReadOf.{◌>>=◌}
use Rattle.wire_model.specs.Receiver.{Received, left, called, stub, token_at}
use Rattle.wire_model.specs.Typed.{AreArguments, types_of}

module _ {E : Type 0} (post : ℕ → Bor (List Value) → Result Answer E → Type 0) (S : List Decl) (i : ℕ) (a : Answered)
    (says : (m : ℕ) (args : Bor (List Value)) (answer : Answer) → post m args (Ok answer) → answer_of answer ≡ not_scripted) where
  received : (r : Received) → Answers post S i a (Ok r) → AnswersReceived S i r a
  received (left m) h = h
  received (called m saw) h =
      let values = h.0 in
      let call = h.2 in
      let replied : AnswerData → Answered = λ x. record { transport = pos 0; saw = Some values; reply = sent_reply (method_of S i m) x } in
      (values, h.1, call.4 ∙ ap replied (says m call.0 call.1 call.3))

  pub answers : (r : Result MetaReceived ℤ) → MetaAnswers post S i a r → IsAnswered S i r a
  answers (Err status) h = h
  answers (Ok (own sent)) h = h
  answers (Ok (inner x)) h = received x h

module _ (S : List Decl) (i code : ℕ) (b : List ℕ) where
  -- the method that is called has the code
  abbrev IsCoded : Type 0
  IsCoded = (m : ℕ) (saw : Items) → stub Strict S i code b ≡ Ok (called m saw) → position_of_code (methods_at S i) code ≡ Some m

  -- its arguments have their types
  abbrev IsTyped : Type 0
  IsTyped = (m : ℕ) (saw : Items) → stub Strict S i code b ≡ Ok (called m saw) → AreArguments (method_of S i m) saw

  -- nothing was seen
  unseen : (o : Option (List Value)) → o ≡ None → IsSeenBy S i code o
  unseen None e = tt
  unseen (Some values) e = absurd cc

  unseen_text : (m : Option ℕ) → saw_of S i m None ≡ codes "null"
  unseen_text None = refl
  unseen_text (Some m) = refl

  abbrev text_of : Answered → List ℕ
  text_of a = answered_text S i code a

  -- what a stub received, as what the service did
  abbrev as_inner : Result Received ℤ → Result MetaReceived ℤ
  as_inner x = x >>= λ received. Ok (inner received)

  -- what stands behind the token, as a reply of its own
  abbrev as_own : List ℕ → Result (List ℕ) ℤ → Result MetaReceived ℤ
  as_own item x = x >>= λ rest. Ok (own (own_reply S i item rest))

  seen_received : (a : Answered) (r : Result Received ℤ) → stub Strict S i code b ≡ r → IsTyped → IsCoded → IsAnswered S i (as_inner r) a → IsSeenBy S i code a.saw
  seen_received a (Err status) is typed coded h = unseen a.saw (ap (λ (x : Answered). x.saw) h)
  seen_received a (Ok (left m)) is typed coded h = unseen a.saw (ap (λ (x : Answered). x.saw) h)
  seen_received a (Ok (called m saw)) is typed coded h =
      let values = h.0 in
      subst (λ (x : Answered). IsSeenBy S i code x.saw) (sym h.2) (m, coded m saw is, subst (λ vs. AreArguments (method_of S i m) vs) (sym h.1) (typed m saw is))

  seen_own : (item : List ℕ) (a : Answered) (r : Result (List ℕ) ℤ) → IsAnswered S i (as_own item r) a → IsSeenBy S i code a.saw
  seen_own item a (Err status) h = unseen a.saw (ap (λ (x : Answered). x.saw) h)
  seen_own item a (Ok rest) h = unseen a.saw (ap (λ (x : Answered). x.saw) h)

  seen_by : (told : Option (List ℕ)) (a : Answered) → IsTyped → IsCoded → IsAnswered S i (meta_by S i code b told) a → IsSeenBy S i code a.saw
  seen_by (Some item) a typed coded h = seen_own item a (token_at Strict (descriptor S i) b) h
  seen_by None a typed coded h = seen_received a (stub Strict S i code b) refl typed coded h

  pub seen : (told : Option (List ℕ)) (r : Result Answered OutOfMemory) → IsTyped → IsCoded → IfOk r (IsAnswered S i (meta_by S i code b told)) → IfOk r (λ a. IsSeenBy S i code a.saw)
  seen told (Ok a) typed coded h = seen_by told a typed coded h
  seen told (Err fault) typed coded h = tt

  -- what is printed where nothing was seen
  printed_unseen : (transport : ℤ) (reply : Option (List ℕ)) → lines transport (saw_of S i (position_of_code (methods_at S i) code) None) reply ≡ lines transport (codes "null") reply
  printed_unseen transport reply = ap (λ saw. lines transport saw reply) (unseen_text (position_of_code (methods_at S i) code))

  own_is : (item : List ℕ) (a : Answered) (r : Result (List ℕ) ℤ) → IsAnswered S i (as_own item r) a → text_of a ≡ meta_text S i (as_own item r)
  own_is item a (Err status) h = ap text_of h ∙ printed_unseen status None
  own_is item a (Ok rest) h = ap text_of h ∙ printed_unseen (pos 0) (Some (own_reply S i item rest))

  received_is : (a : Answered) (r : Result Received ℤ) → stub Strict S i code b ≡ r → IsCoded → IsAnswered S i (as_inner r) a → text_of a ≡ meta_text S i (as_inner r)
  received_is a (Err status) is coded h = ap text_of h ∙ printed_unseen status None
  received_is a (Ok (left m)) is coded h = ap text_of h ∙ printed_unseen (pos 0) _
  received_is a (Ok (called m saw)) is coded h =
      let values = h.0 in
      let reply = sent_reply (method_of S i m) not_scripted in
      ap text_of h.2
      ∙ ap (λ o. lines (pos 0) (saw_of S i o (Some (views values))) reply) (coded m saw is)
      ∙ ap (λ vs. lines (pos 0) (values_text S (types_of (arguments (method_of S i m))) vs) reply) h.1

  text_is_by : (told : Option (List ℕ)) (a : Answered) → IsCoded → IsAnswered S i (meta_by S i code b told) a → text_of a ≡ meta_text S i (meta_by S i code b told)
  text_is_by (Some item) a coded h = own_is item a (token_at Strict (descriptor S i) b) h
  text_is_by None a coded h = received_is a (stub Strict S i code b) refl coded h

  pub text_is : (told : Option (List ℕ)) (r : Result Answered OutOfMemory) → IsCoded → IfOk r (IsAnswered S i (meta_by S i code b told)) → IfOk r (λ a. answered_text S i code a ≡ meta_text S i (meta_by S i code b told))
  text_is told (Ok a) coded h = text_is_by told a coded h
  text_is told (Err fault) coded h = tt
