-- What a service answers again, and the methods by whose types it is printed.
use Rattle.std.proofs.Common.{◌≡◌, ℕ, ◌+◌, ◌==◌, ◌<◌, ℤ, pos, Bool, true, false, cond, List, length, Option, Some, None, Result, Ok, Err, refl, sym, ap, ◌∙◌, subst}
use Rattle.std.specs.Prelude.{◌≢◌}
use Rattle.std.specs.Option.{unwrap_or}
use Rattle.std.specs.Ordering.{int_eq}
use Rattle.std.proofs.lemmas.Bool.Decides.{Decides-int_eq}
use Rattle.aidl_base.proofs.lemmas.Lists.{position_within}
use Rattle.aidl_base.specs.declared.profile.Profile.TheVariants.{Strict}
use Rattle.aidl_schema.specs.declared.schema.Decl.{Decl}
use Rattle.aidl_schema.specs.declared.schema.Method.{Method}
use Rattle.aidl_schema.specs.Find.{methods_at, position_of_code}
use Rattle.aidl_values.specs.Data.{Items}
use Rattle.aidl_values.specs.View.{views}
use Rattle.aidl_values.specs.declared.value.Value.{Value}
use Rattle.call_runner.specs.declared.line.Methods.{Methods}
use Rattle.parcel_replay.specs.Replays.{IsLawful, IsLawfulRequest, IsUnscripted, Replays}
use Rattle.parcel_replay.specs.Traced.{Traced, other, not_trace, too_large, request}
use Rattle.parcel_replay.specs.declared.replaying.Replayed.{Replayed}
use Rattle.parcel_replay.specs.declared.replaying.Replayed.TheVariants.{Got}
use Rattle.stub_dispatch.specs.Answers.{Answers}
use Rattle.stub_dispatch.specs.declared.answered.Answered.{Answered}
use Rattle.wire_model.specs.Calls.{arguments}
use Rattle.wire_model.specs.MethodOf.{method_of}
use Rattle.wire_model.specs.Receiver.{Received, left, called, stub}
use Rattle.wire_model.specs.Typed.{AreArguments, types_of}
use Rattle.run_command.specs.LineText.{saw_text, values_text}
use Rattle.replay_command.specs.Replaying.{received_line, replayed_line, called_line}
use Rattle.replay_command.specs.steps.Answered.{answered_line, AreOfCode, IsSeenBy}

-- a method that a code finds is there
pub method_there : (ms : List Method) (code m : ℕ) → position_of_code ms code ≡ Some m → m < length ms
method_there ms code m e = position_within (λ v. v.id + 1 == code) ms m e

-- a status that isn't 0 decides
not_zero : (status : ℤ) (seen refused : List ℕ) → status ≢ pos 0 → cond (int_eq status (pos 0)) seen refused ≡ refused
not_zero status seen refused apart = by_test (int_eq status (pos 0)) refl
  where
    by_test : (same : Bool) → int_eq status (pos 0) ≡ same → cond same seen refused ≡ refused
    by_test true e = absurd (apart ((Decides-int_eq status (pos 0)).0 e))
    by_test false e = refl

abbrev found_in : Answered → Replayed → Answered
found_in a (Got b) = b
found_in a _ = a

module _ (S : List Decl) (i k : ℕ) (ms : Option Methods) where
  abbrev Line : Answered → Result Received ℤ → Type 0
  Line a r = answered_line S ms k a ≡ received_line S i k r

  module _ (code : ℕ) (of : AreOfCode S i code ms) where
    module _ (m : ℕ) (found : position_of_code (methods_at S i) code ≡ Some m) where
      called_by : (saw : Items) (values : List Value) → views values ≡ saw → (ns : Option Methods) → AreOfCode S i code ns
          → called_line k (saw_text S ns (Some (views values))) ≡ called_line k (values_text S (types_of (arguments (method_of S i m))) saw)
      called_by saw values same None none = let never : ◌≡◌ {A = Option ℕ} None (Some m) = sym none ∙ found in cc
      called_by saw values same (Some n) is =
          let one : n.server ≡ i = is.0 in
          let two : n.called ≡ m = ap (λ (o : Option ℕ). unwrap_or o m) (sym is.1 ∙ found) in
          ap (λ (j : ℕ). called_line k (values_text S (types_of (arguments (method_of S j n.called))) (views values))) one
          ∙ ap (λ (l : ℕ). called_line k (values_text S (types_of (arguments (method_of S i l))) (views values))) two
          ∙ ap (λ (vs : Items). called_line k (values_text S (types_of (arguments (method_of S i m))) vs)) same

      typed_by : (values : List Value) → AreArguments (method_of S i m) (views values) → (ns : Option Methods) → AreOfCode S i code ns → IsSeenBy S ns (Some values)
      typed_by values typed None none = let never : ◌≡◌ {A = Option ℕ} None (Some m) = sym none ∙ found in cc
      typed_by values typed (Some n) is =
          let one : n.server ≡ i = is.0 in
          let two : n.called ≡ m = ap (λ (o : Option ℕ). unwrap_or o m) (sym is.1 ∙ found) in
          subst (λ (l : ℕ). AreArguments (method_of S n.server l) (views values)) (sym two) (subst (λ (j : ℕ). AreArguments (method_of S j m) (views values)) (sym one) typed)

    answered_is : (a : Answered) (r : Result Received ℤ) → Answers IsUnscripted S i a r → IsLawful S i code r → Line a r
    answered_is a (Err status) is lawful = subst (λ (x : Answered). Line x (Err status)) (sym is) (not_zero status _ _ lawful)
    answered_is a (Ok (left m)) is lawful = subst (λ (x : Answered). Line x (Ok (left m))) (sym is) refl
    answered_is a (Ok (called m saw)) is lawful =
        subst (λ (x : Answered). Line x (Ok (called m saw))) (sym is.2.4) (called_by m lawful.0 saw is.0 is.1 ms of)

    seen_is : (a : Answered) (r : Result Received ℤ) → Answers IsUnscripted S i a r → IsLawful S i code r → IsSeenBy S ms a.saw
    seen_is a (Err status) is lawful = subst (λ (x : Answered). IsSeenBy S ms x.saw) (sym is) tt
    seen_is a (Ok (left m)) is lawful = subst (λ (x : Answered). IsSeenBy S ms x.saw) (sym is) tt
    seen_is a (Ok (called m saw)) is lawful =
        subst (λ (x : Answered). IsSeenBy S ms x.saw) (sym is.2.4)
        (typed_by m lawful.0 is.0 (subst (λ (vs : Items). AreArguments (method_of S i m) vs) (sym is.1) lawful.1) ms of)

  -- the line of what is got is the one of what the trace's line says
  pub got_line : (t : Traced) (a : Answered) → Replays S i t (Got a) → IsLawfulRequest S i t → ((code : ℕ) (b : List ℕ) → t ≡ request code b → AreOfCode S i code ms)
      → answered_line S ms k a ≡ replayed_line S i k t
  got_line other a is lawful of = cc
  got_line not_trace a is lawful of = cc
  got_line too_large a is lawful of = cc
  got_line (request code b) a is lawful of =
      let same : a ≡ is.0 = ap (found_in a) is.1 in
      subst (λ (x : Answered). Line x (stub Strict S i code b)) (sym same) (answered_is code (of code b refl) is.0 (stub Strict S i code b) is.2 lawful)

  -- and what the handler saw has its types
  pub got_seen : (t : Traced) (a : Answered) → Replays S i t (Got a) → IsLawfulRequest S i t → ((code : ℕ) (b : List ℕ) → t ≡ request code b → AreOfCode S i code ms) → IsSeenBy S ms a.saw
  got_seen other a is lawful of = cc
  got_seen not_trace a is lawful of = cc
  got_seen too_large a is lawful of = cc
  got_seen (request code b) a is lawful of =
      let same : a ≡ is.0 = ap (found_in a) is.1 in
      subst (λ (x : Answered). IsSeenBy S ms x.saw) (sym same) (seen_is code (of code b refl) is.0 (stub Strict S i code b) is.2 lawful)
