-- What comes of a call is what the server's stub makes of its request, and the client of the reply.
use Rattle.std.proofs.Common.{inl, inr, ◌≡◌, ℕ, ℤ, true, false, cond, List, Option, Some, None, Result, Ok, Err, refl, ap, ◌∙◌}
use Rattle.aidl_base.specs.Readings.{◌>>=◌}
use Rattle.aidl_schema.specs.declared.schema.Decl.{Decl}
use Rattle.aidl_schema.specs.Find.{methods_at}
use Rattle.aidl_values.specs.Data.{Items}
use Rattle.wire_model.specs.Calls.{AnswerData, descriptor, method_at, arguments, is_oneway}
use Rattle.wire_model.specs.MethodOf.{method_of}
use Rattle.wire_model.specs.Outcome.{OneFollows, declared_as, method_like, view_arguments, seen_call, received_call, seen_answer, Done, oneway, done, outcome}
use Rattle.wire_model.specs.Receiver.{Received, left, called, or_status}
use Rattle.wire_model.specs.Status.{bad_value, unknown_transaction}
use Rattle.wire_model.proofs.lemmas.received.Steps.{taken}

pub turned : (A B : List Decl) → OneFollows A B → OneFollows B A
turned A B (inl none) = inr none
turned A B (inr none) = inl none

module _ (A : List Decl) (i m : ℕ) (B : List Decl) (args : Items) (answer : AnswerData) where
  -- what follows the server's interface, and what its method sees
  abbrev then_interface : Result ℕ ℤ → Result Done ℤ
  then_interface x = x >>= λ j. seen_call (method_of A i m) B j args >>= λ seen. Ok (cond (is_oneway (method_of B j seen.0)) (oneway seen.1) (done seen.1 (seen_answer (method_of B j seen.0) (method_of A i m) answer)))

  abbrev then_seen : ℕ → Result (ℕ × Items) ℤ → Result Done ℤ
  then_seen j x = x >>= λ seen. Ok (cond (is_oneway (method_of B j seen.0)) (oneway seen.1) (done seen.1 (seen_answer (method_of B j seen.0) (method_of A i m) answer)))

  abbrev as_called : Result (ℕ × Items) ℤ → Result Received ℤ
  as_called x = x >>= λ y. Ok (called y.0 y.1)

  -- The server lacks the interface.
  pub nowhere : declared_as B (descriptor A i) ≡ None → outcome (method_of A i m) B args answer ≡ Err unknown_transaction
  unfolding outcome
  nowhere none = ap (λ o. then_interface (or_status unknown_transaction o)) none

  module _ (j : ℕ) (found : declared_as B (descriptor A i) ≡ Some j) where
    whole : outcome (method_of A i m) B args answer ≡ then_seen j (seen_call (method_of A i m) B j args)
    unfolding outcome
    whole = ap (λ o. then_interface (or_status unknown_transaction o)) found

    -- by what the server's method sees
    pub refused : (s : ℤ) → received_call (method_of A i m) B j args ≡ Err s → outcome (method_of A i m) B args answer ≡ Err s
    refused s e = by_seen (seen_call (method_of A i m) B j args) refl e
      where
        by_seen : (x : Result (ℕ × Items) ℤ) → seen_call (method_of A i m) B j args ≡ x → as_called x ≡ Err s → outcome (method_of A i m) B args answer ≡ Err s
        by_seen (Ok y) is e = cc
        by_seen (Err r) is e =
            let same : r ≡ s = cc in
            whole ∙ ap (then_seen j) is ∙ ap (λ z. let x : Result Done ℤ = Err z in x) same

    pub never_left : (n : ℕ) → received_call (method_of A i m) B j args ≡ Ok (left n) → ⊥
    never_left n e = by_seen (seen_call (method_of A i m) B j args) e
      where
        by_seen : (x : Result (ℕ × Items) ℤ) → as_called x ≡ Ok (left n) → ⊥
        by_seen (Ok y) e = let same : called y.0 y.1 ≡ left n = cc in absurd cc
        by_seen (Err r) e = let wrong : ◌≡◌ {A = Result Received ℤ} (Err r) (Ok (left n)) = e in absurd cc

    -- the method n is called, and sees these values
    module _ (n : ℕ) (saw : Items) (e : received_call (method_of A i m) B j args ≡ Ok (called n saw)) where
      seen_is : seen_call (method_of A i m) B j args ≡ Ok (n, saw)
      seen_is = by_seen (seen_call (method_of A i m) B j args) refl e
        where
          by_seen : (x : Result (ℕ × Items) ℤ) → seen_call (method_of A i m) B j args ≡ x → as_called x ≡ Ok (called n saw) → seen_call (method_of A i m) B j args ≡ Ok (n, saw)
          by_seen (Err r) is e = cc
          by_seen (Ok y) is e =
              let method : y.0 ≡ n = cc in
              let values : y.1 ≡ saw = cc in
              is ∙ ap (λ k. let x : Result (ℕ × Items) ℤ = Ok (k, y.1) in x) method ∙ ap (λ vs. let x : Result (ℕ × Items) ℤ = Ok (n, vs) in x) values

      pub outcome_is : outcome (method_of A i m) B args answer ≡ Ok (cond (is_oneway (method_of B j n)) (oneway saw) (done saw (seen_answer (method_of B j n) (method_of A i m) answer)))
      outcome_is = whole ∙ ap (then_seen j) seen_is

      -- it is the method of the same name
      pub like : method_like (method_at (method_of A i m)) (methods_at B j) ≡ Some n
      unfolding seen_call
      like =
          let place = method_like (method_at (method_of A i m)) (methods_at B j) in
          let one = taken (or_status unknown_transaction place) (λ k. or_status bad_value (view_arguments A (arguments (method_of A i m)) B (arguments (method_of B j k)) args) >>= λ vs. let y : Result (ℕ × Items) ℤ = Ok (k, vs) in y) (n, saw) seen_is in
          let two = taken (or_status bad_value (view_arguments A (arguments (method_of A i m)) B (arguments (method_of B j one.0)) args)) (λ vs. let y : Result (ℕ × Items) ℤ = Ok (one.0, vs) in y) (n, saw) one.2 in
          by_place place one.0 one.1 (method two.0 one.0 two.2)
        where
          method : (vs : Items) (k : ℕ) → ◌≡◌ {A = Result (ℕ × Items) ℤ} (Ok (k, vs)) (Ok (n, saw)) → k ≡ n
          method vs k e = let pair : ◌≡◌ {A = ℕ × Items} (k, vs) (n, saw) = cc in ap (λ (q : ℕ × Items). q.0) pair

          by_place : (o : Option ℕ) (k : ℕ) → or_status unknown_transaction o ≡ Ok k → k ≡ n → o ≡ Some n
          by_place None k e same = cc
          by_place (Some h) k e same = let one : h ≡ k = cc in ap (λ z. let o : Option ℕ = Some z in o) (one ∙ same)

      pub oneway_outcome : is_oneway (method_of B j n) ≡ true → outcome (method_of A i m) B args answer ≡ Ok (oneway saw)
      oneway_outcome one = outcome_is ∙ rw one refl

      pub done_outcome : is_oneway (method_of B j n) ≡ false → outcome (method_of A i m) B args answer ≡ Ok (done saw (seen_answer (method_of B j n) (method_of A i m) answer))
      done_outcome two = outcome_is ∙ rw two refl
