-- What a call is projected to, phrase by phrase: where the receiver lacks something, and where it has all.
use Rattle.std.proofs.Common.{◌≡◌, ℕ, Bool, true, false, cond, ◌||◌, List, Option, Some, None, Ok, Err, refl, inl, inr, sym, ap, ◌∙◌, subst}
use Rattle.std.specs.Prelude.{◌⊎◌, Result, ℤ, is_none}
use Rattle.aidl_schema.specs.declared.schema.Decl.{Decl}
use Rattle.aidl_values.specs.Data.{Data, Items}
use Rattle.aidl_tool.specs.Between.{HasSeen, LacksMethod}
use Rattle.call_runner.specs.Lines.{LineData, done, transport}
use Rattle.call_runner.specs.Runs.{answer_by, projected, seen_line}
use Rattle.call_scripts.specs.Calls.{CallData, callee}
use Rattle.wire_model.specs.Calls.{AnswerData, returned, arguments, is_oneway, out_types, result_type}
use Rattle.wire_model.specs.MethodOf.{method_of}
use Rattle.wire_model.specs.Outcome.{Reaches, outcome, seen_answer, seen_call, view_arguments, view_result, view_values}
use Rattle.wire_model.specs.Outcome as calls
use Rattle.wire_model.specs.Status.{bad_value, unknown_transaction}

-- what is there, by the test whether nothing is
pub nothing : {X : Type 0} (o : Option X) → is_none o ≡ true → o ≡ None
nothing None e = refl
nothing (Some x) e = cc

pub something : {X : Type 0} (o : Option X) → is_none o ≡ false → (x : X) × (o ≡ Some x)
something None e = cc
something (Some x) e = (x, refl)

-- of two
pub one_missing : {X Y : Type 0} (o : Option X) (r : Option Y) → (is_none o || is_none r) ≡ true → (o ≡ None) ⊎ (r ≡ None)
one_missing None r e = inl refl
one_missing (Some x) None e = inr refl
one_missing (Some x) (Some y) e = cc

pub both_there : {X Y : Type 0} (o : Option X) (r : Option Y) → (is_none o || is_none r) ≡ false → (x : X) × (y : Y) × (o ≡ Some x) × (r ≡ Some y)
both_there None r e = cc
both_there (Some x) None e = cc
both_there (Some x) (Some y) e = (x, y, refl, refl)

module _ (A B : List Decl) (c : CallData) where
  pub unknown_method : LacksMethod A B c → projected A B (Ok c) ≡ transport unknown_transaction
  unfolding outcome seen_call
  unknown_method (inl none) = rw none refl
  unknown_method (inr lacks) = rw (lacks.1, lacks.2) refl

  module _ (j n : ℕ) (there : Reaches (callee A c) (method_of B j n)) where
    pub unviewed : view_arguments A (arguments (callee A c)) B (arguments (method_of B j n)) c.args ≡ None → projected A B (Ok c) ≡ transport bad_value
    unfolding outcome seen_call
    unviewed none = rw (there.0, there.1, none) refl

    -- what is seen, and by whether the method is oneway what the client has
    abbrev seen_by : Items → Bool → LineData
    seen_by saw way = seen_line (Ok (cond way (calls.oneway saw) (calls.done saw (seen_answer (method_of B j n) (callee A c) (answer_by c.target)))))

    with_views : (saw : Items) → view_arguments A (arguments (callee A c)) B (arguments (method_of B j n)) c.args ≡ Some saw → projected A B (Ok c) ≡ seen_by saw (is_oneway (method_of B j n))
    unfolding outcome seen_call
    with_views saw seen = rw (there.0, there.1, seen) refl

    seen_any : (saw : Items) (way : Bool) → HasSeen (seen_by saw way) saw
    seen_any saw true = refl
    seen_any saw false = refl

    pub has_seen : (saw : Items) → view_arguments A (arguments (callee A c)) B (arguments (method_of B j n)) c.args ≡ Some saw → HasSeen (projected A B (Ok c)) saw
    has_seen saw seen = subst (λ out. HasSeen out saw) (sym (with_views saw seen)) (seen_any saw (is_oneway (method_of B j n)))

    module _ (saw : Items) (seen : view_arguments A (arguments (callee A c)) B (arguments (method_of B j n)) c.args ≡ Some saw) (two_way : is_oneway (method_of B j n) ≡ false)
        (result : Option Data) (outs : Items) (answered : answer_by c.target ≡ returned result outs) where
      abbrev done_by : Result AnswerData ℤ → LineData
      done_by got = done (Some saw) got

      comes : projected A B (Ok c) ≡ done_by (seen_answer (method_of B j n) (callee A c) (returned result outs))
      comes = with_views saw seen ∙ ap (seen_by saw) two_way ∙ ap (λ a. done_by (seen_answer (method_of B j n) (callee A c) a)) answered

      unseen : (first : Option (Option Data)) → view_result B (result_type (method_of B j n)) A (result_type (callee A c)) result ≡ first
          → (view_result B (result_type (method_of B j n)) A (result_type (callee A c)) result ≡ None) ⊎ (view_values B (out_types (method_of B j n)) A (out_types (callee A c)) outs ≡ None)
          → seen_answer (method_of B j n) (callee A c) (returned result outs) ≡ Err bad_value
      unseen None e h = rw e refl
      unseen (Some r) e (inl h) = cc
      unseen (Some r) e (inr h) = rw (e, h) refl

      pub unknown_answered : (view_result B (result_type (method_of B j n)) A (result_type (callee A c)) result ≡ None)
          ⊎ (view_values B (out_types (method_of B j n)) A (out_types (callee A c)) outs ≡ None) → projected A B (Ok c) ≡ done (Some saw) (Err bad_value)
      unknown_answered h = comes ∙ ap done_by (unseen _ refl h)

      pub known_answered : (r : Option Data) (vs : Items) → view_result B (result_type (method_of B j n)) A (result_type (callee A c)) result ≡ Some r
          → view_values B (out_types (method_of B j n)) A (out_types (callee A c)) outs ≡ Some vs → projected A B (Ok c) ≡ done (Some saw) (Ok (returned r vs))
      known_answered r vs e h = comes ∙ ap done_by (rw (e, h) refl)
