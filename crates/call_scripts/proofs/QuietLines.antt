-- Nothing is answered of a oneway method by any line.
use Rattle.std.proofs.Common.{◌≡◌, ℕ, Bool, true, false, nat_le, List, [], length, Option, Some, None, Ok, Err, IfOk, refl, subst}
use Rattle.std.specs.Prelude.{codes}
use Rattle.serde_json.specs.Data as json
use Rattle.serde_json.specs.Find.{get_member}
use Rattle.aidl_schema.specs.declared.schema.Decl.{Decl}
use Rattle.aidl_values.specs.Data.{Items, none}
use Rattle.json_values.specs.JsonText.{parsed_json}
use Rattle.wire_model.specs.Calls.{AnswerData, returned, is_oneway}
use Rattle.wire_model.specs.MethodOf.{method_of}
use Rattle.wire_model.specs.Requests.{reply}
use Rattle.call_scripts.specs.Answers.{all_known, answer_from, oneway_from, unknown_in}
use Rattle.call_scripts.specs.Calls.{CallData}
use Rattle.call_scripts.specs.EveryCall.{LinesAreQuiet, OnewayIsQuiet}
use Rattle.call_scripts.specs.Names.{Named}
use Rattle.call_scripts.specs.Refusal.{Judged, ◌>>=◌, at_answer, unless}
use Rattle.call_scripts.specs.Script.{answered, call_from, line_keys, members_of, named_from, or_refuse, script, sent_from, target_from}
use Rattle.call_scripts.specs.declared.refused.RefusedName.TheVariants.{NotJson, TooLarge}
use Rattle.call_scripts.proofs.Fitting.{goes_on, passing, weaken}

-- a call of which this is so
abbrev IsQuietCall : List Decl → CallData → Type 0
IsQuietCall B c = OnewayIsQuiet B c.server c.target

module _ (B : List Decl) where
  abbrev IsQuietAnswer : ℕ → ℕ → AnswerData → Type 0
  IsQuietAnswer j k a = is_oneway (method_of B j k) ≡ true → a ≡ returned None none

  nothing : (o : Option json.Data) → IfOk (oneway_from o) (λ a. a ≡ returned None none)
  nothing None = refl
  nothing (Some j) = tt

  answer_case : (b : Bool) (j k : ℕ) (o : Option json.Data) → is_oneway (method_of B j k) ≡ b → IfOk (answer_from (method_of B j k) o) (IsQuietAnswer j k)
  answer_case true j k o is = rw is (weaken (λ a. a ≡ returned None none) (IsQuietAnswer j k) (oneway_from o) (λ a e so. e) (nothing o))
  answer_case false j k o is = each (answer_from (method_of B j k) o)
    where
      each : (r : Judged AnswerData) → IfOk r (IsQuietAnswer j k)
      each (Ok a) = λ so. cc
      each (Err e) = tt

  answered_quiet : (j k : ℕ) (o : Option json.Data) → IfOk (answered (method_of B j k) o) (λ t. OnewayIsQuiet B (Some j) (Some t))
  unfolding answered
  answered_quiet j k o =
      goes_on (IsQuietAnswer j k) (λ t. OnewayIsQuiet B (Some j) (Some t)) (answer_from (method_of B j k) o)
      (λ answer. unless (nat_le (length (reply (method_of B j k) answer)) 1048576) TooLarge at_answer >>= (λ small. Ok (record { method = k; answer = answer })))
      (answer_case (is_oneway (method_of B j k)) j k o refl)
      (λ answer quiet. passing (λ t. OnewayIsQuiet B (Some j) (Some t)) (unless (nat_le (length (reply (method_of B j k) answer)) 1048576) TooLarge at_answer) (λ small. Ok (record { method = k; answer = answer })) (λ small. quiet))

  target_quiet : (server target : Option ℕ) (o : Option json.Data) → IfOk (target_from B server target o) (λ t. OnewayIsQuiet B server t)
  target_quiet (Some j) (Some k) o =
      goes_on (λ t. OnewayIsQuiet B (Some j) (Some t)) (λ t. OnewayIsQuiet B (Some j) t) (answered (method_of B j k) o) (λ t. Ok (Some t)) (answered_quiet j k o) (λ t quiet. quiet)
  target_quiet (Some j) None o = tt
  target_quiet None target o = tt

module _ (A B : List Decl) where
  module _ (ms : json.Members) where
    abbrev with_args : Named → Items → Judged CallData
    with_args n args = target_from B n.server n.target (get_member (codes "answer") ms)
        >>= (λ target. Ok (record { interface = n.interface; method = n.method; args = args; server = n.server; target = target }))

    abbrev with_name : Named → Judged CallData
    with_name n = sent_from (method_of A n.interface n.method) (get_member (codes "args") ms) >>= with_args n

    named_quiet : (n : Named) → IfOk (with_name n) (IsQuietCall B)
    named_quiet n =
        passing (IsQuietCall B) (sent_from (method_of A n.interface n.method) (get_member (codes "args") ms)) (with_args n)
        (λ args. goes_on (λ t. OnewayIsQuiet B n.server t) (IsQuietCall B) (target_from B n.server n.target (get_member (codes "answer") ms))
        (λ target. Ok (record { interface = n.interface; method = n.method; args = args; server = n.server; target = target }))
        (target_quiet B n.server n.target (get_member (codes "answer") ms)) (λ target quiet. quiet))

    call_quiet : IfOk (call_from A B ms) (IsQuietCall B)
    unfolding call_from
    call_quiet =
        passing (IsQuietCall B) (all_known [] (unknown_in line_keys ms)) (λ known. named_from A B (get_member (codes "call") ms) >>= with_name)
        (λ known. passing (IsQuietCall B) (named_from A B (get_member (codes "call") ms)) with_name named_quiet)

  line_quiet : (line : List ℕ) → IfOk (script A B line) (IsQuietCall B)
  unfolding script
  line_quiet line =
      passing (IsQuietCall B) (or_refuse NotJson [] (parsed_json line)) (λ j. members_of j >>= (λ ms. call_from A B ms))
      (λ j. passing (IsQuietCall B) (members_of j) (λ ms. call_from A B ms) call_quiet)

  pub lines_are_quiet : LinesAreQuiet A B
  lines_are_quiet line c is = subst (λ r. IfOk r (IsQuietCall B)) is (line_quiet line)
