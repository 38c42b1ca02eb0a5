-- What a line means as a call fits, of two valid schemas (`law_script_fits`).
use Rattle.std.proofs.Common.{◌≡◌, ℕ, ◌<◌, ◌≤◌, Bool, true, false, nat_le, List, [], length, Option, Some, None, Ok, option_map, IfOk, refl, ap, ◌∙◌, subst, arith}
use Rattle.std.specs.Prelude.{IfSome, codes, option_and_then}
use Rattle.std.proofs.lemmas.Bool.Decides.{nat_tests}
use Rattle.serde_json.specs.Data as json
use Rattle.serde_json.specs.Find.{get_member}
use Rattle.aidl_base.proofs.lemmas.Lists.{position_within}
use Rattle.aidl_schema.specs.declared.schema.Decl.{Decl}
use Rattle.aidl_schema.specs.Find.{interface_named, methods_at}
use Rattle.aidl_schema.specs.Holds.{AllHold}
use Rattle.aidl_schema.specs.Names.{bytes_of}
use Rattle.aidl_schema.specs.Same.{same_text}
use Rattle.aidl_schema.specs.Sizes.{AreSteady}
use Rattle.aidl_values.specs.Data.{Items}
use Rattle.aidl_values.specs.Sound.{IsSound}
use Rattle.json_values.specs.JsonText.{parsed_json}
use Rattle.json_values.proofs.Fits.{OptionHasTexts, found_texts}
use Rattle.json_values.proofs.ParsedTexts.{parsed_texts}
use Rattle.json_values.proofs.Texts.{HasTexts, MembersHaveTexts}
use Rattle.wire_model.specs.Calls.{arguments}
use Rattle.wire_model.specs.MethodOf.{method_of}
use Rattle.wire_model.specs.Requests.{AnswerFits, ArgumentsFit, IsAnswer, reply, request, sum_of_lengths}
use Rattle.call_scripts.specs.Answers.{all_known, answer_from, unknown_in}
use Rattle.call_scripts.specs.Arguments.{args_from}
use Rattle.call_scripts.specs.Calls.{CallData, CallFits, IsServer, TargetData, TargetFits, method_of_server}
use Rattle.call_scripts.specs.Names.{Named, at_last_dot, method_meant, method_named, named_by, target_named}
use Rattle.call_scripts.specs.Refusal.{Judged, ◌>>=◌, at_answer, at_args, at_call, unless}
use Rattle.call_scripts.specs.Script.{answered, call_from, line_keys, members_of, named_from, or_refuse, script, sent_from, target_from, text_from}
use Rattle.call_scripts.specs.declared.refused.RefusedName.{RefusedName}
use Rattle.call_scripts.specs.declared.refused.RefusedName.TheVariants.{NotJson, TooLarge, UnknownMethod}
use Rattle.call_scripts.specs.steps.Calls.{IsSent}
use Rattle.call_scripts.specs.steps.Named.{IsWithin}
use Rattle.call_scripts.proofs.Fitting.{answer_fits, args_fit, goes_on, passing}
use Rattle.call_scripts.proofs.SameNames.{is_server, is_target, target_within}

-- a test that is passed is known behind it
tested : {Y : Type 0} (Q : Y → Type 0) (b : Bool) (at : List ℕ) (y : Y) → (b ≡ true → Q y) → IfOk (unless b TooLarge at >>= (λ small. Ok y)) Q
tested Q true at y h = h refl
tested Q false at y h = tt

small_enough : (n : ℕ) → nat_le n 1048576 ≡ true → n ≤ 1048576
small_enough n e = let le : n ≤ 1048576 = grind (arith, nat_tests) in le

found : {X : Type 0} (P : X → Type 0) (name : RefusedName) (at : List ℕ) (o : Option X) → IfSome o P → IfOk (or_refuse name at o) P
found P name at None h = tt
found P name at (Some x) h = h

-- ---- names

-- the numbers of a call
record AreNumbers (A B : List Decl) (n : Named) : Type 0 where
  pub there : n.method < length (methods_at A n.interface)
  pub server : IsServer A B n.interface n.server
  pub target : n.target ≡ method_of_server (method_of A n.interface n.method) B n.server
  pub within : IsWithin B n.server n.target

module _ (A B : List Decl) where
  abbrev numbers : List ℕ → List ℕ → ℕ → ℕ → Named
  numbers before behind_it i m = record { interface = i; method = m; server = interface_named B before; target = target_named B (interface_named B before) behind_it }

  with_method : (before behind_it : List ℕ) (i : ℕ) (o : Option ℕ) → interface_named A before ≡ Some i → method_named A i behind_it ≡ o
      → IfSome (option_map (λ m. numbers before behind_it i m) o) (AreNumbers A B)
  with_method before behind_it i None is at = tt
  with_method before behind_it i (Some m) is at = record {
    there = position_within (λ w. same_text (bytes_of w.name) behind_it) (methods_at A i) m at;
    server = is_server A B before i is;
    target = is_target A B i m behind_it (interface_named B before) at;
    within = target_within B (interface_named B before) behind_it;
  }

  with_interface : (before behind_it : List ℕ) (o : Option ℕ) → interface_named A before ≡ o
      → IfSome (option_and_then (λ i. option_map (λ m. numbers before behind_it i m) (method_named A i behind_it)) o) (AreNumbers A B)
  with_interface before behind_it None is = tt
  with_interface before behind_it (Some i) is = with_method before behind_it i (method_named A i behind_it) is refl

  cut_fits : (o : Option (List ℕ × List ℕ)) → IfSome (option_and_then (λ p. named_by A B p.0 p.1) o) (AreNumbers A B)
  cut_fits None = tt
  cut_fits (Some p) = with_interface p.0 p.1 (interface_named A p.0) refl

  named_fits : (o : Option json.Data) → IfOk (named_from A B o) (AreNumbers A B)
  named_fits o =
      passing (AreNumbers A B) (text_from o) (λ text. or_refuse UnknownMethod at_call (method_meant A B text))
      (λ text. found (AreNumbers A B) UnknownMethod at_call (method_meant A B text) (cut_fits (at_last_dot text)))

-- SERVER's method's number, and its answer
abbrev IsTargetOf : List Decl → ℕ → ℕ → TargetData → Type 0
IsTargetOf S j k t = (t.method ≡ k) × AnswerFits (method_of S j t.method) t.answer

-- the method of these numbers where it is there, and its answer
abbrev IsTargetAs : List Decl → Option ℕ → Option ℕ → Option TargetData → Type 0
IsTargetAs S server target t = (option_map (λ (x : TargetData). x.method) t ≡ target) × TargetFits S server t

module _ (S : List Decl) (hold : AllHold S) (sound : IsSound S) (steady : AreSteady S) where
  sent_fits : (i m : ℕ) (o : Option json.Data) → OptionHasTexts o → IfOk (sent_from (method_of S i m) o) (IsSent (method_of S i m))
  unfolding sent_from
  sent_fits i m o texts =
      goes_on (λ vs. ArgumentsFit S (arguments (method_of S i m)) vs × (sum_of_lengths (arguments (method_of S i m)) vs ≤ 65536)) (IsSent (method_of S i m)) (args_from S (arguments (method_of S i m)) o)
      (λ args. unless (nat_le (length (request (method_of S i m) args)) 1048576) TooLarge at_args >>= (λ small. Ok args)) (args_fit S hold sound steady (arguments (method_of S i m)) o texts)
      (λ args fit. tested (IsSent (method_of S i m)) (nat_le (length (request (method_of S i m) args)) 1048576) at_args args
      (λ is. record { fit = record { each = fit.0; few = fit.1 }; small = small_enough (length (request (method_of S i m) args)) is }))

  answered_fits : (j k : ℕ) (o : Option json.Data) → OptionHasTexts o → IfOk (answered (method_of S j k) o) (IsTargetOf S j k)
  unfolding answered
  answered_fits j k o texts =
      goes_on (IsAnswer (method_of S j k)) (IsTargetOf S j k) (answer_from (method_of S j k) o)
      (λ answer. unless (nat_le (length (reply (method_of S j k) answer)) 1048576) TooLarge at_answer >>= (λ small. Ok (record { method = k; answer = answer }))) (answer_fits S hold sound steady j k o texts)
      (λ answer fits. tested (IsTargetOf S j k) (nat_le (length (reply (method_of S j k) answer)) 1048576) at_answer (record { method = k; answer = answer })
      (λ is. (refl, record { answer = fits; small = small_enough (length (reply (method_of S j k) answer)) is })))

  target_fits : (server target : Option ℕ) (o : Option json.Data) → IsWithin S server target → OptionHasTexts o → IfOk (target_from S server target o) (IsTargetAs S server target)
  target_fits (Some j) (Some k) o within texts =
      goes_on (IsTargetOf S j k) (IsTargetAs S (Some j) (Some k)) (answered (method_of S j k) o) (λ t. Ok (Some t)) (answered_fits j k o texts) (λ t fits. (ap Some fits.0, fits.1))
  target_fits (Some j) None o within texts = (refl, tt)
  target_fits None (Some k) o within texts = absurd within
  target_fits None None o within texts = (refl, tt)

module _ (A B : List Decl) (hold_A : AllHold A) (hold_B : AllHold B) (sound_A : IsSound A) (sound_B : IsSound B) (steady_A : AreSteady A) (steady_B : AreSteady B) where
  module _ (ms : json.Members) (texts : MembersHaveTexts ms) where
    abbrev call_of_parts : Named → Items → Option TargetData → CallData
    call_of_parts c args target = record { interface = c.interface; method = c.method; args = args; server = c.server; target = target }

    abbrev with_args : Named → Items → Judged CallData
    with_args c args = target_from B c.server c.target (get_member (codes "answer") ms) >>= (λ target. Ok (call_of_parts c args target))

    abbrev with_name : Named → Judged CallData
    with_name c = sent_from (method_of A c.interface c.method) (get_member (codes "args") ms) >>= with_args c

    whole_call : (c : Named) (args : Items) (target : Option TargetData) → AreNumbers A B c → IsSent (method_of A c.interface c.method) args → IsTargetAs B c.server c.target target
        → CallFits A B (call_of_parts c args target)
    whole_call c args target numbers sent is =
        record { there = numbers.there; args = sent.fit; small = sent.small; server = numbers.server; target = is.0 ∙ numbers.target; answer = is.1 }

    named_call : (c : Named) → AreNumbers A B c → IfOk (with_name c) (CallFits A B)
    named_call c numbers =
        goes_on (IsSent (method_of A c.interface c.method)) (CallFits A B) (sent_from (method_of A c.interface c.method) (get_member (codes "args") ms)) (with_args c)
        (sent_fits A hold_A sound_A steady_A c.interface c.method (get_member (codes "args") ms) (found_texts (codes "args") ms texts))
        (λ args sent. goes_on (IsTargetAs B c.server c.target) (CallFits A B) (target_from B c.server c.target (get_member (codes "answer") ms))
        (λ target. Ok (call_of_parts c args target))
        (target_fits B hold_B sound_B steady_B c.server c.target (get_member (codes "answer") ms) numbers.within (found_texts (codes "answer") ms texts))
        (λ target is. whole_call c args target numbers sent is))

    call_fits : IfOk (call_from A B ms) (CallFits A B)
    unfolding call_from
    call_fits =
        passing (CallFits A B) (all_known [] (unknown_in line_keys ms)) (λ known. named_from A B (get_member (codes "call") ms) >>= with_name)
        (λ known. goes_on (AreNumbers A B) (CallFits A B) (named_from A B (get_member (codes "call") ms)) with_name (named_fits A B (get_member (codes "call") ms)) named_call)

  members_fit : (j : json.Data) → HasTexts j → IfOk (members_of j >>= (λ ms. call_from A B ms)) (CallFits A B)
  members_fit json.null texts = tt
  members_fit (json.boolean b) texts = tt
  members_fit (json.number n) texts = tt
  members_fit (json.string s) texts = tt
  members_fit (json.array js) texts = tt
  members_fit (json.object ms) texts = call_fits ms texts

  parsed_fit : (o : Option json.Data) → OptionHasTexts o → IfOk (or_refuse NotJson [] o >>= (λ j. members_of j >>= (λ ms. call_from A B ms))) (CallFits A B)
  parsed_fit None texts = tt
  parsed_fit (Some j) texts = members_fit j texts

  line_texts : (line : List ℕ) (o : Option json.Data) → parsed_json line ≡ o → OptionHasTexts o
  line_texts line None is = tt
  line_texts line (Some j) is = parsed_texts line j is

  line_fits : (line : List ℕ) → IfOk (script A B line) (CallFits A B)
  unfolding script
  line_fits line = parsed_fit (parsed_json line) (line_texts line (parsed_json line) refl)

  pub script_fits : (line : List ℕ) (c : CallData) → script A B line ≡ Ok c → CallFits A B c
  script_fits line c is = subst (λ r. IfOk r (CallFits A B)) is (line_fits line)
