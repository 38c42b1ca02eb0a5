-- What is known of what SERVER received: its method has the code, and is two-way to CLIENT where a reply is sent; the types of a line's values.
use Rattle.std.proofs.Common.{◌≡◌, ℕ, ◌+◌, ◌==◌, ◌<◌, ℤ, Bool, true, false, List, [], ◌∷◌, length, Option, Some, None, slice_get, Result, Ok, Err, refl, sym, ap, ◌∙◌, subst, arith}
use Rattle.std.proofs.lemmas.Bool.Decides.{nat_tests}
use Rattle.aidl_base.specs.declared.profile.Profile.{Profile}
use Rattle.aidl_base.specs.Readings.{◌>>=◌}
use Rattle.aidl_schema.specs.declared.schema.Decl.{Decl}
use Rattle.aidl_schema.specs.Find.{methods_at, methods_of_decl, position_of_code}
use Rattle.aidl_schema.specs.Names.{name_of, methods_of}
use Rattle.aidl_schema.specs.Same.{same_text}
use Rattle.aidl_values.specs.Data.{Items}
use Rattle.stub_dispatch.specs.Sent.{sent_reply, unread}
use Rattle.call_runner.specs.declared.line.LineOut.{LineOut}
use Rattle.call_runner.specs.declared.line.LineOut.TheVariants as out
use Rattle.call_runner.specs.declared.line.Methods.{Methods}
use Rattle.call_runner.specs.Lines.{call_code, line_of, received_at, reply_at, reply_sent, reported, scripted}
use Rattle.call_runner.specs.Lines as lines
use Rattle.call_runner.specs.Runs.{IsGotBy, IsTyped, line_data, methods_by}
use Rattle.call_runner.specs.steps.Typed.{IsTypedLine, method_in}
use Rattle.call_scripts.specs.Calls.{CallData, CallFits, callee}
use Rattle.aidl_base.proofs.lemmas.Lists.{position_within}
use Rattle.call_scripts.proofs.lemmas.Methods.{found}
use Rattle.wire_model.specs.Calls.{AnswerData, arguments, code_at, code_of, descriptor, is_oneway, is_oneway_of, method_at, name_of_decl}
use Rattle.wire_model.specs.MethodOf.{method_of}
use Rattle.wire_model.specs.Outcome.{SameWays, declared_as}
use Rattle.wire_model.specs.Receiver.{Received, left, called, received, or_status, stub, token_at, arguments_at, client}
use Rattle.wire_model.specs.Status.{unknown_transaction}
use Rattle.wire_model.specs.Typed.{AreArguments, IsGot}
use Rattle.wire_model.proofs.lemmas.calls.Itself.{method_there}
use Rattle.wire_model.proofs.lemmas.received.Steps.{taken}

module _ (p : Profile) (S : List Decl) (i code : ℕ) (b : List ℕ) where
  is_place : (n : ℕ) (o : Option ℕ) → or_status unknown_transaction o ≡ Ok n → o ≡ Some n
  is_place n None e = cc
  is_place n (Some k) e = let one : k ≡ n = cc in ap (λ j. let o : Option ℕ = Some j in o) one

  by_rest : (n : ℕ) (vs : Items) (rest : List ℕ) (r : Received) → ◌≡◌ {A = Result Received ℤ} (Ok (received n vs rest)) (Ok r) → n ≡ method_in r
  by_rest n vs (y ∷ rest) r e = let same : left n ≡ r = cc in ap method_in same
  by_rest n vs [] r e = let same : called n vs ≡ r = cc in ap method_in same

  -- the method that is received has the code
  pub coded : (r : Received) → stub p S i code b ≡ Ok r → position_of_code (methods_at S i) code ≡ Some (method_in r)
  unfolding stub
  coded r e =
      let place = position_of_code (methods_at S i) code in
      let one = taken (or_status unknown_transaction place) (λ n. token_at p (descriptor S i) b >>= λ rest. arguments_at p S 0 (arguments (method_of S i n)) rest >>= λ x. let y : Result Received ℤ = Ok (received n x.0 x.1) in y) r e in
      let n = one.0 in
      let two = taken (token_at p (descriptor S i) b) (λ rest. arguments_at p S 0 (arguments (method_of S i n)) rest >>= λ x. let y : Result Received ℤ = Ok (received n x.0 x.1) in y) r one.2 in
      let three = taken (arguments_at p S 0 (arguments (method_of S i n)) two.0) (λ x. let y : Result Received ℤ = Ok (received n x.0 x.1) in y) r two.2 in
      is_place n place one.1 ∙ ap (λ j. let o : Option ℕ = Some j in o) (by_rest n three.0.0 three.0.1 r three.2)

  pub coded_within : (r : Received) → stub p S i code b ≡ Ok r → method_in r < length (methods_at S i)
  coded_within r e = position_within (λ m. m.id + 1 == code) (methods_at S i) (method_in r) (coded r e)

-- the methods of a call's code in both schemas are oneway, or both aren't
pub same_way : (A B : List Decl) (i m j n : ℕ) → SameWays A B → m < length (methods_at A i) → declared_as B (descriptor A i) ≡ Some j
    → position_of_code (methods_at B j) (code_at (method_of A i m)) ≡ Some n → is_oneway (method_of A i m) ≡ is_oneway (method_of B j n)
same_way A B i m j n ways there declared coded =
    let x = method_there A i m there in
    let d = x.0 in
    let v = x.2 in
    let mine : method_at (method_of A i m) ≡ Some v = ap (λ o. slice_get (methods_of_decl o) m) x.1 ∙ x.3 in
    let y = found (λ e. same_text (descriptor A i) (name_of e)) B j declared in
    let e = y.0 in
    let named : same_text (name_of d) (name_of e) ≡ true = subst (λ name. same_text name (name_of e) ≡ true) (ap name_of_decl x.1) y.2 in
    let z = found (λ w. w.id + 1 == code_at (method_of A i m)) (methods_at B j) n coded in
    let w = z.0 in
    let code : (w.id + 1 == v.id + 1) ≡ true = subst (λ k. (w.id + 1 == k) ≡ true) (ap code_of mine) z.2 in
    let ids : v.id ≡ w.id = grind (arith, nat_tests) in
    let at : slice_get (methods_of e.kind) n ≡ Some w = subst (λ ws. slice_get ws n ≡ Some w) (ap methods_of_decl y.1) z.1 in
    ap is_oneway_of mine ∙ ways d e v w (i, x.1) (j, y.1) named (m, x.3) (n, at) ids ∙ sym (ap is_oneway_of z.1)

sent_two_way : (S : List Decl) (i m : ℕ) (a : AnswerData) (s : List ℕ) → sent_reply (method_of S i m) a ≡ Some s → is_oneway (method_of S i m) ≡ false
sent_two_way S i m a s e = by_test (is_oneway (method_of S i m)) refl
  where
    by_test : (b : Bool) → is_oneway (method_of S i m) ≡ b → b ≡ false
    by_test false is = refl
    by_test true is = let wrong : ◌≡◌ {A = Option (List ℕ)} None (Some s) = rw is at e in cc

module _ (p : Profile) (A B : List Decl) (c : CallData) (fits : CallFits A B c) (b : List ℕ) where
  -- where a reply is sent the method isn't oneway to CLIENT
  pub replied_way : SameWays A B → (s : List ℕ) → reply_sent p A B c b ≡ Some s → is_oneway (callee A c) ≡ false
  replied_way ways s sent = by_server c.server refl sent
    where
      by_method : (j : ℕ) → c.server ≡ Some j → (r : Received) → stub p B j (call_code A c) b ≡ Ok r → is_oneway (method_of B j (method_in r)) ≡ false → is_oneway (callee A c) ≡ false
      by_method j is r e two =
          same_way A B c.interface c.method j (method_in r) ways fits.there (fits.server.declared j is) (coded p B j (call_code A c) b r e) ∙ two

      by_stub : (j : ℕ) → c.server ≡ Some j → (x : Result Received ℤ) → stub p B j (call_code A c) b ≡ x → reply_at B (Some j) c.target x ≡ Some s → is_oneway (callee A c) ≡ false
      by_stub j is (Err status) e sent = cc
      by_stub j is (Ok (left m)) e sent = by_method j is (left m) e (sent_two_way B j m unread s sent)
      by_stub j is (Ok (called m saw)) e sent = by_method j is (called m saw) e (sent_two_way B j m (scripted c.target m) s sent)

      by_server : (o : Option ℕ) → c.server ≡ o → reply_at B o c.target (received_at p B o (call_code A c) b) ≡ Some s → is_oneway (callee A c) ≡ false
      by_server None is sent = cc
      by_server (Some j) is sent = by_stub j is (stub p B j (call_code A c) b) refl sent

module _ (p : Profile) (A B : List Decl) (c : CallData) (b r : List ℕ) (there : c.method < length (methods_at A c.interface))
    (args : (j n : ℕ) (saw : Items) → c.server ≡ Some j → stub p B j (call_code A c) b ≡ Ok (called n saw) → AreArguments (method_of B j n) saw)
    (answer : (a : AnswerData) → client p (callee A c) r ≡ Ok a → IsGot (callee A c) a) where
  -- the types of a line's values
  pub line_typed : IsTypedLine A B (methods_by c c.server (lines.received p A B c b)) (line_of p A B c b r)
  line_typed = by_server c.server refl
    where
      got : (m : Methods) → m.interface ≡ c.interface → m.method ≡ c.method → (x : Result AnswerData ℤ) → client p (callee A c) r ≡ x → IsGotBy A m x
      got m i k (Err status) e = tt
      got m i k (Ok a) e = rw (i, k) (there, answer a e)

      by_left : (m : Methods) → m.interface ≡ c.interface → m.method ≡ c.method → m.called < length (methods_at B m.server) → (n : ℕ) (q : Option (List ℕ))
          → IsTypedLine A B (Some m) (reported (Ok (left n)) q (client p (callee A c) r))
      by_left m i k lt n None = (m, refl, lt, tt)
      by_left m i k lt n (Some sent) = (m, refl, lt, tt, got m i k (client p (callee A c) r) refl)

      by_called : (m : Methods) → m.interface ≡ c.interface → m.method ≡ c.method → m.called < length (methods_at B m.server) → (n : ℕ) (saw : Items) → AreArguments (method_of B m.server m.called) saw → (q : Option (List ℕ))
          → IsTypedLine A B (Some m) (reported (Ok (called n saw)) q (client p (callee A c) r))
      by_called m i k lt n saw types None = (m, refl, lt, types)
      by_called m i k lt n saw types (Some sent) = (m, refl, lt, types, got m i k (client p (callee A c) r) refl)

      by_stub : (j : ℕ) → c.server ≡ Some j → (x : Result Received ℤ) → stub p B j (call_code A c) b ≡ x
          → IsTypedLine A B (methods_by c (Some j) x) (reported x (reply_at B (Some j) c.target x) (client p (callee A c) r))
      by_stub j is (Err status) e = tt
      by_stub j is (Ok (left n)) e = by_left (record { interface = c.interface; method = c.method; server = j; called = n }) refl refl (coded_within p B j (call_code A c) b (left n) e) n (reply_at B (Some j) c.target (Ok (left n)))
      by_stub j is (Ok (called n saw)) e =
          by_called (record { interface = c.interface; method = c.method; server = j; called = n }) refl refl (coded_within p B j (call_code A c) b (called n saw) e) n saw (args j n saw is e)
          (reply_at B (Some j) c.target (Ok (called n saw)))

      by_server : (o : Option ℕ) → c.server ≡ o
          → IsTypedLine A B (methods_by c o (received_at p B o (call_code A c) b)) (reported (received_at p B o (call_code A c) b) (reply_at B o c.target (received_at p B o (call_code A c) b)) (client p (callee A c) r))
      by_server None is = tt
      by_server (Some j) is = by_stub j is (stub p B j (call_code A c) b) refl

-- the same of what the code answers
pub out_typed : (A B : List Decl) (methods : Option Methods) (x : LineOut) → IsTypedLine A B methods (line_data x) → IsTyped A B methods x
out_typed A B methods (out.Refused why) h = tt
out_typed A B methods (out.Transport status) h = tt
out_typed A B methods (out.OnewayDone None) h = h
out_typed A B methods (out.OnewayDone (Some saw)) h = h
out_typed A B methods (out.Done None got) h = h
out_typed A B methods (out.Done (Some saw) got) h = h
