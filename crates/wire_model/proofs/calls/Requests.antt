-- What a stub makes of a request that another schema spelled.
use Rattle.std.proofs.Common.{◌≡◌, ℕ, ◌+◌, ◌≤◌, ℤ, pos, negsuc, Bool, true, false, ◌==◌, List, [], ◌++◌, length, Option, Some, None, slice_get, Result, Ok, refl, sym, ap, ◌∙◌, subst, arith, length-append}
use Rattle.std.specs.List.{position}
use Rattle.std.specs.Str.{all_scalars}
use Rattle.std.proofs.lemmas.Bool.Decides.{nat_tests}
use Rattle.aidl_base.proofs.lemmas.Lists.{AreBytes, AreBytes-rest}
use Rattle.aidl_base.proofs.lemmas.Spelled.{length-spell_text}
use Rattle.aidl_base.specs.declared.profile.Profile.{Profile}
use Rattle.aidl_base.specs.Readings.{◌>>=◌}
use Rattle.aidl_base.specs.Spellings.{spell_text}
use Rattle.aidl_base.specs.Words.{word, units}
use Rattle.aidl_schema.proofs.lemmas.Sames.{same_text_is}
use Rattle.aidl_schema.specs.declared.schema.Decl.{Decl}
use Rattle.aidl_schema.specs.declared.schema.Method.{Method}
use Rattle.aidl_schema.specs.Broken.{same_name, same_method}
use Rattle.aidl_schema.specs.Find.{methods_of_decl, methods_at, position_of_code}
use Rattle.aidl_schema.specs.Holds.{AllHold}
use Rattle.aidl_schema.specs.Names.{name_of, methods_of}
use Rattle.aidl_schema.specs.Same.{same_text}
use Rattle.aidl_values.specs.Data.{Items}
use Rattle.aidl_values.specs.Sound.{IsSound}
use Rattle.wire_model.specs.Calls.{name_of_decl, descriptor, method_at, arguments_of, arguments, code_of, code_at}
use Rattle.wire_model.specs.MethodOf.{method_of}
use Rattle.wire_model.specs.Outcome.{declared_as, method_like, view_arguments, seen_call, received_call}
use Rattle.wire_model.specs.ReadOf.{Read}
use Rattle.wire_model.specs.Receiver.{Received, called, received, or_status, token_at, arguments_at, stub}
use Rattle.wire_model.specs.Requests.{ArgsFit, argument_parts, request, token}
use Rattle.wire_model.specs.Status.{bad_value, unknown_transaction}
use Rattle.wire_model.specs.steps.CallsMeet.{ArgumentsAgree, InterfacesAgree, CallsMeet}
use Rattle.wire_model.specs.steps.Meets.{Meets}
use Rattle.wire_model.proofs.lemmas.Lookups.{position_is, position_none, position_passes, none_passes}
use Rattle.wire_model.proofs.calls.Arguments.{arguments_seen}
use Rattle.wire_model.proofs.lemmas.calls.Tokens.{name_scalars, token_again}
use Rattle.wire_model.proofs.calls.Types.{argument_types}
use Rattle.wire_model.proofs.calls.Values.{seen_at}

code_is : (m n : ℕ) → (m + 1 == n + 1) ≡ true → m ≡ n
code_is m n e = grind (arith, nat_tests)

is_code : (m n : ℕ) → m ≡ n → (m + 1 == n + 1) ≡ true
is_code m n e = grind (arith, nat_tests)

no_code : (m : ℕ) → (m + 1 == 0) ≡ false
no_code m = grind (arith, nat_tests)

not_code : (b : Bool) → (b ≡ true → ⊥) → b ≡ false
not_code true never = absurd (never refl)
not_code false never = refl

-- what follows each step of a stub
abbrev then_code : Profile → List Decl → ℕ → List ℕ → Result ℕ ℤ → Result Received ℤ
then_code p S i b x = x >>= λ m. token_at p (descriptor S i) b >>= λ rest. arguments_at p S 0 (arguments (method_of S i m)) rest >>= λ saw. Ok (received m saw.0 saw.1)

abbrev then_token : Profile → List Decl → ℕ → ℕ → Result (List ℕ) ℤ → Result Received ℤ
then_token p S i m x = x >>= λ rest. arguments_at p S 0 (arguments (method_of S i m)) rest >>= λ saw. Ok (received m saw.0 saw.1)

abbrev then_saw : ℕ → Read Items → Result Received ℤ
then_saw m x = x >>= λ saw. Ok (received m saw.0 saw.1)

abbrev as_called : Result (ℕ × Items) ℤ → Result Received ℤ
as_called x = x >>= λ y. Ok (called y.0 y.1)

abbrev then_method : List Decl → ℕ → ℕ → List Decl → ℕ → Items → Result ℕ ℤ → Result (ℕ × Items) ℤ
then_method A i m B j args x = x >>= λ n. or_status bad_value (view_arguments A (arguments (method_of A i m)) B (arguments (method_of B j n)) args) >>= λ saw. Ok (n, saw)

module _ (p : Profile) (A B : List Decl) (i m j : ℕ) (args : Items) where
  abbrev Law : List ℕ → Type 0
  Law b = stub p B j (code_at (method_of A i m)) b ≡ received_call (method_of A i m) B j args

  -- both look for a method first
  by_methods : (b : List ℕ) (o r : Option ℕ) → position_of_code (methods_at B j) (code_at (method_of A i m)) ≡ o → method_like (method_at (method_of A i m)) (methods_at B j) ≡ r
      → then_code p B j b (or_status unknown_transaction o) ≡ as_called (then_method A i m B j args (or_status unknown_transaction r)) → Law b
  unfolding stub seen_call
  by_methods b o r code name h =
      ap (λ x. then_code p B j b (or_status unknown_transaction x)) code ∙ h
      ∙ ap (λ x. as_called (then_method A i m B j args (or_status unknown_transaction x))) (sym name)

  -- no method is called
  nobody : (b : List ℕ) → position_of_code (methods_at B j) (code_at (method_of A i m)) ≡ None → method_like (method_at (method_of A i m)) (methods_at B j) ≡ None → Law b
  nobody b code name = by_methods b None None code name refl

  by_view : (n : ℕ) (o : Option Items) → then_saw n (seen_at o []) ≡ as_called (or_status bad_value o >>= λ saw. Ok (n, saw))
  by_view n None = refl
  by_view n (Some saw) = refl

  -- the method n is called
  somebody : (n : ℕ) (name parts : List ℕ) → position_of_code (methods_at B j) (code_at (method_of A i m)) ≡ Some n → method_like (method_at (method_of A i m)) (methods_at B j) ≡ Some n
      → token_at p (descriptor B j) (token name ++ parts) ≡ Ok parts
      → arguments_at p B 0 (arguments (method_of B j n)) parts ≡ seen_at (view_arguments A (arguments (method_of A i m)) B (arguments (method_of B j n)) args) []
      → Law (token name ++ parts)
  somebody n name parts code like accepts reads = by_methods (token name ++ parts) (Some n) (Some n) code like
      (ap (then_token p B j n) accepts ∙ ap (then_saw n) reads ∙ by_view n (view_arguments A (arguments (method_of A i m)) B (arguments (method_of B j n)) args))

module _ (p : Profile) (A B : List Decl) (meets : Meets A B) (calls : CallsMeet A B) (sound : IsSound B) (holds : AllHold B) (i m j : ℕ) (args : Items)
    (fits : ArgsFit (method_of A i m) args) (small : length (request (method_of A i m) args) ≤ 1048576) (bytes : AreBytes (request (method_of A i m) args)) where
  -- the interface e of B, and a method v of d, that of A
  module _ (d e : Decl) (here : slice_get A i ≡ Some d) (there : slice_get B j ≡ Some e) (named : same_name d e ≡ true) (v : Method) (at : slice_get (methods_of d.kind) m ≡ Some v) where
    agree : InterfacesAgree A d B e
    agree = calls d e (i, here) (j, there) named

    mine : method_at (method_of A i m) ≡ Some v
    mine = ap (λ o. slice_get (methods_of_decl o) m) here ∙ at

    his : methods_at B j ≡ methods_of e.kind
    his = ap methods_of_decl there

    names : descriptor A i ≡ descriptor B j
    names = ap name_of_decl here ∙ same_text_is (name_of d) (name_of e) named ∙ ap name_of_decl (sym there)

    code : (o : Option ℕ) → position (λ w. w.id + 1 == v.id + 1) (methods_of e.kind) ≡ o → position_of_code (methods_at B j) (code_at (method_of A i m)) ≡ o
    code o h = ap (λ ws. position (λ (w : Method). w.id + 1 == code_of (method_at (method_of A i m))) ws) his ∙ ap (λ x. position (λ (w : Method). w.id + 1 == code_of x) (methods_of e.kind)) mine ∙ h

    like : (o : Option ℕ) → method_like (method_at (method_of A i m)) (methods_at B j) ≡ o → position (λ w. same_method v w) (methods_of e.kind) ≡ o
    like o h = sym (ap (λ ws. method_like (method_at (method_of A i m)) ws) his ∙ ap (λ x. method_like x (methods_of e.kind)) mine) ∙ h

    token_small : length (units (descriptor A i)) ≤ 2147483647
    token_small =
        let name = descriptor A i in
        let parts = argument_parts A (arguments (method_of A i m)) args in
        omega (
          arith,
          length-spell_text name,
          length-append (token name) parts,
          length-append (word (pos 0x80000000)) (word (negsuc 0) ++ (word (pos 0x53595354) ++ spell_text name)),
          length-append (word (negsuc 0)) (word (pos 0x53595354) ++ spell_text name),
          length-append (word (pos 0x53595354)) (spell_text name),
        )

    called_seen : (n : ℕ) → method_like (method_at (method_of A i m)) (methods_at B j) ≡ Some n → stub p B j (code_at (method_of A i m)) (request (method_of A i m) args) ≡ received_call (method_of A i m) B j args
    called_seen n found =
        let w = position_passes (λ w. same_method v w) (methods_of e.kind) n (like (Some n) found) in
        let method = agree.common v w.0 (m, at) (n, w.1) w.2 in
        let one : (k : ℕ) (x : Method) → slice_get (methods_of e.kind) k ≡ Some x → (x.id + 1 == v.id + 1) ≡ true → k ≡ n =
        λ k x at q. (holds j e there).ids k n x w.0 at w.1 (code_is x.id v.id q ∙ method.id) in
        let coded = code (Some n) (position_is (λ (x : Method). x.id + 1 == v.id + 1) (methods_of e.kind) n w.0 w.1 (is_code w.0.id v.id (sym method.id)) one) in
        let name = descriptor A i in
        let xs = arguments (method_of A i m) in
        let parts = argument_parts A xs args in
        let ys : arguments (method_of B j n) ≡ w.0.args = ap arguments_of (ap (λ ws. slice_get ws n) his ∙ w.1) in
        let accepts : token_at p (descriptor B j) (token name ++ parts) ≡ Ok parts =
        subst (λ x. token_at p x (token name ++ parts) ≡ Ok parts) names
        (token_again p name parts (subst (λ x. all_scalars x ≡ true) (sym (names ∙ ap name_of_decl there)) (name_scalars e (holds j e there).name)) token_small) in
        let args_agree = subst (λ zs. ArgumentsAgree A zs B w.0.args) (sym (ap arguments_of mine)) method.arguments in
        let reads : arguments_at p B 0 w.0.args parts ≡ seen_at (view_arguments A xs B w.0.args args) [] =
        arguments_seen p A B meets sound xs w.0.args 0 args args_agree (argument_types B holds e (j, there) w.0 (n, w.1)) fits.each (omega (arith, fits.few))
        (omega (arith, length-append (token name) parts)) (AreBytes-rest (token name) parts bytes) in
        somebody p A B i m j args n name parts coded found accepts (subst (λ zs. arguments_at p B 0 zs parts ≡ seen_at (view_arguments A xs B zs args) []) (sym ys) reads)

    lacking_seen : method_like (method_at (method_of A i m)) (methods_at B j) ≡ None → stub p B j (code_at (method_of A i m)) (request (method_of A i m) args) ≡ received_call (method_of A i m) B j args
    lacking_seen lacks =
        let none = none_passes (λ w. same_method v w) (methods_of e.kind) (like None lacks) in
        let never : (k : ℕ) (x : Method) → slice_get (methods_of e.kind) k ≡ Some x → (x.id + 1 == v.id + 1) ≡ false =
        λ k x there'. not_code (x.id + 1 == v.id + 1) (λ q. agree.lacking v x (m, at) (k, there') (λ y has. none has.0 y has.1) (sym (code_is x.id v.id q))) in
        nobody p A B i m j args (request (method_of A i m) args) (code None (position_none (λ (x : Method). x.id + 1 == v.id + 1) (methods_of e.kind) never)) lacks

    pub by_like : (o : Option ℕ) → method_like (method_at (method_of A i m)) (methods_at B j) ≡ o → stub p B j (code_at (method_of A i m)) (request (method_of A i m) args) ≡ received_call (method_of A i m) B j args
    by_like None e = lacking_seen e
    by_like (Some n) e = called_seen n e

  -- A has no such method.
  without : method_at (method_of A i m) ≡ None → stub p B j (code_at (method_of A i m)) (request (method_of A i m) args) ≡ received_call (method_of A i m) B j args
  without none = nobody p A B i m j args (request (method_of A i m) args)
      (ap (λ x. position (λ (w : Method). w.id + 1 == code_of x) (methods_at B j)) none ∙ position_none (λ (w : Method). w.id + 1 == 0) (methods_at B j) (λ k x at. no_code x.id))
      (ap (λ x. method_like x (methods_at B j)) none)

  by_decl : (e : Decl) → slice_get B j ≡ Some e → same_text (descriptor A i) (name_of e) ≡ true → (o : Option Decl) → slice_get A i ≡ o
      → stub p B j (code_at (method_of A i m)) (request (method_of A i m) args) ≡ received_call (method_of A i m) B j args
  by_decl e there named None here = without (ap (λ o. slice_get (methods_of_decl o) m) here)
  by_decl e there named (Some d) here = by_method (slice_get (methods_of d.kind) m) refl
    where
      same_names : same_name d e ≡ true
      same_names = subst (λ x. same_text x (name_of e) ≡ true) (ap name_of_decl here) named

      by_method : (o : Option Method) → slice_get (methods_of d.kind) m ≡ o → stub p B j (code_at (method_of A i m)) (request (method_of A i m) args) ≡ received_call (method_of A i m) B j args
      by_method None at = without (ap (λ o. slice_get (methods_of_decl o) m) here ∙ at)
      by_method (Some v) at = by_like d e here there same_names v at (method_like (method_at (method_of A i m)) (methods_at B j)) refl

  -- The stub of the interface of the same name.
  pub request_seen : declared_as B (descriptor A i) ≡ Some j → stub p B j (code_at (method_of A i m)) (request (method_of A i m) args) ≡ received_call (method_of A i m) B j args
  request_seen found =
      let e = position_passes (λ (x : Decl). same_text (descriptor A i) (name_of x)) B j found in
      by_decl e.0 e.1 e.2 (slice_get A i) refl
