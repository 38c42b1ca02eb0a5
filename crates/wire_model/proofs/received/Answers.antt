-- What a client reads has the types of the method's result and outs.
use Rattle.std.proofs.Common.{◌≡◌, ℕ, ℤ, pos, Bool, true, false, List, [], ◌∷◌, Option, slice_get, Ok, Err, refl, ap, subst}
use Rattle.std.specs.Ordering.{int_eq}
use Rattle.aidl_base.proofs.lemmas.Lists.{AreBytes}
use Rattle.aidl_base.specs.declared.profile.Profile.{Profile}
use Rattle.aidl_base.specs.Readings.{Read, ◌>>=◌, word_at, present_text_at}
use Rattle.aidl_schema.specs.declared.schema.AidlType.{AidlType}
use Rattle.aidl_schema.specs.declared.schema.Decl.{Decl}
use Rattle.aidl_schema.specs.Holds.{AllHold}
use Rattle.aidl_schema.specs.Methods.{is_result_type}
use Rattle.aidl_values.specs.Sound.{IsSound}
use Rattle.wire_model.specs.Calls.{AnswerData, returned, exception, method_at, arguments, result_type, out_types}
use Rattle.wire_model.specs.MethodOf.{method_of}
use Rattle.wire_model.specs.Receiver.{values_at, result_at, returned_at, after_trace, error_at, exception_at, is_refused_status, status_at, whole, client}
use Rattle.wire_model.specs.Status.{bad_value}
use Rattle.wire_model.specs.Typed.{EachHasType, IsResult, IsGot}
use Rattle.wire_model.proofs.calls.Types.{method_typed}
use Rattle.wire_model.proofs.lemmas.received.Steps.{taken}
use Rattle.wire_model.proofs.received.Rests.{word_bytes}
use Rattle.wire_model.proofs.received.Values.{AreTypesOf, outs_typed, values_typed, result_typed}

module _ (p : Profile) (S : List Decl) (sound : IsSound S) (holds : AllHold S) where
  -- what a client is given of a method with these types
  abbrev Given : Option AidlType → List AidlType → AnswerData → Type 0
  Given t ts (returned r vs) = IsResult S t r × EachHasType S ts vs
  Given t ts (exception code message error) = Unit {0}

  returned_typed : (t : Option AidlType) (ts : List AidlType) (b : List ℕ) (x : AnswerData × List ℕ) → is_result_type S t ≡ true → AreTypesOf S ts → AreBytes b
      → returned_at p S t ts b ≡ Ok x → Given t ts x.0
  unfolding returned_at
  returned_typed t ts b x type types bytes e =
      let one = taken (result_at p S t b) (λ r. values_at p S ts r.1 >>= λ vs. let y : Read AnswerData = Ok (returned r.0 vs.0, vs.1) in y) x e in
      let two = taken (values_at p S ts one.0.1) (λ vs. let y : Read AnswerData = Ok (returned one.0.0 vs.0, vs.1) in y) x one.2 in
      let first = result_typed p S sound t b one.0 type bytes one.1 in
      let others = values_typed p S sound ts one.0.1 two.0 types first.1 two.1 in
      end (returned one.0.0 two.0.0) two.0.1 two.2 (first.0, others)
    where
      end : (a : AnswerData) (rest : List ℕ) → ◌≡◌ {A = Read AnswerData} (Ok (a, rest)) (Ok x) → Given t ts a → Given t ts x.0
      end a rest e h = let pair : ◌≡◌ {A = AnswerData × List ℕ} (a, rest) x = cc in subst (Given t ts) (ap (λ (q : AnswerData × List ℕ). q.0) pair) h

  exception_given : (t : Option AidlType) (ts : List AidlType) (code : ℤ) (b : List ℕ) (x : AnswerData × List ℕ) → exception_at p code b ≡ Ok x → Given t ts x.0
  unfolding exception_at
  exception_given t ts code b x e =
      let one = taken (present_text_at p false b) (λ message. word_at false message.1 >>= λ size. after_trace size.0 size.1 >>= λ rest. error_at code rest >>= λ error. let y : Read AnswerData = Ok (exception code message.0 error.0, error.1) in y) x e in
      let two = taken (word_at false one.0.1) (λ size. after_trace size.0 size.1 >>= λ rest. error_at code rest >>= λ error. let y : Read AnswerData = Ok (exception code one.0.0 error.0, error.1) in y) x one.2 in
      let three = taken (after_trace two.0.0 two.0.1) (λ rest. error_at code rest >>= λ error. let y : Read AnswerData = Ok (exception code one.0.0 error.0, error.1) in y) x two.2 in
      let four = taken (error_at code three.0) (λ error. let y : Read AnswerData = Ok (exception code one.0.0 error.0, error.1) in y) x three.2 in
      end (exception code one.0.0 four.0.0) four.0.1 four.2 tt
    where
      end : (a : AnswerData) (rest : List ℕ) → ◌≡◌ {A = Read AnswerData} (Ok (a, rest)) (Ok x) → Given t ts a → Given t ts x.0
      end a rest e h = let pair : ◌≡◌ {A = AnswerData × List ℕ} (a, rest) x = cc in subst (Given t ts) (ap (λ (q : AnswerData × List ℕ). q.0) pair) h

  status_typed : (t : Option AidlType) (ts : List AidlType) (w : ℤ) (b : List ℕ) (x : AnswerData × List ℕ) → is_result_type S t ≡ true → AreTypesOf S ts → AreBytes b
      → (fine refused : Bool) → int_eq w (pos 0) ≡ fine → is_refused_status w ≡ refused → status_at p S t ts w b ≡ Ok x → Given t ts x.0
  status_typed t ts w b x type types bytes true refused fine is e = let read : returned_at p S t ts b ≡ Ok x = rw fine at e in returned_typed t ts b x type types bytes read
  status_typed t ts w b x type types bytes false true fine is e = let wrong : ◌≡◌ {A = Read AnswerData} (Err bad_value) (Ok x) = rw (fine, is) at e in cc
  status_typed t ts w b x type types bytes false false fine is e = let read : exception_at p w b ≡ Ok x = rw (fine, is) at e in exception_given t ts w b x read

  -- What a client is given.
  pub got_typed : (i m : ℕ) (b : List ℕ) (a : AnswerData) → AreBytes b → client p (method_of S i m) b ≡ Ok a → IsGot (method_of S i m) a
  unfolding client
  got_typed i m b a bytes e =
      let t = result_type (method_of S i m) in
      let ts = out_types (method_of S i m) in
      let method = method_typed S holds i m (slice_get S i) refl (method_at (method_of S i m)) refl in
      let one = taken (word_at false b) (λ status. status_at p S t ts status.0 status.1 >>= λ x. whole x.0 x.1) a e in
      let two = taken (status_at p S t ts one.0.0 one.0.1) (λ x. whole x.0 x.1) a one.2 in
      let h = status_typed t ts one.0.0 one.0.1 two.0 method.1 (outs_typed S (arguments (method_of S i m)) method.0) (word_bytes b one.0 bytes one.1)
      (int_eq one.0.0 (pos 0)) (is_refused_status one.0.0) refl refl two.1 in
      same (by_rest two.0.0 two.0.1 two.2 h)
    where
      by_rest : (x : AnswerData) (rest : List ℕ) → whole x rest ≡ Ok a → Given (result_type (method_of S i m)) (out_types (method_of S i m)) x → Given (result_type (method_of S i m)) (out_types (method_of S i m)) a
      by_rest x [] e h = let one : x ≡ a = cc in subst (Given (result_type (method_of S i m)) (out_types (method_of S i m))) one h
      by_rest x (y ∷ rest) e h = cc

      same_by : (x : AnswerData) → Given (result_type (method_of S i m)) (out_types (method_of S i m)) x → IsGot (method_of S i m) x
      same_by (returned r vs) h = h
      same_by (exception code message error) h = tt

      same : Given (result_type (method_of S i m)) (out_types (method_of S i m)) a → IsGot (method_of S i m) a
      same h = same_by a h
