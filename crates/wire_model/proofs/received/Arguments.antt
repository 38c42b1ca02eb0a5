-- What a stub reads has the types of the method's arguments.
use Rattle.std.proofs.Common.{◌≡◌, ℕ, zero, suc, ◌+◌, ℤ, Bool, true, false, nat_lt, nat_le, List, [], ◌∷◌, length, Option, Some, None, slice_get, Result, Ok, Err, refl, ap, ◌∙◌, subst}
use Rattle.aidl_base.proofs.lemmas.Lists.{AreBytes, AreBytes-rest}
use Rattle.aidl_base.specs.declared.profile.Profile.{Profile}
use Rattle.aidl_base.specs.Readings.{Read, ◌>>=◌, count_at}
use Rattle.aidl_schema.specs.declared.schema.AidlType.{AidlType}
use Rattle.aidl_schema.specs.declared.schema.Arg.{Arg}
use Rattle.aidl_schema.specs.declared.schema.Decl.{Decl}
use Rattle.aidl_schema.specs.declared.schema.Shape.{Shape}
use Rattle.aidl_schema.specs.declared.schema.Shape.TheVariants as shape
use Rattle.aidl_schema.specs.Find.{methods_at, position_of_code}
use Rattle.aidl_schema.specs.Holds.{AllHold, HasElements}
use Rattle.aidl_schema.specs.Types.{is_type, is_array, is_one, elem}
use Rattle.aidl_values.specs.Data.{Data, Items, none, item}
use Rattle.aidl_values.specs.HasType.{HasType, HaveType}
use Rattle.aidl_values.specs.Sound.{IsSound}
use Rattle.wire_model.specs.Calls.{descriptor, method_at, arguments, is_out}
use Rattle.wire_model.specs.MethodOf.{method_of}
use Rattle.wire_model.specs.ReadOf.{read_of}
use Rattle.wire_model.specs.Receiver.{Received, called, received, or_status, zero_in, repeated, array_opening, within_sum, length_at, array_opening_at, argument_at, opened_length, arguments_at, token_at, stub}
use Rattle.wire_model.specs.Status.{bad_value, unknown_transaction}
use Rattle.wire_model.specs.Typed.{EachHasType, types_of, AreArguments}
use Rattle.wire_model.proofs.calls.Arguments.{HaveTypes, LengthFits}
use Rattle.wire_model.proofs.calls.Types.{method_typed}
use Rattle.wire_model.proofs.told.Words.{Told, CountReads, count_told}
use Rattle.wire_model.specs.Stop.{CountStop}
use Rattle.wire_model.proofs.lemmas.received.Steps.{taken}
use Rattle.wire_model.proofs.received.Rests.{token_bytes}
use Rattle.wire_model.proofs.received.Values.{value_typed, joined}

many : (s : Shape) → is_array s ≡ true → is_one s ≡ false
many shape.One e = cc
many shape.Array e = refl
many shape.List e = cc

module _ (p : Profile) (S : List Decl) (sound : IsSound S) (holds : AllHold S) (elements : HasElements S) (typed : (t : AidlType) → is_type S t ≡ true → HasType S t (zero_in S t)) where
  -- a length word
  pub length_typed : (nullable : Bool) (sum : ℕ) (b : List ℕ) (x : Option ℕ × List ℕ) → AreBytes b → length_at nullable sum b ≡ Ok x → LengthFits nullable x.0 × AreBytes x.1
  unfolding length_at
  length_typed nullable sum b x bytes e =
      let one = taken (count_at nullable false b) (λ n. within_sum sum n.0 >>= λ m. let y : Read (Option ℕ) = Ok (m, n.1) in y) x e in
      let two = taken (within_sum sum one.0.0) (λ m. let y : Read (Option ℕ) = Ok (m, one.0.1) in y) x one.2 in
      let h = subst (λ y. Told (CountReads nullable) (λ s. CountStop nullable b false s) b y) one.1 (count_told nullable false b bytes (nat_lt (length b) 4) refl) in
      let rest : one.0.1 ≡ x.1 = ap (λ (y : Read (Option ℕ)). rest_of y) two.2 in
      let n : two.0 ≡ x.0 = ap (λ (y : Read (Option ℕ)). length_of y) two.2 in
      (subst (LengthFits nullable) n (kept one.0.0 two.0 two.1 (reads one.0.0 h.0 h.2)), subst AreBytes rest (AreBytes-rest h.0 one.0.1 (subst AreBytes h.1 bytes)))
    where
      rest_of : Read (Option ℕ) → List ℕ
      rest_of (Ok y) = y.1
      rest_of (Err s) = []

      length_of : Read (Option ℕ) → Option ℕ
      length_of (Ok y) = y.0
      length_of (Err s) = None

      reads : (n : Option ℕ) (front : List ℕ) → CountReads nullable front n → LengthFits nullable n
      reads None front h = h.0
      reads (Some n) front h = tt

      kept : (n m : Option ℕ) → within_sum sum n ≡ Ok m → LengthFits nullable n → LengthFits nullable m
      kept None m e h = let none : ◌≡◌ {A = Option ℕ} None m = cc in subst (LengthFits nullable) none h
      kept (Some n) None e h = by_test (nat_le (sum + n) 65536) refl
        where
          by_test : (b : Bool) → nat_le (sum + n) 65536 ≡ b → LengthFits nullable None
          by_test true is = let some : ◌≡◌ {A = Result (Option ℕ) ℤ} (Ok (Some n)) (Ok None) = rw is at e in cc
          by_test false is = let some : ◌≡◌ {A = Result (Option ℕ) ℤ} (Err bad_value) (Ok None) = rw is at e in cc
      kept (Some n) (Some m) e h = tt

  repeated_typed : (t : AidlType) (v : Data) (n : ℕ) → HasType S t v → HaveType S t (repeated n v)
  repeated_typed t v zero h = tt
  repeated_typed t v (suc n) h = (h, repeated_typed t v n h)

  array_typed : (t : AidlType) (n : Option ℕ) → is_type S t ≡ true → is_array t.shape ≡ true → LengthFits t.nullable n → HasType S t (array_opening S t n)
  array_typed t None type array fits = fits
  array_typed t (Some n) type array fits = (many t.shape array, repeated_typed (elem S t) (zero_in S (elem S t)) n (typed (elem S t) (elements t type)))

  -- what a reading gives, by an equation on the whole
  given : (t : AidlType) (v w : Data) (rest after : List ℕ) → ◌≡◌ {A = Read Data} (Ok (v, rest)) (Ok (w, after)) → HasType S t v × AreBytes rest → HasType S t w × AreBytes after
  given t v w rest after e h =
      let pair : ◌≡◌ {A = Data × List ℕ} (v, rest) (w, after) = cc in
      (subst (HasType S t) (ap (λ (q : Data × List ℕ). q.0) pair) h.0, subst AreBytes (ap (λ (q : Data × List ℕ). q.1) pair) h.1)

  pub argument_typed : (a : Arg) (sum : ℕ) (b : List ℕ) (x : Data × List ℕ) → is_type S a.ty ≡ true → AreBytes b → (out array : Bool) → is_out a.way ≡ out → is_array a.ty.shape ≡ array
      → argument_at p S sum a b ≡ Ok x → HasType S a.ty x.0 × AreBytes x.1
  unfolding array_opening_at
  argument_typed a sum b x type bytes true true out array e =
      let opened : array_opening_at S sum a.ty b ≡ Ok x = rw (out, array) at e in
      let one = taken (length_at a.ty.nullable sum b) (λ n. let y : Read Data = Ok (array_opening S a.ty n.0, n.1) in y) x opened in
      let h = length_typed a.ty.nullable sum b one.0 bytes one.1 in
      given a.ty (array_opening S a.ty one.0.0) x.0 one.0.1 x.1 one.2 (array_typed a.ty one.0.0 type array h.0, h.1)
  argument_typed a sum b x type bytes true false out array e =
      let opened : ◌≡◌ {A = Read Data} (Ok (zero_in S a.ty, b)) (Ok x) = rw (out, array) at e in
      given a.ty (zero_in S a.ty) x.0 b x.1 opened (typed a.ty type, bytes)
  argument_typed a sum b x type bytes false array out at e = let read : read_of p S 64 a.ty false b ≡ Ok x = rw out at e in value_typed p S sound a.ty b x type bytes read

  arguments_typed : (xs : List Arg) (sum : ℕ) (b : List ℕ) (x : Items × List ℕ) → HaveTypes S xs → AreBytes b → arguments_at p S sum xs b ≡ Ok x → EachHasType S (types_of xs) x.0
  arguments_typed [] sum b x types bytes e = let pair : ◌≡◌ {A = Items × List ℕ} (none, b) x = cc in subst (EachHasType S []) (ap (λ (q : Items × List ℕ). q.0) pair) tt
  arguments_typed (a ∷ xs) sum b x types bytes e =
      let one = taken (argument_at p S sum a b) (λ v. arguments_at p S (sum + opened_length a v.0) xs v.1 >>= λ vs. let y : Read Items = Ok (item v.0 vs.0, vs.1) in y) x e in
      let two = taken (arguments_at p S (sum + opened_length a one.0.0) xs one.0.1) (λ vs. let y : Read Items = Ok (item one.0.0 vs.0, vs.1) in y) x one.2 in
      let first = argument_typed a sum b one.0 types.0 bytes (is_out a.way) (is_array a.ty.shape) refl refl one.1 in
      joined p S sound a.ty (types_of xs) one.0.0 two.0.0 two.0.1 x two.2 first.0 (arguments_typed xs (sum + opened_length a one.0.0) one.0.1 two.0 types.1 first.1 two.1)

  -- What a handler is called with.
  pub called_typed : (i code : ℕ) (b : List ℕ) (m : ℕ) (saw : Items) → AreBytes b → stub p S i code b ≡ Ok (called m saw) → (position_of_code (methods_at S i) code ≡ Some m) × AreArguments (method_of S i m) saw
  unfolding stub
  called_typed i code b m saw bytes e =
      let place = position_of_code (methods_at S i) code in
      let one = taken (or_status unknown_transaction place) (λ n. token_at p (descriptor S i) b >>= λ rest. arguments_at p S 0 (arguments (method_of S i n)) rest >>= λ x. let y : Result Received ℤ = Ok (received n x.0 x.1) in y) (called m saw) e in
      let n = one.0 in
      let two = taken (token_at p (descriptor S i) b) (λ rest. arguments_at p S 0 (arguments (method_of S i n)) rest >>= λ x. let y : Result Received ℤ = Ok (received n x.0 x.1) in y) (called m saw) one.2 in
      let three = taken (arguments_at p S 0 (arguments (method_of S i n)) two.0) (λ x. let y : Result Received ℤ = Ok (received n x.0 x.1) in y) (called m saw) two.2 in
      let types = (method_typed S holds i n (slice_get S i) refl (method_at (method_of S i n)) refl).0 in
      let h = arguments_typed (arguments (method_of S i n)) 0 two.0 three.0 types (token_bytes p (descriptor S i) b two.0 bytes two.1) three.1 in
      by_rest n three.0.0 three.0.1 three.2 (is_place place one.1) h
    where
      is_place : {n : ℕ} (o : Option ℕ) → or_status unknown_transaction o ≡ Ok n → o ≡ Some n
      is_place None e = cc
      is_place {n} (Some k) e = let one : k ≡ n = cc in ap (λ j. let o : Option ℕ = Some j in o) one

      by_rest : (n : ℕ) (vs : Items) (rest : List ℕ) → ◌≡◌ {A = Result Received ℤ} (Ok (received n vs rest)) (Ok (called m saw)) → position_of_code (methods_at S i) code ≡ Some n → AreArguments (method_of S i n) vs
          → (position_of_code (methods_at S i) code ≡ Some m) × AreArguments (method_of S i m) saw
      by_rest n vs (y ∷ rest) e place h = cc
      by_rest n vs [] e place h =
          let one : n ≡ m = cc in
          let same : vs ≡ saw = cc in
          (place ∙ ap (λ j. let o : Option ℕ = Some j in o) one, subst (AreArguments (method_of S i m)) same (subst (λ k. AreArguments (method_of S i k) vs) one h))
