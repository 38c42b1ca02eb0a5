-- With which statuses a request and a reply are refused.
use Rattle.std.proofs.Common.{◌≡◌, ℕ, ◌+◌, ℤ, pos, Bool, true, false, nat_lt, nat_le, List, [], ◌∷◌, length, take, drop, slice_get, Option, Some, None, Result, Ok, Err, inl, inr, refl, ap, subst}
use Rattle.std.specs.Ordering.{int_eq}
use Rattle.aidl_base.proofs.lemmas.Lists.{AreBytes}
use Rattle.aidl_base.specs.declared.profile.Profile.{Profile}
use Rattle.aidl_base.specs.Readings.{Read, ◌>>=◌, word_at, count_at, text_at, not_null, present_text_at}
use Rattle.aidl_base.specs.Words.{word_of}
use Rattle.aidl_schema.specs.declared.schema.AidlType.{AidlType}
use Rattle.aidl_schema.specs.declared.schema.Arg.{Arg}
use Rattle.aidl_schema.specs.declared.schema.Decl.{Decl}
use Rattle.aidl_schema.specs.Find.{methods_at, position_of_code}
use Rattle.aidl_schema.specs.Holds.{AllHold, HasElements}
use Rattle.aidl_schema.specs.Methods.{is_result_type}
use Rattle.aidl_schema.specs.Types.{is_type, is_array}
use Rattle.aidl_values.specs.Data.{Data, Items, item}
use Rattle.aidl_values.specs.HasType.{HasType}
use Rattle.aidl_values.specs.Sound.{IsSound}
use Rattle.wire_model.specs.Calls.{AnswerData, returned, exception, descriptor, method_at, arguments, result_type, out_types, is_out}
use Rattle.wire_model.specs.MethodOf.{method_of}
use Rattle.wire_model.specs.ReadOf.{read_as, text_data, read_of}
use Rattle.wire_model.specs.Receiver.{Received, received, or_status, zero_in, array_opening, within_sum, length_at, array_opening_at, argument_at, opened_length, arguments_at, header_at, is_token, accepted, token_at, stub, values_at, result_at, returned_at, after_trace, error_at, exception_at, is_refused_status, status_at, whole, client}
use Rattle.wire_model.specs.Requests.{service_specific}
use Rattle.wire_model.specs.Status.{bad_value, not_enough, unexpected_null, unknown_transaction, bad_type, IsStatus, IsTransport}
use Rattle.wire_model.specs.Stop.{CountStop, TextStop}
use Rattle.wire_model.proofs.lemmas.Reading.{read_stop}
use Rattle.wire_model.proofs.calls.Arguments.{HaveTypes}
use Rattle.wire_model.proofs.calls.Types.{passed, method_typed}
use Rattle.wire_model.proofs.received.Arguments.{argument_typed}
use Rattle.wire_model.proofs.received.Rests.{word_bytes, token_bytes}
use Rattle.wire_model.proofs.lemmas.received.Steps.{Stopped, stopped}
use Rattle.wire_model.proofs.received.Values.{AreTypesOf, outs_typed, value_typed, result_typed}
use Rattle.wire_model.proofs.stopped.Statuses.{stop_status, count_status, text_status}
use Rattle.wire_model.proofs.told.Texts.{TextReads, text_told}
use Rattle.wire_model.proofs.told.Words.{Told, CountReads, count_told}

-- It stops with none but the three statuses of reading.
abbrev StopsWell : {A : Type 0} → Result A ℤ → Type 0
StopsWell x = (s : ℤ) → x ≡ Err s → IsStatus s

same_status : {A : Type 0} (r s : ℤ) → ◌≡◌ {A = Result A ℤ} (Err r) (Err s) → IsStatus r → IsStatus s
same_status r s e h = let one : r ≡ s = cc in subst IsStatus one h

-- one step, and what follows it
then_well : {A B : Type 0} (x : Result A ℤ) (k : A → Result B ℤ) → StopsWell x → ((a : A) → x ≡ Ok a → StopsWell (k a)) → StopsWell (x >>= k)
then_well x k first next s e = by_step (stopped x k s e)
  where
    by_step : Stopped x k s → IsStatus s
    by_step (inl h) = first s h
    by_step (inr h) = next h.0 h.1 s h.2

done_well : {A : Type 0} (a : A) → StopsWell (let x : Result A ℤ = Ok a in x)
done_well a s e = cc

word_well : (b : List ℕ) → StopsWell (word_at false b)
word_well b s e = by_test (nat_lt (length b) 4) refl
  where
    by_test : (short : Bool) → nat_lt (length b) 4 ≡ short → IsStatus s
    by_test true is = let stop : ◌≡◌ {A = Read ℤ} (Err not_enough) (Err s) = rw is at e in same_status not_enough s stop (inr (inl refl))
    by_test false is = let wrong : ◌≡◌ {A = Read ℤ} (Ok (word_of (take 4 b), drop 4 b)) (Err s) = rw is at e in cc

count_well : (nullable : Bool) (b : List ℕ) → AreBytes b → StopsWell (count_at nullable false b)
count_well nullable b bytes s e =
    count_status nullable b false s (subst (λ y. Told (CountReads nullable) (λ s. CountStop nullable b false s) b y) e (count_told nullable false b bytes (nat_lt (length b) 4) refl))

within_well : (sum : ℕ) (n : Option ℕ) → StopsWell (within_sum sum n)
within_well sum None s e = cc
within_well sum (Some n) s e = by_test (nat_le (sum + n) 65536) refl
  where
    by_test : (fine : Bool) → nat_le (sum + n) 65536 ≡ fine → IsStatus s
    by_test true is = let wrong : ◌≡◌ {A = Result (Option ℕ) ℤ} (Ok (Some n)) (Err s) = rw is at e in cc
    by_test false is = let stop : ◌≡◌ {A = Result (Option ℕ) ℤ} (Err bad_value) (Err s) = rw is at e in same_status bad_value s stop (inl refl)

length_well : (nullable : Bool) (sum : ℕ) (b : List ℕ) → AreBytes b → StopsWell (length_at nullable sum b)
unfolding length_at
length_well nullable sum b bytes = then_well (count_at nullable false b) (λ n. within_sum sum n.0 >>= λ m. let y : Read (Option ℕ) = Ok (m, n.1) in y) (count_well nullable b bytes)
    (λ n is. then_well (within_sum sum n.0) (λ m. let y : Read (Option ℕ) = Ok (m, n.1) in y) (within_well sum n.0) (λ m is'. done_well (m, n.1)))

text_well : (p : Profile) (b : List ℕ) → AreBytes b → StopsWell (present_text_at p false b)
unfolding present_text_at
text_well p b bytes = then_well (text_at p false false b) (λ t. not_null t.0 >>= λ text. let y : Read (List ℕ) = Ok (text, t.1) in y)
    (λ s e. text_status p false b false s (subst (λ y. Told (λ c v. TextReads p false c v) (λ s. TextStop p false b false s) b y) (ap (read_as text_data) e) (text_told p false false b bytes)))
    (λ t is. then_well (not_null t.0) (λ text. let y : Read (List ℕ) = Ok (text, t.1) in y) (there t.0) (λ text is'. done_well (text, t.1)))
  where
    there : (o : Option (List ℕ)) → StopsWell (not_null o)
    there None s e = same_status unexpected_null s e (inr (inr refl))
    there (Some x) s e = cc

trace_well : (size : ℤ) (b : List ℕ) → StopsWell (after_trace size b)
trace_well size b s e = by_test (int_eq size (pos 0)) refl
  where
    by_test : (none : Bool) → int_eq size (pos 0) ≡ none → IsStatus s
    by_test true is = let wrong : ◌≡◌ {A = Result (List ℕ) ℤ} (Ok b) (Err s) = rw is at e in cc
    by_test false is = let stop : ◌≡◌ {A = Result (List ℕ) ℤ} (Err bad_value) (Err s) = rw is at e in same_status bad_value s stop (inl refl)

error_well : (code : ℤ) (b : List ℕ) → StopsWell (error_at code b)
error_well code b s e = by_test (int_eq code service_specific) refl
  where
    by_test : (own : Bool) → int_eq code service_specific ≡ own → IsStatus s
    by_test true is = let word : word_at false b ≡ Err s = rw is at e in word_well b s word
    by_test false is = let wrong : ◌≡◌ {A = Read ℤ} (Ok (pos 0, b)) (Err s) = rw is at e in cc

exception_well : (p : Profile) (code : ℤ) (b : List ℕ) → AreBytes b → StopsWell (exception_at p code b)
unfolding exception_at
exception_well p code b bytes =
    then_well (present_text_at p false b) (λ message. word_at false message.1 >>= λ size. after_trace size.0 size.1 >>= λ rest. error_at code rest >>= λ error. let y : Read AnswerData = Ok (exception code message.0 error.0, error.1) in y) (text_well p b bytes)
    (λ message is. then_well (word_at false message.1) (λ size. after_trace size.0 size.1 >>= λ rest. error_at code rest >>= λ error. let y : Read AnswerData = Ok (exception code message.0 error.0, error.1) in y) (word_well message.1)
    (λ size is'. then_well (after_trace size.0 size.1) (λ rest. error_at code rest >>= λ error. let y : Read AnswerData = Ok (exception code message.0 error.0, error.1) in y) (trace_well size.0 size.1)
    (λ rest is''. then_well (error_at code rest) (λ error. let y : Read AnswerData = Ok (exception code message.0 error.0, error.1) in y) (error_well code rest) (λ error last. done_well (exception code message.0 error.0, error.1)))))

whole_well : (a : AnswerData) (b : List ℕ) → StopsWell (whole a b)
whole_well a [] s e = cc
whole_well a (x ∷ b) s e = same_status bad_value s e (inl refl)

module _ (p : Profile) (S : List Decl) (sound : IsSound S) (holds : AllHold S) where
  value_well : (t : AidlType) (b : List ℕ) → is_type S t ≡ true → AreBytes b → StopsWell (read_of p S 64 t false b)
  value_well t b type bytes s e = stop_status p S 64 t b false s (read_stop p S sound 64 t type false b bytes s e)

  values_well : (ts : List AidlType) (b : List ℕ) → AreTypesOf S ts → AreBytes b → StopsWell (values_at p S ts b)
  values_well [] b types bytes = λ s e. cc
  values_well (t ∷ ts) b types bytes = then_well (read_of p S 64 t false b) (λ v. values_at p S ts v.1 >>= λ vs. let y : Read Items = Ok (item v.0 vs.0, vs.1) in y) (value_well t b types.0 bytes)
      (λ v is. then_well (values_at p S ts v.1) (λ vs. let y : Read Items = Ok (item v.0 vs.0, vs.1) in y) (values_well ts v.1 types.1 (value_typed p S sound t b v types.0 bytes is).1) (λ vs is'. done_well (item v.0 vs.0, vs.1)))

  result_well : (t : Option AidlType) (b : List ℕ) → is_result_type S t ≡ true → AreBytes b → StopsWell (result_at p S t b)
  result_well None b type bytes = λ s e. cc
  result_well (Some t) b type bytes = then_well (read_of p S 64 t false b) (λ v. let y : Read (Option Data) = Ok (Some v.0, v.1) in y) (value_well t b (passed S t type) bytes) (λ v is. done_well (Some v.0, v.1))

  returned_well : (t : Option AidlType) (ts : List AidlType) (b : List ℕ) → is_result_type S t ≡ true → AreTypesOf S ts → AreBytes b → StopsWell (returned_at p S t ts b)
  unfolding returned_at
  returned_well t ts b type types bytes = then_well (result_at p S t b) (λ r. values_at p S ts r.1 >>= λ vs. let y : Read AnswerData = Ok (returned r.0 vs.0, vs.1) in y) (result_well t b type bytes)
      (λ r is. then_well (values_at p S ts r.1) (λ vs. let y : Read AnswerData = Ok (returned r.0 vs.0, vs.1) in y) (values_well ts r.1 types (result_typed p S sound t b r type bytes is).1) (λ vs is'. done_well (returned r.0 vs.0, vs.1)))

  status_well : (t : Option AidlType) (ts : List AidlType) (w : ℤ) (b : List ℕ) → is_result_type S t ≡ true → AreTypesOf S ts → AreBytes b
      → (fine refused : Bool) → int_eq w (pos 0) ≡ fine → is_refused_status w ≡ refused → StopsWell (status_at p S t ts w b)
  status_well t ts w b type types bytes true refused fine is s e = let read : returned_at p S t ts b ≡ Err s = rw fine at e in returned_well t ts b type types bytes s read
  status_well t ts w b type types bytes false true fine is s e = let stop : ◌≡◌ {A = Read AnswerData} (Err bad_value) (Err s) = rw (fine, is) at e in same_status bad_value s stop (inl refl)
  status_well t ts w b type types bytes false false fine is s e = let read : exception_at p w b ≡ Err s = rw (fine, is) at e in exception_well p w b bytes s read

  -- A reply is refused with a status of reading.
  pub client_status : (i m : ℕ) (b : List ℕ) → AreBytes b → (s : ℤ) → client p (method_of S i m) b ≡ Err s → IsStatus s
  unfolding client
  client_status i m b bytes =
      let t = result_type (method_of S i m) in
      let ts = out_types (method_of S i m) in
      let method = method_typed S holds i m (slice_get S i) refl (method_at (method_of S i m)) refl in
      then_well (word_at false b) (λ status. status_at p S t ts status.0 status.1 >>= λ x. whole x.0 x.1) (word_well b)
      (λ status is. then_well (status_at p S t ts status.0 status.1) (λ x. whole x.0 x.1)
      (status_well t ts status.0 status.1 method.1 (outs_typed S (arguments (method_of S i m)) method.0) (word_bytes b status bytes is) (int_eq status.0 (pos 0)) (is_refused_status status.0) refl refl)
      (λ x is'. whole_well x.0 x.1))

  module _ (elements : HasElements S) (typed : (t : AidlType) → is_type S t ≡ true → HasType S t (zero_in S t)) where
    argument_well : (a : Arg) (sum : ℕ) (b : List ℕ) → is_type S a.ty ≡ true → AreBytes b → (out array : Bool) → is_out a.way ≡ out → is_array a.ty.shape ≡ array → StopsWell (argument_at p S sum a b)
    unfolding array_opening_at
    argument_well a sum b type bytes true true out array s e =
        let opened : array_opening_at S sum a.ty b ≡ Err s = rw (out, array) at e in
        then_well (length_at a.ty.nullable sum b) (λ n. let y : Read Data = Ok (array_opening S a.ty n.0, n.1) in y) (length_well a.ty.nullable sum b bytes) (λ n is. done_well (array_opening S a.ty n.0, n.1)) s opened
    argument_well a sum b type bytes true false out array s e = let wrong : ◌≡◌ {A = Read Data} (Ok (zero_in S a.ty, b)) (Err s) = rw (out, array) at e in cc
    argument_well a sum b type bytes false array out at s e = let read : read_of p S 64 a.ty false b ≡ Err s = rw out at e in value_well a.ty b type bytes s read

    arguments_well : (xs : List Arg) (sum : ℕ) (b : List ℕ) → HaveTypes S xs → AreBytes b → StopsWell (arguments_at p S sum xs b)
    arguments_well [] sum b types bytes = λ s e. cc
    arguments_well (a ∷ xs) sum b types bytes =
        then_well (argument_at p S sum a b) (λ v. arguments_at p S (sum + opened_length a v.0) xs v.1 >>= λ vs. let y : Read Items = Ok (item v.0 vs.0, vs.1) in y)
        (argument_well a sum b types.0 bytes (is_out a.way) (is_array a.ty.shape) refl refl)
        (λ v is. then_well (arguments_at p S (sum + opened_length a v.0) xs v.1) (λ vs. let y : Read Items = Ok (item v.0 vs.0, vs.1) in y)
        (arguments_well xs (sum + opened_length a v.0) v.1 types.1 (argument_typed p S sound holds elements typed a sum b v types.0 bytes (is_out a.way) (is_array a.ty.shape) refl refl is).1)
        (λ vs is'. done_well (item v.0 vs.0, vs.1)))

    no_method : (o : Option ℕ) (s : ℤ) → or_status unknown_transaction o ≡ Err s → s ≡ unknown_transaction
    no_method None s e = cc
    no_method (Some m) s e = cc

    no_token : (name : List ℕ) (x : Read (ℤ × List ℕ)) (s : ℤ) → accepted name x ≡ Err s → s ≡ bad_type
    no_token name (Err r) s e = cc
    no_token name (Ok x) s e = by_test (is_token name x.0) refl
      where
        by_test : (found : Bool) → is_token name x.0 ≡ found → s ≡ bad_type
        by_test true t = let wrong : ◌≡◌ {A = Result (List ℕ) ℤ} (Ok x.1) (Err s) = rw t at e in cc
        by_test false t = let same : ◌≡◌ {A = Result (List ℕ) ℤ} (Err bad_type) (Err s) = rw t at e in cc

    -- A request is refused with a status of reading, UNKNOWN_TRANSACTION or BAD_TYPE.
    pub stub_status : (i code : ℕ) (b : List ℕ) → AreBytes b → (s : ℤ) → stub p S i code b ≡ Err s → IsTransport s
    unfolding stub
    stub_status i code b bytes s e =
        by_code (stopped (or_status unknown_transaction (position_of_code (methods_at S i) code)) (λ n. token_at p (descriptor S i) b >>= λ rest. arguments_at p S 0 (arguments (method_of S i n)) rest >>= λ x. let y : Result Received ℤ = Ok (received n x.0 x.1) in y) s e)
      where
        by_end : (n : ℕ) (rest : List ℕ) → AreBytes rest → Stopped (arguments_at p S 0 (arguments (method_of S i n)) rest) (λ x. let y : Result Received ℤ = Ok (received n x.0 x.1) in y) s → IsTransport s
        by_end n rest bytes (inl h) = inr (inr (arguments_well (arguments (method_of S i n)) 0 rest (method_typed S holds i n (slice_get S i) refl (method_at (method_of S i n)) refl).0 bytes s h))
        by_end n rest bytes (inr h) = let wrong = h.2 in cc

        by_token : (n : ℕ) → Stopped (token_at p (descriptor S i) b) (λ rest. arguments_at p S 0 (arguments (method_of S i n)) rest >>= λ x. let y : Result Received ℤ = Ok (received n x.0 x.1) in y) s → IsTransport s
        by_token n (inl h) = inr (inl (no_token (descriptor S i) (header_at p b) s h))
        by_token n (inr h) = by_end n h.0 (token_bytes p (descriptor S i) b h.0 bytes h.1) (stopped (arguments_at p S 0 (arguments (method_of S i n)) h.0) (λ x. let y : Result Received ℤ = Ok (received n x.0 x.1) in y) s h.2)

        by_code : Stopped (or_status unknown_transaction (position_of_code (methods_at S i) code)) (λ n. token_at p (descriptor S i) b >>= λ rest. arguments_at p S 0 (arguments (method_of S i n)) rest >>= λ x. let y : Result Received ℤ = Ok (received n x.0 x.1) in y) s → IsTransport s
        by_code (inl h) = inl (no_method (position_of_code (methods_at S i) code) s h)
        by_code (inr h) = by_token h.0 (stopped (token_at p (descriptor S i) b) (λ rest. arguments_at p S 0 (arguments (method_of S i h.0)) rest >>= λ x. let y : Result Received ℤ = Ok (received h.0 x.0 x.1) in y) s h.2)
