-- Each call that fits is taken of an object: its name, its arguments and its answer, written as JSON.
use Rattle.std.proofs.Common.{◌≡◌, ℕ, zero, suc, ◌+◌, ◌<◌, ◌≤◌, ℤ, pos, negsuc, Bool, true, false, ◌&&◌, ◌==◌, nat_le, List, [], ◌∷◌, ◌++◌, length, map, Option, Some, None, slice_get, Ok, Err, option_map, refl, sym, ap, ◌∙◌, subst, arith}
use Rattle.std.specs.Prelude.{MatchBool, if◌then◌else◌, codes, is_none}
use Rattle.std.specs.List.{list_all, position}
use Rattle.std.specs.Ordering.{int_eq}
use Rattle.std.specs.Str.{encode_utf8_all}
use Rattle.std.proofs.lemmas.Bool.Decides.{nat_tests}
use Rattle.std.proofs.lemmas.Str.{chars-encodes, encode_ascii, encodes_same}
use Rattle.serde_json.specs.Data as json
use Rattle.serde_json.specs.Events.{items_len}
use Rattle.serde_json.specs.Find.{as_integer, get_member, of_integer}
use Rattle.aidl_base.proofs.lemmas.Ranges.{fits_int}
use Rattle.aidl_base.proofs.lemmas.Tests.{both}
use Rattle.aidl_base.specs.Identifiers.{begins, is_identifier, is_letter, is_word_byte}
use Rattle.aidl_base.specs.Reserved.{reserved_of}
use Rattle.aidl_schema.proofs.lemmas.Sames.{eq_refl, same_text_is, same_text_refl}
use Rattle.aidl_schema.specs.declared.schema.AidlType.{AidlType}
use Rattle.aidl_schema.specs.declared.schema.Arg.{Arg}
use Rattle.aidl_schema.specs.declared.schema.Decl.{Decl}
use Rattle.aidl_schema.specs.declared.schema.Kind.{Kind}
use Rattle.aidl_schema.specs.declared.schema.Kind.TheVariants as kind
use Rattle.aidl_schema.specs.declared.schema.Method.{Method}
use Rattle.aidl_schema.specs.Find.{interface_named, is_interface, is_interface_kind, methods_at, methods_of_decl, number_of_name}
use Rattle.aidl_schema.specs.Holds.{AllHold, AreApart}
use Rattle.aidl_schema.specs.Names.{are_identifiers, bytes_of, methods_of, name_of}
use Rattle.aidl_schema.specs.Same.{same_text}
use Rattle.aidl_schema.specs.Types.{is_array}
use Rattle.aidl_values.specs.Data.{Data, null, truth, number, text, seq, rec, alt, Items, none, item}
use Rattle.aidl_values.specs.Fits.{Fits}
use Rattle.json_values.proofs.lemmas.Written.{json_of, reads_back}
use Rattle.json_values.specs.FromJson.{from_json_of}
use Rattle.wire_model.proofs.lemmas.Lookups.{position_is}
use Rattle.wire_model.specs.Calls.{AnswerData, returned, exception, arguments, descriptor, is_oneway, is_out, name_of_decl, out_types, result_type}
use Rattle.wire_model.specs.MethodOf.{method_of}
use Rattle.wire_model.specs.Requests.{AnswerFits, ArgumentsFit, ArgsFit, EachFits, ExceptionFits, IsAnswer, IsLength, ResultFits, asked_length, number_or_0, reply, request, sent_length, service_specific, sum_of_lengths}
use Rattle.call_scripts.specs.Answers.{answer_from, are_in_range, exception_from, object_from, outs_from, result_from, returned_from, thrown_of, two_way_from, unknown_in, values_from}
use Rattle.call_scripts.specs.Arguments.{args_from, array_from, entries_from, entry_from, null_from}
use Rattle.call_scripts.specs.Calls.{CallData, CallFits, TargetData, TargetFits, callee}
use Rattle.call_scripts.specs.EveryCall.{HasLine, OnewayIsQuiet}
use Rattle.call_scripts.specs.Names.{Named, at_last_dot, method_meant, method_named}
use Rattle.call_scripts.specs.Refusal.{Judged, ◌>>=◌, at_answer, at_args, at_entry, at_return, at_value, placed, unless}
use Rattle.call_scripts.specs.Script.{answered, call_from, line_keys, named_from, sent_from, target_from}
use Rattle.call_scripts.specs.declared.refused.RefusedName.TheVariants.{TooLarge}
use Rattle.call_scripts.proofs.SameNames.{is_target}

-- a step, and then another with what it gave
goes_to : {X Y : Type 0} (r : Judged X) (next : X → Judged Y) (x : X) (y : Judged Y) → r ≡ Ok x → next x ≡ y → (r >>= next) ≡ y
goes_to (Ok z) next x y is e = let same : z ≡ x = cc in ap next same ∙ e
goes_to (Err z) next x y is e = cc

within_test : (m n : ℕ) → m ≤ n → nat_le m n ≡ true
within_test m n h = grind (arith, nat_tests)

as_integer-of_integer : (n : ℤ) → as_integer (of_integer n) ≡ Some n
as_integer-of_integer (pos n) = refl
as_integer-of_integer (negsuc n) = refl

-- ---- names

-- no dot stands in an identifier, and each of its characters is a byte
no_dot : (b : ℕ) → is_word_byte b ≡ true → (b == 46) ≡ false
no_dot b h = grind (arith, nat_tests)

small_byte : (b : ℕ) → is_word_byte b ≡ true → b < 128
small_byte b h = grind (arith, nat_tests)

dotless : (w : List ℕ) → list_all is_word_byte w ≡ true → at_last_dot w ≡ None
dotless [] h = refl
dotless (b ∷ w) h = let two = both (is_word_byte b) (list_all is_word_byte w) h in rw (dotless w two.1, no_dot b two.0) refl

ascii_word : (w : List ℕ) → list_all is_word_byte w ≡ true → encode_utf8_all w ≡ w
ascii_word [] h = refl
ascii_word (b ∷ w) h =
    let two = both (is_word_byte b) (list_all is_word_byte w) h in
    ap (λ c. c ++ encode_utf8_all w) (encode_ascii b (small_byte b two.0)) ∙ ap (λ x. b ∷ x) (ascii_word w two.1)

name_dotless : (w : List ℕ) → is_identifier w ≡ true → at_last_dot (encode_utf8_all w) ≡ None
name_dotless w h =
    let bytes = (both (begins is_letter w) (list_all is_word_byte w) (both (begins is_letter w && list_all is_word_byte w) (is_none (reserved_of w)) h).0).1 in
    ap at_last_dot (ascii_word w bytes) ∙ dotless w bytes

at_dot : (front w : List ℕ) → at_last_dot w ≡ None → at_last_dot (front ++ 46 ∷ w) ≡ Some (front, w)
at_dot [] w h = rw h refl
at_dot (c ∷ front) w h = rw (at_dot front w h) refl

identifier_at : (ms : List Method) (k : ℕ) (m : Method) → are_identifiers (map (λ x. x.name.0) ms) ≡ true → slice_get ms k ≡ Some m → is_identifier m.name.0 ≡ true
identifier_at [] k m h at = cc
identifier_at (x ∷ ms) zero m h at = let one : x ≡ m = cc in subst (λ y. is_identifier y.name.0 ≡ true) one (both (is_identifier x.name.0) (are_identifiers (map (λ y. y.name.0) ms)) h).0
identifier_at (x ∷ ms) (suc k) m h at = identifier_at ms k m (both (is_identifier x.name.0) (are_identifiers (map (λ y. y.name.0) ms)) h).1 at

there : {X : Type 0} (xs : List X) (i : ℕ) → i < length xs → (x : X) × (slice_get xs i ≡ Some x)
there [] i lt = absurd (omega arith)
there (x ∷ xs) zero lt = (x, refl)
there (x ∷ xs) (suc i) lt = there xs i (omega arith)

-- what has methods is an interface
has_methods : (k : Kind) (m : ℕ) → m < length (methods_of k) → is_interface_kind k ≡ true
has_methods (kind.Interface ms) m lt = refl
has_methods k m lt = absurd (omega arith)

-- the method at these numbers, and what its names find
record IsFound (A : List Decl) (i m : ℕ) : Type 0 where
  before : List ℕ
  behind_it : List ℕ
  dotless : at_last_dot behind_it ≡ None
  full : before ≡ encode_utf8_all (descriptor A i)
  interface : interface_named A before ≡ Some i
  method : method_named A i behind_it ≡ Some m

module _ (A : List Decl) (hold : AllHold A) (apart : AreApart name_of A) (i m : ℕ) where
  number_found : (d : Decl) → slice_get A i ≡ Some d → number_of_name A (encode_utf8_all (name_of d)) ≡ Some i
  number_found d at =
      position_is (λ e. same_text (encode_utf8_all (name_of e)) (encode_utf8_all (name_of d))) A i d at (same_text_refl (encode_utf8_all (name_of d)))
      (λ j y there so. apart j i y d there at (encodes_same (name_of y) (name_of d) (same_text_is (encode_utf8_all (name_of y)) (encode_utf8_all (name_of d)) so)))

  method_found : (d : Decl) (v : Method) → slice_get A i ≡ Some d → slice_get (methods_of d.kind) m ≡ Some v → method_named A i (bytes_of v.name) ≡ Some m
  method_found d v at is =
      ap (λ o. position (λ w. same_text (bytes_of w.name) (bytes_of v.name)) (methods_of_decl o)) at
      ∙ position_is (λ w. same_text (bytes_of w.name) (bytes_of v.name)) (methods_of d.kind) m v is (same_text_refl (bytes_of v.name))
      (λ j y there so. (hold i d at).methods j m y v there is (encodes_same y.name.0 v.name.0 (same_text_is (bytes_of y.name) (bytes_of v.name) so)))

  found_in : (d : Decl) → slice_get A i ≡ Some d → m < length (methods_of d.kind) → IsFound A i m
  found_in d at lt =
      let v = there (methods_of d.kind) m lt in
      let interface : is_interface A i ≡ true = rw (is_interface, at) (has_methods d.kind m lt) in
      record {
        before = encode_utf8_all (name_of d);
        behind_it = bytes_of v.0.name;
        dotless = name_dotless v.0.name.0 (identifier_at (methods_of d.kind) m v.0 (hold i d at).method_identifiers v.1);
        full = ap (λ o. encode_utf8_all (name_of_decl o)) (sym at);
        interface = rw (number_found d at, interface) refl;
        method = method_found d v.0 at v.1;
      }

  found : m < length (methods_at A i) → IsFound A i m
  found = by (slice_get A i) refl
    where
      by : (o : Option Decl) → slice_get A i ≡ o → m < length (methods_of_decl o) → IsFound A i m
      by None at lt = absurd (omega arith)
      by (Some d) at lt = found_in d at lt

-- ---- arguments

module _ (S : List Decl) (hold : AllHold S) where
  value_back : (t : AidlType) (v : Data) (at : List ℕ) → Fits S t v → placed at (from_json_of S 64 t (json_of S t v)) ≡ Ok v
  value_back t v at fits = rw (reads_back S hold t v fits) refl

  -- the entry of an `out` argument or of another one
  abbrev written_by : Bool → AidlType → Data → json.Data
  written_by false t v = json_of S t v
  written_by true t (number n) = json.number (of_integer n)
  written_by true t _ = json.null

  entry_case : (out array : Bool) (t : AidlType) (v : Data) (sum : ℕ) (at : List ℕ) → MatchBool out (MatchBool array (IsLength t v) (v ≡ null)) (Fits S t v)
      → sum + (if out then number_or_0 (sent_length v) else 0) ≤ 65536
      → (if out then (if array then array_from t.nullable sum at (written_by out t v) else null_from at (written_by out t v)) else placed at (from_json_of S 64 t (written_by out t v))) ≡ Ok v
  entry_case false array t v sum at h few = value_back t v at h
  entry_case true false t v sum at h few = rw h refl
  entry_case true true t null sum at h few = rw h refl
  entry_case true true t (number (pos n)) sum at h few = rw (within_test (sum + n) 65536 few) refl
  entry_case true true t (number (negsuc n)) sum at h few = absurd h
  entry_case true true t (truth b) sum at h few = absurd h
  entry_case true true t (text s) sum at h few = absurd h
  entry_case true true t (seq vs) sum at h few = absurd h
  entry_case true true t (rec vs) sum at h few = absurd h
  entry_case true true t (alt k v) sum at h few = absurd h

  abbrev written_entries : List Arg → Items → json.Items
  written_entries (a ∷ xs) (item v vs) = json.item (written_by (is_out a.way) a.ty v) (written_entries xs vs)
  written_entries (a ∷ xs) none = json.no_items
  written_entries [] vs = json.no_items

  entries_back : (xs : List Arg) (vs : Items) (k sum : ℕ) → ArgumentsFit S xs vs → sum + sum_of_lengths xs vs ≤ 65536 → entries_from S k sum xs (written_entries xs vs) ≡ Ok vs
  entries_back [] none k sum h few = refl
  entries_back [] (item v vs) k sum h few = absurd h
  entries_back (a ∷ xs) none k sum h few = absurd h
  entries_back (a ∷ xs) (item v vs) k sum h few =
      let first : entry_from S sum (at_entry k) a (written_by (is_out a.way) a.ty v) ≡ Ok v = entry_case (is_out a.way) (is_array a.ty.shape) a.ty v sum (at_entry k) h.0 (omega (arith, few)) in
      let others = entries_back xs vs (suc k) (sum + asked_length a v) h.1 (omega (arith, few)) in
      rw (first, others) refl

  entries_counted : (xs : List Arg) (vs : Items) → ArgumentsFit S xs vs → items_len (written_entries xs vs) ≡ length xs
  entries_counted [] none h = refl
  entries_counted [] (item v vs) h = absurd h
  entries_counted (a ∷ xs) none h = absurd h
  entries_counted (a ∷ xs) (item v vs) h = ap suc (entries_counted xs vs h.1)

  args_back : (xs : List Arg) (vs : Items) → ArgumentsFit S xs vs → sum_of_lengths xs vs ≤ 65536 → args_from S xs (Some (json.array (written_entries xs vs))) ≡ Ok vs
  args_back xs vs h few = rw (entries_counted xs vs h, eq_refl (length xs)) (entries_back xs vs 0 0 h (omega (arith, few)))

  sent_back : (i m : ℕ) (vs : Items) → ArgsFit (method_of S i m) vs → length (request (method_of S i m) vs) ≤ 1048576
      → sent_from (method_of S i m) (Some (json.array (written_entries (arguments (method_of S i m)) vs))) ≡ Ok vs
  unfolding sent_from
  sent_back i m vs fits small =
      goes_to (args_from S (arguments (method_of S i m)) (Some (json.array (written_entries (arguments (method_of S i m)) vs))))
      (λ args. unless (nat_le (length (request (method_of S i m) args)) 1048576) TooLarge at_args >>= (λ small. Ok args)) vs (Ok vs)
      (args_back (arguments (method_of S i m)) vs fits.each fits.few) (rw (within_test (length (request (method_of S i m) vs)) 1048576 small) refl)

  -- ---- answers

  abbrev written_values : List AidlType → Items → json.Items
  written_values (t ∷ ts) (item v vs) = json.item (json_of S t v) (written_values ts vs)
  written_values (t ∷ ts) none = json.no_items
  written_values [] vs = json.no_items

  values_back : (ts : List AidlType) (vs : Items) (k : ℕ) → EachFits S ts vs → values_from S k ts (written_values ts vs) ≡ Ok vs
  values_back [] none k h = refl
  values_back [] (item v vs) k h = absurd h
  values_back (t ∷ ts) none k h = absurd h
  values_back (t ∷ ts) (item v vs) k h = rw (value_back t v (at_value k) h.0, values_back ts vs (suc k) h.1) refl

  values_counted : (ts : List AidlType) (vs : Items) → EachFits S ts vs → items_len (written_values ts vs) ≡ length ts
  values_counted [] none h = refl
  values_counted [] (item v vs) h = absurd h
  values_counted (t ∷ ts) none h = absurd h
  values_counted (t ∷ ts) (item v vs) h = ap suc (values_counted ts vs h.1)

  outs_back : (ts : List AidlType) (vs : Items) → EachFits S ts vs → outs_from S ts (Some (json.array (written_values ts vs))) ≡ Ok vs
  outs_back ts vs h = rw (values_counted ts vs h, eq_refl (length ts)) (values_back ts vs 0 h)

  -- the member of a result, where there is one
  abbrev written_result : Option AidlType → Option Data → Option json.Data
  written_result (Some t) (Some v) = Some (json_of S t v)
  written_result (Some t) None = None
  written_result None r = None

  result_back : (t : Option AidlType) (r : Option Data) → ResultFits S t r → result_from S t (written_result t r) ≡ Ok r
  result_back None None h = refl
  result_back None (Some v) h = absurd h
  result_back (Some t) None h = absurd h
  result_back (Some t) (Some v) h = rw (value_back t v at_return h) refl

  -- the members of an answer, in the order of their keys
  abbrev returned_members : json.Items → Option json.Data → json.Members
  returned_members js None = json.member (codes "out") (json.array js) json.no_members
  returned_members js (Some j) = json.member (codes "out") (json.array js) (json.member (codes "return") j json.no_members)

  object_back : (t : Option AidlType) (ts : List AidlType) (js : json.Items) (o : Option json.Data)
      → object_from S t ts (returned_members js o) ≡ returned_from S t ts o (Some (json.array js))
  object_back t ts js None = refl
  object_back t ts js (Some j) = refl

  returned_back : (t : Option AidlType) (ts : List AidlType) (r : Option Data) (vs : Items) → ResultFits S t r → EachFits S ts vs
      → two_way_from S t ts (Some (json.object (returned_members (written_values ts vs) (written_result t r)))) ≡ Ok (returned r vs)
  returned_back t ts r vs result outs =
      object_back t ts (written_values ts vs) (written_result t r)
      ∙ goes_to (result_from S t (written_result t r)) (λ x. outs_from S ts (Some (json.array (written_values ts vs))) >>= (λ ys. Ok (returned x ys))) r (Ok (returned r vs)) (result_back t r result)
      (rw (outs_back ts vs outs) refl)

  -- an exception: its code, its message, and its error number where the code has one
  abbrev written_exception : Bool → ℤ → List ℕ → ℤ → json.Data
  written_exception true code message error =
      json.array (json.item (json.number (of_integer code)) (json.item (json.string (encode_utf8_all message)) (json.item (json.number (of_integer error)) json.no_items)))
  written_exception false code message error = json.array (json.item (json.number (of_integer code)) (json.item (json.string (encode_utf8_all message)) json.no_items))

  thrown_back : (b : Bool) (code : ℤ) (message : List ℕ) (error : ℤ) → int_eq code service_specific ≡ b → ExceptionFits code message error
      → thrown_of (written_exception b code message error) ≡ Some (record { code = code; message = message; error = error })
  thrown_back true code message error is fits = rw (as_integer-of_integer code, as_integer-of_integer error, is, chars-encodes message fits.scalars) refl
  thrown_back false code message error is fits = rw (as_integer-of_integer code, is, chars-encodes message fits.scalars, fits.no_error is) refl

  exception_back : (t : Option AidlType) (ts : List AidlType) (code : ℤ) (message : List ℕ) (error : ℤ) → ExceptionFits code message error
      → two_way_from S t ts (Some (json.object (json.member (codes "exception") (written_exception (int_eq code service_specific) code message error) json.no_members))) ≡ Ok (exception code message error)
  exception_back t ts code message error fits =
      let ranges : are_in_range code error ≡ true = rw (fits.known, fits_int error fits.int) refl in
      ap exception_from (thrown_back (int_eq code service_specific) code message error refl fits) ∙ rw ranges refl

  -- the member of an answer, where the method isn't oneway
  abbrev written_answer : (t : Option AidlType) (ts : List AidlType) → AnswerData → json.Data
  written_answer t ts (returned r vs) = json.object (returned_members (written_values ts vs) (written_result t r))
  written_answer t ts (exception code message error) = json.object (json.member (codes "exception") (written_exception (int_eq code service_specific) code message error) json.no_members)

  two_way_back : (j k : ℕ) (a : AnswerData) → IsAnswer (method_of S j k) a
      → two_way_from S (result_type (method_of S j k)) (out_types (method_of S j k)) (Some (written_answer (result_type (method_of S j k)) (out_types (method_of S j k)) a)) ≡ Ok a
  two_way_back j k (returned r vs) h = returned_back (result_type (method_of S j k)) (out_types (method_of S j k)) r vs h.0 h.1
  two_way_back j k (exception code message error) h = exception_back (result_type (method_of S j k)) (out_types (method_of S j k)) code message error h

  abbrev answer_member : (oneway : Bool) (t : Option AidlType) (ts : List AidlType) → AnswerData → Option json.Data
  answer_member true t ts a = None
  answer_member false t ts a = Some (written_answer t ts a)

  answer_back : (b : Bool) (j k : ℕ) (a : AnswerData) → is_oneway (method_of S j k) ≡ b → (b ≡ true → a ≡ returned None none) → IsAnswer (method_of S j k) a
      → answer_from (method_of S j k) (answer_member b (result_type (method_of S j k)) (out_types (method_of S j k)) a) ≡ Ok a
  answer_back true j k a is quiet h = rw is (ap Ok (sym (quiet refl)))
  answer_back false j k a is quiet h = rw is (two_way_back j k a h)

  answered_back : (j : ℕ) (t : TargetData) → AnswerFits (method_of S j t.method) t.answer → (is_oneway (method_of S j t.method) ≡ true → t.answer ≡ returned None none)
      → answered (method_of S j t.method) (answer_member (is_oneway (method_of S j t.method)) (result_type (method_of S j t.method)) (out_types (method_of S j t.method)) t.answer) ≡ Ok t
  unfolding answered
  answered_back j t fits quiet =
      goes_to (answer_from (method_of S j t.method) (answer_member (is_oneway (method_of S j t.method)) (result_type (method_of S j t.method)) (out_types (method_of S j t.method)) t.answer))
      (λ answer. unless (nat_le (length (reply (method_of S j t.method) answer)) 1048576) TooLarge at_answer >>= (λ small. Ok (record { method = t.method; answer = answer }))) t.answer (Ok t)
      (answer_back (is_oneway (method_of S j t.method)) j t.method t.answer refl quiet fits.answer) (rw (within_test (length (reply (method_of S j t.method) t.answer)) 1048576 fits.small) refl)

  -- the member of the answer of a call
  abbrev target_member : Option ℕ → Option TargetData → Option json.Data
  target_member (Some j) (Some t) = answer_member (is_oneway (method_of S j t.method)) (result_type (method_of S j t.method)) (out_types (method_of S j t.method)) t.answer
  target_member (Some j) None = None
  target_member None target = None

  target_back : (server : Option ℕ) (target : Option TargetData) → TargetFits S server target → OnewayIsQuiet S server target
      → target_from S server (option_map (λ (t : TargetData). t.method) target) (target_member server target) ≡ Ok target
  target_back (Some j) (Some t) fits quiet = rw (answered_back j t fits quiet) refl
  target_back (Some j) None fits quiet = refl
  target_back None (Some t) fits quiet = absurd fits
  target_back None None fits quiet = refl

-- ---- the object, its keys in byte order

abbrev members : List ℕ → json.Items → Option json.Data → json.Members
members name args None = json.member (codes "args") (json.array args) (json.member (codes "call") (json.string name) json.no_members)
members name args (Some j) = json.member (codes "answer") j (json.member (codes "args") (json.array args) (json.member (codes "call") (json.string name) json.no_members))

record AreMembers (name : List ℕ) (entries : json.Items) (o : Option json.Data) : Type 0 where
  known : unknown_in line_keys (members name entries o) ≡ None
  call : get_member (codes "call") (members name entries o) ≡ Some (json.string name)
  args : get_member (codes "args") (members name entries o) ≡ Some (json.array entries)
  answer : get_member (codes "answer") (members name entries o) ≡ o

are_members : (name : List ℕ) (args : json.Items) (o : Option json.Data) → AreMembers name args o
are_members name args None = record { known = refl; call = refl; args = refl; answer = refl }
are_members name args (Some j) = record { known = refl; call = refl; args = refl; answer = refl }

module _ (A B : List Decl) (hold_A : AllHold A) (hold_B : AllHold B) (apart : AreApart name_of A) (c : CallData) (fits : CallFits A B c) (quiet : OnewayIsQuiet B c.server c.target) where
  abbrev numbers : Named
  numbers = record { interface = c.interface; method = c.method; server = c.server; target = option_map (λ (t : TargetData). t.method) c.target }

  meant : (f : IsFound A c.interface c.method) → method_meant A B (f.before ++ 46 ∷ f.behind_it) ≡ Some numbers
  meant f =
      let server : interface_named B f.before ≡ c.server = ap (interface_named B) f.full ∙ sym fits.server.named in
      let target = is_target A B c.interface c.method f.behind_it c.server f.method ∙ sym fits.target in
      rw (at_dot f.before f.behind_it f.dotless, f.interface, f.method, server, target) refl

  name_back : (f : IsFound A c.interface c.method) → named_from A B (Some (json.string (f.before ++ 46 ∷ f.behind_it))) ≡ Ok numbers
  name_back f = rw (meant f) refl

  object_taken : (f : IsFound A c.interface c.method) (args : json.Items) (o : Option json.Data) → sent_from (method_of A c.interface c.method) (Some (json.array args)) ≡ Ok c.args
      → target_from B c.server (option_map (λ (t : TargetData). t.method) c.target) o ≡ Ok c.target → call_from A B (members (f.before ++ 46 ∷ f.behind_it) args o) ≡ Ok c
  unfolding call_from
  object_taken f args o sent target =
      let name = f.before ++ 46 ∷ f.behind_it in
      let m = are_members name args o in
      rw (m.known, m.call, m.args, m.answer, name_back f, sent, target) refl

  pub has_line : HasLine A B c
  has_line =
      let f = found A hold_A apart c.interface c.method fits.there in
      let args = written_entries A hold_A (arguments (callee A c)) c.args in
      let o = target_member B hold_B c.server c.target in (
        members (f.before ++ 46 ∷ f.behind_it) args o,
        object_taken f args o (sent_back A hold_A c.interface c.method c.args fits.args fits.small) (target_back B hold_B c.server c.target fits.answer quiet),
      )
