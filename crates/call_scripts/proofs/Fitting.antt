-- What a line means as values fits: its arguments those of the method, and its answer the method's, of a valid schema.
use Rattle.std.proofs.Common.{◌≡◌, ℕ, suc, ◌+◌, ◌≤◌, ℤ, pos, negsuc, Bool, true, false, ◌==◌, nat_le, List, [], ◌∷◌, length, Option, Some, None, Ok, Err, IfOk, refl, arith}
use Rattle.std.specs.Prelude.{IfSome, MatchBool, if◌then◌else◌, codes, option_and_then}
use Rattle.std.specs.List.{list_all}
use Rattle.std.specs.Ordering.{int_eq}
use Rattle.std.specs.Str.{all_scalars, chars}
use Rattle.std.proofs.lemmas.Bool.{eqb-true}
use Rattle.std.proofs.lemmas.Bool.Decides.{nat_tests}
use Rattle.serde_json.specs.Data as json
use Rattle.serde_json.specs.Events.{items_len}
use Rattle.serde_json.specs.Find.{as_integer, get_member}
use Rattle.aidl_base.specs.Ranges.{is_between}
use Rattle.aidl_base.proofs.lemmas.Tests.{both}
use Rattle.aidl_schema.specs.declared.schema.AidlType.{AidlType}
use Rattle.aidl_schema.specs.declared.schema.Arg.{Arg}
use Rattle.aidl_schema.specs.declared.schema.Decl.{Decl}
use Rattle.aidl_schema.specs.Holds.{AllHold}
use Rattle.aidl_schema.specs.Methods.{is_passed_type, is_result_type}
use Rattle.aidl_schema.specs.Sizes.{AreSteady}
use Rattle.aidl_schema.specs.Types.{is_array}
use Rattle.aidl_values.specs.Data.{Data, null, truth, number, text, seq, rec, alt, Items, none, item}
use Rattle.aidl_values.specs.Default.{zero_within}
use Rattle.aidl_values.specs.Fits.{Fits}
use Rattle.aidl_values.specs.Sound.{IsSound}
use Rattle.aidl_values.proofs.lemmas.Sounds.{default_fits}
use Rattle.json_values.specs.FromJson.{from_json_of, is_null}
use Rattle.json_values.specs.Refusal as reading
use Rattle.json_values.proofs.Fits.{FitsAs, OptionHasTexts, found_texts, from_json_fits}
use Rattle.json_values.proofs.Texts.{HasTexts, HaveTexts, MembersHaveTexts}
use Rattle.wire_model.specs.Calls.{AnswerData, returned, exception, arguments, is_oneway, is_out, out_types, result_type}
use Rattle.wire_model.specs.MethodOf.{method_of}
use Rattle.wire_model.specs.Requests.{ArgumentsFit, EachFits, ExceptionFits, IsAnswer, IsLength, ResultFits, asked_length, number_or_0, sent_length, service_specific, sum_of_lengths}
use Rattle.call_scripts.specs.Answers.{Thrown, all_known, answer_from, answer_keys, are_in_range, default_outs, exception_from, is_alone, object_from, oneway_from, outs_from, result_from, returned_from, thrown_of, thrown_or_returned, two_way_from, unknown_in, values_from, whole}
use Rattle.call_scripts.specs.Arguments.{args_from, array_from, counted_entries, entries_from, entry_from, length_from, null_from}
use Rattle.call_scripts.specs.Refusal.{Judged, ◌>>=◌, at_answer, at_args, at_entry, at_exception, at_out, at_return, at_value, placed, refuse, unless}
use Rattle.call_scripts.specs.declared.refused.RefusedName.TheVariants.{OutOfRange, WrongShape}
use Rattle.call_scripts.specs.steps.Exceptions.{IsQuiet}
use Rattle.call_scripts.specs.steps.Lengths.{IsLengthWithin}
use Rattle.call_scripts.proofs.Passed.{is_type_of, passed_outs}
use Rattle.call_scripts.proofs.ThrownFits.{error_fits}
use Rattle.call_scripts.proofs.Types.{typed}

pub weaken : {X : Type 0} (P Q : X → Type 0) (r : Judged X) → ((x : X) → P x → Q x) → IfOk r P → IfOk r Q
weaken P Q (Ok x) f h = f x h
weaken P Q (Err e) f h = tt

-- a step, and then another with what it gave
pub goes_on : {X Y : Type 0} (P : X → Type 0) (Q : Y → Type 0) (r : Judged X) (next : X → Judged Y) → IfOk r P → ((x : X) → P x → IfOk (next x) Q) → IfOk (r >>= next) Q
goes_on P Q (Ok x) next h f = f x h
goes_on P Q (Err e) next h f = tt

-- a step of which nothing has to be known
pub passing : {X Y : Type 0} (Q : Y → Type 0) (r : Judged X) (next : X → Judged Y) → ((x : X) → IfOk (next x) Q) → IfOk (r >>= next) Q
passing Q (Ok x) next f = f x
passing Q (Err e) next f = tt

either : {X : Type 0} (P : X → Type 0) (b : Bool) (r s : Judged X) → (b ≡ true → IfOk r P) → IfOk s P → IfOk (if b then r else s) P
either P true r s x y = x refl
either P false r s x y = y

-- ---- exceptions

abbrev thrown_as : ℤ → List ℕ → ℤ → Thrown
thrown_as c message e = record { code = c; message = message; error = e }

abbrev IsThrown : Thrown → Type 0
IsThrown x = (all_scalars x.message ≡ true) × IsQuiet x.code x.error

without_error : (b : Bool) (c : ℤ) (message : List ℕ) → all_scalars (chars message) ≡ true → int_eq c service_specific ≡ b
    → IfSome (if b then None else Some (thrown_as c (chars message) (pos 0))) IsThrown
without_error true c message scalars is = tt
without_error false c message scalars is = (scalars, λ other. refl)

with_error : (b : Bool) (c e : ℤ) (message : List ℕ) → all_scalars (chars message) ≡ true → int_eq c service_specific ≡ b
    → IfSome (if b then Some (thrown_as c (chars message) e) else None) IsThrown
with_error true c e message scalars is = (scalars, λ other. cc)
with_error false c e message scalars is = tt

thrown_two : (code : Option ℤ) (message : List ℕ) → all_scalars (chars message) ≡ true
    → IfSome (option_and_then (λ c. if int_eq c service_specific then None else Some (thrown_as c (chars message) (pos 0))) code) IsThrown
thrown_two None message scalars = tt
thrown_two (Some c) message scalars = without_error (int_eq c service_specific) c message scalars refl

thrown_three : (code error : Option ℤ) (message : List ℕ) → all_scalars (chars message) ≡ true
    → IfSome (option_and_then (λ c. option_and_then (λ e. if int_eq c service_specific then Some (thrown_as c (chars message) e) else None) error) code) IsThrown
thrown_three None error message scalars = tt
thrown_three (Some c) None message scalars = tt
thrown_three (Some c) (Some e) message scalars = with_error (int_eq c service_specific) c e message scalars refl

throws : (j : json.Data) → HasTexts j → IfSome (thrown_of j) IsThrown
throws json.null t = tt
throws (json.boolean b) t = tt
throws (json.number n) t = tt
throws (json.string s) t = tt
throws (json.object ms) t = tt
throws (json.array json.no_items) t = tt
throws (json.array (json.item code json.no_items)) t = tt
throws (json.array (json.item code (json.item json.null rest))) t = tt
throws (json.array (json.item code (json.item (json.boolean b) rest))) t = tt
throws (json.array (json.item code (json.item (json.number n) rest))) t = tt
throws (json.array (json.item code (json.item (json.array js) rest))) t = tt
throws (json.array (json.item code (json.item (json.object ms) rest))) t = tt
throws (json.array (json.item code (json.item (json.string message) json.no_items))) t = thrown_two (whole code) message t.1.0
throws (json.array (json.item code (json.item (json.string message) (json.item error json.no_items)))) t = thrown_three (whole code) (whole error) message t.1.0
throws (json.array (json.item code (json.item (json.string message) (json.item error (json.item other rest))))) t = tt

module _ (S : List Decl) where
  -- of a method with this result and these types of outs
  abbrev pub IsAnswerAs : Option AidlType → List AidlType → AnswerData → Type 0
  IsAnswerAs t ts (returned r vs) = ResultFits S t r × EachFits S ts vs
  IsAnswerAs t ts (exception code message error) = ExceptionFits code message error

  pub answers_as : (i m : ℕ) (a : AnswerData) → IsAnswerAs (result_type (method_of S i m)) (out_types (method_of S i m)) a → IsAnswer (method_of S i m) a
  answers_as i m (returned r vs) h = h
  answers_as i m (exception code message error) h = h

  module _ (t : Option AidlType) (ts : List AidlType) where
    ranges_case : (b : Bool) (x : Thrown) → are_in_range x.code x.error ≡ b → IsThrown x
        → IfOk (if b then Ok (exception x.code x.message x.error) else refuse OutOfRange at_exception) (IsAnswerAs t ts)
    ranges_case true x is h =
        let parts = both (is_between (negsuc 7) (negsuc 0) x.code) (is_between (negsuc 2147483647) (pos 2147483647) x.error) is in
        record { known = parts.0; scalars = h.0; int = error_fits x.error parts.1; no_error = h.1 }
    ranges_case false x is h = tt

    exception_fits : (o : Option Thrown) → IfSome o IsThrown → IfOk (exception_from o) (IsAnswerAs t ts)
    exception_fits None h = tt
    exception_fits (Some x) h = ranges_case (are_in_range x.code x.error) x refl h

module _ (S : List Decl) (hold : AllHold S) (sound : IsSound S) (steady : AreSteady S) where
  placed_case : (t : AidlType) (at : List ℕ) (r : reading.Answer Data) → FitsAs S t 64 r → IfOk (placed at r) (λ v. Fits S t v)
  placed_case t at (Ok v) h = record { typed = h.0; deep = h.1 }
  placed_case t at (Err r) h = tt

  value_fits : (t : AidlType) (at : List ℕ) (j : json.Data) → HasTexts j → IfOk (placed at (from_json_of S 64 t j)) (λ v. Fits S t v)
  value_fits t at j texts = placed_case t at (from_json_of S 64 t j) (from_json_fits S hold sound 64 t j texts)

  default_of : (t : AidlType) → is_passed_type S t ≡ true → Fits S t (zero_within 33 S t)
  default_of t passed =
      let d = default_fits S hold steady t (is_type_of S t passed) in
      record { typed = d.typed_as; deep = omega (arith, d.shallow) }

  -- ---- arguments

  -- an entry of an `out` argument or of another one, of an array or not, behind lengths that add up to `sum`
  abbrev EntryBy : Bool → Bool → Arg → ℕ → Data → Type 0
  EntryBy out array a sum v =
      MatchBool out (MatchBool array (IsLength a.ty v) (v ≡ null)) (Fits S a.ty v) × (sum + (if out then number_or_0 (sent_length v) else 0) ≤ 65536)

  length_case : (b nullable : Bool) (sum n : ℕ) (at : List ℕ) → nat_le (sum + n) 65536 ≡ b → IfOk (if b then Ok (number (pos n)) else refuse OutOfRange at) (IsLengthWithin nullable sum)
  length_case true nullable sum n at is = let le : sum + n ≤ 65536 = grind (arith, nat_tests) in le
  length_case false nullable sum n at is = tt

  length_fits : (nullable : Bool) (sum : ℕ) (at : List ℕ) (o : Option ℤ) → IfOk (length_from sum at o) (IsLengthWithin nullable sum)
  length_fits nullable sum at None = tt
  length_fits nullable sum at (Some (negsuc n)) = tt
  length_fits nullable sum at (Some (pos n)) = length_case (nat_le (sum + n) 65536) nullable sum n at refl

  null_case : (nullable : Bool) (sum : ℕ) (at : List ℕ) → IfOk (if nullable then Ok null else refuse WrongShape at) (IsLengthWithin nullable sum)
  null_case true sum at = refl
  null_case false sum at = tt

  array_fits : (nullable : Bool) (sum : ℕ) (at : List ℕ) (j : json.Data) → IfOk (array_from nullable sum at j) (IsLengthWithin nullable sum)
  array_fits nullable sum at json.null = null_case nullable sum at
  array_fits nullable sum at (json.boolean b) = tt
  array_fits nullable sum at (json.number n) = length_fits nullable sum at (as_integer n)
  array_fits nullable sum at (json.string s) = tt
  array_fits nullable sum at (json.array js) = tt
  array_fits nullable sum at (json.object ms) = tt

  module _ (a : Arg) (sum : ℕ) (few : sum ≤ 65536) where
    by_length : (v : Data) → IsLengthWithin a.ty.nullable sum v → EntryBy true true a sum v
    by_length null h = (h, omega (arith, few))
    by_length (number (pos n)) h = (tt, h)
    by_length (number (negsuc n)) h = absurd h
    by_length (truth b) h = absurd h
    by_length (text s) h = absurd h
    by_length (seq vs) h = absurd h
    by_length (rec vs) h = absurd h
    by_length (alt k v) h = absurd h

    by_null : (at : List ℕ) (j : json.Data) → IfOk (null_from at j) (EntryBy true false a sum)
    by_null at json.null = (refl, omega (arith, few))
    by_null at (json.boolean b) = tt
    by_null at (json.number n) = tt
    by_null at (json.string s) = tt
    by_null at (json.array js) = tt
    by_null at (json.object ms) = tt

    entry_case : (out array : Bool) (at : List ℕ) (j : json.Data) → HasTexts j
        → IfOk (if out then (if array then array_from a.ty.nullable sum at j else null_from at j) else placed at (from_json_of S 64 a.ty j)) (EntryBy out array a sum)
    entry_case true true at j texts = weaken (IsLengthWithin a.ty.nullable sum) (EntryBy true true a sum) (array_from a.ty.nullable sum at j) by_length (array_fits a.ty.nullable sum at j)
    entry_case true false at j texts = by_null at j
    entry_case false array at j texts =
        weaken (λ v. Fits S a.ty v) (EntryBy false array a sum) (placed at (from_json_of S 64 a.ty j)) (λ v fits. (fits, omega (arith, few))) (value_fits a.ty at j texts)

  -- values of these arguments, whose lengths and the sum before them are few enough
  abbrev FitBehind : ℕ → List Arg → Items → Type 0
  FitBehind sum xs vs = ArgumentsFit S xs vs × (sum + sum_of_lengths xs vs ≤ 65536)

  abbrev EntryFits : Arg → ℕ → Data → Type 0
  EntryFits a sum v = EntryBy (is_out a.way) (is_array a.ty.shape) a sum v

  entry_fits : (a : Arg) (sum : ℕ) (at : List ℕ) (j : json.Data) → sum ≤ 65536 → HasTexts j → IfOk (entry_from S sum at a j) (EntryFits a sum)
  entry_fits a sum at j few texts = entry_case a sum few (is_out a.way) (is_array a.ty.shape) at j texts

  entries_fit : (xs : List Arg) (js : json.Items) (k sum : ℕ) → sum ≤ 65536 → items_len js ≡ length xs → HaveTexts js → IfOk (entries_from S k sum xs js) (FitBehind sum xs)
  entries_fit [] js k sum few same texts = (tt, omega (arith, few))
  entries_fit (a ∷ xs) json.no_items k sum few same texts = absurd (omega (arith, same))
  entries_fit (a ∷ xs) (json.item j js) k sum few same texts =
      goes_on (EntryFits a sum) (FitBehind sum (a ∷ xs)) (entry_from S sum (at_entry k) a j) (λ v. entries_from S (suc k) (sum + asked_length a v) xs js >>= (λ vs. Ok (item v vs)))
      (entry_fits a sum (at_entry k) j few texts.0)
      (λ v fits. goes_on (FitBehind (sum + asked_length a v) xs) (FitBehind sum (a ∷ xs)) (entries_from S (suc k) (sum + asked_length a v) xs js) (λ vs. Ok (item v vs))
      (entries_fit xs js (suc k) (sum + asked_length a v) fits.1 (omega (arith, same)) texts.1)
      (λ vs more. ((fits.0, more.0), omega (arith, more.1))))

  -- values of these arguments, whose lengths are few enough
  abbrev AllFit : List Arg → Items → Type 0
  AllFit xs vs = ArgumentsFit S xs vs × (sum_of_lengths xs vs ≤ 65536)

  counted_fit : (xs : List Arg) (js : json.Items) → HaveTexts js → IfOk (counted_entries S xs js) (AllFit xs)
  counted_fit xs js texts =
      either (AllFit xs) (items_len js == length xs) (entries_from S 0 0 xs js) (refuse WrongShape at_args)
      (λ is. weaken (FitBehind 0 xs) (AllFit xs) (entries_from S 0 0 xs js) (λ vs h. (h.0, omega (arith, h.1)))
      (entries_fit xs js 0 0 (omega arith) (eqb-true (items_len js) (length xs) is) texts)) tt

  pub args_fit : (xs : List Arg) (o : Option json.Data) → OptionHasTexts o → IfOk (args_from S xs o) (AllFit xs)
  args_fit xs None texts = counted_fit xs json.no_items tt
  args_fit xs (Some json.null) texts = tt
  args_fit xs (Some (json.boolean b)) texts = tt
  args_fit xs (Some (json.number n)) texts = tt
  args_fit xs (Some (json.string s)) texts = tt
  args_fit xs (Some (json.array js)) texts = counted_fit xs js texts
  args_fit xs (Some (json.object ms)) texts = tt

  -- ---- answers

  void_case : (b : Bool) → IfOk (if b then Ok None else refuse WrongShape at_return) (λ r. ResultFits S None r)
  void_case true = tt
  void_case false = tt

  result_fits : (t : Option AidlType) (o : Option json.Data) → is_result_type S t ≡ true → OptionHasTexts o → IfOk (result_from S t o) (λ r. ResultFits S t r)
  result_fits None None is texts = tt
  result_fits None (Some j) is texts = void_case (is_null j)
  result_fits (Some t) None is texts = default_of t is
  result_fits (Some t) (Some j) is texts =
      goes_on (λ v. Fits S t v) (λ r. ResultFits S (Some t) r) (placed at_return (from_json_of S 64 t j)) (λ v. Ok (Some v)) (value_fits t at_return j texts) (λ v fits. fits)

  values_fit : (ts : List AidlType) (js : json.Items) (k : ℕ) → items_len js ≡ length ts → HaveTexts js → IfOk (values_from S k ts js) (λ vs. EachFits S ts vs)
  values_fit [] js k same texts = tt
  values_fit (t ∷ ts) json.no_items k same texts = absurd (omega (arith, same))
  values_fit (t ∷ ts) (json.item j js) k same texts =
      goes_on (λ v. Fits S t v) (λ vs. EachFits S (t ∷ ts) vs) (placed (at_value k) (from_json_of S 64 t j)) (λ v. values_from S (suc k) ts js >>= (λ vs. Ok (item v vs)))
      (value_fits t (at_value k) j texts.0)
      (λ v fits. goes_on (λ vs. EachFits S ts vs) (λ vs. EachFits S (t ∷ ts) vs) (values_from S (suc k) ts js) (λ vs. Ok (item v vs)) (values_fit ts js (suc k) (omega (arith, same)) texts.1)
      (λ vs more. (fits, more)))

  defaults_fit : (ts : List AidlType) → list_all (λ t. is_passed_type S t) ts ≡ true → EachFits S ts (default_outs S ts)
  defaults_fit [] all = tt
  defaults_fit (t ∷ ts) all = let parts = both (is_passed_type S t) (list_all (λ u. is_passed_type S u) ts) all in (default_of t parts.0, defaults_fit ts parts.1)

  outs_fit : (ts : List AidlType) (o : Option json.Data) → list_all (λ t. is_passed_type S t) ts ≡ true → OptionHasTexts o → IfOk (outs_from S ts o) (λ vs. EachFits S ts vs)
  outs_fit ts None all texts = defaults_fit ts all
  outs_fit ts (Some json.null) all texts = tt
  outs_fit ts (Some (json.boolean b)) all texts = tt
  outs_fit ts (Some (json.number n)) all texts = tt
  outs_fit ts (Some (json.string s)) all texts = tt
  outs_fit ts (Some (json.object ms)) all texts = tt
  outs_fit ts (Some (json.array js)) all texts =
      either (λ vs. EachFits S ts vs) (items_len js == length ts) (values_from S 0 ts js) (refuse WrongShape at_out)
      (λ is. values_fit ts js 0 (eqb-true (items_len js) (length ts) is) texts) tt

  module _ (t : Option AidlType) (ts : List AidlType) (is : is_result_type S t ≡ true) (all : list_all (λ u. is_passed_type S u) ts ≡ true) where
    returned_fits : (result outs : Option json.Data) → OptionHasTexts result → OptionHasTexts outs → IfOk (returned_from S t ts result outs) (IsAnswerAs S t ts)
    returned_fits result outs x y =
        goes_on (λ r. ResultFits S t r) (IsAnswerAs S t ts) (result_from S t result) (λ r. outs_from S ts outs >>= (λ vs. Ok (returned r vs))) (result_fits t result is x)
        (λ r fits. goes_on (λ vs. EachFits S ts vs) (IsAnswerAs S t ts) (outs_from S ts outs) (λ vs. Ok (returned r vs)) (outs_fit ts outs all y) (λ vs more. (fits, more)))

    either_fits : (o : Option json.Data) (ms : json.Members) → OptionHasTexts o → MembersHaveTexts ms → IfOk (thrown_or_returned S t ts o ms) (IsAnswerAs S t ts)
    either_fits (Some x) ms texts more = exception_fits S t ts (thrown_of x) (throws x texts)
    either_fits None ms texts more =
        returned_fits (get_member (codes "return") ms) (get_member (codes "out") ms) (found_texts (codes "return") ms more) (found_texts (codes "out") ms more)

    object_fits : (ms : json.Members) → MembersHaveTexts ms → IfOk (object_from S t ts ms) (IsAnswerAs S t ts)
    object_fits ms texts =
        passing (IsAnswerAs S t ts) (unless (is_alone ms) WrongShape at_answer)
        (λ alone. all_known at_answer (unknown_in answer_keys ms) >>= (λ known. thrown_or_returned S t ts (get_member (codes "exception") ms) ms))
        (λ alone. passing (IsAnswerAs S t ts) (all_known at_answer (unknown_in answer_keys ms)) (λ known. thrown_or_returned S t ts (get_member (codes "exception") ms) ms)
        (λ known. either_fits (get_member (codes "exception") ms) ms (found_texts (codes "exception") ms texts) texts))

    two_way_fits : (o : Option json.Data) → OptionHasTexts o → IfOk (two_way_from S t ts o) (IsAnswerAs S t ts)
    two_way_fits None texts = returned_fits None None tt tt
    two_way_fits (Some json.null) texts = tt
    two_way_fits (Some (json.boolean b)) texts = tt
    two_way_fits (Some (json.number n)) texts = tt
    two_way_fits (Some (json.string s)) texts = tt
    two_way_fits (Some (json.array js)) texts = tt
    two_way_fits (Some (json.object ms)) texts = object_fits ms texts

  oneway_fits : (i m : ℕ) (o : Option json.Data) → IsAnswer (method_of S i m) (returned None none) → IfOk (oneway_from o) (IsAnswer (method_of S i m))
  oneway_fits i m None h = h
  oneway_fits i m (Some j) h = tt

  way_case : (b : Bool) (i m : ℕ) (o : Option json.Data) → is_oneway (method_of S i m) ≡ b → OptionHasTexts o
      → IfOk (if b then oneway_from o else two_way_from S (result_type (method_of S i m)) (out_types (method_of S i m)) o) (IsAnswer (method_of S i m))
  way_case true i m o is texts = oneway_fits i m o ((typed S hold i m).oneway is)
  way_case false i m o is texts =
      let w = typed S hold i m in
      weaken (IsAnswerAs S (result_type (method_of S i m)) (out_types (method_of S i m))) (IsAnswer (method_of S i m)) (two_way_from S (result_type (method_of S i m)) (out_types (method_of S i m)) o) (answers_as S i m)
      (two_way_fits (result_type (method_of S i m)) (out_types (method_of S i m)) w.returned (passed_outs S (arguments (method_of S i m)) w.passed) o texts)

  pub answer_fits : (i m : ℕ) (o : Option json.Data) → OptionHasTexts o → IfOk (answer_from (method_of S i m) o) (IsAnswer (method_of S i m))
  answer_fits i m o texts = way_case (is_oneway (method_of S i m)) i m o refl texts
