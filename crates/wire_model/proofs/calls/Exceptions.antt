-- An exception of a reply is read again.
use Rattle.std.proofs.Common.{◌≡◌, ℕ, zero, suc, ◌≤◌, ℤ, pos, negsuc, Bool, true, false, List, [], ◌++◌, length, Ok, Result, refl, sym, ap, ◌∙◌, arith, length-append}
use Rattle.std.specs.Prelude.{FitsSigned}
use Rattle.std.specs.Int.{w32}
use Rattle.std.specs.Ordering.{int_eq}
use Rattle.std.proofs.lemmas.Int.{ints}
use Rattle.std.proofs.lemmas.Bool.Decides.{nat_tests}
use Rattle.aidl_base.proofs.lemmas.Spelled.{present_text_again, length-spell_text}
use Rattle.aidl_base.proofs.lemmas.Words.{word_again, fits_pos}
use Rattle.aidl_base.specs.declared.profile.Profile.{Profile}
use Rattle.aidl_base.specs.Ranges.{is_between}
use Rattle.aidl_base.specs.Readings.{Read, ◌>>=◌, word_at}
use Rattle.aidl_base.specs.Spellings.{spell_text}
use Rattle.aidl_base.specs.Words.{word, units}
use Rattle.aidl_schema.specs.declared.schema.Decl.{Decl}
use Rattle.wire_model.specs.Calls.{AnswerData, exception, result_type, out_types}
use Rattle.wire_model.specs.MethodOf.{method_of}
use Rattle.wire_model.specs.Receiver.{after_trace, error_at, exception_at, is_refused_status, status_at, whole, client}
use Rattle.wire_model.specs.Requests.{service_specific, spell_error, reply, ExceptionFits}

-- the codes -8 to -1 are words, not 0, and none that is refused
record IsCode (code : ℤ) : Type 0 where
  pub fits : FitsSigned w32 code
  pub some : int_eq code (pos 0) ≡ false
  pub taken : is_refused_status code ≡ false

not_refused : (n : ℕ) → n ≤ 7 → is_refused_status (negsuc n) ≡ false
not_refused zero le = refl
not_refused (suc zero) le = refl
not_refused (suc (suc zero)) le = refl
not_refused (suc (suc (suc zero))) le = refl
not_refused (suc (suc (suc (suc zero)))) le = refl
not_refused (suc (suc (suc (suc (suc zero))))) le = refl
not_refused (suc (suc (suc (suc (suc (suc zero)))))) le = refl
not_refused (suc (suc (suc (suc (suc (suc (suc zero))))))) le = refl
not_refused (suc (suc (suc (suc (suc (suc (suc (suc n)))))))) le = absurd (omega arith)

is_code : (code : ℤ) → is_between (negsuc 7) (negsuc 0) code ≡ true → IsCode code
is_code (pos n) e = cc
is_code (negsuc n) e = let le : n ≤ 7 = grind (arith, nat_tests) in record { fits = omega (arith, ints); some = refl; taken = not_refused n le }

-- what follows each step of reading an exception
abbrev then_message : ℤ → Read (List ℕ) → Read AnswerData
then_message code x = x >>= λ message. word_at false message.1 >>= λ size. after_trace size.0 size.1 >>= λ rest. error_at code rest >>= λ error. Ok (exception code message.0 error.0, error.1)

abbrev then_size : ℤ → List ℕ → Read ℤ → Read AnswerData
then_size code message x = x >>= λ size. after_trace size.0 size.1 >>= λ rest. error_at code rest >>= λ error. Ok (exception code message error.0, error.1)

abbrev then_error : ℤ → List ℕ → Read ℤ → Read AnswerData
then_error code message x = x >>= λ error. Ok (exception code message error.0, error.1)

error_again : (code error : ℤ) → FitsSigned w32 error → (int_eq code service_specific ≡ false → error ≡ pos 0) → (own : Bool) → int_eq code service_specific ≡ own
    → error_at code (spell_error code error) ≡ Ok (error, [])
error_again code error fits none true is = rw is (word_again error false [] fits)
error_again code error fits none false is = rw is (ap (λ n. let x : Read ℤ = Ok (n, []) in x) (sym (none is)))

exception_again : (p : Profile) (code : ℤ) (message : List ℕ) (error : ℤ) → ExceptionFits code message error → length (units message) ≤ 2147483647
    → exception_at p code (spell_text message ++ (word (pos 0) ++ spell_error code error)) ≡ Ok (exception code message error, [])
unfolding exception_at
exception_again p code message error fits small =
    ap (then_message code) (present_text_again p message false (word (pos 0) ++ spell_error code error) fits.scalars small)
    ∙ ap (then_size code message) (word_again (pos 0) false (spell_error code error) (fits_pos 0 (omega arith)))
    ∙ ap (then_error code message) (error_again code error fits.int fits.no_error (int_eq code service_specific) refl)

-- what follows the status word
abbrev pub then_status : Profile → List Decl → ℕ → ℕ → Read ℤ → Result AnswerData ℤ
then_status p S i m x = x >>= λ status. status_at p S (result_type (method_of S i m)) (out_types (method_of S i m)) status.0 status.1 >>= λ a. whole a.0 a.1

abbrev pub then_whole : Read AnswerData → Result AnswerData ℤ
then_whole x = x >>= λ a. whole a.0 a.1

module _ (p : Profile) (S : List Decl) (i m : ℕ) (B : List Decl) (j n : ℕ) (code : ℤ) (message : List ℕ) (error : ℤ) (fits : ExceptionFits code message error)
    (small : length (reply (method_of B j n) (exception code message error)) ≤ 1048576) where
  text_small : length (units message) ≤ 2147483647
  text_small = omega (
    arith,
    length-spell_text message,
    length-append (word code) (spell_text message ++ (word (pos 0) ++ spell_error code error)),
    length-append (spell_text message) (word (pos 0) ++ spell_error code error),
  )

  -- The client of any method takes it.
  pub exception_got : client p (method_of S i m) (reply (method_of B j n) (exception code message error)) ≡ Ok (exception code message error)
  unfolding client
  exception_got =
      let is = is_code code fits.known in
      let some = is.some in
      let taken = is.taken in
      let rest = spell_text message ++ (word (pos 0) ++ spell_error code error) in
      let status : status_at p S (result_type (method_of S i m)) (out_types (method_of S i m)) code rest ≡ Ok (exception code message error, []) = rw (some, taken) (exception_again p code message error fits text_small) in
      ap (then_status p S i m) (word_again code false rest is.fits) ∙ ap then_whole status
