-- *Requests and replies*: the bytes of a call's request and of its reply (the compiler's generated proxy and stub;
-- libbinder, Parcel.cpp: `writeInterfaceToken`, Status.cpp: `writeToParcel`; a token's first two words and the
-- bound on lengths are own). S is a schema's declarations, m a method.
use Rattle.std.specs.Prelude.{◌≡◌, ℕ, ◌+◌, ◌≤◌, ℤ, pos, false, if◌then◌else◌, List, [], ◌∷◌, ◌++◌, length}
use Rattle.std.specs.Prelude.{Option, Some, None, IsTrue, MatchBool, FitsSigned, codes}
use Rattle.std.specs.Int.{w32}
use Rattle.std.specs.Ordering.{int_eq}
use Rattle.std.specs.Str.{all_scalars}
use Rattle.aidl_base.specs.Ranges.{is_between}
use Rattle.aidl_base.specs.Words.{word}
use Rattle.aidl_schema.specs.declared.schema.AidlType.{AidlType}
use Rattle.aidl_schema.specs.declared.schema.Arg.{Arg}
use Rattle.aidl_schema.specs.declared.schema.Decl.{Decl}
use Rattle.aidl_schema.specs.Types.{is_array}
use Rattle.aidl_values.specs.Data.{Data, null, number, Items, none, item}
use Rattle.aidl_values.specs.Fits.{Fits}
use Rattle.wire_model.specs.Calls.{AnswerData, returned, exception, descriptor, arguments, result_type, out_types}
use Rattle.wire_model.specs.Calls.{is_out}
use Rattle.wire_model.specs.MethodOf.{MethodOf}
use Rattle.wire_model.specs.Spell.{spell, spell_text}
use Rattle.wire_model.specs.Status.{bad_parcelable, minus}
pub use Rattle.wire_model.specs.Status.{service_specific}

-- *Token*: the policy word, the work source -1, the header `SYST`, and the descriptor
abbrev pub token : List ℕ → List ℕ
token name = word (pos 0x80000000) ++ (word (minus 1) ++ (word (pos 0x53595354) ++ spell_text name))

-- the length that stands for an `out` array, where None is null
abbrev pub sent_length : Data → Option ℕ
sent_length (number (pos n)) = Some n
sent_length _ = None

abbrev pub spell_length : Option ℕ → List ℕ
spell_length None = word (minus 1)
spell_length (Some n) = word (pos n)

-- An argument's part of a request: an `in` or `inout` one is spelled, of an `out` array the length, of another
-- `out` one nothing.
abbrev pub argument_part : List Decl → Arg → Data → List ℕ
argument_part S a v = if is_out a.way
    then (if is_array a.ty.shape then spell_length (sent_length v) else []) else spell S a.ty v

abbrev pub argument_parts : List Decl → List Arg → Items → List ℕ
argument_parts S [] vs = []
argument_parts S (a ∷ xs) none = []
argument_parts S (a ∷ xs) (item v vs) = argument_part S a v ++ argument_parts S xs vs

-- *Request*
abbrev pub request : MethodOf → Items → List ℕ
request m args =
    token (descriptor m.declarations m.interface) ++ argument_parts m.declarations (arguments m) args

-- a length, or null where the array may be
abbrev pub IsLength : AidlType → Data → Type 0
IsLength t null = IsTrue t.nullable
IsLength t (number (pos n)) = Unit {0}
IsLength t _ = ⊥

-- a value for an `in` or `inout` argument, a length for an `out` array, null for any other `out` one
abbrev pub ArgumentFits : List Decl → Arg → Data → Type 0
ArgumentFits S a v =
    MatchBool (is_out a.way) (MatchBool (is_array a.ty.shape) (IsLength a.ty v) (v ≡ null)) (Fits S a.ty v)

abbrev pub ArgumentsFit : List Decl → List Arg → Items → Type 0
ArgumentsFit S [] none = Unit {0}
ArgumentsFit S [] (item v vs) = ⊥
ArgumentsFit S (a ∷ xs) none = ⊥
ArgumentsFit S (a ∷ xs) (item v vs) = ArgumentFits S a v × ArgumentsFit S xs vs

-- a length, and 0 where there is none
abbrev pub number_or_0 : Option ℕ → ℕ
number_or_0 None = 0
number_or_0 (Some n) = n

-- the length that an argument asks for: that of an `out` array, and 0 of any other
abbrev pub asked_length : Arg → Data → ℕ
asked_length a v = if is_out a.way then number_or_0 (sent_length v) else 0

abbrev pub sum_of_lengths : List Arg → Items → ℕ
sum_of_lengths [] vs = 0
sum_of_lengths (a ∷ xs) none = 0
sum_of_lengths (a ∷ xs) (item v vs) = asked_length a v + sum_of_lengths xs vs

-- *ArgsFit*: each argument fits, and the lengths add up to at most 65,536.
pub record ArgsFit (m : MethodOf) (args : Items) : Type 0 where
  pub each : ArgumentsFit m.declarations (arguments m) args
  pub few : sum_of_lengths (arguments m) args ≤ 65536

-- values of these types, one after the other
abbrev pub spell_each : List Decl → List AidlType → Items → List ℕ
spell_each S [] vs = []
spell_each S (t ∷ ts) none = []
spell_each S (t ∷ ts) (item v vs) = spell S t v ++ spell_each S ts vs

-- a result, where the method has one
abbrev pub spell_result : List Decl → Option AidlType → Option Data → List ℕ
spell_result S (Some t) (Some v) = spell S t v
spell_result S (Some t) None = []
spell_result S None r = []

abbrev pub spell_error : ℤ → ℤ → List ℕ
spell_error code error = if int_eq code service_specific then word error else []

-- *Reply*: the status 0 with the result and the outs; or an exception with its message, a stack-trace size 0 and
-- the error
abbrev pub reply : MethodOf → AnswerData → List ℕ
reply m (returned result outs) = word (pos 0)
    ++ (spell_result m.declarations (result_type m) result ++ spell_each m.declarations (out_types m) outs)
reply m (exception code message error) = word code
    ++ (spell_text message ++ (word (pos 0) ++ spell_error code error))

-- what is answered where bytes of a request are left over: EX_BAD_PARCELABLE with this message (own)
abbrev pub unread : AnswerData
unread = exception bad_parcelable (codes "unread argument bytes") (pos 0)

-- a value exactly where the method isn't void
abbrev pub ResultFits : List Decl → Option AidlType → Option Data → Type 0
ResultFits S (Some t) (Some v) = Fits S t v
ResultFits S (Some t) None = ⊥
ResultFits S None (Some v) = ⊥
ResultFits S None None = Unit {0}

-- one value of each type
abbrev pub EachFits : List Decl → List AidlType → Items → Type 0
EachFits S [] none = Unit {0}
EachFits S [] (item v vs) = ⊥
EachFits S (t ∷ ts) none = ⊥
EachFits S (t ∷ ts) (item v vs) = Fits S t v × EachFits S ts vs

-- a code from -8 to -1, a text, and an `int` that is 0 unless the code is -8
pub record ExceptionFits (code : ℤ) (message : List ℕ) (error : ℤ) : Type 0 where
  pub known : IsTrue (is_between service_specific (minus 1) code)
  pub scalars : IsTrue (all_scalars message)
  pub int : FitsSigned w32 error
  pub no_error : int_eq code service_specific ≡ false → error ≡ pos 0

abbrev pub IsAnswer : MethodOf → AnswerData → Type 0
IsAnswer m (returned result outs) =
    ResultFits m.declarations (result_type m) result × EachFits m.declarations (out_types m) outs
IsAnswer m (exception code message error) = ExceptionFits code message error

-- *AnswerFits*: an answer of the method, whose reply has at most 1,048,576 bytes
pub record AnswerFits (m : MethodOf) (a : AnswerData) : Type 0 where
  pub answer : IsAnswer m a
  pub small : length (reply m a) ≤ 1048576
