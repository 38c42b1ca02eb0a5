-- Refusals of a line of a calls file, each with its place (own). A place is a JSON pointer (RFC 6901) from the
-- whole line, in UTF-8.
use Rattle.std.specs.Prelude.{ℕ, ⊤, Bool, true, false, List, ◌++◌, Result, Ok, Err, codes, decimal}
use Rattle.call_scripts.specs.declared.refused.RefusedName.{RefusedName}
use Rattle.call_scripts.specs.declared.refused.RefusedName.TheVariants.{NotJson, WrongShape, UnknownKey}
use Rattle.call_scripts.specs.declared.refused.RefusedName.TheVariants.{UnknownMethod, OutOfRange}
use Rattle.call_scripts.specs.declared.refused.RefusedName.TheVariants.{UnknownEnumerator, TooDeep, TooLarge}
use Rattle.json_values.specs.Refusal as json
pub use Rattle.aidl_base.specs.Results.{◌>>=◌}

pub record Refusal : Type 0 where
  pub name : RefusedName
  pub at : List ℕ

-- what was asked for, or the first refusal
abbrev pub Judged : Type 0 → Type 0
Judged A = Result A Refusal

abbrev pub refuse : {A : Type 0} → RefusedName → List ℕ → Judged A
refuse name at = Err (record { name = name; at = at })

-- a refusal unless the test holds
abbrev pub unless : Bool → RefusedName → List ℕ → Judged ⊤
unless true name at = Ok tt
unless false name at = refuse name at

-- the name of a refusal of a JSON value
abbrev pub name_of_reason : json.Reason → RefusedName
name_of_reason json.wrong_shape = WrongShape
name_of_reason json.out_of_range = OutOfRange
name_of_reason json.unknown_key = UnknownKey
name_of_reason json.unknown_enumerator = UnknownEnumerator
name_of_reason json.too_deep = TooDeep

-- what the JSON value at a place of the line gives; its own place comes after that
abbrev pub placed : {A : Type 0} → List ℕ → json.Answer A → Judged A
placed at (Ok x) = Ok x
placed at (Err r) = refuse (name_of_reason r.reason) (at ++ r.at)

-- a name as it is printed
abbrev pub printed_name : RefusedName → List ℕ
printed_name NotJson = codes "NotJson"
printed_name WrongShape = codes "WrongShape"
printed_name UnknownKey = codes "UnknownKey"
printed_name UnknownMethod = codes "UnknownMethod"
printed_name OutOfRange = codes "OutOfRange"
printed_name UnknownEnumerator = codes "UnknownEnumerator"
printed_name TooDeep = codes "TooDeep"
printed_name TooLarge = codes "TooLarge"

-- the places of a line
abbrev pub at_call : List ℕ
at_call = codes "/call"

abbrev pub at_args : List ℕ
at_args = codes "/args"

abbrev pub at_answer : List ℕ
at_answer = codes "/answer"

abbrev pub at_exception : List ℕ
at_exception = codes "/answer/exception"

abbrev pub at_return : List ℕ
at_return = codes "/answer/return"

abbrev pub at_out : List ℕ
at_out = codes "/answer/out"

-- the entry of `args`, and the value of `out`, at a position
abbrev pub at_entry : ℕ → List ℕ
at_entry k = codes "/args/" ++ decimal k

abbrev pub at_value : ℕ → List ℕ
at_value k = codes "/answer/out/" ++ decimal k
