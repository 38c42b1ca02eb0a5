-- The value that a JSON value without parts stands for, or why it stands for none (own): true or false, a whole
-- number, a text, the name of an enumerator. A refusal is one of the value itself, so its place is empty.
use Rattle.std.specs.Prelude.{ℕ, ℤ, if◌then◌else◌, List, [], ◌∷◌, Option, Some, None, Ok}
use Rattle.std.specs.Str.{chars}
use Rattle.serde_json.specs.Data.{boolean, number, string}
use Rattle.serde_json.specs.Data as json
use Rattle.serde_json.specs.Find.{as_integer}
use Rattle.aidl_schema.specs.declared.schema.Enumerator.{Enumerator}
use Rattle.aidl_schema.specs.Constants.{in_range}
use Rattle.aidl_schema.specs.Same.{same_text}
use Rattle.aidl_schema.specs.Types.{Form}
use Rattle.aidl_values.specs.Data as value
use Rattle.json_writing.specs.Named.{bytes_of}
use Rattle.json_values.specs.Refusal.{Answer, refuse, wrong_shape, out_of_range, unknown_enumerator}

-- boolean: true or false
abbrev pub truth_from : json.Data → Answer value.Data
truth_from (boolean b) = Ok (value.truth b)
truth_from _ = refuse wrong_shape

-- a whole number in the type's range; None is a number that isn't whole
abbrev pub whole_from : Form → Option ℤ → Answer value.Data
whole_from f None = refuse wrong_shape
whole_from f (Some n) = if in_range f n then Ok (value.number n) else refuse out_of_range

-- the value of the enumerator of this name
abbrev pub enumerator_from : List Enumerator → List ℕ → Answer value.Data
enumerator_from [] s = refuse unknown_enumerator
enumerator_from (e ∷ es) s = if same_text (bytes_of e.name) s then Ok (value.number e.value) else enumerator_from es s

-- a string: for an enum the name of an enumerator
abbrev pub name_from : Option (List Enumerator) → List ℕ → Answer value.Data
name_from None s = refuse wrong_shape
name_from (Some es) s = enumerator_from es s

-- byte, char, int, long: a whole number; an enum: a name, or a whole number in its backing's range
abbrev pub number_from : Option (List Enumerator) → Form → json.Data → Answer value.Data
number_from es f (number n) = whole_from f (as_integer n)
number_from es f (string s) = name_from es s
number_from es f _ = refuse wrong_shape

-- String: a string
abbrev pub text_from : json.Data → Answer value.Data
text_from (string s) = Ok (value.text (chars s))
text_from _ = refuse wrong_shape
