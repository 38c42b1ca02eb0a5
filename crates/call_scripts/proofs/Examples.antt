-- Worked parts of lines.
use Rattle.std.proofs.Common.{◌≡◌, pos, negsuc, true, false, [], Some, None, Ok, refl}
use Rattle.std.specs.Prelude.{codes}
use Rattle.serde_json.specs.Data as json
use Rattle.serde_json.specs.Data.{member, no_members}
use Rattle.aidl_values.specs.Data.{number, null}
use Rattle.call_scripts.specs.declared.refused.RefusedName.TheVariants.{WrongShape, OutOfRange}
use Rattle.call_scripts.specs.Answers.{unknown_in}
use Rattle.call_scripts.specs.Refusal.{refuse}
use Rattle.call_scripts.specs.Arguments.{array_from, length_from, null_from}
use Rattle.call_scripts.specs.Names.{at_last_dot}
use Rattle.call_scripts.specs.Script.{line_keys}

-- a name is cut at its last dot
cut : at_last_dot (codes "a.IB.put") ≡ Some (codes "a.IB", codes "put")
cut = refl

uncut : at_last_dot (codes "put") ≡ None
uncut = refl

-- the least key that isn't known
least_unknown : unknown_in line_keys (member (codes "answer") json.null (member (codes "b") json.null (member (codes "call") json.null (member (codes "d") json.null no_members)))) ≡ Some (codes "b")
least_unknown = refl

-- lengths up to 65,536 in all
last_length : length_from 65535 [] (Some (pos 1)) ≡ Ok (number (pos 1))
last_length = refl

long_length : length_from 65535 [] (Some (pos 2)) ≡ refuse OutOfRange []
long_length = refl

negative_length : length_from 0 [] (Some (negsuc 0)) ≡ refuse OutOfRange []
negative_length = refl

-- null for a nullable `out` array alone
null_length : array_from true 0 [] json.null ≡ Ok null
null_length = refl

no_null_length : array_from false 0 [] json.null ≡ refuse WrongShape []
no_null_length = refl

no_null : null_from [] (json.boolean true) ≡ refuse WrongShape []
no_null = refl
