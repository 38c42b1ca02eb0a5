-- Worked answers.
use Rattle.std.proofs.Common.{◌≡◌, negsuc, refl}
use Rattle.std.specs.Prelude.{codes}
use Rattle.serde_json.specs.Data as json
use Rattle.serde_json.specs.Data.{unsigned, negative}
use Rattle.call_scripts.specs.declared.refused.RefusedName.TheVariants.{WrongShape, OutOfRange}
use Rattle.call_scripts.specs.Answers.{exception_from, thrown_of}
use Rattle.call_scripts.specs.Refusal.{refuse, at_exception}

-- exceptions: `[9,"x"]`, `[5,"x",1]`, `[-8,"x"]` and `[-8,"x",2147483648]`
two : json.Data → json.Data
two code = json.array (json.item code (json.item (json.string (codes "x")) json.no_items))

three : json.Data → json.Data → json.Data
three code error = json.array (json.item code (json.item (json.string (codes "x")) (json.item error json.no_items)))

nine : exception_from (thrown_of (two (json.number (unsigned 9)))) ≡ refuse OutOfRange at_exception
unfolding two
nine = refl

five_with_error : exception_from (thrown_of (three (json.number (unsigned 5)) (json.number (unsigned 1)))) ≡ refuse WrongShape at_exception
unfolding three
five_with_error = refl

own_without_error : exception_from (thrown_of (two (json.number (negative (negsuc 7))))) ≡ refuse WrongShape at_exception
unfolding two
own_without_error = refl

large_error : exception_from (thrown_of (three (json.number (negative (negsuc 7))) (json.number (unsigned 2147483648)))) ≡ refuse OutOfRange at_exception
unfolding three
large_error = refl
