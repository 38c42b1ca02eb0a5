-- An exception in its ranges fits.
use Rattle.std.proofs.Common.{◌≡◌, ℕ, ◌≤◌, ℤ, pos, negsuc, Bool, true, false, ◌&&◌, List, FitsSigned, w32, to_z, of_z, refl, arith}
use Rattle.std.specs.Int.{w128}
use Rattle.std.specs.Str.{all_scalars}
use Rattle.std.proofs.lemmas.Int.{ints, to_z-of_z}
use Rattle.std.proofs.lemmas.Bool.Decides.{nat_tests}
use Rattle.aidl_base.specs.Ranges.{is_between}
use Rattle.wire_model.specs.Requests.{ExceptionFits}
use Rattle.call_scripts.specs.Answers.{are_in_range}
use Rattle.call_scripts.specs.steps.Exceptions.{IsQuiet}

both : (a b : Bool) → (a && b) ≡ true → (a ≡ true) × (b ≡ true)
both true true e = (refl, refl)
both true false e = cc
both false b e = cc

code_fits : (code : ℤ) → is_between (negsuc 7) (negsuc 0) code ≡ true → FitsSigned w32 code
code_fits (pos n) e = cc
code_fits (negsuc n) e = let le : n ≤ 7 = grind (arith, nat_tests) in omega (arith, ints)

pub error_fits : (error : ℤ) → is_between (negsuc 2147483647) (pos 2147483647) error ≡ true → FitsSigned w32 error
error_fits (pos n) e = let le : n ≤ 2147483647 = grind (arith, nat_tests) in omega (arith, ints)
error_fits (negsuc n) e = let le : n ≤ 2147483647 = grind (arith, nat_tests) in omega (arith, ints)

wider : (z : ℤ) → FitsSigned w32 z → FitsSigned w128 z
wider z h = omega (arith, ints)

pub thrown_fits : (code error : ℤ) (message : List ℕ) → are_in_range code error ≡ true → all_scalars message ≡ true → IsQuiet code error
    → ExceptionFits (to_z w32 (of_z w32 (to_z w128 (of_z w128 code)))) message (to_z w32 (of_z w32 (to_z w128 (of_z w128 error))))
thrown_fits code error message ranges scalars quiet =
    let parts = both (is_between (negsuc 7) (negsuc 0) code) (is_between (negsuc 2147483647) (pos 2147483647) error) ranges in
    let f = code_fits code parts.0 in
    let g = error_fits error parts.1 in
    rw (to_z-of_z w128 code (wider code f), to_z-of_z w32 code f, to_z-of_z w128 error (wider error g), to_z-of_z w32 error g)
    (record { known = parts.0; scalars = scalars; int = g; no_error = quiet })
