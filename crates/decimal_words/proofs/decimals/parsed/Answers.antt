use Rattle.std.proofs.Common.{◌≤◌, ◌^◌, ℕ, Result, Ok, Err, arith, subst}
use Rattle.std.specs.Prelude.{MatchOption, ◌<◌, ◌≡◌}
use Rattle.std.specs.Result.{OkIff, result_ok}
use Rattle.std.specs.Str.Parse.{IsNumeral, digits_value, without_leading_plus}
use Rattle.decimal_words.proofs.Numerals.{decimal_is_numeral}
use Rattle.decimal_words.proofs.decimals.parsed.Goals as goal

-- what `parse` answers, as an option
by_result : {E : Type 0} (r : Result ℕ E) (P : Type 0) (value most : ℕ) → P → OkIff r (P × (value < most)) value → MatchOption (result_ok r) (most ≤ value) (λ n. n ≡ value)
by_result (Ok n) P value most p h = h.1
by_result (Err e) P value most p h = omega (arith, λ (lt : value < most). h (p, lt))

pub returns : goal.returns
returns c =
    let text = c.args.text.now in
    let numeral = decimal_is_numeral text c.requires in
    let found = by_result c.parse.result (IsNumeral 10 (without_leading_plus text)) (digits_value 10 (without_leading_plus text)) (2 ^ 32) numeral.0 c.parse.ensures.value.0 in
    rw c.ok.ensures.value (subst (λ w. MatchOption (result_ok c.parse.result) (2 ^ 32 ≤ digits_value 10 w) (λ n. n ≡ digits_value 10 w)) numeral.1 found)
