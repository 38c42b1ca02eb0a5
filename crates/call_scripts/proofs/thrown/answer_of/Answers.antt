use Rattle.std.proofs.Common.{◌≡◌, true, string_bytes, to_z, of_z, sym, subst, ap, ◌∙◌, rules}
use Rattle.std.specs.Int.{w128}
use Rattle.std.specs.Str.{all_scalars}
use Rattle.std.proofs.lemmas.Str.{scalars-chars, IsUtf8-string_bytes}
use Rattle.call_scripts.specs.Answers.{are_in_range}
use Rattle.call_scripts.proofs.ThrownFits.{thrown_fits}
use Rattle.call_scripts.proofs.thrown.answer_of.Goals as goal

pub returns-clause-fits : goal.returns-clause-fits
returns-clause-fits c =
    let text = string_bytes c.in_ok-message.message in
    let code = c.args.thrown.now.code in
    let error = c.args.thrown.now.error in
    let same_code : to_z w128 (of_z w128 code) ≡ code = search rules in
    let same_error : to_z w128 (of_z w128 error) ≡ error = search rules in
    let test = sym c.is_thrown.ensures ∙ c.if-not-is_thrown.false in
    let ranges : are_in_range code error ≡ true = subst (λ x. are_in_range x error ≡ true) same_code (subst (λ y. are_in_range (to_z w128 (of_z w128 code)) y ≡ true) same_error test) in
    thrown_fits code error c.from_string.result ranges (ap all_scalars c.from_string.ensures ∙ scalars-chars text (IsUtf8-string_bytes c.in_ok-message.message)) c.requires
