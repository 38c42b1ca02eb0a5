use Rattle.std.proofs.Common.{◌≡◌, ℕ, Global, Vec, not, rules, sym, ap, ◌∙◌, subst}
use Rattle.std.proofs.lemmas.Fn.{filter_same}
use Rattle.std.specs.Prelude.{IfOk}
use Rattle.std.specs.List.{filter}
use Rattle.std.specs.Option.{option_map}
use Rattle.std.specs.Result.{result_ok}
use Rattle.hex.specs.Hex.{decode_of}
use Rattle.aidl_base.specs.Blanks.{is_blank}
use Rattle.parcel_commands.proofs.Digits.{at_once}
use Rattle.parcel_commands.proofs.hexadecimal_file.hexadecimal.Goals as goal

pub returns-in-Some : goal.returns-in-Some
returns-in-Some c =
    at_once c.line_of.result.now c.args.file.items c.in-Some.bytes.items
    (c.line_of.ensures ∙ ap (filter (λ b. not (is_blank b))) c.as_slice.ensures.value)
    (sym (ap (option_map (λ (v : Vec ℕ Global). v.items)) c.in-Some.is) ∙ c.in_ok-bytes.ensures)

pub returns : goal.returns
returns c =
    let kept : c.retain.new.self.items ≡ filter (λ b. not (is_blank b)) c.args.file.items = filter_same _ _ _ (λ x b f' k. search rules) _ _ c.retain.ensures.filtered in
    subst (λ z. IfOk c.decoded-2.result (λ bytes. option_map (λ (v : Vec ℕ Global). v.items) bytes ≡ result_ok (decode_of z))) (c.as_slice-2.ensures.value ∙ kept) c.decoded-2.ensures
