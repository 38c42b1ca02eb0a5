use Rattle.std.proofs.Common.{◌≡◌, true, sym, ap, ◌∙◌}
use Rattle.serde_json.specs.Read.{read as read_text}
use Rattle.json_values.proofs.JsonTexts.{parsed-text, parsed-bad}
use Rattle.json_values.proofs.json_text.parse_json.Goals as goal

pub returns-in_default : goal.returns-in_default
returns-in_default c = sym (parsed-bad c.args.bytes.now c.in_default.ensures.cases.0)

pub returns-in-Ok-from_str : goal.returns-in-Ok-from_str
returns-in-Ok-from_str c =
    let text = c.in-Ok.ensures.cases in
    sym (parsed-text c.args.bytes.now text.1 ∙ ap read_text (sym text.0) ∙ c.in-Ok-from_str.ensures.ok)

pub returns-in-Err-2 : goal.returns-in-Err-2
returns-in-Err-2 c =
    let text = c.in-Ok.ensures.cases in
    let refused = c.in-Err.ensures.err (λ memory. let yes : c.is_memory.result ≡ true = c.is_memory.ensures.1 memory in let no = c.if-is_memory.false in cc) in
    sym (parsed-text c.args.bytes.now text.1 ∙ ap read_text (sym text.0) ∙ refused)
