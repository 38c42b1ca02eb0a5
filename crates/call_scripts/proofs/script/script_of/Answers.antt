use Rattle.std.proofs.Common.{sym, ap, ◌∙◌}
use Rattle.std.specs.Prelude.{string_bytes}
use Rattle.std.specs.Str.{encode_utf8_all}
use Rattle.std.proofs.lemmas.Str.{encodes-chars, IsUtf8-string_bytes}
use Rattle.call_scripts.proofs.Faults.{fails_as, same_refusal}
use Rattle.call_scripts.specs.Script.{script}
use Rattle.call_scripts.proofs.script.script_of.Goals as goal

pub returns-in-Err-Refused-clause-script : goal.returns-in-Err-Refused-clause-script
returns-in-Err-Refused-clause-script c =
    let at = c.in-Err-Refused.at in
    let answer = script c.args.client.now c.args.server.now c.args.line.now in
    let refused = fails_as c.in-Err-Refused.field-0 c.in-Err-Refused.name at answer c.in-Err-Refused.field-0-is c.in-Err-Refused.ensures.gives in
    same_refusal c.in-Err-Refused.name _ _ (ap encode_utf8_all c.from_string.ensures ∙ encodes-chars (string_bytes at) (IsUtf8-string_bytes at)) ∙ sym refused
