use Rattle.std.proofs.Common.{string_bytes, ap, ◌∙◌}
use Rattle.std.proofs.lemmas.Str.{encodes-chars, IsUtf8-string_bytes}
use Rattle.std.specs.Str.{encode_utf8_all}
use Rattle.json_values.proofs.fault.place.Goals as goal

pub returns : goal.returns
returns c = ap encode_utf8_all c.from_string.ensures ∙ encodes-chars (string_bytes c.args.at) (IsUtf8-string_bytes c.args.at)
