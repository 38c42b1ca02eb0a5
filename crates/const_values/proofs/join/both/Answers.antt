use Rattle.std.proofs.lemmas.Str.{chars-append}
use Rattle.const_values.proofs.join.both.Goals as goal

pub returns : goal.returns
returns c =
    let e = chars-append c.as_str.result.now c.as_str-2.result.now c.as_str.utf8 in
    cc (e, c.in_ok-push_str.ensures.bytes, c.in_ok-text.ensures.ok, c.as_str.ensures.value, c.as_str-2.ensures.value)
