use Rattle.std.proofs.Common.{◌≡◌, drop, true, string_bytes}
use Rattle.tool_frame.specs.Answer.{after_text}
use Rattle.parcel_commands.specs.Decode.{items_answer}
use Rattle.parcel_commands.proofs.decoding.push_items.Given as goal

-- what was printed, and then what the items that are left print, is all
abbrev pub invariant-loop-i : goal.invariant-loop-i
invariant-loop-i l =
    let answer_to = items_answer l.decoder.profile l.decoder.schema.now.decls in
    l.text.is_whole ≡ true → (l.fn.text.is_whole ≡ true)
    × (after_text (string_bytes l.text.text) (answer_to (drop l.i l.types) l.rest) ≡ after_text (string_bytes l.fn.text.text) (answer_to l.types l.fn.bytes))
