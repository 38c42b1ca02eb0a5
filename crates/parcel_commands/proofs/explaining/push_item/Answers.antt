use Rattle.std.proofs.Common.{subst}
use Rattle.std.specs.Fmt.{decimal}
use Rattle.growing.specs.Grows.{Grows}
use Rattle.tool_frame.specs.Shown.{shown}
use Rattle.parcel_commands.specs.Explain.{bytes_at, kind_text, path_text}
use Rattle.parcel_commands.proofs.ItemLines.{item_grown}
use Rattle.parcel_commands.proofs.explaining.push_item.Goals as goal

pub returns : goal.returns
returns c =
    let item = c.args.item.now in
    item_grown (decimal item.offset) (shown (bytes_at c.args.parcel.now item)) (path_text item.path) (kind_text item.kind) c.args.text.now c.push_str.new.self c.push_str-2.new.self
    c.push_bytes.new.text c.push_str-3.new.self c.push_str-4.new.self c.push_kind.new.text
    (subst (λ z. Grows c.args.text.now c.push_str.new.self z) c.format.ensures.text c.push_str.ensures)
    c.push_str-2.ensures
    (subst (λ z. Grows c.push_str-2.new.self c.push_bytes.new.text (shown z)) c.bytes_at.ensures c.push_bytes.ensures)
    c.push_str-3.ensures
    (subst (λ z. Grows c.push_str-3.new.self c.push_str-4.new.self z) c.path_text.ensures c.push_str-4.ensures)
    c.push_kind.ensures
