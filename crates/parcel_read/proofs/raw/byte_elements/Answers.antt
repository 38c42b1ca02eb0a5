use Rattle.std.proofs.Common.{ap, ◌∙◌}
use Rattle.wire_model.specs.ReadOf.{raw_items}
use Rattle.parcel_read.proofs.SideBySide.{bytes_are}
use Rattle.parcel_read.proofs.raw.byte_elements.Goals as goal

pub returns : goal.returns
returns c = bytes_are c.from_vec.result ∙ ap raw_items (c.from_vec.ensures ∙ c.in_ok-copied.ensures.items_if_clones_equal (λ x y e. e))
