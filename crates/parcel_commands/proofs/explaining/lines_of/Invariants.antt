use Rattle.std.specs.Prelude.{◌≡◌, ◌++◌, drop, true, string_bytes}
use Rattle.std.specs.List.{flat_map}
use Rattle.parcel_commands.specs.Explain.{item_line}
use Rattle.parcel_commands.proofs.explaining.lines_of.Given as goal

-- what was printed, and then what the items that are left print, is all
abbrev pub invariant-loop-item : goal.invariant-loop-item
invariant-loop-item l =
    l.text.is_whole ≡ true → string_bytes l.text.text ++ flat_map (λ i. item_line l.parcel i) (drop l.item-index l.items) ≡ flat_map (λ i. item_line l.fn.parcel i) l.fn.items
