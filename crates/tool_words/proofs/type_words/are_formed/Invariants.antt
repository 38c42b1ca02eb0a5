use Rattle.std.proofs.Common.{◌≡◌}
use Rattle.std.specs.List.{list_all}
use Rattle.std.specs.Option.{option_map}
use Rattle.tool_words.specs.Entries.{are_formed}
use Rattle.tool_words.specs.Cut.{pieces_left}
use Rattle.tool_words.specs.Entries.{is_formed}
use Rattle.tool_words.proofs.Cuts.{left_length}
use Rattle.tool_words.proofs.type_words.are_formed.Given as goal

-- the entries that are left decide
abbrev pub invariant-entries : goal.invariant-entries
invariant-entries l = list_all is_formed (pieces_left 44 (option_map (λ text. text.now) l.left)) ≡ are_formed l.fn.types

abbrev pub decreases-entries : goal.decreases-entries
decreases-entries l = left_length l.left
