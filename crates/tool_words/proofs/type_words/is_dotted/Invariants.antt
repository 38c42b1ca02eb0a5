use Rattle.std.proofs.Common.{◌≡◌}
use Rattle.std.specs.List.{list_all}
use Rattle.std.specs.Option.{option_map}
use Rattle.tool_words.specs.Cut.{pieces_left}
use Rattle.aidl_base.specs.Identifiers.{is_identifier}
use Rattle.tool_words.specs.Entries.{is_dotted}
use Rattle.tool_words.proofs.Cuts.{left_length}
use Rattle.tool_words.proofs.type_words.is_dotted.Given as goal

-- the parts that are left decide
abbrev pub invariant-parts : goal.invariant-parts
invariant-parts l = list_all is_identifier (pieces_left 46 (option_map (λ text. text.now) l.left)) ≡ is_dotted l.fn.name

abbrev pub decreases-parts : goal.decreases-parts
decreases-parts l = left_length l.left
