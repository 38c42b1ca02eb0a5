use Rattle.std.proofs.Common.{◌≡◌}
use Rattle.std.proofs.Common.{true}
use Rattle.std.specs.List.{list_all}
use Rattle.std.specs.Option.{option_map}
use Rattle.aidl_schema.specs.Types.{is_type}
use Rattle.tool_words.specs.Entries.{entries_of}
use Rattle.tool_words.specs.Cut.{pieces_left}
use Rattle.parcel_commands.specs.Types.{types_of}
use Rattle.parcel_commands.proofs.Entries.{left_length, with_types}
use Rattle.parcel_commands.proofs.types.types_of.Given as goal

-- the types so far, and those of the entries that are left, are those of all
abbrev pub invariant-entries : goal.invariant-entries
invariant-entries l = record {
  types : with_types l.known.items (types_of l.schema.decls (pieces_left 44 (option_map (λ types. types.now) l.left))) ≡ types_of l.schema.decls (entries_of l.fn.types);
  known : list_all (is_type l.schema.decls) l.known.items ≡ true;
}

abbrev pub decreases-entries : goal.decreases-entries
decreases-entries l = left_length l.left
