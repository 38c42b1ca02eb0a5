-- The arguments of a line of a calls file: the entries of `args`, one for each argument, in order (own). S is
-- CLIENT's declarations.
use Rattle.std.specs.Prelude.{ℕ, suc, ◌+◌, ◌==◌, nat_le, ℤ, pos, negsuc, Bool, if◌then◌else◌, List, [], ◌∷◌, length}
use Rattle.std.specs.Prelude.{Option, Some, None, Ok}
use Rattle.serde_json.specs.Data as json
use Rattle.serde_json.specs.Events.{items_len}
use Rattle.serde_json.specs.Find.{as_integer}
use Rattle.aidl_schema.specs.declared.schema.Arg.{Arg}
use Rattle.aidl_schema.specs.declared.schema.Decl.{Decl}
use Rattle.aidl_schema.specs.Types.{is_array}
use Rattle.aidl_values.specs.Data.{Data, null, number, Items, none, item}
use Rattle.json_values.specs.FromJson.{from_json_of}
use Rattle.wire_model.specs.Calls.{is_out}
use Rattle.wire_model.specs.Requests.{asked_length}
use Rattle.call_scripts.specs.declared.refused.RefusedName.TheVariants.{WrongShape, OutOfRange}
use Rattle.call_scripts.specs.Refusal.{Judged, ◌>>=◌, refuse, placed, at_args, at_entry}

-- a length that is not below 0 and takes the sum of those before it no further than 65,536
abbrev pub length_from : ℕ → List ℕ → Option ℤ → Judged Data
length_from sum at None = refuse WrongShape at
length_from sum at (Some (negsuc n)) = refuse OutOfRange at
length_from sum at (Some (pos n)) = if nat_le (sum + n) 65536 then Ok (number (pos n)) else refuse OutOfRange at

-- an `out` array: its length, or null where it may be null
abbrev pub array_from : Bool → ℕ → List ℕ → json.Data → Judged Data
array_from nullable sum at json.null = if nullable then Ok null else refuse WrongShape at
array_from nullable sum at (json.number n) = length_from sum at (as_integer n)
array_from nullable sum at _ = refuse WrongShape at

-- any other `out` argument: null
abbrev pub null_from : List ℕ → json.Data → Judged Data
null_from at json.null = Ok null
null_from at _ = refuse WrongShape at

abbrev pub out_from : Arg → ℕ → List ℕ → json.Data → Judged Data
out_from a sum at j = if is_array a.ty.shape then array_from a.ty.nullable sum at j else null_from at j

-- the entry of an argument: of an `out` one a length or null, as above, and of an `in` or `inout` one a value of
-- its type
abbrev pub entry_from : List Decl → ℕ → List ℕ → Arg → json.Data → Judged Data
entry_from S sum at a j = if is_out a.way then out_from a sum at j else placed at (from_json_of S 64 a.ty j)

-- the entries from position k on, where the lengths before them add up to `sum`
abbrev pub entries_from : List Decl → ℕ → ℕ → List Arg → json.Items → Judged Items
entries_from S k sum [] js = Ok none
entries_from S k sum (a ∷ xs) json.no_items = Ok none
entries_from S k sum (a ∷ xs) (json.item j js) = do
  first ← entry_from S sum (at_entry k) a j
  others ← entries_from S (suc k) (sum + asked_length a first) xs js
  Ok (item first others)

-- as many entries as there are arguments
abbrev pub counted_entries : List Decl → List Arg → json.Items → Judged Items
counted_entries S xs js = if items_len js == length xs then entries_from S 0 0 xs js else refuse WrongShape at_args

-- an array; a missing `args` is `[]`
abbrev pub args_from : List Decl → List Arg → Option json.Data → Judged Items
args_from S xs None = counted_entries S xs json.no_items
args_from S xs (Some (json.array js)) = counted_entries S xs js
args_from S xs (Some _) = refuse WrongShape at_args
