-- How `decode` without `--lenient` ends, as the items of the same bytes say (own).
use Rattle.std.specs.Prelude.{ℕ, ℤ, false, List, [], ◌∷◌, ◌++◌, Result, Ok, Err, codes}
use Rattle.std.specs.Fmt.{decimal, signed_decimal}
use Rattle.aidl_base.specs.declared.profile.Profile.TheVariants.{Strict}
use Rattle.aidl_schema.specs.declared.schema.AidlType.{AidlType}
use Rattle.aidl_schema.specs.declared.schema.Decl.{Decl}
use Rattle.aidl_values.specs.Data.{Data}
use Rattle.parcel_explain.specs.declared.item.Item.{Item}
use Rattle.parcel_explain.specs.declared.item.ItemKind.{ItemKind}
use Rattle.parcel_explain.specs.declared.item.ItemKind.TheVariants as kind
use Rattle.tool_frame.specs.declared.verdict.Verdict.TheVariants.{Done}
use Rattle.tool_frame.specs.Answer.{Answer, negative}
use Rattle.wire_model.specs.ReadOf.{read_of}
use Rattle.parcel_commands.specs.Decode.{value_line}

-- the line of a value that is read, and then the others
abbrev pub value_then : List Decl → AidlType → Result (Data × List ℕ) ℤ → (List ℕ → List ℕ) → List ℕ
value_then S t (Ok item) others = value_line S t item.0 ++ others item.1
value_then S t (Err status) others = []

-- the lines of values, up to the first that can't be read
abbrev pub value_lines : List Decl → List AidlType → List ℕ → List ℕ
value_lines S [] b = []
value_lines S (t ∷ ts) b = value_then S t (read_of Strict S 64 t false b) (λ c. value_lines S ts c)

-- nothing more
abbrev pub no_ending : Answer
no_ending = record { text = []; verdict = Done }

-- what follows the values' lines, by the kind of the last item and its bytes: nothing where it is of a value
abbrev pub ending_by : ItemKind → ℕ → Answer
ending_by (kind.Stop status) count = negative (codes "status " ++ signed_decimal status)
ending_by kind.Left count = negative (codes "left " ++ decimal count)
ending_by _ count = no_ending

-- by the last item
abbrev pub ending_of : List Item → Answer
ending_of [] = no_ending
ending_of (i ∷ []) = ending_by i.kind i.length
ending_of (i ∷ j ∷ is) = ending_of (j ∷ is)
