-- What `decode` answers of its file, by the types of a schema (own).
use Rattle.std.specs.Prelude.{ℕ, ℤ, Bool, true, false, List, [], ◌∷◌, ◌++◌, length, Result, Ok, Err, codes}
use Rattle.std.specs.Fmt.{decimal, signed_decimal}
use Rattle.aidl_base.specs.declared.profile.Profile.{Profile}
use Rattle.aidl_base.specs.declared.profile.Profile.TheVariants.{Strict, Lenient}
use Rattle.aidl_schema.specs.declared.schema.Decl.{Decl}
use Rattle.aidl_schema.specs.declared.schema.AidlType.{AidlType}
use Rattle.aidl_values.specs.Data.{Data}
use Rattle.wire_model.specs.ReadOf.{read_of}
use Rattle.tool_frame.specs.declared.verdict.Verdict.TheVariants.{Done}
use Rattle.tool_frame.specs.Answer.{Answer, Found, ◌>>=◌, line, negative, after_text}
use Rattle.parcel_commands.specs.Refusals.{known_types}
use Rattle.json_writing.specs.ValueText.{value_text}

-- the profile by which is read; `lenient` says that `--lenient` stands
abbrev pub profile_of : Bool → Profile
profile_of true = Lenient
profile_of false = Strict

-- after the last item: bytes that are left are counted
abbrev pub rest_answer : List ℕ → Answer
rest_answer [] = record { text = []; verdict = Done }
rest_answer (b ∷ rest) = negative (codes "left " ++ decimal (length (b ∷ rest)))

-- the line of a value
abbrev pub value_line : List Decl → AidlType → Data → List ℕ
value_line S t v = line (value_text S t v)

-- an item that was read, and the bytes after it; else `status NUMBER`
abbrev pub item_found : Result (Data × List ℕ) ℤ → Found (Data × List ℕ)
item_found (Ok item) = Ok item
item_found (Err status) = Err (negative (codes "status " ++ signed_decimal status))

-- the items in order, a line each
abbrev pub items_answer : Profile → List Decl → List AidlType → List ℕ → Answer
items_answer p S [] bytes = rest_answer bytes
items_answer p S (t ∷ ts) bytes = do
  item ← item_found (read_of p S 64 t false bytes)
  after_text (value_line S t item.0) (items_answer p S ts item.1)

-- the values of a parcel's bytes, a line each
abbrev pub decode_answer : Profile → List Decl → List ℕ → List ℕ → Answer
decode_answer p S types parcel = do
  known ← known_types S types  -- `bad type`
  items_answer p S known parcel  -- `status`, and then `left`
