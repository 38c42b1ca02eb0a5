-- What `explain` answers of its file, by the types of a schema (own).
use Rattle.std.specs.Prelude.{ℕ, Bool, if◌then◌else◌, List, [], ◌∷◌, ◌++◌, take, drop, codes}
use Rattle.std.specs.Fmt.{decimal, signed_decimal}
use Rattle.std.specs.List.{flat_map, list_all}
use Rattle.std.specs.Str.{encode_utf8_all}
use Rattle.aidl_schema.specs.declared.schema.Decl.{Decl}
use Rattle.aidl_schema.specs.declared.schema.AidlType.{AidlType}
use Rattle.parcel_explain.specs.declared.item.Item.{Item}
use Rattle.parcel_explain.specs.declared.item.ItemKind.{ItemKind}
use Rattle.parcel_explain.specs.declared.item.ItemKind.TheVariants as kind
use Rattle.parcel_explain.specs.Ends.{is_of_value}
use Rattle.parcel_explain.specs.Items.{explained}
use Rattle.tool_frame.specs.declared.verdict.Verdict.{Verdict}
use Rattle.tool_frame.specs.declared.verdict.Verdict.TheVariants.{Done, Negative}
use Rattle.tool_frame.specs.Answer.{Answer, ◌>>=◌, line}
use Rattle.tool_frame.specs.Shown.{shown}
use Rattle.parcel_commands.specs.Refusals.{known_types}

-- the word of a kind
abbrev pub kind_text : ItemKind → List ℕ
kind_text kind.Value = codes "value"
kind_text kind.Count = codes "count"
kind_text kind.Block = codes "text"
kind_text kind.Bytes = codes "bytes"
kind_text kind.Marker = codes "marker"
kind_text kind.Size = codes "size"
kind_text kind.Tag = codes "tag"
kind_text kind.Tail = codes "tail"
kind_text kind.Left = codes "left"
kind_text (kind.Stop status) = codes "stop " ++ signed_decimal status

-- a word, and `-` for the empty one
abbrev pub or_dash : List ℕ → List ℕ
or_dash [] = codes "-"
or_dash (b ∷ text) = b ∷ text

-- a path as a word
abbrev pub path_text : List ℕ → List ℕ
path_text path = or_dash (encode_utf8_all path)

-- the bytes of an item
abbrev pub bytes_at : List ℕ → Item → List ℕ
bytes_at parcel i = take i.length (drop i.offset parcel)

-- `OFFSET HEX PATH KIND`
abbrev pub item_line : List ℕ → Item → List ℕ
item_line parcel i = line (decimal i.offset ++ codes " " ++ shown (bytes_at parcel i) ++ codes " "
    ++ path_text i.path ++ codes " " ++ kind_text i.kind)

-- an item of a value
abbrev pub is_right : Item → Bool
is_right i = is_of_value i.kind

-- bytes that are left, and a value that can't be read, are a negative verdict
abbrev pub items_verdict : List Item → Verdict
items_verdict items = if list_all is_right items then Done else Negative

-- a line for each item
abbrev pub explained_answer : List Decl → List AidlType → List ℕ → Answer
explained_answer S ts parcel =
    let items = explained S ts parcel in
    record { text = flat_map (λ i. item_line parcel i) items; verdict = items_verdict items }

-- the items of a parcel's bytes, a line each
abbrev pub explain_answer : List Decl → List ℕ → List ℕ → Answer
explain_answer S types parcel = do
  known ← known_types S types  -- `bad type`
  explained_answer S known parcel
