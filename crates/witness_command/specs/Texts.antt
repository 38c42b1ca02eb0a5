-- Values as they stand in a side: by their parts alone, whatever their types are (own).
use Rattle.std.specs.Prelude.{ℕ, Bool, true, false, if◌then◌else◌, List, [], ◌++◌, codes}
use Rattle.std.specs.Fmt.{decimal, signed_decimal}
use Rattle.std.specs.Str.{encode_utf8_all}
use Rattle.serde_json.specs.Data.{string}
use Rattle.serde_json.specs.Written.{comma_if, compact_text}
use Rattle.aidl_values.specs.Data.{Data, null, truth, number, text, seq, rec, alt, Items, none, item}

-- a text as a JSON string, with JSON's escapes
unfoldable pub quoted : List ℕ → List ℕ
quoted bytes = compact_text (string bytes)

abbrev mutual
  -- null, truth values, numbers and texts as in compact JSON, a sequence in `[` and `]`, a record by position in
  -- `{` and `}`, an alternative as `<TAG:VALUE>`
  pub value_text : Data → List ℕ
  value_text null = codes "null"
  value_text (truth b) = if b then codes "true" else codes "false"
  value_text (number n) = signed_decimal n
  value_text (text x) = quoted (encode_utf8_all x)
  value_text (seq vs) = codes "[" ++ parts_text false vs ++ codes "]"
  value_text (rec vs) = codes "{" ++ parts_text false vs ++ codes "}"
  value_text (alt k v) = codes "<" ++ decimal k ++ codes ":" ++ value_text v ++ codes ">"

  -- parts joined by commas; one more where others stand before
  pub parts_text : Bool → Items → List ℕ
  parts_text later none = []
  parts_text later (item v vs) = comma_if later ++ value_text v ++ parts_text true vs

-- VALUES: a list in `[` and `]`
abbrev pub values_text : Items → List ℕ
values_text vs = codes "[" ++ parts_text false vs ++ codes "]"
