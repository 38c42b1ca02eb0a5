-- The JSON value of a text (own).
use Rattle.std.specs.Prelude.{ℕ, if◌then◌else◌, List, Option, None}
use Rattle.std.specs.Str.{is_utf8}
use Rattle.serde_json.specs.Data.{Data}
use Rattle.serde_json.specs.Read.{read as read_text}

-- the value that `serde_json` reads; None where the bytes aren't UTF-8, or are no JSON text
unfoldable pub parsed_json : List ℕ → Option Data
parsed_json bytes = if is_utf8 bytes then read_text bytes else None
