-- Look-ups of fields by their names in UTF-8 (own).
use Rattle.std.specs.Prelude.{ℕ, List, Option}
use Rattle.std.specs.List.{position}
use Rattle.std.specs.Str.{encode_utf8_all}
use Rattle.aidl_schema.specs.declared.schema.Field.{Field}
use Rattle.aidl_schema.specs.Same.{same_text}

-- the position of the field of this name
abbrev pub field_named : List Field → List ℕ → Option ℕ
field_named fs name = position (λ f. same_text (encode_utf8_all f.name.0) name) fs
