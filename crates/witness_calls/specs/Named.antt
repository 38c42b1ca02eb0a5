-- Look-ups of methods and fields by their names in UTF-8 (own).
use Rattle.std.specs.Prelude.{ℕ, List, Option}
use Rattle.std.specs.List.{position}
use Rattle.std.specs.Str.{encode_utf8_all}
use Rattle.aidl_schema.specs.declared.schema.Method.{Method}
use Rattle.aidl_schema.specs.Same.{same_text}
pub use Rattle.value_views.specs.Named.{field_named}

-- the position of the method of this name
abbrev pub method_named : List Method → List ℕ → Option ℕ
method_named ms name = position (λ m. same_text (encode_utf8_all m.name.0) name) ms
