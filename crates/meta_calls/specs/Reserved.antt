-- Methods with a name that one of the two codes answers for.
use Rattle.std.specs.Prelude.{ℕ, Bool, ◌||◌, List, Option, codes}
use Rattle.std.specs.List.{position}
use Rattle.std.specs.Str.{encode_utf8_all}
use Rattle.aidl_schema.specs.declared.schema.Decl.{Decl}
use Rattle.aidl_schema.specs.declared.schema.Method.{Method}
use Rattle.aidl_schema.specs.Find.{methods_at}
use Rattle.aidl_schema.specs.Same.{same_text}

-- its name in UTF-8 is one of the two (the compiler's generated methods)
abbrev pub is_reserved : Method → Bool
is_reserved m = same_text (encode_utf8_all m.name.0) (codes "getInterfaceVersion")
    || same_text (encode_utf8_all m.name.0) (codes "getInterfaceHash")

-- the position of the first such method; None where there is none
abbrev pub position_reserved : List Method → Option ℕ
position_reserved ms = position is_reserved ms

-- of the methods of an interface
abbrev pub reserved_method : List Decl → ℕ → Option ℕ
reserved_method S i = position_reserved (methods_at S i)
