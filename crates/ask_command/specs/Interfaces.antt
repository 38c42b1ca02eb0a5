-- The interface that `ask` asks (own). S is a schema's declarations, i the number of an interface, m the position
-- of its method.
use Rattle.std.specs.Prelude.{ℕ, ◌++◌, List, [], Option, Some, None, Ok, Err, codes}
use Rattle.std.specs.Str.{encode_utf8_all}
use Rattle.aidl_schema.specs.declared.schema.Decl.{Decl}
use Rattle.aidl_schema.specs.declared.schema.Method.{Method}
use Rattle.aidl_schema.specs.Find.{interface_named}
use Rattle.meta_calls.specs.Reserved.{reserved_method}
use Rattle.tool_frame.specs.Answer.{Answer, Found, negative}
use Rattle.wire_model.specs.Calls.{descriptor, method_at}
use Rattle.wire_model.specs.MethodOf.{MethodOf, method_of}

-- a method's name in UTF-8
abbrev pub name_of : Option Method → List ℕ
name_of None = []
name_of (Some method) = encode_utf8_all method.name.0

abbrev pub method_name : MethodOf → List ℕ
method_name m = name_of (method_at m)

-- the name of the interface, a dot and the name of the method
abbrev pub full_name : MethodOf → List ℕ
full_name m = encode_utf8_all (descriptor m.declarations m.interface) ++ codes "." ++ method_name m

-- `collision NAME`: a method has a name that the service answers for itself
abbrev pub collision : MethodOf → Answer
collision m = negative (codes "collision " ++ full_name m)

abbrev pub unless_reserved : List Decl → ℕ → Option ℕ → Found ℕ
unless_reserved S i None = Ok i
unless_reserved S i (Some m) = Err (collision (method_of S i m))

-- an interface without such a method
abbrev pub without_collision : List Decl → ℕ → Found ℕ
without_collision S i = unless_reserved S i (reserved_method S i)

-- `no interface NAME`, and then `collision NAME`
abbrev pub found_or : List Decl → List ℕ → Option ℕ → Found ℕ
found_or S name None = Err (negative (codes "no interface " ++ name))
found_or S name (Some i) = without_collision S i

-- the number of the interface of a canonical name
abbrev pub interface_found : List Decl → List ℕ → Found ℕ
interface_found S name = found_or S name (interface_named S name)
