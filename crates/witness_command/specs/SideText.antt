-- The two sides of a call as they stand in a line (own). A method is named by its simple name.
use Rattle.std.specs.Prelude.{ℕ, ℤ, List, [], ◌++◌, Option, Some, None, Result, Ok, Err, codes}
use Rattle.std.specs.Fmt.{signed_decimal}
use Rattle.std.specs.Str.{encode_utf8_all}
use Rattle.aidl_schema.specs.declared.schema.Decl.{Decl}
use Rattle.aidl_schema.specs.declared.schema.Method.{Method}
use Rattle.aidl_values.specs.Data.{Data}
use Rattle.compat_witness.specs.Sides.{Side, transport, left, called, client, no_reply}
use Rattle.wire_model.specs.Calls.{AnswerData, returned, exception, method_at}
use Rattle.wire_model.specs.MethodOf.{method_of}
use Rattle.witness_command.specs.Texts.{value_text, values_text}

-- a method's simple name; nothing where there is no method
abbrev pub name_of_method : Option Method → List ℕ
name_of_method None = []
name_of_method (Some m) = encode_utf8_all m.name.0

-- that of the method at a position of the server's interface; nothing where there is no interface
abbrev pub name_at : List Decl → Option ℕ → ℕ → List ℕ
name_at S None n = []
name_at S (Some j) n = name_of_method (method_at (method_of S j n))

-- a result; `void` where there is none
abbrev pub result_text : Option Data → List ℕ
result_text None = codes "void"
result_text (Some v) = value_text v

-- what the client has
abbrev pub client_text : Result AnswerData ℤ → List ℕ
client_text (Ok (returned r outs)) = codes "returned " ++ result_text r ++ codes " " ++ values_text outs
client_text (Ok (exception code message error)) = codes "exception " ++ signed_decimal code
client_text (Err status) = codes "status " ++ signed_decimal status

-- SIDE, the methods being those of an interface of the server
abbrev pub side_text : List Decl → Option ℕ → Side → List ℕ
side_text S j (transport status) = codes "transport " ++ signed_decimal status
side_text S j (left n) = codes "left " ++ name_at S j n
side_text S j (called n saw) = codes "called " ++ name_at S j n ++ codes " " ++ values_text saw
side_text S j (client got) = client_text got
side_text S j no_reply = codes "no reply"
