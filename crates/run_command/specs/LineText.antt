-- The line that is printed of what a line of a calls file comes to: compact JSON with its keys in byte order (own).
-- A is CLIENT's declarations and B SERVER's, `ms` the methods by whose types the values are, k the number of the line.
use Rattle.std.specs.Prelude.{ℕ, ℤ, List, [], ◌∷◌, ◌++◌, Option, Some, None, Result, Ok, Err, if◌then◌else◌, codes}
use Rattle.std.specs.Fmt.{decimal, signed_decimal}
use Rattle.std.specs.Ordering.{int_eq}
use Rattle.std.specs.Str.{encode_utf8_all}
use Rattle.serde_json.specs.Data.{string}
use Rattle.serde_json.specs.Written.{compact_text}
use Rattle.aidl_schema.specs.declared.schema.AidlType.{AidlType}
use Rattle.aidl_schema.specs.declared.schema.Decl.{Decl}
use Rattle.aidl_values.specs.Data.{Data, Items, none, item}
use Rattle.call_scripts.specs.Refusal.{Refusal, printed_name}
use Rattle.call_runner.specs.declared.line.Methods.{Methods}
use Rattle.call_runner.specs.Lines.{LineData, refused, transport, oneway, done}
use Rattle.json_writing.specs.ValueText.{value_text}
use Rattle.tool_frame.specs.Answer.{line}
use Rattle.wire_model.specs.Calls as calls
use Rattle.wire_model.specs.Calls.{AnswerData, returned, exception}
use Rattle.wire_model.specs.MethodOf.{method_of}
use Rattle.wire_model.specs.Requests.{service_specific}
use Rattle.wire_model.specs.Typed.{types_of}

-- a text as a JSON string
unfoldable pub quoted : List ℕ → List ℕ
quoted text = compact_text (string text)

-- values by their types, each behind a comma
abbrev pub others_text : List Decl → List AidlType → Items → List ℕ
others_text S (t ∷ ts) (item v vs) = codes "," ++ value_text S t v ++ others_text S ts vs
others_text S (t ∷ ts) none = []
others_text S [] vs = []

-- an array of values by their types
abbrev pub values_text : List Decl → List AidlType → Items → List ℕ
values_text S (t ∷ ts) (item v vs) = codes "[" ++ value_text S t v ++ others_text S ts vs ++ codes "]"
values_text S (t ∷ ts) none = codes "[]"
values_text S [] vs = codes "[]"

-- the types of what the handler of SERVER's method sees
abbrev pub seen_types : List Decl → Option Methods → List AidlType
seen_types B None = []
seen_types B (Some m) = types_of (calls.arguments (method_of B m.server m.called))

-- SAW: null where the handler wasn't called
abbrev pub saw_text : List Decl → Option Methods → Option Items → List ℕ
saw_text B ms None = codes "null"
saw_text B ms (Some saw) = values_text B (seen_types B ms) saw

-- the types of the outs of CLIENT's method
abbrev pub out_types : List Decl → Option Methods → List AidlType
out_types A None = []
out_types A (Some m) = calls.out_types (method_of A m.interface m.method)

-- the type of its result; None is `void`
abbrev pub result_type : List Decl → Option Methods → Option AidlType
result_type A None = None
result_type A (Some m) = calls.result_type (method_of A m.interface m.method)

-- the result by its type, or null for a void method
abbrev pub result_text : List Decl → Option AidlType → Option Data → List ℕ
result_text A (Some t) (Some v) = value_text A t v
result_text A (Some t) None = codes "null"
result_text A None r = codes "null"

-- the number of a service's own exception; no other has one
abbrev pub error_text : ℤ → ℤ → List ℕ
error_text code error = if int_eq code service_specific then codes "," ++ signed_decimal error else []

-- what stands before an exception's code
unfoldable pub opening_text : List ℕ
opening_text = codes "{\"exception\":["

-- an exception's code, before its message
unfoldable pub code_text : ℤ → List ℕ
code_text code = opening_text ++ signed_decimal code ++ codes ","

-- CLIENT: the status of a reply that is none, or the answer
abbrev pub client_text : List Decl → Option Methods → Result AnswerData ℤ → List ℕ
client_text A ms (Err status) = codes "{\"status\":" ++ signed_decimal status ++ codes "}"
client_text A ms (Ok (returned r outs)) = codes "{\"out\":" ++ values_text A (out_types A ms) outs
    ++ codes ",\"return\":" ++ result_text A (result_type A ms) r ++ codes "}"
client_text A ms (Ok (exception code message error)) =
    code_text code ++ quoted (encode_utf8_all message) ++ error_text code error ++ codes "]}"

-- the number of a line that is refused, and the name of the refusal
abbrev pub named_text : ℕ → List ℕ → List ℕ
named_text k name = codes ",\"line\":" ++ decimal k ++ codes ",\"refused\":\"" ++ name ++ codes "\"}"

-- a line that is refused
abbrev pub refused_text : ℕ → Refusal → List ℕ
refused_text k why = codes "{\"at\":" ++ quoted why.at ++ named_text k (printed_name why.name)

-- what stands last in the line of a call whose transport status is 0
abbrev pub called_text : ℕ → List ℕ → List ℕ
called_text k saw = codes "\"line\":" ++ decimal k ++ codes ",\"saw\":" ++ saw ++ codes ",\"transport\":0}"

-- the object of a line
abbrev pub object_text : List Decl → List Decl → Option Methods → ℕ → LineData → List ℕ
object_text A B ms k (refused why) = refused_text k why
object_text A B ms k (transport status) = codes "{\"line\":" ++ decimal k ++ codes ",\"transport\":"
    ++ signed_decimal status ++ codes "}"
object_text A B ms k (oneway saw) = codes "{" ++ called_text k (saw_text B ms saw)
object_text A B ms k (done saw client) = codes "{\"client\":" ++ client_text A ms client ++ codes ","
    ++ called_text k (saw_text B ms saw)

abbrev pub line_text : List Decl → List Decl → Option Methods → ℕ → LineData → List ℕ
line_text A B ms k out = line (object_text A B ms k out)
