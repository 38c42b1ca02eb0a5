-- What SERVER's handler answers by a line of a calls file (own). S is SERVER's declarations.
use Rattle.std.specs.Prelude.{ℕ, suc, ◌==◌, ⊤, ℤ, pos, negsuc, Bool, not, ◌&&◌, ◌||◌, if◌then◌else◌, List, [], ◌∷◌}
use Rattle.std.specs.Prelude.{◌++◌, length, map, Option, Some, None, is_some, option_and_then, Ok, codes}
use Rattle.std.specs.List.{list_any}
use Rattle.std.specs.Ordering.{int_eq}
use Rattle.std.specs.Str.{chars}
use Rattle.serde_json.specs.Data as json
use Rattle.serde_json.specs.Data.{member, no_members}
use Rattle.serde_json.specs.Events.{items_len, members_len}
use Rattle.serde_json.specs.Find.{as_integer, get_member}
use Rattle.aidl_base.specs.Ranges.{is_between, is_in}
use Rattle.aidl_base.specs.declared.range.Range.TheVariants.{Int}
use Rattle.aidl_schema.specs.declared.schema.AidlType.{AidlType}
use Rattle.aidl_schema.specs.declared.schema.Decl.{Decl}
use Rattle.aidl_schema.specs.Same.{same_text}
use Rattle.aidl_values.specs.Data.{Data, Items, none, item}
use Rattle.aidl_values.specs.Default.{zero_within}
use Rattle.aidl_values.specs.View.{items_of}
use Rattle.json_values.specs.FromJson.{from_json_of, is_null}
use Rattle.json_values.specs.Refusal.{escaped}
use Rattle.wire_model.specs.Calls.{AnswerData, returned, exception, is_oneway, out_types, result_type}
use Rattle.wire_model.specs.MethodOf.{MethodOf}
use Rattle.wire_model.specs.Requests.{service_specific}
use Rattle.call_scripts.specs.declared.refused.RefusedName.TheVariants.{WrongShape, OutOfRange, UnknownKey}
use Rattle.call_scripts.specs.Refusal.{Judged, ◌>>=◌, refuse, unless, placed, at_answer, at_exception, at_return}
use Rattle.call_scripts.specs.Refusal.{at_out, at_value}

-- the least key that is none of these: an object has its keys in byte order
abbrev pub unknown_in : List (List ℕ) → json.Members → Option (List ℕ)
unknown_in known no_members = None
unknown_in known (member key j ms) = if list_any (λ k. same_text k key) known then unknown_in known ms else Some key

-- no other key, of the object at this place
abbrev pub all_known : List ℕ → Option (List ℕ) → Judged ⊤
all_known at None = Ok tt
all_known at (Some key) = refuse UnknownKey (at ++ 47 ∷ escaped key)

-- an exception of the right shape
pub record Thrown : Type 0 where
  pub code : ℤ
  pub message : List ℕ
  pub error : ℤ

-- a whole number
abbrev pub whole : json.Data → Option ℤ
whole (json.number n) = as_integer n
whole _ = None

-- an array of a whole number and a string, followed by a second whole number exactly where the first is -8
abbrev pub thrown_of : json.Data → Option Thrown
thrown_of (json.array (json.item code (json.item (json.string message) json.no_items))) =
    option_and_then (λ c. if int_eq c service_specific then None
    else Some (record { code = c; message = chars message; error = pos 0 })) (whole code)
thrown_of (json.array (json.item code (json.item (json.string message) (json.item error json.no_items)))) =
    option_and_then (λ c. option_and_then (λ e. if int_eq c service_specific
    then Some (record { code = c; message = chars message; error = e }) else None) (whole error)) (whole code)
thrown_of _ = None

-- a code from -8 to -1, and an error number in the range of int
abbrev pub are_in_range : ℤ → ℤ → Bool
are_in_range code error = is_between (negsuc 7) (negsuc 0) code && is_in Int error

abbrev pub in_ranges : Thrown → Judged AnswerData
in_ranges x = if are_in_range x.code x.error then Ok (exception x.code x.message x.error)
    else refuse OutOfRange at_exception

abbrev pub exception_from : Option Thrown → Judged AnswerData
exception_from None = refuse WrongShape at_exception
exception_from (Some x) = in_ranges x

-- the result: of a void method null or none, of another a value or its default
abbrev pub result_from : List Decl → Option AidlType → Option json.Data → Judged (Option Data)
result_from S None None = Ok None
result_from S None (Some j) = if is_null j then Ok None else refuse WrongShape at_return
result_from S (Some t) None = Ok (Some (zero_within 33 S t))
result_from S (Some t) (Some j) = do
  v ← placed at_return (from_json_of S 64 t j)
  Ok (Some v)

-- the values of `out`, the first of which is at position k
abbrev pub values_from : List Decl → ℕ → List AidlType → json.Items → Judged Items
values_from S k [] js = Ok none
values_from S k (t ∷ ts) json.no_items = Ok none
values_from S k (t ∷ ts) (json.item j js) = do
  first ← placed (at_value k) (from_json_of S 64 t j)
  others ← values_from S (suc k) ts js
  Ok (item first others)

-- the defaults of types
abbrev pub default_outs : List Decl → List AidlType → Items
default_outs S ts = items_of (map (λ t. zero_within 33 S t) ts)

-- an array of as many values as there are outs, or their defaults
abbrev pub outs_from : List Decl → List AidlType → Option json.Data → Judged Items
outs_from S ts None = Ok (default_outs S ts)
outs_from S ts (Some (json.array js)) = if items_len js == length ts then values_from S 0 ts js
    else refuse WrongShape at_out
outs_from S ts (Some _) = refuse WrongShape at_out

-- a result and outs, of a method that has this result and these types of outs
abbrev pub returned_from : List Decl → Option AidlType → List AidlType → Option json.Data
    → Option json.Data → Judged AnswerData
returned_from S t ts result outs = do
  r ← result_from S t result
  vs ← outs_from S ts outs
  Ok (returned r vs)

-- an exception, or a result and outs
abbrev pub thrown_or_returned : List Decl → Option AidlType → List AidlType → Option json.Data
    → json.Members → Judged AnswerData
thrown_or_returned S t ts (Some x) ms = exception_from (thrown_of x)
thrown_or_returned S t ts None ms = returned_from S t ts (get_member (codes "return") ms) (get_member (codes "out") ms)

abbrev pub answer_keys : List (List ℕ)
answer_keys = codes "exception" ∷ codes "return" ∷ codes "out" ∷ []

-- `exception` doesn't stand beside another key
abbrev pub is_alone : json.Members → Bool
is_alone ms = not (is_some (get_member (codes "exception") ms)) || (members_len ms == 1)

-- the object of an `answer`
abbrev pub object_from : List Decl → Option AidlType → List AidlType → json.Members → Judged AnswerData
object_from S t ts ms = do
  alone ← unless (is_alone ms) WrongShape at_answer
  known ← all_known at_answer (unknown_in answer_keys ms)
  thrown_or_returned S t ts (get_member (codes "exception") ms) ms

-- of a method that isn't oneway: an object; a missing `answer` stands for the defaults
abbrev pub two_way_from : List Decl → Option AidlType → List AidlType → Option json.Data → Judged AnswerData
two_way_from S t ts None = returned_from S t ts None None
two_way_from S t ts (Some (json.object ms)) = object_from S t ts ms
two_way_from S t ts (Some _) = refuse WrongShape at_answer

-- of a oneway method: nothing
abbrev pub oneway_from : Option json.Data → Judged AnswerData
oneway_from None = Ok (returned None none)
oneway_from (Some j) = refuse WrongShape at_answer

-- of the method m
abbrev pub answer_from : MethodOf → Option json.Data → Judged AnswerData
answer_from m j = if is_oneway m then oneway_from j else two_way_from m.declarations (result_type m) (out_types m) j
