-- Worked calls: what a request and a reply are, what is made of them, and what values are to another version, computed.
use Rattle.std.proofs.Common.{◌≡◌, ℕ, ◌++◌, ℤ, pos, negsuc, true, false, List, [], ◌∷◌, Some, None, Result, Ok, Err, refl}
use Rattle.std.specs.Prelude.{codes}
use Rattle.std.specs.Str.{chars}
use Rattle.std.specs.Char.Utf16.{utf16_chars}
use lib.Utf8.{encode}
use Rattle.aidl_base.specs.declared.constant.Const.{Const}
use Rattle.aidl_base.specs.declared.profile.Profile.TheVariants.{Strict}
use Rattle.aidl_base.specs.Readings.{word_as, count_at, text_of, block_at, text_at, present_text_at, raw_at}
use Rattle.aidl_schema.specs.declared.schema.AidlType.{AidlType}
use Rattle.aidl_schema.specs.declared.schema.Arg.{Arg}
use Rattle.aidl_schema.specs.declared.schema.Base.TheVariants as base
use Rattle.aidl_schema.specs.declared.schema.Decl.{Decl}
use Rattle.aidl_schema.specs.declared.schema.Direction.{Direction}
use Rattle.aidl_schema.specs.declared.schema.Direction.TheVariants.{In, Out, InOut}
use Rattle.aidl_schema.specs.declared.schema.Kind.TheVariants.{Interface, Parcelable}
use Rattle.aidl_schema.specs.declared.schema.Method.{Method}
use Rattle.aidl_values.specs.Data.{Data, number, seq, rec, Items, none, item}
use Rattle.aidl_values.specs.Default.{const_value, zero_within}
use Rattle.wire_model.specs.Calls.{AnswerData, returned, exception}
use Rattle.wire_model.specs.MethodOf.{method_of}
use Rattle.wire_model.specs.Outcome.{Done, oneway, done, seen_call, outcome}
use Rattle.wire_model.specs.ReadOf.{read_of, raw_items_at, elements_at, array_at, marker_at, body_at, body_value_at, record_at, tag_at, tagged_at, union_at}
use Rattle.wire_model.specs.Receiver.{Received, left, called, header_at, length_at, array_opening_at, stub, returned_at, exception_at, client}
use Rattle.wire_model.specs.Requests.{token, request, reply}
use Rattle.wire_model.specs.Status.{bad_value, not_enough, unexpected_null, unknown_transaction, bad_type}
use Rattle.wire_model.proofs.Examples.{hex, one, array, declared, field, newer, older, record_of, numbers}

received_by : List Decl → ℕ → List ℕ → Result Received ℤ
unfolding stub header_at length_at array_opening_at read_of word_as count_at text_of block_at text_at present_text_at raw_at raw_items_at elements_at array_at marker_at body_at body_value_at record_at tag_at tagged_at union_at zero_within utf16_chars chars encode
received_by S code b = stub Strict S 0 code b

got_by : List Decl → List ℕ → Result AnswerData ℤ
unfolding client returned_at exception_at read_of word_as count_at text_of block_at text_at present_text_at raw_at raw_items_at elements_at array_at marker_at body_at body_value_at record_at tag_at tagged_at union_at zero_within utf16_chars chars encode
got_by S b = client Strict (method_of S 0 0) b

comes_of : List Decl → ℕ → List Decl → Items → AnswerData → Result Done ℤ
unfolding outcome seen_call zero_within
comes_of A m B args answer = outcome (method_of A 0 m) B args answer

argument : List ℕ → Direction → AidlType → Arg
argument name way t = record { name = record { 0 = name }; way = way; ty = t }

-- interface IB { int put(in R r); }, and a newer one with oneway void poke(int n); beside the records of Examples.antt
put : Method
unfolding argument one
put = record { name = record { 0 = codes "put" }; id = 0; oneway = false; result = Some (one base.Int); args = argument (codes "r") In (one (base.Named 1)) ∷ [] }

poke : Method
unfolding argument one
poke = record { name = record { 0 = codes "poke" }; id = 1; oneway = true; result = None; args = argument (codes "n") In (one base.Int) ∷ [] }

before : List Decl
unfolding declared put older
before = declared (codes "IB") (Interface (put ∷ [])) ∷ older

after : List Decl
unfolding declared put poke newer
after = declared (codes "IB") (Interface (put ∷ poke ∷ [])) ∷ newer

its_token : List ℕ
unfolding hex
its_token = hex (codes "00000080 ffffffff 54535953 04000000 61002e00 49004200 00000000")

sent : Items
unfolding record_of
sent = item (record_of (pos 7) (codes "hi")) none

seen : Items
seen = item (rec (item (number (pos 7)) none)) none

three : AnswerData
three = returned (Some (number (pos 3))) none

-- the newer client at the older server
put_across_versions : (request (method_of after 0 0) sent ≡ its_token ++ hex (codes "01000000 14000000 07000000 02000000 68006900 00000000"))
    × (received_by before 1 (request (method_of after 0 0) sent) ≡ Ok (called 0 seen))
    × (reply (method_of before 0 0) three ≡ hex (codes "00000000 03000000"))
    × (got_by after (hex (codes "00000000 03000000")) ≡ Ok three)
    × (comes_of after 0 before sent three ≡ Ok (done seen (Ok three)))
unfolding received_by got_by comes_of before after its_token sent seen three hex record_of
put_across_versions = (refl, refl, refl, refl, refl)

-- calls both ways: a missing field takes its default, a missing method is unknown, and a oneway call is only seen
calls_both_ways : (comes_of before 0 after seen (returned (Some (number (pos 0))) none)
    ≡ Ok (done (item (rec (item (number (pos 7)) (item (const_value (Const.Text (codes "x"))) none))) none) (Ok (returned (Some (number (pos 0))) none))))
    × (comes_of after 1 before (item (number (pos 1)) none) three ≡ Err unknown_transaction)
    × (received_by before 2 (request (method_of after 0 1) (item (number (pos 1)) none)) ≡ Err unknown_transaction)
    × (comes_of after 1 after (item (number (pos 1)) none) three ≡ Ok (oneway (item (number (pos 1)) none)))
unfolding received_by comes_of before after seen three
calls_both_ways = (refl, refl, refl, refl)

-- an unknown code comes first, then the token, then the arguments
codes_and_tokens : (received_by after 9 (token (codes "a.IC")) ≡ Err unknown_transaction)
    × (received_by after 1 (token (codes "a.IC")) ≡ Err bad_type)
    × (received_by after 1 [] ≡ Err bad_type)
    × (received_by after 1 its_token ≡ Err not_enough)
unfolding received_by after its_token hex
codes_and_tokens = (refl, refl, refl, refl)

-- what one edit of the request or of the reply does: the policy word is passed over, the header and the name are not
tampered_bytes : (received_by before 1 (hex (codes "01000080 ffffffff 54535953 04000000 61002e00 49004200 00000000 01000000 08000000 07000000")) ≡ Ok (called 0 seen))
    × (received_by before 1 (hex (codes "00000080 ffffffff 00535953 04000000 61002e00 49004200 00000000 01000000 08000000 07000000")) ≡ Err bad_type)
    × (received_by before 1 (hex (codes "00000080 ffffffff 54535953 04000000 62002e00 49004200 00000000 01000000 08000000 07000000")) ≡ Err bad_type)
    × (received_by before 1 (its_token ++ hex (codes "02000000 08000000 07000000")) ≡ Err bad_value)
    × (received_by before 1 (its_token ++ hex (codes "00000000")) ≡ Err unexpected_null)
    × (received_by before 1 (its_token ++ hex (codes "01000000 18000000 07000000")) ≡ Err not_enough)
    × (received_by before 1 (its_token ++ hex (codes "01000000 08000000 07000000 00000000")) ≡ Ok (left 0))
    × (got_by after [] ≡ Err not_enough)
    × (got_by after (hex (codes "00000000")) ≡ Err not_enough)
    × (got_by after (hex (codes "00000000 03000000 00000000")) ≡ Err bad_value)
    × (got_by after (hex (codes "f7ffffff 03000000")) ≡ Err bad_value)
    × (got_by after (hex (codes "ffffffff 03000000")) ≡ Err not_enough)
unfolding received_by got_by before after its_token seen hex
tampered_bytes = (refl, refl, refl, refl, refl, refl, refl, refl, refl, refl, refl, refl)

-- exceptions: of a service, with its own error; a message that is null, a stack trace
exceptions : (reply (method_of before 0 0) (exception (negsuc 7) (codes "x") (pos 5)) ≡ hex (codes "f8ffffff 01000000 78000000 00000000 05000000"))
    × (got_by after (hex (codes "f8ffffff 01000000 78000000 00000000 05000000")) ≡ Ok (exception (negsuc 7) (codes "x") (pos 5)))
    × (got_by after (hex (codes "fbffffff 01000000 78000000 00000000")) ≡ Ok (exception (negsuc 4) (codes "x") (pos 0)))
    × (got_by after (hex (codes "fbffffff ffffffff 00000000")) ≡ Err unexpected_null)
    × (got_by after (hex (codes "fbffffff 01000000 78000000 04000000")) ≡ Err bad_value)
    × (got_by after (hex (codes "f8ffffff 01000000 78000000 00000000")) ≡ Err not_enough)
    × (comes_of after 0 before sent (exception (negsuc 7) (codes "x") (pos 5)) ≡ Ok (done seen (Ok (exception (negsuc 7) (codes "x") (pos 5)))))
unfolding got_by comes_of before after sent seen hex record_of
exceptions = (refl, refl, refl, refl, refl, refl, refl)

-- interface IO { int fill(out byte[] buf, inout Q q); } and parcelable Q { int n; }
fill : Method
unfolding argument one array
fill = record { name = record { 0 = codes "fill" }; id = 0; oneway = false; result = Some (one base.Int); args = argument (codes "buf") Out (array base.Byte) ∷ argument (codes "q") InOut (one (base.Named 1)) ∷ [] }

filling : List Decl
unfolding declared fill field
filling = declared (codes "IO") (Interface (fill ∷ [])) ∷ declared (codes "Q") (Parcelable (field (codes "n") base.Int None ∷ [])) ∷ []

io_token : List ℕ
unfolding hex
io_token = hex (codes "00000080 ffffffff 54535953 04000000 61002e00 49004f00 00000000")

q_of : ℤ → Data
q_of n = rec (item (number n) none)

filled : AnswerData
unfolding numbers q_of
filled = returned (Some (number (pos 2))) (item (seq (numbers (pos 1 ∷ pos 2 ∷ []))) (item (q_of (pos 10)) none))

-- an `out` array is sent as its length and starts with so many defaults; it may come back with another length
out_and_inout : (request (method_of filling 0 0) (item (number (pos 3)) (item (q_of (pos 9)) none)) ≡ io_token ++ hex (codes "03000000 01000000 08000000 09000000"))
    × (received_by filling 1 (io_token ++ hex (codes "03000000 01000000 08000000 09000000"))
    ≡ Ok (called 0 (item (seq (numbers (pos 0 ∷ pos 0 ∷ pos 0 ∷ []))) (item (q_of (pos 9)) none))))
    × (received_by filling 1 (io_token ++ hex (codes "ffffffff 01000000 08000000 09000000")) ≡ Err unexpected_null)
    × (received_by filling 1 (io_token ++ hex (codes "feffffff 01000000 08000000 09000000")) ≡ Err bad_value)
    × (received_by filling 1 (io_token ++ hex (codes "01000100 01000000 08000000 09000000")) ≡ Err bad_value)
    × (received_by filling 1 (io_token ++ hex (codes "030000")) ≡ Err not_enough)
    × (reply (method_of filling 0 0) filled ≡ hex (codes "00000000 02000000 02000000 01020000 01000000 08000000 0a000000"))
    × (got_by filling (hex (codes "00000000 02000000 02000000 01020000 01000000 08000000 0a000000")) ≡ Ok filled)
unfolding received_by got_by filling io_token filled hex numbers q_of
out_and_inout = (refl, refl, refl, refl, refl, refl, refl, refl)
