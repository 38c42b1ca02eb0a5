-- Worked parcels: what they spell and what is read of them, computed. Bytes are written in hexadecimal, words apart.
use Rattle.std.proofs.Common.{◌≡◌, ℕ, ◌+◌, ◌-◌, ◌*◌, ℤ, pos, negsuc, true, false, ◌==◌, cond, nat_lt, List, [], ◌∷◌, Option, Some, None, Ok, Err, refl, ap, rules, zero, suc, ◌≤◌, length, slice_get, sym, subst, arith}
use Rattle.std.specs.Prelude.{codes}
use Rattle.std.specs.Str.{chars}
use Rattle.std.specs.Char.Utf16.{utf16_chars}
use lib.Utf8.{encode}
use Rattle.aidl_base.specs.declared.constant.Const.{Const, the_lemmas}
use Rattle.aidl_schema.specs.declared.schema.Decl.{Decl}
use Rattle.aidl_schema.specs.declared.schema.Field.{Field}
use Rattle.aidl_schema.specs.declared.schema.Kind.{Kind}
use Rattle.aidl_schema.specs.declared.schema.Kind.TheVariants.{Parcelable, Union, Enum}
use Rattle.aidl_schema.specs.declared.schema.Backing.TheVariants as backing
use Rattle.aidl_schema.specs.declared.schema.Base.{Base}
use Rattle.aidl_schema.specs.declared.schema.Base.TheVariants as base
use Rattle.aidl_schema.specs.declared.schema.Shape.TheVariants as shape
use Rattle.aidl_schema.specs.declared.schema.AidlType.{AidlType}
use Rattle.aidl_values.specs.Data.{Data, null, truth, number, text, seq, rec, alt, Items, none, item}
use Rattle.aidl_values.specs.Default.{const_value, zero_within}
use Rattle.aidl_values.specs.HasType.{HasType}
use Rattle.aidl_values.specs.Sound.{IsDeclared, fields_of, AreTypes, HaveDefaults, IsSound}
use Rattle.wire_model.specs.Spell.{spell}
use Rattle.wire_model.specs.Status.{bad_value, not_enough, unexpected_null}
use Rattle.wire_model.specs.ReadOf.{Read, read_of, raw_items_at, elements_at, array_at, marker_at, body_at, body_value_at, record_at, tag_at, tagged_at, union_at}
use Rattle.aidl_base.specs.declared.profile.Profile.TheVariants.{Strict, Lenient}
use Rattle.aidl_base.specs.Readings.{word_as, count_at, text_of, block_at, text_at, raw_at}

-- hexadecimal, blanks passed over
digit : ℕ → ℕ
digit c = cond (nat_lt c 58) (c - 48) (c - 87)

pairs : List ℕ → List ℕ
pairs (a ∷ b ∷ rest) = (16 * digit a + digit b) ∷ pairs rest
pairs _ = []

without_blanks : List ℕ → List ℕ
without_blanks [] = []
without_blanks (c ∷ cs) = cond (c == 32) (without_blanks cs) (c ∷ without_blanks cs)

unfoldable pub hex : List ℕ → List ℕ
unfolding pairs digit without_blanks
hex cs = pairs (without_blanks cs)

-- reading as the program does: 64 levels, and no record around
decode : List Decl → AidlType → List ℕ → Read Data
unfolding read_of word_as count_at text_of block_at text_at raw_at raw_items_at elements_at array_at marker_at body_at body_value_at record_at tag_at tagged_at union_at zero_within utf16_chars chars encode
decode S t b = read_of Strict S 64 t false b

-- types
unfoldable pub one : Base → AidlType
one b = record { base = b; shape = shape.One; nullable = false; heap = false; utf8 = false }

unfoldable pub array : Base → AidlType
array b = record { base = b; shape = shape.Array; nullable = false; heap = false; utf8 = false }

list_of : Base → AidlType
list_of b = record { base = b; shape = shape.List; nullable = false; heap = false; utf8 = false }

unfoldable pub or_null : AidlType → AidlType
or_null t = record t { nullable = true }

-- a declaration of one name in the package a
unfoldable pub declared : List ℕ → Kind → Decl
declared name kind = record { name = record { 0 = record { 0 = codes "a" } ∷ record { 0 = name } ∷ [] }; outer = None; kind = kind; vintf = false; fixed = false; constants = [] }

unfoldable pub field : List ℕ → Base → Option Const → Field
field name b initial = record { name = record { 0 = name }; ty = record { base = b; shape = shape.One; nullable = false; heap = false; utf8 = false }; initial = initial }

-- parcelable R { int a; String s = "x"; }, and an older R that has the first field alone
unfoldable pub newer : List Decl
unfolding declared field
newer = declared (codes "R") (Parcelable (field (codes "a") base.Int None ∷ field (codes "s") base.Text (Some (Const.Text (codes "x"))) ∷ [])) ∷ []

unfoldable pub older : List Decl
unfolding declared field
older = declared (codes "R") (Parcelable (field (codes "a") base.Int None ∷ [])) ∷ []

-- union U { int a; String b; }
unfoldable pub tagged : List Decl
unfolding declared field
tagged = declared (codes "U") (Union (field (codes "a") base.Int None ∷ field (codes "b") base.Text None ∷ [])) ∷ []

-- enum E of bytes, and one of longs
unfoldable pub small : List Decl
unfolding declared
small = declared (codes "E") (Enum backing.Byte []) ∷ []

unfoldable pub large : List Decl
unfolding declared
large = declared (codes "E") (Enum backing.Long []) ∷ []

-- the one declaration of these
unfoldable pub it : AidlType
unfolding one
it = one (base.Named 0)

unfoldable pub record_of : ℤ → List ℕ → Data
record_of a s = rec (item (number a) (item (text s) none))

-- an int and a long, which needs no alignment to 8
two_words : (spell [] (one base.Int) (number (pos 5)) ≡ hex (codes "05000000"))
    × (spell [] (one base.Long) (number (negsuc 0)) ≡ hex (codes "ffffffff ffffffff"))
    × (decode [] (one base.Int) (hex (codes "05000000 ffffffff ffffffff")) ≡ Ok (number (pos 5), hex (codes "ffffffff ffffffff")))
    × (decode [] (one base.Long) (hex (codes "ffffffff ffffffff")) ≡ Ok (number (negsuc 0), []))
unfolding decode hex one
two_words = (refl, refl, refl, refl)

-- a word each; an enum as its backing type
words : (spell [] (one base.Boolean) (truth true) ≡ hex (codes "01000000"))
    × (spell [] (one base.Byte) (number (negsuc 127)) ≡ hex (codes "80ffffff"))
    × (spell [] (one base.Char) (number (pos 65)) ≡ hex (codes "41000000"))
    × (spell small it (number (negsuc 0)) ≡ hex (codes "ffffffff"))
    × (spell large it (number (pos 2)) ≡ hex (codes "02000000 00000000"))
    × (decode [] (one base.Boolean) (hex (codes "01000000")) ≡ Ok (truth true, []))
    × (decode [] (one base.Char) (hex (codes "41000000")) ≡ Ok (number (pos 65), []))
    × (decode small it (hex (codes "ffffffff")) ≡ Ok (number (negsuc 0), []))
    × (decode large it (hex (codes "02000000 00000000")) ≡ Ok (number (pos 2), []))
unfolding decode hex one it small large
words = (refl, refl, refl, refl, refl, refl, refl, refl, refl)

-- too few bytes, and bytes that are left
too_few : (decode [] (one base.Long) (hex (codes "ffffffff ffffff")) ≡ Err not_enough)
    × (decode [] (one base.Int) [] ≡ Err not_enough)
    × (decode [] (one base.Int) (hex (codes "05000000 00")) ≡ Ok (number (pos 5), hex (codes "00")))
unfolding decode hex one
too_few = (refl, refl, refl)

texts : (spell [] (one base.Text) (text []) ≡ hex (codes "00000000 00000000"))
    × (spell [] (one base.Text) (text (codes "a")) ≡ hex (codes "01000000 61000000"))
    × (spell [] (one base.Text) (text (codes "hi")) ≡ hex (codes "02000000 68006900 00000000"))
    × (decode [] (one base.Text) (hex (codes "00000000 00000000")) ≡ Ok (text [], []))
    × (decode [] (one base.Text) (hex (codes "01000000 61000000")) ≡ Ok (text (codes "a"), []))
    × (decode [] (one base.Text) (hex (codes "02000000 68006900 00000000")) ≡ Ok (text (codes "hi"), []))
unfolding decode hex one
texts = (refl, refl, refl, refl, refl, refl)

unfoldable pub numbers : List ℤ → Items
numbers [] = none
numbers (n ∷ ns) = item (number n) (numbers ns)

some_bytes : Items
unfolding numbers
some_bytes = numbers (pos 1 ∷ pos 2 ∷ pos 3 ∷ negsuc 0 ∷ pos 5 ∷ [])

-- raw bytes, of byte and of an enum of byte; padding that isn't zero
byte_arrays : (spell [] (array base.Byte) (seq some_bytes) ≡ hex (codes "05000000 010203ff 05000000"))
    × (spell [] (array base.Byte) (seq none) ≡ hex (codes "00000000"))
    × (spell small (array (base.Named 0)) (seq some_bytes) ≡ hex (codes "05000000 010203ff 05000000"))
    × (decode [] (array base.Byte) (hex (codes "05000000 010203ff 05000000 00000000")) ≡ Ok (seq some_bytes, hex (codes "00000000")))
    × (decode small (array (base.Named 0)) (hex (codes "05000000 010203ff 05000000")) ≡ Ok (seq some_bytes, []))
    × (decode [] (array base.Byte) (hex (codes "05000000 010203ff 05000001")) ≡ Err bad_value)
unfolding decode hex one array some_bytes small
byte_arrays = (refl, refl, refl, refl, refl, refl)

-- elements by their own spelling in the other arrays and in a List
word_arrays : (spell [] (array base.Boolean) (seq (item (truth true) (item (truth false) none))) ≡ hex (codes "02000000 01000000 00000000"))
    × (spell [] (array base.Char) (seq (numbers (pos 65535 ∷ []))) ≡ hex (codes "01000000 ffff0000"))
    × (spell [] (array base.Int) (seq (numbers (pos 5 ∷ negsuc 0 ∷ []))) ≡ hex (codes "02000000 05000000 ffffffff"))
    × (spell [] (list_of base.Text) (seq (item (text (codes "a")) none)) ≡ hex (codes "01000000 01000000 61000000"))
    × (decode [] (array base.Int) (hex (codes "02000000 05000000 ffffffff")) ≡ Ok (seq (numbers (pos 5 ∷ negsuc 0 ∷ [])), []))
    × (decode [] (list_of base.Text) (hex (codes "01000000 01000000 61000000")) ≡ Ok (seq (item (text (codes "a")) none), []))
unfolding decode hex array list_of numbers
word_arrays = (refl, refl, refl, refl, refl, refl)

-- where no level is left, a sequence is refused at its count; null needs none
too_deep : (read_of Strict [] 0 (array base.Int) false (hex (codes "00000000")) ≡ Err bad_value)
    × (read_of Strict [] 0 (or_null (array base.Int)) false (hex (codes "ffffffff")) ≡ Ok (null, []))
    × (read_of Strict newer 0 it false (hex (codes "01000000")) ≡ Err bad_value)
unfolding decode hex array or_null it newer
too_deep = (refl, refl, refl)

narrow : (decode [] (one base.Boolean) (hex (codes "02000000")) ≡ Err bad_value)
    × (decode [] (one base.Byte) (hex (codes "80ffffff")) ≡ Ok (number (negsuc 127), []))
    × (decode [] (one base.Byte) (hex (codes "80000000")) ≡ Err bad_value)
    × (decode [] (one base.Char) (hex (codes "ffff0000")) ≡ Ok (number (pos 65535), []))
    × (decode [] (one base.Char) (hex (codes "00000100")) ≡ Err bad_value)
unfolding decode hex one
narrow = (refl, refl, refl, refl, refl)

-- the same words and blocks by the lenient profile
leniently : AidlType → List ℕ → Read Data
unfolding read_of word_as count_at text_of block_at text_at raw_at raw_items_at elements_at array_at zero_within utf16_chars chars encode
leniently t b = read_of Lenient [] 64 t false b

lenient_readings : (leniently (one base.Boolean) (hex (codes "02000000")) ≡ Ok (truth true, []))
    × (leniently (one base.Byte) (hex (codes "80000000")) ≡ Ok (number (negsuc 127), []))
    × (leniently (one base.Char) (hex (codes "00000100")) ≡ Ok (number (pos 0), []))
    × (leniently (array base.Byte) (hex (codes "01000000 05010203")) ≡ Ok (seq (numbers (pos 5 ∷ [])), []))
    × (leniently (one base.Text) (hex (codes "02000000 68006900 00000100")) ≡ Ok (text (codes "hi"), []))
    × (leniently (one base.Text) (hex (codes "01000000 61000100")) ≡ Err bad_value)
unfolding leniently hex one array numbers
lenient_readings = (refl, refl, refl, refl, refl, refl)

-- a pair of surrogates is one character; a lone one, or a last unit that isn't zero, is refused
text_blocks : (decode [] (one base.Text) (hex (codes "02000000 00d800dc 00000000")) ≡ Ok (text (0x10000 ∷ []), []))
    × (decode [] (one base.Text) (hex (codes "01000000 00d80000")) ≡ Err bad_value)
    × (decode [] (one base.Text) (hex (codes "01000000 61000100")) ≡ Err bad_value)
    × (spell [] (one base.Text) (text (0x10000 ∷ [])) ≡ hex (codes "02000000 00d800dc 00000000"))
unfolding decode hex one
text_blocks = (refl, refl, refl, refl)

null_texts : (decode [] (or_null (one base.Text)) (hex (codes "ffffffff")) ≡ Ok (null, []))
    × (decode [] (one base.Text) (hex (codes "ffffffff")) ≡ Err unexpected_null)
    × (decode [] (or_null (one base.Text)) (hex (codes "feffffff")) ≡ Err bad_value)
    × (spell [] (or_null (one base.Text)) null ≡ hex (codes "ffffffff"))
unfolding decode hex one or_null
null_texts = (refl, refl, refl, refl)

null_elements : (decode [] (or_null (array base.Text)) (hex (codes "02000000 01000000 61000000 ffffffff")) ≡ Ok (seq (item (text (codes "a")) (item null none)), []))
    × (decode [] (array base.Text) (hex (codes "02000000 01000000 61000000 ffffffff")) ≡ Err unexpected_null)
    × (decode [] (or_null (array base.Text)) (hex (codes "ffffffff")) ≡ Ok (null, []))
    × (spell [] (or_null (array base.Text)) (seq (item (text (codes "a")) (item null none))) ≡ hex (codes "02000000 01000000 61000000 ffffffff"))
unfolding decode hex array or_null
null_elements = (refl, refl, refl, refl)

-- a record's size counts itself and the fields, not the marker
written_record : spell newer it (record_of (pos 7) (codes "hi")) ≡ hex (codes "01000000 14000000 07000000 02000000 68006900 00000000")
unfolding hex it newer record_of
written_record = refl

-- an array of records, and what is read of it
written_records : (spell newer (array (base.Named 0)) (seq (item (record_of (pos 7) (codes "hi")) none)) ≡ hex (codes "01000000 01000000 14000000 07000000 02000000 68006900 00000000"))
    × (decode newer (array (base.Named 0)) (hex (codes "01000000 01000000 14000000 07000000 02000000 68006900 00000000")) ≡ Ok (seq (item (record_of (pos 7) (codes "hi")) none), []))
unfolding decode hex array newer record_of
written_records = (refl, refl)

-- an old reader passes over the fields that it lacks, and goes on after the record
tail_skipped : decode older it (hex (codes "01000000 14000000 07000000 02000000 68006900 00000000 09000000")) ≡ Ok (rec (item (number (pos 7)) none), hex (codes "09000000"))
unfolding decode hex it older
tail_skipped = refl

-- the initializer as a value
pub initial_text : const_value (Const.Text (codes "x")) ≡ text (codes "x")
initial_text = search (rules, the_lemmas)

defaulted : (n : ℤ) (rest : List ℕ)
    → ◌≡◌ {A = Read Data} (Ok (rec (item (number n) (item (const_value (Const.Text (codes "x"))) none)), rest)) (Ok (record_of n (codes "x"), rest))
unfolding record_of
defaulted n rest = ap (λ s. Ok (rec (item (number n) (item s none)), rest)) initial_text

-- a new reader gives the fields that are not there their defaults
defaults_filled : (decode newer it (hex (codes "01000000 08000000 07000000")) ≡ Ok (record_of (pos 7) (codes "x"), []))
    × (decode newer it (hex (codes "00000000")) ≡ Err unexpected_null)
    × (decode newer it (hex (codes "02000000")) ≡ Err bad_value)
    × (decode newer (or_null it) (hex (codes "00000000")) ≡ Ok (null, []))
unfolding decode hex it newer record_of or_null
defaults_filled = (defaulted (pos 7) [], refl, refl, refl)

-- any marker but 0 says that a record is there
lenient_record : read_of Lenient newer 64 it false (hex (codes "02000000 08000000 07000000")) ≡ Ok (record_of (pos 7) (codes "x"), [])
unfolding read_of word_as count_at raw_items_at marker_at body_at body_value_at record_at zero_within hex it newer record_of
lenient_record = defaulted (pos 7) []

-- a size below 4, the least size, one that is no multiple of 4, and one beyond the data; what the least size gives is the default
size_words : (decode newer it (hex (codes "01000000 03000000")) ≡ Err bad_value)
    × (decode newer it (hex (codes "01000000 04000000")) ≡ Ok (record_of (pos 0) (codes "x"), []))
    × (decode newer it (hex (codes "01000000 06000000")) ≡ Err bad_value)
    × (decode newer it (hex (codes "01000000 fcffff7f")) ≡ Err not_enough)
    × (zero_within 33 newer it ≡ record_of (pos 0) (codes "x"))
unfolding decode hex it newer record_of zero_within
size_words = (refl, defaulted (pos 0) [], refl, refl, ap (λ s. rec (item (number (pos 0)) (item s none))) initial_text)

-- a text that passes the record's end, though the data goes on
record_end : decode newer it (hex (codes "01000000 0c000000 07000000 02000000 68006900 00000000")) ≡ Err bad_value
unfolding decode hex it newer
record_end = refl

-- a union has a tag and no size
written_union : (spell tagged it (alt 1 (text (codes "a"))) ≡ hex (codes "01000000 01000000 01000000 61000000"))
    × (decode tagged it (hex (codes "01000000 01000000 01000000 61000000")) ≡ Ok (alt 1 (text (codes "a")), []))
    × (decode tagged it (hex (codes "01000000 02000000")) ≡ Err bad_value)
unfolding decode hex it tagged
written_union = (refl, refl, refl)

-- The laws ask for a sound schema, and this is one: its fields have types and defaults.
its_fields : List Field
unfolding field
its_fields = field (codes "a") base.Int None ∷ field (codes "s") base.Text (Some (Const.Text (codes "x"))) ∷ []

of_each : (P : List Field → Type 0) → P its_fields → (d : Decl) → IsDeclared newer d → P (fields_of d.kind)
unfolding newer its_fields
of_each P h d at = by_place at.0 at.1
  where
    by_place : (n : ℕ) → slice_get newer n ≡ Some d → P (fields_of d.kind)
    by_place zero e = let is : declared (codes "R") (Parcelable its_fields) ≡ d = cc in subst (λ x. P (fields_of x.kind)) is h
    by_place (suc n) e = absurd cc

newer_is_sound : IsSound newer
unfolding its_fields zero_within one newer
newer_is_sound = record {
  types = λ d at. of_each (λ fs. AreTypes newer fs) (refl, (refl, tt)) d at;
  defaults = λ d at. of_each (λ fs. HaveDefaults newer fs) (
    ((refl, refl, refl), (refl, refl)),
    ((refl, subst (λ v. HasType newer (one base.Text) v) (sym initial_text) (refl, refl, refl)), tt),
  ) d at;
  few = λ d at. of_each (λ fs. length fs ≤ 4096) (omega arith) d at;
}
