-- What reading does after each step, named: an equation of one step goes through what follows it.
use Rattle.std.proofs.Common.{◌≡◌, ℕ, ◌+◌, ◌-◌, ℤ, Bool, true, false, cond, List, take, drop, Option, Some, None, slice_get, Result, Ok, Err, refl}
use Rattle.aidl_base.specs.declared.profile.Profile.{Profile}
use Rattle.aidl_base.specs.Profiles.{is_padding}
use Rattle.aidl_base.specs.Words.{padding}
use Rattle.aidl_base.specs.Readings.{Read, ◌>>=◌, bytes_at, count_of, count_at, counted_at, block_at, block_len, text_of, text_at, raw_at, ok_or_bad_value, size_of}
use Rattle.aidl_schema.specs.declared.schema.Field.{Field}
use Rattle.aidl_values.specs.Data.{Data, null, text, seq, rec, alt, Items, item}
use Rattle.wire_model.specs.Status.{bad_value}
use Rattle.wire_model.specs.ReadOf.{read_as, text_data, each_at, raw_items, raw_items_at, elements_at, there_of, marked_at, fields_at, tag_of, ok_field}

-- after a word
abbrev pub then_count : Bool → Read ℤ → Read (Option ℕ)
then_count nullable w = w >>= λ x. count_of nullable x.0 >>= λ n. Ok (n, x.1)

abbrev pub then_marker : Bool → Read Bool → Read Bool
then_marker nullable t = t >>= λ x. there_of nullable x.0 >>= λ m. Ok (m, x.1)

abbrev pub then_size : Bool → Read ℤ → Read (List ℕ)
then_size inside w = w >>= λ x. size_of x.0 >>= λ z. bytes_at (z - 4) inside x.1

abbrev pub then_tag : Read ℤ → Read ℕ
then_tag w = w >>= λ x. tag_of x.0 >>= λ k. Ok (k, x.1)

-- a text from its block, and a String after its count
abbrev pub ok_text : Option (List ℕ) → List ℕ → Read Data
ok_text None rest = Err bad_value
ok_text (Some x) rest = Ok (text x, rest)

unfoldable pub text_block_at : Profile → Bool → Option ℕ → List ℕ → Read Data
text_block_at p inside None b = Ok (null, b)
text_block_at p inside (Some n) b = bytes_at (block_len n) inside b >>= λ x. ok_text (text_of p n x.0) x.1

-- after a count
abbrev pub then_text : Profile → Bool → Read (Option ℕ) → Read Data
then_text p inside n = n >>= λ x. text_block_at p inside x.0 x.1

abbrev pub then_elements : Profile → Bool → Bool → (List ℕ → Read Data) → Bool → Read (Option ℕ) → Read Data
then_elements p left raw read inside n = n >>= λ x. elements_at p left raw read inside x.0 x.1

-- after bytes
abbrev pub then_block : Profile → ℕ → Read (List ℕ) → Read Data
then_block p n b = b >>= λ x. ok_text (text_of p n x.0) x.1

abbrev pub then_raw : Profile → ℕ → Read (List ℕ) → Read Items
then_raw p n b = b >>= λ x. cond {A = Read Items} (is_padding p (drop n x.0)) (Ok (raw_items (take n x.0), x.1)) (Err bad_value)

-- after an item, and after those that follow it
abbrev pub then_items : (List ℕ → Read Data) → ℕ → Read Data → Read Items
then_items read n first = first >>= λ x. each_at read n x.1 >>= λ others. Ok (item x.0 others.0, others.1)

abbrev pub with_item : Data → Read Items → Read Items
with_item v others = others >>= λ x. Ok (item v x.0, x.1)

abbrev pub then_seq : Read Items → Read Data
then_seq vs = vs >>= λ x. Ok (seq x.0, x.1)

-- after a marker
abbrev pub then_there : Bool → (List ℕ → Read Data) → Read Bool → Read Data
then_there left there m = m >>= λ x. marked_at left there x.0 x.1

-- after a size
abbrev pub then_inner : Bool → List ℕ → Result ℕ ℤ → Read (List ℕ)
then_inner inside b z = z >>= λ x. bytes_at (x - 4) inside b

-- after a record's bytes
abbrev pub then_fields : (Field → Data) → (Field → List ℕ → Read Data) → List Field → Read (List ℕ) → Read Data
then_fields initial read fs inner = inner >>= λ x. fields_at initial read fs x.0 >>= λ vs. Ok (rec vs, x.1)

-- after a field, and after those that follow it
abbrev pub then_others : (Field → Data) → (Field → List ℕ → Read Data) → List Field → Read Data → Result Items ℤ
then_others initial read fs first = first >>= λ x. fields_at initial read fs x.1 >>= λ others. Ok (item x.0 others)

abbrev pub with_field : Data → Result Items ℤ → Result Items ℤ
with_field v others = others >>= λ vs. Ok (item v vs)

abbrev pub then_rec : List ℕ → Result Items ℤ → Read Data
then_rec rest vs = vs >>= λ x. Ok (rec x, rest)

-- after a tag, and after its field
abbrev pub then_alternative : (Field → List ℕ → Read Data) → List Field → Read ℕ → Read Data
then_alternative read fs k = k >>= λ x. ok_field (slice_get fs x.0) >>= λ f. read f x.1 >>= λ v. Ok (alt x.0 v.0, v.1)

abbrev pub then_field : (Field → List ℕ → Read Data) → ℕ → List ℕ → Option Field → Read Data
then_field read k b f = ok_field f >>= λ g. read g b >>= λ v. Ok (alt k v.0, v.1)

abbrev pub with_tag : ℕ → Read Data → Read Data
with_tag k v = v >>= λ x. Ok (alt k x.0, x.1)

-- after the bytes of a block, and after a text or raw bytes
abbrev text_of_bytes : Profile → ℕ → Read (List ℕ) → Read (List ℕ)
text_of_bytes p n bytes = bytes >>= λ x. ok_or_bad_value (text_of p n x.0) >>= λ y. Ok (y, x.1)

abbrev present : Read (List ℕ) → Read (Option (List ℕ))
present x = x >>= λ y. Ok (Some y.0, y.1)

abbrev as_items : Read (List ℕ) → Read Items
as_items x = x >>= λ y. Ok (raw_items y.0, y.1)

-- A String is its count, and then its block.
pub text_value_steps : (p : Profile) (nullable inside : Bool) (b : List ℕ) → read_as text_data (text_at p nullable inside b) ≡ then_text p inside (count_at nullable inside b)
unfolding text_at block_at text_block_at
text_value_steps p nullable inside b = by_count (count_at nullable inside b)
  where
    by_text : (n : ℕ) (x : List ℕ × List ℕ) (text : Option (List ℕ)) → text_of p n x.0 ≡ text
        → read_as text_data (present (text_of_bytes p n (Ok x))) ≡ ok_text (text_of p n x.0) x.1
    by_text n x None e = rw e refl
    by_text n x (Some y) e = rw e refl

    by_bytes : (n : ℕ) (bytes : Read (List ℕ)) → read_as text_data (present (text_of_bytes p n bytes)) ≡ then_block p n bytes
    by_bytes n (Ok x) = by_text n x (text_of p n x.0) refl
    by_bytes n (Err s) = refl

    by_count : (c : Read (Option ℕ)) → read_as text_data (c >>= λ n. counted_at (λ m d. block_at p m inside d) n.0 n.1) ≡ then_text p inside c
    by_count (Ok (None, rest)) = refl
    by_count (Ok (Some n, rest)) = by_bytes n (bytes_at (block_len n) inside rest)
    by_count (Err s) = refl

-- Raw bytes as numbers are the bytes with their padding, and then the numbers.
pub raw_items_steps : (p : Profile) (n : ℕ) (inside : Bool) (b : List ℕ) → raw_items_at p n inside b ≡ then_raw p n (bytes_at (n + padding n) inside b)
unfolding raw_items_at raw_at
raw_items_steps p n inside b = by_bytes (bytes_at (n + padding n) inside b)
  where
    by_test : (x : List ℕ × List ℕ) (zeros : Bool) → is_padding p (drop n x.0) ≡ zeros
        → as_items (cond {A = Read (List ℕ)} (is_padding p (drop n x.0)) (Ok (take n x.0, x.1)) (Err bad_value)) ≡ then_raw p n (Ok x)
    by_test x true e = rw e refl
    by_test x false e = rw e refl

    by_bytes : (bytes : Read (List ℕ))
        → as_items (bytes >>= λ x. cond {A = Read (List ℕ)} (is_padding p (drop n x.0)) (Ok (take n x.0, x.1)) (Err bad_value)) ≡ then_raw p n bytes
    by_bytes (Ok x) = by_test x (is_padding p (drop n x.0)) refl
    by_bytes (Err s) = refl
