-- What is read is read again, whatever follows it: numbers, and items one after the other.
use Rattle.std.proofs.Common.{◌≡◌, ℕ, ℤ, Bool, true, List, ◌++◌, Ok, refl, ap, ◌∙◌, append_assoc}
use Rattle.aidl_base.specs.declared.profile.Profile.{Profile}
use Rattle.aidl_base.specs.Profiles.{is_byte_word, byte_of, is_char_word, char_of}
use Rattle.aidl_base.specs.Words.{word_of}
use Rattle.aidl_base.proofs.lemmas.Words.{word_again, long_again}
use Rattle.aidl_base.proofs.lemmas.Values.{is_word_again}
use Rattle.aidl_base.proofs.lemmas.Ranges.{int_fits, long_fits}
use Rattle.aidl_schema.specs.Constants.{in_range}
use Rattle.aidl_schema.specs.Types.{Form}
use Rattle.aidl_schema.specs.Types as form
use Rattle.aidl_schema.specs.declared.schema.Field.{Field}
use Rattle.aidl_schema.specs.declared.schema.AidlType.{AidlType}
use Rattle.aidl_values.specs.Data.{Data, number, Items, none, item, count}
use Rattle.wire_model.specs.ReadOf.{Read, read_as, char_data, one_at, each_at}
use Rattle.wire_model.specs.Reads.{EachReads, NumberReads}
use Rattle.wire_model.proofs.Steps.{then_items, with_item}

module _ (p : Profile) (left : Bool) (initial : Field → Data) (read : AidlType → Bool → List ℕ → Read Data) (nullable inside : Bool) (r : List ℕ) where
  pub number_again : (f : Form) (n : ℤ) (b : List ℕ) → in_range f n ≡ true → NumberReads p f b n → one_at p left initial read nullable f inside (b ++ r) ≡ Ok (number n, r)
  number_again form.byte n b h is = ap (read_as number) (is_word_again (λ w. is_byte_word p w) byte_of inside r b n is)
  number_again form.char n b h is =
      ap (read_as char_data) (is_word_again (λ w. is_char_word p w) char_of inside r b (char_of (word_of b)) (is.0, is.1, refl)) ∙ ap (λ m. Ok (number m, r)) is.2
  number_again form.int n b h is = rw is (ap (read_as number) (word_again n inside r (int_fits n h)))
  number_again form.long n b h is = rw is (ap (read_as number) (long_again n inside r (long_fits n h)))
  number_again form.truth n b h is = cc
  number_again form.text n b h is = cc
  number_again (form.parcelable fs) n b h is = cc
  number_again (form.union fs) n b h is = cc
  number_again form.nothing n b h is = cc

-- items, each of which is read again
pub each_again : (PartReads : List ℕ → Data → Type 0) (read : List ℕ → Read Data) → ((b r : List ℕ) (v : Data) → PartReads b v → read (b ++ r) ≡ Ok (v, r))
    → (vs : Items) (b r : List ℕ) → EachReads PartReads b vs → each_at read (count vs) (b ++ r) ≡ Ok (vs, r)
each_again PartReads read law none b r h = ap (λ x. Ok (none, x ++ r)) h
each_again PartReads read law (item v vs) b r h =
    let next = then_items read (count vs) in
    let front = h.0 in
    let rest = h.1 in
    ap (λ x. next (read (x ++ r))) h.2 ∙ ap (λ x. next (read x)) (append_assoc front rest r) ∙ ap next (law front (rest ++ r) v h.3)
    ∙ ap (with_item v) (each_again PartReads read law vs rest r h.4)
