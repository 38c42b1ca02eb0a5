-- The token of an interface is taken by its stub, whatever follows.
use Rattle.std.proofs.Common.{◌≡◌, ℕ, ◌≤◌, ◌<◌, ℤ, pos, negsuc, true, false, ◌&&◌, not, List, [], ◌∷◌, ◌++◌, map, length, Ok, refl, ap, ◌∙◌, arith}
use Rattle.std.specs.Prelude.{is_none}
use Rattle.std.specs.List.{list_all}
use Rattle.std.specs.Str.{all_scalars}
use Rattle.std.proofs.lemmas.Bool.Decides.{nat_tests}
use lib.Utf8.{scalar, low_scalar}
use Rattle.aidl_base.specs.declared.name.Ident.{Ident}
use Rattle.aidl_base.specs.declared.profile.Profile.{Profile}
use Rattle.aidl_base.specs.Identifiers.{is_identifier, is_letter, is_word_byte, begins}
use Rattle.aidl_base.specs.Names.{dotted}
use Rattle.aidl_base.specs.Reserved.{reserved_of}
use Rattle.aidl_base.specs.Readings.{Read, ◌>>=◌, word_at, present_text_at}
use Rattle.aidl_base.specs.Spellings.{spell_text}
use Rattle.aidl_base.specs.Words.{word, units}
use Rattle.aidl_base.proofs.lemmas.Blocks.{bytes_again}
use Rattle.aidl_base.proofs.lemmas.Spelled.{present_text_again}
use Rattle.aidl_base.proofs.lemmas.Tests.{both}
use Rattle.aidl_base.proofs.lemmas.Words.{word_again, fits_pos}
use Rattle.aidl_schema.proofs.lemmas.Sames.{same_text_refl}
use Rattle.aidl_schema.specs.declared.schema.Decl.{Decl}
use Rattle.aidl_schema.specs.Names.{name_of, is_name, has_part, are_identifiers, is_type_word, last_part}
use Rattle.wire_model.specs.Receiver.{header_at, is_token, accepted, token_at}
use Rattle.wire_model.specs.Requests.{token}

-- names are of ASCII, so their characters are scalars
small_byte : (b : ℕ) → is_word_byte b ≡ true → b < 55296
small_byte b h = grind (arith, nat_tests)

scalars_and : (xs ys : List ℕ) → all_scalars xs ≡ true → all_scalars ys ≡ true → all_scalars (xs ++ ys) ≡ true
scalars_and [] ys p q = q
scalars_and (x ∷ xs) ys p q = let two = both (scalar x) (all_scalars xs) p in rw (two.0, scalars_and xs ys two.1 q) refl

word_scalars : (w : List ℕ) → list_all is_word_byte w ≡ true → all_scalars w ≡ true
word_scalars [] h = refl
word_scalars (b ∷ w) h = let two = both (is_word_byte b) (list_all is_word_byte w) h in rw (low_scalar b (small_byte b two.0), word_scalars w two.1) refl

identifier_scalars : (w : List ℕ) → is_identifier w ≡ true → all_scalars w ≡ true
identifier_scalars w h = word_scalars w (both (begins is_letter w) (list_all is_word_byte w) (both (begins is_letter w && list_all is_word_byte w) (is_none (reserved_of w)) h).0).1

parts_scalars : (parts : List Ident) → are_identifiers (map (λ i. i.0) parts) ≡ true → all_scalars (dotted parts) ≡ true
parts_scalars [] h = refl
parts_scalars (i ∷ []) h = identifier_scalars i.0 (both (is_identifier i.0) true h).0
parts_scalars (i ∷ j ∷ is) h =
    let two = both (is_identifier i.0) (are_identifiers (map (λ k. k.0) (j ∷ is))) h in
    scalars_and i.0 (46 ∷ dotted (j ∷ is)) (identifier_scalars i.0 two.0) (parts_scalars (j ∷ is) two.1)

pub name_scalars : (d : Decl) → is_name d.name.0 ≡ true → all_scalars (name_of d) ≡ true
name_scalars d h =
    let one = both (has_part d.name.0) (are_identifiers (map (λ i. i.0) d.name.0) && not (is_type_word (last_part d.name.0))) h in
    parts_scalars d.name.0 (both (are_identifiers (map (λ i. i.0) d.name.0)) (not (is_type_word (last_part d.name.0))) one.1).0

-- what follows each step of reading a token
abbrev then_first : Profile → Read (List ℕ) → Read (ℤ × List ℕ)
then_first p x = x >>= λ first. word_at false first.1 >>= λ header. present_text_at p false header.1 >>= λ name. Ok ((header.0, name.0), name.1)

abbrev then_header : Profile → Read ℤ → Read (ℤ × List ℕ)
then_header p x = x >>= λ header. present_text_at p false header.1 >>= λ name. Ok ((header.0, name.0), name.1)

abbrev then_name : ℤ → Read (List ℕ) → Read (ℤ × List ℕ)
then_name header x = x >>= λ name. Ok ((header, name.0), name.1)

module _ (p : Profile) (name rest : List ℕ) (scalars : all_scalars name ≡ true) (small : length (units name) ≤ 2147483647) where
  abbrev after_first : List ℕ
  after_first = word (pos 0x53595354) ++ (spell_text name ++ rest)

  header_again : header_at p (token name ++ rest) ≡ Ok ((pos 0x53595354, name), rest)
  unfolding header_at
  header_again =
      ap (then_first p) (bytes_again 8 false (word (pos 0x80000000) ++ word (negsuc 0)) after_first refl)
      ∙ ap (then_header p) (word_again (pos 0x53595354) false (spell_text name ++ rest) (fits_pos 0x53595354 (omega arith)))
      ∙ ap (then_name (pos 0x53595354)) (present_text_again p name false rest scalars small)

  pub token_again : token_at p name (token name ++ rest) ≡ Ok rest
  token_again =
      let is : is_token name (pos 0x53595354, name) ≡ true = same_text_refl name in
      ap (accepted name) header_again ∙ rw is refl
