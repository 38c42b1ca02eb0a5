-- Numbers that lie side by side, one by one.
use Rattle.std.proofs.Common.{◌≡◌, ℕ, zero, suc, ◌+◌, ◌/◌, ◌%◌, ◌<◌, ℤ, pos, negsuc, Bool, false, true, List, [], ◌∷◌, ◌++◌, None, length, get_or, map, refl, sym, ap, ◌∙◌, add-zero, arith}
use Rattle.std.specs.Fmt.{decimal, signed_decimal}
use Rattle.std.specs.Int.{w8, cast_signed}
use Rattle.arrayvec.specs.ArrayString.{ArrayString}
use Rattle.serde_json.specs.Written.{comma_if, compact_text, items_text}
use Rattle.aidl_schema.specs.declared.schema.Decl.{Decl}
use Rattle.aidl_schema.specs.declared.schema.AidlType.{AidlType}
use Rattle.aidl_values.specs.Data.{number}
use Rattle.aidl_values.specs.View.{datas, items_of}
use Rattle.aidl_values.specs.declared.value.Elements.{Elements}
use Rattle.aidl_values.specs.declared.value.Elements.TheVariants.{Bytes, Chars, Ints, Longs}
use Rattle.aidl_values.proofs.lemmas.Views.{datas_bytes, datas_chars, datas_ints, datas_longs}
use Rattle.json_writing.specs.Json.{json_items, json_number}
use Rattle.json_writing.specs.Named.{enumerators_of}
use Rattle.json_writing.specs.steps.Numbers.{AreTexts, row_of_texts, text_of_byte, text_of_pair}

-- a number that no enumerator names stands in decimal digits
in_digits : (n : ℤ) → signed_decimal n ≡ compact_text (json_number None n)
in_digits (pos n) = refl
in_digits (negsuc n) = refl

units_signed : (us : List ℕ) → map signed_decimal (map pos us) ≡ map decimal us
units_signed [] = refl
units_signed (u ∷ us) = ap (λ xs. decimal u ∷ xs) (units_signed us)

bytes_signed : (bs : List ℕ) → map signed_decimal (map (λ b. cast_signed w8 b) bs) ≡ map text_of_byte bs
bytes_signed [] = refl
bytes_signed (b ∷ bs) = ap (λ xs. text_of_byte b ∷ xs) (bytes_signed bs)

module _ (S : List Decl) (t : AidlType) (unnamed : enumerators_of S t.base ≡ None) where
  numbers_text : (later : Bool) (ns : List ℤ) → items_text later (json_items S t (items_of (map number ns))) ≡ row_of_texts later (map signed_decimal ns)
  numbers_text later [] = refl
  numbers_text later (n ∷ ns) =
      ap (λ es. comma_if later ++ (compact_text (json_number es n) ++ items_text true (json_items S t (items_of (map number ns))))) unnamed
      ∙ ap (λ (x : List ℕ). comma_if later ++ (x ++ items_text true (json_items S t (items_of (map number ns))))) (sym (in_digits n))
      ∙ ap (λ (x : List ℕ). comma_if later ++ (signed_decimal n ++ x)) (numbers_text true ns)

  as_text : (es : Elements) (ns : List ℤ) → datas es ≡ map number ns → row_of_texts false (map signed_decimal ns) ≡ items_text false (json_items S t (items_of (datas es)))
  as_text es ns is = sym (ap (λ ds. items_text false (json_items S t (items_of ds))) is ∙ numbers_text false ns)

  pub bytes_text : (es : Elements) (bs : List ℕ) → es ≡ Bytes bs → row_of_texts false (map text_of_byte bs) ≡ items_text false (json_items S t (items_of (datas es)))
  bytes_text es bs is = ap (λ xs. row_of_texts false xs) (sym (bytes_signed bs)) ∙ as_text es (map (λ b. cast_signed w8 b) bs) (ap datas is ∙ datas_bytes bs)

  pub chars_text : (es : Elements) (us : List ℕ) → es ≡ Chars us → row_of_texts false (map decimal us) ≡ items_text false (json_items S t (items_of (datas es)))
  chars_text es us is = ap (λ xs. row_of_texts false xs) (sym (units_signed us)) ∙ as_text es (map pos us) (ap datas is ∙ datas_chars us)

  pub ints_text : (es : Elements) (ns : List ℤ) → es ≡ Ints ns → row_of_texts false (map signed_decimal ns) ≡ items_text false (json_items S t (items_of (datas es)))
  ints_text es ns is = as_text es ns (ap datas is ∙ datas_ints ns)

  pub longs_text : (es : Elements) (ns : List ℤ) → es ≡ Longs ns → row_of_texts false (map signed_decimal ns) ≡ items_text false (json_items S t (items_of (datas es)))
  longs_text es ns is = as_text es ns (ap datas is ∙ datas_longs ns)

module _ (f : ℕ → List ℕ) where
  -- one text more
  pub texts_more : (b n : ℕ) (ts : List ArrayString) (t : ArrayString) → b + length ts ≡ n → AreTexts f b ts → t.bytes ≡ f n → AreTexts f b (ts ++ t ∷ [])
  texts_more b n [] t at all is = (is ∙ ap f (sym at ∙ add-zero b), tt)
  texts_more b n (s ∷ ts) t at all is = (all.0, texts_more (suc b) n ts t (omega (arith, at)) all.1 is)

  text_from : (b : ℕ) (ts : List ArrayString) (i : ℕ) (t : ArrayString) → AreTexts f b ts → i < length ts → (get_or ts i t).bytes ≡ f (b + i)
  text_from b [] i t all lies = absurd (omega (arith, lies))
  text_from b (s ∷ ts) zero t all lies = all.0 ∙ ap f (sym (add-zero b))
  text_from b (s ∷ ts) (suc i) t all lies = text_from (suc b) ts i t all.1 (omega (arith, lies)) ∙ ap f (omega arith)

  -- the text of a number
  pub text_at : (ts : List ArrayString) (i : ℕ) (t : ArrayString) → AreTexts f 0 ts → i < length ts → t ≡ get_or ts i t → t.bytes ≡ f i
  text_at ts i t all lies is = ap (λ (s : ArrayString). s.bytes) is ∙ text_from 0 ts i t all lies ∙ ap f (omega arith)

-- the texts of two bytes, one behind the other
pub both_texts : (n : ℕ) (a b : List ℕ) → a ≡ 44 ∷ text_of_byte (n / 256) → b ≡ 44 ∷ text_of_byte (n % 256) → a ++ b ≡ text_of_pair n
both_texts n a b first second = ap (λ (x : List ℕ). x ++ b) first ∙ ap (λ (x : List ℕ). (44 ∷ text_of_byte (n / 256)) ++ x) second
