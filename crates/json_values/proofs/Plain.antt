-- Numbers and truth values that are read without a look at the schema.
use Rattle.std.proofs.Common.{◌≡◌, ℕ, zero, suc, ◌+◌, ℤ, ◌<◌, ◌≤◌, Bool, true, false, List, [], ◌∷◌, ◌++◌, length, drop, get_or, Option, Some, Ok, decimal, refl, sym, ap, ◌∙◌, arith}
use Rattle.std.proofs.lemmas.Bool.{and_right}
use Rattle.std.proofs.lemmas.Bool.Decides.{nat_tests}
use Rattle.serde_json.specs.Data.{Num, unsigned, negative, float}
use Rattle.serde_json.specs.Data as json
use Rattle.serde_json.specs.Find.{as_i64, as_integer}
use Rattle.serde_json.specs.View.{view as json_view, items_view}
use Rattle.serde_json.specs.declared.value.Value.{Value as Json}
use Rattle.aidl_schema.specs.declared.schema.AidlType.{AidlType}
use Rattle.aidl_schema.specs.declared.schema.Base.{Base}
use Rattle.aidl_schema.specs.declared.schema.Base.TheVariants as base
use Rattle.aidl_schema.specs.declared.schema.Decl.{Decl}
use Rattle.aidl_schema.specs.declared.schema.Field.{Field}
use Rattle.aidl_schema.specs.Constants.{in_range}
use Rattle.aidl_schema.specs.Types.{Form, form_of, is_one}
use Rattle.aidl_schema.specs.Types as form
use Rattle.aidl_values.specs.Data as value
use Rattle.json_writing.specs.Named.{enumerators_of}
use Rattle.aidl_values.specs.View.{items_of}
use Rattle.aidl_values.specs.steps.Levels.{is_level_left}
use Rattle.aidl_values.proofs.lemmas.Fronts.{with_front}
use Rattle.json_values.specs.Refusal.{Answer, within}
use Rattle.json_values.specs.FromJson.{one_from, from_by, items_from, elements_from}
use Rattle.json_values.specs.Scalars.{whole_from}
use Rattle.json_values.specs.steps.Levels.{part_from, default_of}
use Rattle.json_values.specs.steps.Plain.{is_in_base, IsPlain}
use Rattle.json_values.proofs.Parts.{from_json_of-by, items_more, items_done}

-- what fits into 64 bits with a sign is the whole number
whole : (x : Num) (n : ℤ) → as_i64 x ≡ Some n → as_integer x ≡ Some n
whole (unsigned m) n e = grind (arith, nat_tests)
whole (negative z) n e = e
whole (float x) n e = cc

whole_in : (f : Form) (o : Option ℤ) (n : ℤ) → o ≡ Some n → in_range f n ≡ true → whole_from f o ≡ Ok (value.number n)
whole_in f o n is lies = rw (is, lies) refl

module _ (S : List Decl) (left : Bool) (default : Field → Answer value.Data) (read : AidlType → json.Data → Answer value.Data) where
  one : (b : Base) (x : Num) (n : ℤ) → as_integer x ≡ Some n → is_in_base b n ≡ true → one_from left default read (enumerators_of S b) (form_of S b) (json.number x) ≡ Ok (value.number n)
  one base.Byte x n is lies = whole_in form.byte (as_integer x) n is lies
  one base.Char x n is lies = whole_in form.char (as_integer x) n is lies
  one base.Int x n is lies = whole_in form.int (as_integer x) n is lies
  one base.Long x n is lies = whole_in form.long (as_integer x) n is lies
  one base.Boolean x n is lies = cc
  one base.Text x n is lies = cc
  one (base.Named d) x n is lies = cc

  -- a type that is no sequence
  by_one : (t : AidlType) (x : Num) (n : ℤ) → is_one t.shape ≡ true → as_i64 x ≡ Some n → is_in_base t.base n ≡ true → from_by S left default read t (json.number x) ≡ Ok (value.number n)
  by_one t x n is at lies = rw (and_right t.nullable false refl, is) (one t.base x n (whole x n at) lies)

pub plain : (t : AidlType) (x : Num) (n : ℤ) → is_one t.shape ≡ true → as_i64 x ≡ Some n → is_in_base t.base n ≡ true → IsPlain t (json.number x) (value.number n)
plain t x n is at lies S left default read = by_one S left default read t x n is at lies

-- and so is a part, at whatever step
pub plain_part : (step : List ℕ) (S : List Decl) (d : ℕ) (t : AidlType) (j : json.Data) (v : value.Data) → 0 < d → IsPlain t j v → within step (part_from S d t j) ≡ Ok v
plain_part step S zero t j v some is = absurd (omega (arith, some))
plain_part step S (suc d) t j v some is =
    ap (λ a. within step a) (sym (from_json_of-by S d t j) ∙ is S (is_level_left d) (λ f. default_of S d f) (λ u k. part_from S d u k))

module _ (t : AidlType) (js : List Json) where
  -- one element more
  pub plain_more : (S : List Decl) (d k : ℕ) (j : Json) (ds : List value.Data) (v : value.Data) → 0 < d → k < length js → get_or js k j ≡ j → IsPlain t (json_view j) v
      → with_front ds (items_from (λ i. part_from S d t i) k (items_view (drop k js))) ≡ items_from (λ i. part_from S d t i) 0 (items_view js)
      → with_front (ds ++ v ∷ []) (items_from (λ i. part_from S d t i) (k + 1) (items_view (drop (k + 1) js))) ≡ items_from (λ i. part_from S d t i) 0 (items_view js)
  plain_more S d k j ds v some short here is so_far =
      sym (items_more (λ i. part_from S d t i) js k j ds v short here (plain_part (decimal k) S d t (json_view j) v some is)) ∙ so_far

  -- and all of them
  pub plain_all : (S : List Decl) (d k : ℕ) (ds : List value.Data) (v : value.Data) → length js ≤ k
      → with_front ds (items_from (λ i. part_from S d t i) k (items_view (drop k js))) ≡ items_from (λ i. part_from S d t i) 0 (items_view js)
      → v ≡ value.seq (items_of ds) → elements_from (λ i. part_from S d t i) (items_view js) ≡ Ok v
  plain_all S d k ds v all so_far is =
      rw (sym so_far ∙ items_done (λ i. part_from S d t i) js k ds all) (ap Ok (sym is))
