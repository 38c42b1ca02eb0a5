-- The lengths of a request stay within their bound.
use Rattle.std.proofs.Common.{◌≡◌, ℕ, ◌+◌, ◌≤◌, ℤ, Bool, true, false, nat_le, List, Option, Some, None, Result, Ok, Err, refl, sym, ap, ◌∙◌, subst, arith}
use Rattle.std.proofs.lemmas.Bool.Decides.{nat_tests}
use Rattle.aidl_base.specs.declared.profile.Profile.{Profile}
use Rattle.aidl_base.specs.Readings.{Read, ◌>>=◌, count_at}
use Rattle.aidl_schema.specs.declared.schema.Arg.{Arg}
use Rattle.aidl_schema.specs.declared.schema.Decl.{Decl}
use Rattle.aidl_schema.specs.Types.{is_array}
use Rattle.aidl_values.specs.Data.{Data, null}
use Rattle.wire_model.specs.Calls.{is_out}
use Rattle.wire_model.specs.Receiver.{zero_in, array_opening, within_sum, length_at, array_opening_at, argument_at, items_in, opened_length}
use Rattle.wire_model.specs.Requests.{number_or_0}
use Rattle.wire_model.specs.Status.{bad_value}
use Rattle.wire_model.proofs.lemmas.Opened.{default_items, items_opened}

-- a step that was taken, and what came of it
pub taken : {A B : Type 0} (x : Result A ℤ) (k : A → Result B ℤ) (y : B) → x >>= k ≡ Ok y → (a : A) × (x ≡ Ok a) × (k a ≡ Ok y)
taken (Ok a) k y e = (a, refl, e)
taken (Err s) k y e = cc

few_length : (nullable : Bool) (sum : ℕ) (b : List ℕ) (x : Option ℕ × List ℕ) → sum ≤ 65536 → length_at nullable sum b ≡ Ok x → sum + number_or_0 x.0 ≤ 65536
unfolding length_at
few_length nullable sum b x le e =
    let one = taken (count_at nullable false b) (λ n. within_sum sum n.0 >>= λ m. let y : Read (Option ℕ) = Ok (m, n.1) in y) x e in
    let two = taken (within_sum sum one.0.0) (λ m. let y : Read (Option ℕ) = Ok (m, one.0.1) in y) x one.2 in
    let n : two.0 ≡ x.0 = ap (λ (y : Read (Option ℕ)). length_of y) two.2 in
    subst (λ o. sum + number_or_0 o ≤ 65536) n (kept one.0.0 two.0 two.1)
  where
    length_of : Read (Option ℕ) → Option ℕ
    length_of (Ok y) = y.0
    length_of (Err s) = None

    kept : (n m : Option ℕ) → within_sum sum n ≡ Ok m → sum + number_or_0 m ≤ 65536
    kept n None e = omega (arith, le)
    kept None (Some m) e = cc
    kept (Some n) (Some m) e = by_test (nat_le (sum + n) 65536) refl
      where
        by_test : (b : Bool) → nat_le (sum + n) 65536 ≡ b → sum + m ≤ 65536
        by_test true is =
            let some : ◌≡◌ {A = Result (Option ℕ) ℤ} (Ok (Some n)) (Ok (Some m)) = rw is at e in
            let k : n ≡ m = cc in
            let few : sum + n ≤ 65536 = grind (arith, nat_tests) in
            omega (arith, k, few)
        by_test false is = let some : ◌≡◌ {A = Result (Option ℕ) ℤ} (Err bad_value) (Ok (Some m)) = rw is at e in cc

data_of : Read Data → Data
data_of (Ok y) = y.0
data_of (Err s) = null

pub few_argument : (p : Profile) (S : List Decl) (a : Arg) (sum : ℕ) (b : List ℕ) (x : Data × List ℕ) → sum ≤ 65536 → (out array : Bool) → is_out a.way ≡ out → is_array a.ty.shape ≡ array
    → argument_at p S sum a b ≡ Ok x → sum + opened_length a x.0 ≤ 65536
unfolding array_opening_at data_of
few_argument p S a sum b x le true true out array e =
    let opened : array_opening_at S sum a.ty b ≡ Ok x = rw (out, array) at e in
    let one = taken (length_at a.ty.nullable sum b) (λ n. let y : Read Data = Ok (array_opening S a.ty n.0, n.1) in y) x opened in
    let v : array_opening S a.ty one.0.0 ≡ x.0 = ap (λ (y : Read Data). data_of y) one.2 in
    let n : opened_length a x.0 ≡ number_or_0 one.0.0 = rw out (sym (ap items_in v) ∙ items_opened S a.ty one.0.0) in
    omega (arith, n, few_length a.ty.nullable sum b one.0 le one.1)
few_argument p S a sum b x le true false out array e =
    let opened : ◌≡◌ {A = Read Data} (Ok (zero_in S a.ty, b)) (Ok x) = rw (out, array) at e in
    let v : zero_in S a.ty ≡ x.0 = ap (λ (y : Read Data). data_of y) opened in
    let n : opened_length a x.0 ≡ 0 = rw out (sym (ap items_in v) ∙ default_items S a.ty) in
    omega (arith, n, le)
few_argument p S a sum b x le false array out at e = let n : opened_length a x.0 ≡ 0 = rw out refl in omega (arith, n, le)
