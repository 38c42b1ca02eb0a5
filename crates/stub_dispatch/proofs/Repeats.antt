-- A value so many times.
use Rattle.std.proofs.Common.{◌≡◌, ℕ, zero, suc, ◌+◌, ◌-◌, ◌<◌, ◌≤◌, ℤ, pos, Bool, List, [], ◌∷◌, ◌++◌, map, replicate, refl, sym, ap, ◌∙◌, arith}
use Rattle.std.specs.Int.{w8, cast_signed}
use Rattle.aidl_values.specs.Data.{Data, Items, none, item, number, truth}
use Rattle.aidl_values.specs.View.{datas, items_of, view, views}
use Rattle.aidl_values.specs.declared.value.Value.{Value}
use Rattle.aidl_values.specs.declared.value.Elements.TheVariants.{Truths, Bytes, Chars, Ints, Longs}
use Rattle.aidl_values.proofs.lemmas.Views.{datas_truths, datas_bytes, datas_chars, datas_ints, datas_longs}
use Rattle.wire_model.specs.Receiver.{repeated}
use Rattle.stub_dispatch.specs.steps.Fronts.{joined}
use Rattle.stub_dispatch.proofs.Reading.{joined_assoc, joined_none, views_more}

pub repeated_more : (vs us : List Value) (v : Value) (d : Data) (count i : ℕ) (total : Items) → i < count → us ≡ vs ++ v ∷ [] → view v ≡ d
    → joined (views vs) (repeated (count - i) d) ≡ total → joined (views us) (repeated (count - (i + 1)) d) ≡ total
repeated_more vs us v d count i total lt f e h =
    let k : suc (count - (i + 1)) ≡ count - i = omega arith in
    let rest = repeated (count - (i + 1)) d in
    ap (λ z. joined (views z) rest) f ∙ ap (λ z. joined z rest) (views_more vs v) ∙ joined_assoc (views vs) (item (view v) none) rest
    ∙ ap (λ z. joined (views vs) (item z rest)) e ∙ ap (λ n. joined (views vs) (repeated n d)) k ∙ h

pub repeated_all : (vs : List Value) (d : Data) (count i : ℕ) (total : Items) → count ≤ i → joined (views vs) (repeated (count - i) d) ≡ total → views vs ≡ total
repeated_all vs d count i total le h =
    let k : 0 ≡ count - i = omega arith in
    sym (joined_none (views vs)) ∙ ap (λ n. joined (views vs) (repeated n d)) k ∙ h

-- what is seen of copies of one thing
pub seen_repeated : {T : Type 0} (seen : T → Data) (x : T) (count : ℕ) → items_of (map seen (replicate count x)) ≡ repeated count (seen x)
seen_repeated seen x zero = refl
seen_repeated seen x (suc n) = ap (λ vs. item (seen x) vs) (seen_repeated seen x n)

pub truths_repeated : (b : Bool) (count : ℕ) → items_of (datas (Truths (replicate count b))) ≡ repeated count (truth b)
truths_repeated b count = ap items_of (datas_truths (replicate count b)) ∙ seen_repeated truth b count

-- zeros side by side, as the numbers that they are
zeros_seen : (number_of : ℕ → ℤ) (count : ℕ) → items_of (map number (map number_of (replicate count 0))) ≡ repeated count (number (number_of 0))
zeros_seen number_of zero = refl
zeros_seen number_of (suc n) = ap (λ vs. item (number (number_of 0)) vs) (zeros_seen number_of n)

pub bytes_repeated : (count : ℕ) → items_of (datas (Bytes (replicate count 0))) ≡ repeated count (number (pos 0))
bytes_repeated count = ap items_of (datas_bytes (replicate count 0)) ∙ zeros_seen (λ b. cast_signed w8 b) count

pub chars_repeated : (count : ℕ) → items_of (datas (Chars (replicate count 0))) ≡ repeated count (number (pos 0))
chars_repeated count = ap items_of (datas_chars (replicate count 0)) ∙ zeros_seen pos count

pub ints_repeated : (count : ℕ) → items_of (datas (Ints (replicate count (pos 0)))) ≡ repeated count (number (pos 0))
ints_repeated count = ap items_of (datas_ints (replicate count (pos 0))) ∙ seen_repeated number (pos 0) count

pub longs_repeated : (count : ℕ) → items_of (datas (Longs (replicate count (pos 0)))) ≡ repeated count (number (pos 0))
longs_repeated count = ap items_of (datas_longs (replicate count (pos 0))) ∙ seen_repeated number (pos 0) count
