-- Lists: fronts and rests, lists of bytes, and bytes that are all zero.
use Rattle.std.proofs.Common.{◌≡◌, ℕ, zero, suc, ◌+◌, ◌<◌, Bool, true, false, cond, List, [], ◌∷◌, ◌++◌, length, take, drop, get_or, Some, None, nat_lt, refl, sym, ap, ◌∙◌, arith, add-one, replicate, eqb, length-append, true≢false}
use Rattle.std.specs.List.{position, position_or_len}
use Rattle.std.proofs.Math.Seq.{take-append_seam, drop-append_seam}
use Rattle.std.proofs.lemmas.List.{length-take-le, take-append-drop}
use Rattle.std.proofs.lemmas.Bool.Decides.{nat_tests}
use Rattle.aidl_base.specs.Profiles.{all_zero}

pub take_front : {A : Type 0} (xs ys : List A) (n : ℕ) → length xs ≡ n → take n (xs ++ ys) ≡ xs
take_front xs ys n e = ap (λ k. take k (xs ++ ys)) (sym e) ∙ take-append_seam xs ys

pub drop_front : {A : Type 0} (xs ys : List A) (n : ℕ) → length xs ≡ n → drop n (xs ++ ys) ≡ ys
drop_front xs ys n e = ap (λ k. drop k (xs ++ ys)) (sym e) ∙ drop-append_seam xs ys

pub no_front : {A : Type 0} (xs ys : List A) → xs ++ ys ≡ [] → xs ≡ []
no_front [] ys e = refl
no_front (x ∷ xs) ys e = absurd cc

pub no_rest : {A : Type 0} (xs ys : List A) → xs ++ ys ≡ [] → ys ≡ []
no_rest [] ys e = e
no_rest (x ∷ xs) ys e = absurd cc

take_next : {X : Type 0} (xs : List X) (i : ℕ) (x : X) → i < length xs → x ≡ get_or xs i x → take (suc i) xs ≡ take i xs ++ x ∷ []
take_next [] i x lt is = absurd (omega arith)
take_next (y ∷ xs) zero x lt is = ap (λ z. z ∷ []) (sym is)
take_next (y ∷ xs) (suc i) x lt is = ap (λ zs. y ∷ zs) (take_next xs i x (omega arith) is)

pub take_further : {X : Type 0} (xs : List X) (i : ℕ) (x : X) → i < length xs → x ≡ get_or xs i x → take (i + 1) xs ≡ take i xs ++ x ∷ []
take_further xs i x lt is = ap (λ k. take k xs) (add-one i) ∙ take_next xs i x lt is

pub take_to_end : {X : Type 0} (xs : List X) (i : ℕ) → i ≡ length xs → take i xs ≡ xs
take_to_end xs i e = ap (λ k. take k xs) e ∙ take_whole xs
  where
    take_whole : {X : Type 0} (xs : List X) → take (length xs) xs ≡ xs
    take_whole [] = refl
    take_whole (x ∷ xs) = ap (λ z. x ∷ z) (take_whole xs)

-- each is a byte
abbrev pub AreBytes : List ℕ → Type 0
AreBytes b = (i : ℕ) → get_or b i 0 < 256

pub AreBytes-take : (n : ℕ) (b : List ℕ) → AreBytes b → AreBytes (take n b)
AreBytes-take zero b bytes i = omega arith
AreBytes-take (suc n) [] bytes i = omega arith
AreBytes-take (suc n) (x ∷ b) bytes zero = bytes 0
AreBytes-take (suc n) (x ∷ b) bytes (suc i) = AreBytes-take n b (λ j. bytes (suc j)) i

pub AreBytes-drop : (n : ℕ) (b : List ℕ) → AreBytes b → AreBytes (drop n b)
AreBytes-drop zero b bytes = bytes
AreBytes-drop (suc n) [] bytes = bytes
AreBytes-drop (suc n) (x ∷ b) bytes = AreBytes-drop n b (λ j. bytes (suc j))

pub AreBytes-rest : (front rest : List ℕ) → AreBytes (front ++ rest) → AreBytes rest
AreBytes-rest [] rest bytes = bytes
AreBytes-rest (x ∷ front) rest bytes = AreBytes-rest front rest (λ i. bytes (suc i))

pub AreBytes-front : (front rest : List ℕ) → AreBytes (front ++ rest) → AreBytes front
AreBytes-front [] rest bytes i = omega arith
AreBytes-front (x ∷ front) rest bytes zero = bytes 0
AreBytes-front (x ∷ front) rest bytes (suc i) = AreBytes-front front rest (λ j. bytes (suc j)) i

pub zeros : (n : ℕ) → all_zero (replicate n 0) ≡ true
zeros zero = refl
zeros (suc n) = zeros n

pub all_zero_is : (b : List ℕ) → all_zero b ≡ true → b ≡ replicate (length b) 0
all_zero_is [] e = refl
all_zero_is (zero ∷ b) e = ap (λ c. 0 ∷ c) (all_zero_is b e)
all_zero_is (suc x ∷ b) e =
    let not_zero : eqb (suc x) 0 ≡ false = grind (arith, nat_tests) in
    let wrong : false ≡ true = rw not_zero at e in
    absurd (true≢false (sym wrong))

-- the m bytes after k of them
pub rest_is : (k m : ℕ) (b : List ℕ) → length b ≡ k + m → all_zero (drop k b) ≡ true → drop k b ≡ replicate m 0
rest_is k m b len zeros =
    let front : length (take k b) ≡ k = length-take-le k b (omega arith) in
    let whole : length (take k b) + length (drop k b) ≡ k + m = sym (length-append (take k b) (drop k b)) ∙ ap length (take-append-drop k b) ∙ len in
    let rest : length (drop k b) ≡ m = omega arith in
    all_zero_is (drop k b) zeros ∙ ap (λ n. replicate n 0) rest

-- what is found stands within the list
pub position_within : {X : Type 0} (p : X → Bool) (xs : List X) (i : ℕ) → position p xs ≡ Some i → i < length xs
position_within p xs i e = by (nat_lt (position_or_len p xs) (length xs)) refl e
  where
    by : (b : Bool) → nat_lt (position_or_len p xs) (length xs) ≡ b → cond b (Some (position_or_len p xs)) None ≡ Some i → i < length xs
    by true lt is = let same : position_or_len p xs ≡ i = cc in grind (arith, nat_tests)
    by false lt is = cc
