-- Whether two sides are the same is decided.
use Rattle.std.proofs.Common.{◌≡◌, ℕ, Bool, true, false, List, [], ◌∷◌, Option, Some, None, Result, Ok, Err, refl, ap}
use Rattle.std.specs.Prelude.{ℤ}
use Rattle.std.proofs.Math.Decide.{map_dec, ℕ_discrete}
use Rattle.std.proofs.Math.IntN.{ℤ_discrete}
use Rattle.aidl_values.specs.Data.{Data, null, truth, number, text, seq, rec, alt, Items, none, item}
use Rattle.wire_model.specs.Calls.{AnswerData, returned, exception}
use Rattle.compat_witness.specs.Sides.{Side, transport, left, called, client, no_reply}

-- Of several parts

pub both_decided : {P Q : Type 0} → Dec P → Dec Q → Dec (P × Q)
both_decided (yes a) (yes b) = yes (a, b)
both_decided (yes a) (no k) = no (λ h. k h.1)
both_decided (no k) d = no (λ h. k h.0)

two_same : {A B C : Type 0} (f : A → B → C) (a x : A) (b y : B) → (a ≡ x) × (b ≡ y) → f a b ≡ f x y
two_same f a x b y h = cc

-- a value made of two parts
made_of : {A B C : Type 0} (f : A → B → C) (a x : A) (b y : B) → (f a b ≡ f x y → (a ≡ x) × (b ≡ y)) → Dec (a ≡ x) → Dec (b ≡ y) → Dec (f a b ≡ f x y)
made_of f a x b y parts one two = map_dec (two_same f a x b y) parts (both_decided one two)

pub same_bool : (a b : Bool) → Dec (a ≡ b)
same_bool true true = yes refl
same_bool false false = yes refl
same_bool true false = no (λ e. cc)
same_bool false true = no (λ e. cc)

same_text : (xs ys : List ℕ) → Dec (xs ≡ ys)
same_text [] [] = yes refl
same_text [] (y ∷ ys) = no (λ e. cc)
same_text (x ∷ xs) [] = no (λ e. cc)
same_text (x ∷ xs) (y ∷ ys) = made_of (λ (z : ℕ) (zs : List ℕ). z ∷ zs) x y xs ys (λ e. (cc, cc)) (ℕ_discrete x y) (same_text xs ys)

-- Of values

mutual
  pub same_data : (a b : Data) → Dec (a ≡ b)
  same_data null null = yes refl
  same_data (truth x) (truth y) = map_dec (ap truth) (λ e. cc) (same_bool x y)
  same_data (number x) (number y) = map_dec (ap number) (λ e. cc) (ℤ_discrete x y)
  same_data (text x) (text y) = map_dec (ap text) (λ e. cc) (same_text x y)
  same_data (seq vs) (seq ws) = map_dec (ap seq) (λ e. cc) (same_items vs ws)
  same_data (rec vs) (rec ws) = map_dec (ap rec) (λ e. cc) (same_items vs ws)
  same_data (alt k v) (alt j w) = made_of alt k j v w (λ e. (cc, cc)) (ℕ_discrete k j) (same_data v w)
  same_data _ _ = no (λ e. cc)

  pub same_items : (vs ws : Items) → Dec (vs ≡ ws)
  same_items none none = yes refl
  same_items none (item w ws) = no (λ e. cc)
  same_items (item v vs) none = no (λ e. cc)
  same_items (item v vs) (item w ws) = made_of item v w vs ws (λ e. (cc, cc)) (same_data v w) (same_items vs ws)

-- Of answers and sides

same_result : (a b : Option Data) → Dec (a ≡ b)
same_result None None = yes refl
same_result None (Some w) = no (λ e. cc)
same_result (Some v) None = no (λ e. cc)
same_result (Some v) (Some w) = map_dec (ap Some) (λ e. cc) (same_data v w)

same_exception : (k j : ℤ) (m n : List ℕ) (e f : ℤ) → Dec (exception k m e ≡ exception j n f)
same_exception k j m n e f =
    map_dec (λ h. two_same (λ (z : ℤ × List ℕ) (x : ℤ). exception z.0 z.1 x) (k, m) (j, n) e f h) (λ h. (cc, cc))
    (both_decided (made_of (λ (z : ℤ) (zs : List ℕ). (z, zs)) k j m n (λ h. (ap (λ z. z.0) h, ap (λ z. z.1) h)) (ℤ_discrete k j) (same_text m n)) (ℤ_discrete e f))

same_answer : (a b : AnswerData) → Dec (a ≡ b)
same_answer (returned r outs) (returned s others) = made_of returned r s outs others (λ e. (cc, cc)) (same_result r s) (same_items outs others)
same_answer (returned r outs) (exception k m e) = no (λ h. cc)
same_answer (exception k m e) (returned r outs) = no (λ h. cc)
same_answer (exception k m e) (exception j n f) = same_exception k j m n e f

same_got : (a b : Result AnswerData ℤ) → Dec (a ≡ b)
same_got (Ok a) (Ok b) = map_dec (ap Ok) (λ e. cc) (same_answer a b)
same_got (Err m) (Err n) = map_dec (ap Err) (λ e. cc) (ℤ_discrete m n)
same_got (Ok a) (Err n) = no (λ e. cc)
same_got (Err m) (Ok b) = no (λ e. cc)

pub same_side : (a b : Side) → Dec (a ≡ b)
same_side (transport m) (transport n) = map_dec (ap transport) (λ e. cc) (ℤ_discrete m n)
same_side (left m) (left n) = map_dec (ap left) (λ e. cc) (ℕ_discrete m n)
same_side (called m saw) (called n seen) = made_of called m n saw seen (λ e. (cc, cc)) (ℕ_discrete m n) (same_items saw seen)
same_side (client a) (client b) = map_dec (ap client) (λ e. cc) (same_got a b)
same_side no_reply no_reply = yes refl
same_side _ _ = no (λ e. cc)
