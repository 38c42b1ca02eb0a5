-- What holds of the value of a result, when more is known.
use Rattle.std.proofs.Common.{◌≡◌, ◌≢◌, ◌<◌, ◌≤◌, List, [], ◌∷◌, length, refl, Result, Ok, Err, IfOk, IfErr, arith}

pub ok-more : {A E : Type 0} (P Q : A → Type 0) (r : Result A E) → ((x : A) → P x → Q x) → IfOk r P → IfOk r Q
ok-more P Q (Ok x) more h = more x h
ok-more P Q (Err e) more h = tt

pub err-more : {A E : Type 0} (P Q : E → Type 0) (r : Result A E) → ((e : E) → P e → Q e) → IfErr r P → IfErr r Q
err-more P Q (Ok x) more h = tt
err-more P Q (Err e) more h = more e h

-- some rows, or none
pub not-empty : {A : Type 0} (xs : List A) → 0 < length xs → xs ≢ []
not-empty [] lt e = absurd (omega arith)
not-empty (x ∷ xs) lt e = cc

pub empty : {A : Type 0} (xs : List A) → length xs ≤ 0 → xs ≡ []
empty [] le = refl
empty (x ∷ xs) le = absurd (omega arith)
