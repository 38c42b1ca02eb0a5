-- A step of reading that was taken, or that stopped.
use Rattle.std.proofs.Common.{◌≡◌, ℤ, Result, Ok, Err, refl, ap, ◌⊎◌, inl, inr}
use Rattle.aidl_base.specs.Readings.{◌>>=◌}

-- a step that was taken, and what came of it
abbrev pub Taken : {A B : Type 0} → Result A ℤ → (A → Result B ℤ) → B → Type 0
Taken {A} x k y = (a : A) × (x ≡ Ok a) × (k a ≡ Ok y)

pub taken : {A B : Type 0} (x : Result A ℤ) (k : A → Result B ℤ) (y : B) → x >>= k ≡ Ok y → Taken x k y
taken (Ok a) k y e = (a, refl, e)
taken (Err s) k y e = cc

-- a step that stopped, or that was taken and followed by a stop
abbrev pub Stopped : {A B : Type 0} → Result A ℤ → (A → Result B ℤ) → ℤ → Type 0
Stopped {A} x k s = (x ≡ Err s) ⊎ ((a : A) × (x ≡ Ok a) × (k a ≡ Err s))

pub stopped : {A B : Type 0} (x : Result A ℤ) (k : A → Result B ℤ) (s : ℤ) → x >>= k ≡ Err s → Stopped x k s
stopped (Ok a) k s e = inr (a, refl, e)
stopped {A} (Err r) k s e = let same : r ≡ s = cc in inl (ap (λ z. let x : Result A ℤ = Err z in x) same)
