-- Steps that may fail, one after another.
use Rattle.std.specs.Prelude.{Result, Ok, Err}

-- a step, and then another with what it gave; the first failure is that of both
infixl 10 ◌>>=◌
abbrev pub ◌>>=◌ : {A B R : Type 0} → Result A R → (A → Result B R) → Result B R
(Ok x) >>= f = f x
(Err e) >>= f = Err e
