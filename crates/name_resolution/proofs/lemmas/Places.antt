-- A place of a list is one of each list that is the same.
use Rattle.std.proofs.Common.{◌≡◌, ◌<◌, ℕ, List, length, get_or, subst}

pub there : {A : Type 0} (xs all : List A) (place : ℕ) (x : A) → xs ≡ all → place < length xs → x ≡ get_or xs place x → (place < length all) × (x ≡ get_or all place x)
there {A} xs all place x same lt is =
    let IsThere : List A → Type 0 = λ z. (place < length z) × (x ≡ get_or z place x) in
    subst IsThere same (lt, is)
