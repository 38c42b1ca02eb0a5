-- Lists gone through with the numbers of their items, or with the items before each.
use Rattle.std.specs.Prelude.{ℕ, ◌+◌, Bool, List, [], ◌∷◌, ◌++◌, if◌then◌else◌}

-- what is found in each of some things, which have the numbers from one on
abbrev pub in_each : {A B : Type 0} → (ℕ → A → List B) → ℕ → List A → List B
in_each find number [] = []
in_each find number (x ∷ more) = find number x ++ in_each find (number + 1) more

-- the things, each behind those before it, that pass a test of both
abbrev pub after_earlier : {A : Type 0} → (List A → A → Bool) → List A → List A → List A
after_earlier test before [] = []
after_earlier test before (x ∷ more) = (if test before x then x ∷ [] else [])
    ++ after_earlier test (before ++ x ∷ []) more
