-- Reading parts one after another: the first of some parts, and the rest.
use Rattle.std.proofs.Common.{◌≡◌, List, [], ◌∷◌, ◌++◌, Ok, Err, refl}
use Rattle.aidl_values.specs.Data.{Data, Items, item}
use Rattle.aidl_values.proofs.lemmas.Fronts.{with_front, front_more}
use Rattle.json_values.specs.Refusal.{Answer, Refusal, ◌>>=◌}

abbrev pub first_of : Answer Data → Answer Items → Answer Items
first_of first rest = first >>= (λ v. rest >>= (λ vs. Ok (item v vs)))

pub goes_on : (ds : List Data) (v : Data) (first : Answer Data) (rest : Answer Items) → first ≡ Ok v → with_front ds (first_of first rest) ≡ with_front (ds ++ v ∷ []) rest
goes_on ds v first rest is = rw is (front_more ds v rest)

pub stops : (ds : List Data) (r : Refusal) (first : Answer Data) (rest : Answer Items) → first ≡ Err r → with_front ds (first_of first rest) ≡ Err r
stops ds r first rest is = rw is refl
