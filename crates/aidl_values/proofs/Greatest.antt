-- The greatest depth of a list, datum by datum.
use Rattle.std.proofs.Common.{◌≡◌, ℕ, ◌+◌, max, min, List, [], ◌∷◌, ◌++◌, take, Some, slice_get, ap, ◌∙◌, arith}
use Rattle.std.proofs.lemmas.List.{take_more}
use Rattle.std.proofs.lemmas.Option.{slice_get_within, get_or_from_slice_get}
use Rattle.aidl_values.specs.Data.{Data, depth_of, greatest}
use Rattle.aidl_values.specs.View.{items_of}

greatest-push : (ds : List Data) (d : Data) → greatest (items_of (ds ++ d ∷ [])) ≡ max (greatest (items_of ds)) (depth_of d)
greatest-push [] d = omega arith
greatest-push (e ∷ ds) d = omega (arith, greatest-push ds d)

pub greatest_next : (ds : List Data) (i : ℕ) (d : Data) (most here top : ℕ) → slice_get ds i ≡ Some d
    → most ≡ min (greatest (items_of (take i ds))) top → here ≡ min (depth_of d) top → max most here ≡ min (greatest (items_of (take (i + 1) ds))) top
greatest_next ds i d most here top is so_far this_one =
    let more : take (i + 1) ds ≡ take i ds ++ d ∷ [] = take_more ds i d (slice_get_within ds i d is) ∙ ap (λ x. take i ds ++ x ∷ []) (get_or_from_slice_get ds i d d is) in
    let all = ap (λ es. greatest (items_of es)) more ∙ greatest-push (take i ds) d in
    omega (arith, all, so_far, this_one)
