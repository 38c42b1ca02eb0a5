-- Nothing in a list is deeper than the deepest.
use Rattle.std.proofs.Common.{◌≡◌, ℕ, zero, suc, ◌<◌, ◌≤◌, List, [], ◌∷◌, length, map, get_or, Some, slice_get, sym, ap, ◌∙◌, arith, subst}
use Rattle.std.specs.Option.{option_map}
use Rattle.std.proofs.lemmas.Option.{slice_get-map, slice_get-get_or}
use Rattle.aidl_values.specs.Data.{Data, depth_of, greatest}
use Rattle.aidl_values.specs.View.{items_of, view, views}
use Rattle.aidl_values.specs.declared.value.Value.{Value}

pub no_deeper : (ds : List Data) (i : ℕ) (d : Data) → slice_get ds i ≡ Some d → depth_of d ≤ greatest (items_of ds)
no_deeper [] i d is = cc
no_deeper (e ∷ ds) zero d is = let same : e ≡ d = cc in subst (λ x. depth_of x ≤ greatest (items_of (e ∷ ds))) same (omega arith)
no_deeper (e ∷ ds) (suc i) d is = omega (arith, no_deeper ds i d is)

-- the same of values, as an index gives them
pub item_no_deeper : (vs : List Value) (i : ℕ) (x : Value) → i < length vs → x ≡ get_or vs i x → depth_of (view x) ≤ greatest (views vs)
item_no_deeper vs i x lt is = no_deeper (map view vs) i (view x) (slice_get-map view vs i ∙ ap (option_map view) (slice_get-get_or vs i x lt ∙ ap (λ y. Some y) (sym is)))
