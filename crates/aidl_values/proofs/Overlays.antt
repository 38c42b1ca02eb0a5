-- Values over others, place by place.
use Rattle.std.proofs.Common.{◌≡◌, ℕ, zero, suc, ◌+◌, ◌<◌, ◌≤◌, ◌==◌, true, false, List, [], ◌∷◌, length, map, get_or, Some, slice_get, refl, ap, ◌∙◌, arith}
use Rattle.std.specs.Option.{option_map}
use Rattle.std.specs.List.{range_with_len}
use Rattle.std.proofs.lemmas.List.{length-map}
use Rattle.std.proofs.lemmas.Option.{slice_get-map, slice_get-get_or, get_or_from_slice_get}
use Rattle.std.proofs.lemmas.Bool.Decides.{nat_tests}
use Rattle.aidl_values.specs.Data.{Data}
use Rattle.aidl_values.specs.Given.{given_at, overlaid, given_then}
use Rattle.aidl_values.specs.View.{view}
use Rattle.aidl_values.specs.declared.value.Value.{Value}

module _ {T : Type 0} where
  pub length-overlaid : (ps : List ℕ) (vs : List T) (k : ℕ) (ds : List T) → length (overlaid ps vs k ds) ≡ length ds
  length-overlaid ps vs k [] = refl
  length-overlaid ps vs k (d ∷ ds) = ap suc (length-overlaid ps vs (suc k) ds)

  pub overlaid_at : (ps : List ℕ) (vs : List T) (k : ℕ) (ds : List T) (i : ℕ) (d : T) → slice_get ds i ≡ Some d → slice_get (overlaid ps vs k ds) i ≡ Some (given_at ps vs (k + i) d)
  overlaid_at ps vs k [] i d is = cc
  overlaid_at ps vs k (e ∷ ds) zero d is =
      let same : e ≡ d = cc in
      let at : k ≡ k + 0 = omega arith in
      ap (λ (x : T). Some (given_at ps vs k x)) same ∙ ap (λ n. Some (given_at ps vs n d)) at
  overlaid_at ps vs k (e ∷ ds) (suc i) d is =
      let at : suc k + i ≡ k + suc i = omega arith in
      overlaid_at ps vs (suc k) ds i d is ∙ ap (λ n. Some (given_at ps vs n d)) at

  -- none given
  overlaid_none : (vs : List T) (k : ℕ) (ds : List T) → overlaid [] vs k ds ≡ ds
  overlaid_none vs k [] = refl
  overlaid_none vs k (d ∷ ds) = ap (λ es. d ∷ es) (overlaid_none vs (suc k) ds)

  -- one given in front of all these
  overlaid_later : (p : ℕ) (ps : List ℕ) (v : T) (vs : List T) (k : ℕ) (ds : List T) → p < k → overlaid (p ∷ ps) (v ∷ vs) k ds ≡ overlaid ps vs k ds
  overlaid_later p ps v vs k [] lt = refl
  overlaid_later p ps v vs k (d ∷ ds) lt =
      let test : (p == k) ≡ false = grind (arith, nat_tests) in
      ap (λ es. given_at (p ∷ ps) (v ∷ vs) k d ∷ es) (overlaid_later p ps v vs (suc k) ds (omega (arith, lt))) ∙ (rw test refl)

  pub overlaid_first : (k : ℕ) (vs ds : List T) → length vs ≤ length ds → overlaid (range_with_len k (length vs)) vs k ds ≡ given_then vs ds
  overlaid_first k [] ds le = overlaid_none [] k ds
  overlaid_first k (v ∷ vs) [] le = absurd (omega (arith, le))
  overlaid_first k (v ∷ vs) (d ∷ ds) le =
      let test : (k == k) ≡ true = grind (arith, nat_tests) in
      let on : k + 1 ≡ suc k = omega arith in
      let front : given_at (range_with_len k (length (v ∷ vs))) (v ∷ vs) k d ≡ v = rw test refl in
      ap (λ e. e ∷ overlaid (range_with_len k (length (v ∷ vs))) (v ∷ vs) (suc k) ds) front
      ∙ ap (λ es. v ∷ es) (overlaid_later k (range_with_len (k + 1) (length vs)) v vs (suc k) ds (omega arith)
      ∙ ap (λ m. overlaid (range_with_len m (length vs)) vs (suc k) ds) on ∙ overlaid_first (suc k) vs ds (omega (arith, le)))

-- a field, whose default is there
pub field_at : (fs : List Data) (ps : List ℕ) (vs : List Data) (ds : List Value) → fs ≡ overlaid ps vs 0 (map view ds) → (i : ℕ) (v w : Value) → i < length fs
    → given_at ps vs i (view (get_or ds i v)) ≡ view w → slice_get fs i ≡ Some (view w)
field_at fs ps vs ds are i v w lt is =
    let many : length fs ≡ length ds = ap length are ∙ length-overlaid ps vs 0 (map view ds) ∙ length-map ds view in
    let there : slice_get (map view ds) i ≡ Some (view (get_or ds i v)) = slice_get-map view ds i ∙ ap (option_map view) (slice_get-get_or ds i v (omega (arith, lt, many))) in
    let on : 0 + i ≡ i = omega arith in
    ap (λ es. slice_get es i) are ∙ overlaid_at ps vs 0 (map view ds) i (view (get_or ds i v)) there ∙ ap (λ n. Some (given_at ps vs n (view (get_or ds i v)))) on ∙ ap (λ (d : Data). Some d) is

pub field_within : (fs : List Data) (ps : List ℕ) (vs : List Data) (ds : List Value) → fs ≡ overlaid ps vs 0 (map view ds) → (i : ℕ) → i < length fs → i < length ds
field_within fs ps vs ds are i lt = omega (arith, lt, ap length are, length-overlaid ps vs 0 (map view ds), length-map ds view)

-- what stands at a position of what is seen
pub seen_there : (vs : List Value) (k : ℕ) (v : Value) (d : Data) → slice_get vs k ≡ Some v → get_or (map view vs) k d ≡ view v
seen_there vs k v d is = get_or_from_slice_get (map view vs) k (view v) d (slice_get-map view vs k ∙ ap (option_map view) is)
