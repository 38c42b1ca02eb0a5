-- Values of the types of outs, one after another.
use Rattle.std.proofs.Common.{◌≡◌, ℕ, suc, ◌+◌, ◌<◌, ◌≤◌, List, [], ◌∷◌, ◌++◌, length, get_or, drop, Ok, refl, sym, ap, ◌∙◌, subst, add-one}
use Rattle.std.proofs.lemmas.List.{at_drop_more, at_drop_all}
use Rattle.serde_json.specs.View.{view as json_view, items_view}
use Rattle.serde_json.specs.declared.value.Value.{Value as Json}
use Rattle.aidl_schema.specs.declared.schema.AidlType.{AidlType}
use Rattle.aidl_schema.specs.declared.schema.Decl.{Decl}
use Rattle.aidl_schema.specs.Types.{no_type}
use Rattle.aidl_values.specs.Data.{Data, Items, none, item}
use Rattle.aidl_values.specs.Default.{zero_within}
use Rattle.aidl_values.specs.Fits.{Fits}
use Rattle.aidl_values.specs.View.{items_of}
use Rattle.json_values.specs.FromJson.{from_json_of}
use Rattle.wire_model.specs.Requests.{EachFits}
use Rattle.call_scripts.specs.Answers.{default_outs, values_from}
use Rattle.call_scripts.specs.Refusal.{Judged, ◌>>=◌, at_value, placed}
use Rattle.aidl_values.proofs.lemmas.Fronts.{front_more, onto, onto-none, onto-push, with_front}

module _ (S : List Decl) (ts : List AidlType) where
  -- what fits the types that are left completes what was read
  abbrev pub EachSoFar : List Data → ℕ → Type 0
  EachSoFar ds k = (rest : Items) → EachFits S (drop k ts) rest → EachFits S ts (onto ds rest)

  -- the defaults so far, and those of the types that are left
  abbrev pub defaults_at : List Data → ℕ → Items
  defaults_at ds k = onto ds (default_outs S (drop k ts))

  pub each_done : (ds : List Data) (k : ℕ) → length ts ≤ k → EachSoFar ds k → EachFits S ts (items_of ds)
  each_done ds k all h = subst (EachFits S ts) (onto-none ds) (h none (subst (λ l. EachFits S l none) (sym (at_drop_all (λ l. l) ts k all)) tt))

  pub defaults_done : (ds : List Data) (k : ℕ) → length ts ≤ k → defaults_at ds k ≡ items_of ds
  defaults_done ds k all = ap (λ l. onto ds (default_outs S l)) (at_drop_all (λ l. l) ts k all) ∙ onto-none ds

  module _ (k : ℕ) (ds : List Data) (v : Data) (short : k < length ts) where
    left : drop k ts ≡ get_or ts k no_type ∷ drop (k + 1) ts
    left = at_drop_more (λ l. l) ts k no_type short

    pub each_more : EachSoFar ds k → Fits S (get_or ts k no_type) v → EachSoFar (ds ++ v ∷ []) (k + 1)
    each_more h fits rest more =
        subst (EachFits S ts) (sym (onto-push ds v rest)) (h (item v rest) (subst (λ l. EachFits S l (item v rest)) (sym left) (fits, more)))

    pub defaults_more : v ≡ zero_within 33 S (get_or ts k no_type) → defaults_at ds k ≡ defaults_at (ds ++ v ∷ []) (k + 1)
    defaults_more e =
        ap (λ l. onto ds (default_outs S l)) left ∙ ap (λ w. onto ds (item w (default_outs S (drop (k + 1) ts)))) (sym e)
        ∙ sym (onto-push ds v (default_outs S (drop (k + 1) ts)))

  module _ (js : List Json) where
    -- what comes of the values from a place on
    abbrev pub values_at : List Data → ℕ → Judged Items
    values_at ds k = with_front ds (values_from S k (drop k ts) (items_view (drop k js)))

    pub values_done : (ds : List Data) (k : ℕ) → length ts ≤ k → values_at ds k ≡ Ok (items_of ds)
    values_done ds k all = at_drop_all (λ l. with_front ds (values_from S k l (items_view (drop k js)))) ts k all ∙ ap Ok (onto-none ds)

    module _ (k : ℕ) (j : Json) (ds : List Data) (short : k < length ts) (short_js : k < length js) (is_j : get_or js k j ≡ j) where
      here : values_at ds k ≡ with_front ds (values_from S k (get_or ts k no_type ∷ drop (k + 1) ts) (items_view (j ∷ drop (k + 1) js)))
      here = ap (λ l. with_front ds (values_from S k l (items_view (drop k js)))) (at_drop_more (λ l. l) ts k no_type short)
          ∙ ap (λ l. with_front ds (values_from S k (get_or ts k no_type ∷ drop (k + 1) ts) (items_view l))) (at_drop_more (λ l. l) js k j short_js ∙ ap (λ x. x ∷ drop (k + 1) js) is_j)

      pub values_more : (v : Data) → placed (at_value k) (from_json_of S 64 (get_or ts k no_type) (json_view j)) ≡ Ok v → values_at ds k ≡ values_at (ds ++ v ∷ []) (k + 1)
      values_more v e =
          let rest = values_from S (suc k) (drop (k + 1) ts) (items_view (drop (k + 1) js)) in
          let one : values_from S k (get_or ts k no_type ∷ drop (k + 1) ts) (items_view (j ∷ drop (k + 1) js)) ≡ (rest >>= (λ vs. Ok (item v vs))) = rw e refl in
          here ∙ ap (with_front ds) one ∙ front_more ds v rest
          ∙ ap (λ n. with_front (ds ++ v ∷ []) (values_from S n (drop (k + 1) ts) (items_view (drop (k + 1) js)))) (sym (add-one k))
