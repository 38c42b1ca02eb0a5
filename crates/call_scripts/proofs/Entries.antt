-- Reading the entries of `args` one after another.
use Rattle.std.proofs.Common.{◌≡◌, ℕ, suc, ◌+◌, ◌<◌, ◌≤◌, List, [], ◌∷◌, ◌++◌, length, get_or, drop, Ok, Err, refl, sym, ap, ◌∙◌, subst, add-one, arith}
use Rattle.std.proofs.lemmas.List.{at_drop_more, at_drop_all}
use Rattle.serde_json.specs.View.{view as json_view, items_view}
use Rattle.serde_json.specs.declared.value.Value.{Value as Json}
use Rattle.aidl_schema.specs.declared.schema.Arg.{Arg}
use Rattle.aidl_schema.specs.declared.schema.Decl.{Decl}
use Rattle.aidl_values.specs.Data.{Data, Items, none, item}
use Rattle.aidl_values.specs.View.{items_of}
use Rattle.wire_model.specs.Requests.{ArgumentFits, ArgumentsFit, asked_length, sum_of_lengths}
use Rattle.call_scripts.specs.Arguments.{entries_from, entry_from}
use Rattle.call_scripts.specs.Refusal.{Judged, Refusal, ◌>>=◌, at_entry}
use Rattle.aidl_values.proofs.lemmas.Fronts.{front_more, onto, onto-none, onto-push, with_front}

module _ (S : List Decl) (xs : List Arg) (js : List Json) where
  -- what comes of the entries from a place on
  abbrev pub left_at : List Data → ℕ → ℕ → Judged Items
  left_at ds k sum = with_front ds (entries_from S k sum (drop k xs) (items_view (drop k js)))

  -- what fits the arguments that are left completes what was read
  abbrev pub FitSoFar : List Data → ℕ → Type 0
  FitSoFar ds k = (rest : Items) → ArgumentsFit S (drop k xs) rest → ArgumentsFit S xs (onto ds rest)

  abbrev pub SumSoFar : List Data → ℕ → ℕ → Type 0
  SumSoFar ds k sum = (rest : Items) → sum + sum_of_lengths (drop k xs) rest ≡ sum_of_lengths xs (onto ds rest)

  module _ (k : ℕ) (a : Arg) (j : Json) (ds : List Data) (sum : ℕ) (short_xs : k < length xs) (short_js : k < length js) (is_a : get_or xs k a ≡ a) (is_j : get_or js k j ≡ j) where
    left_xs : drop k xs ≡ a ∷ drop (k + 1) xs
    left_xs = at_drop_more (λ l. l) xs k a short_xs ∙ ap (λ x. x ∷ drop (k + 1) xs) is_a

    left_js : drop k js ≡ j ∷ drop (k + 1) js
    left_js = at_drop_more (λ l. l) js k j short_js ∙ ap (λ x. x ∷ drop (k + 1) js) is_j

    here : left_at ds k sum ≡ with_front ds (entries_from S k sum (a ∷ drop (k + 1) xs) (items_view (j ∷ drop (k + 1) js)))
    here = ap (λ l. with_front ds (entries_from S k sum l (items_view (drop k js)))) left_xs ∙ ap (λ l. with_front ds (entries_from S k sum (a ∷ drop (k + 1) xs) (items_view l))) left_js

    -- one more is read
    pub entries_more : (v : Data) → entry_from S sum (at_entry k) a (json_view j) ≡ Ok v → left_at ds k sum ≡ left_at (ds ++ v ∷ []) (k + 1) (sum + asked_length a v)
    entries_more v is =
        let rest = entries_from S (suc k) (sum + asked_length a v) (drop (k + 1) xs) (items_view (drop (k + 1) js)) in
        let one : entries_from S k sum (a ∷ drop (k + 1) xs) (items_view (j ∷ drop (k + 1) js)) ≡ (rest >>= (λ vs. Ok (item v vs))) = rw is refl in
        here ∙ ap (with_front ds) one ∙ front_more ds v rest
        ∙ ap (λ n. with_front (ds ++ v ∷ []) (entries_from S n (sum + asked_length a v) (drop (k + 1) xs) (items_view (drop (k + 1) js)))) (sym (add-one k))

    -- one is refused
    pub entries_stop : (r : Refusal) → entry_from S sum (at_entry k) a (json_view j) ≡ Err r → left_at ds k sum ≡ Err r
    entries_stop r is =
        let one : entries_from S k sum (a ∷ drop (k + 1) xs) (items_view (j ∷ drop (k + 1) js)) ≡ Err r = rw is refl in
        here ∙ ap (with_front ds) one

    pub fit_more : (v : Data) → FitSoFar ds k → ArgumentFits S a v → FitSoFar (ds ++ v ∷ []) (k + 1)
    fit_more v h fits rest more =
        subst (ArgumentsFit S xs) (sym (onto-push ds v rest)) (h (item v rest) (subst (λ l. ArgumentsFit S l (item v rest)) (sym left_xs) (fits, more)))

    pub sum_more : (v : Data) → SumSoFar ds k sum → SumSoFar (ds ++ v ∷ []) (k + 1) (sum + asked_length a v)
    sum_more v h rest =
        let before = h (item v rest) in
        let one = ap (λ l. sum_of_lengths l (item v rest)) left_xs in
        let pushed = ap (sum_of_lengths xs) (onto-push ds v rest) in
        omega (arith, before, one, pushed)

  -- all are read
  pub entries_done : (k : ℕ) (ds : List Data) (sum : ℕ) → length xs ≤ k → left_at ds k sum ≡ Ok (items_of ds)
  entries_done k ds sum all = at_drop_all (λ l. with_front ds (entries_from S k sum l (items_view (drop k js)))) xs k all ∙ ap Ok (onto-none ds)

  pub fit_done : (k : ℕ) (ds : List Data) → length xs ≤ k → FitSoFar ds k → ArgumentsFit S xs (items_of ds)
  fit_done k ds all h = subst (ArgumentsFit S xs) (onto-none ds) (h none (subst (λ l. ArgumentsFit S l none) (sym (at_drop_all (λ l. l) xs k all)) tt))

  pub sum_done : (k : ℕ) (ds : List Data) (sum : ℕ) → length xs ≤ k → SumSoFar ds k sum → sum_of_lengths xs (items_of ds) ≡ sum
  sum_done k ds sum all h =
      let whole = h none in
      let left = ap (λ l. sum_of_lengths l none) (at_drop_all (λ l. l) xs k all) in
      let same = ap (sum_of_lengths xs) (onto-none ds) in
      omega (arith, whole, left, same)
