-- Reading values one after another: what was read before, and what is still read.
use Rattle.std.proofs.Common.{◌≡◌, ℕ, suc, ◌+◌, ◌<◌, List, [], ◌∷◌, ◌++◌, length, get_or, drop, Ok, Err, decimal, refl, sym, ap, ◌∙◌, add-one, append_assoc}
use Rattle.std.proofs.lemmas.Bool.{eq-eqb, ne_eqb}
use Rattle.std.proofs.lemmas.List.{at_drop_more}
use Rattle.serde_json.specs.Data as json
use Rattle.serde_json.specs.View.{view as json_view, items_view}
use Rattle.serde_json.specs.declared.value.Value.{Value as Json}
use Rattle.aidl_schema.specs.declared.schema.Decl.{Decl}
use Rattle.aidl_schema.specs.declared.schema.AidlType.{AidlType}
use Rattle.aidl_values.specs.Data.{Data}
use Rattle.aidl_values.specs.Fits.{Fits}
use Rattle.json_values.specs.FromJson.{from_json_of}
use Rattle.json_values.specs.Refusal.{Answer, ◌>>=◌, refuse, within, wrong_shape}
use Rattle.parcel_commands.specs.JsonFile.{AreTyped, elements, values_from, values_of}

-- the values read before, and the answer for the rest
abbrev pub onto : List Data → Answer (List Data) → Answer (List Data)
onto ds (Ok vs) = Ok (ds ++ vs)
onto ds (Err r) = Err r

-- the first of some values, and the rest
abbrev first_of : Answer Data → Answer (List Data) → Answer (List Data)
first_of first rest = first >>= (λ v. rest >>= (λ vs. Ok (v ∷ vs)))

read_first : (ds : List Data) (v : Data) (rest : Answer (List Data)) → onto ds (first_of (Ok v) rest) ≡ onto (ds ++ v ∷ []) rest
read_first ds v (Ok vs) = ap Ok (sym (append_assoc ds (v ∷ []) vs))
read_first ds v (Err r) = refl

goes_on : (ds : List Data) (v : Data) (first : Answer Data) (rest : Answer (List Data)) → first ≡ Ok v → onto ds (first_of first rest) ≡ onto (ds ++ v ∷ []) rest
goes_on ds v first rest is = rw is (read_first ds v rest)

module _ (S : List Decl) (ts : List AidlType) (js : List Json) where
  -- what is read from a place on
  abbrev pub left_at : List Data → ℕ → Answer (List Data)
  left_at ds k = onto ds (values_from S k (drop k ts) (items_view (drop k js)))

  here : (k : ℕ) (d : AidlType) (j : Json) (ds : List Data) → k < length ts → k < length js → get_or js k j ≡ j
      → left_at ds k ≡ onto ds (first_of (within (decimal k) (from_json_of S 64 (get_or ts k d) (json_view j))) (values_from S (suc k) (drop (k + 1) ts) (items_view (drop (k + 1) js))))
  here k d j ds short_ts short_js is_j =
      at_drop_more (λ l. onto ds (values_from S k l (items_view (drop k js)))) ts k d short_ts
      ∙ at_drop_more (λ l. onto ds (values_from S k (get_or ts k d ∷ drop (k + 1) ts) (items_view l))) js k j short_js
      ∙ ap (λ x. onto ds (values_from S k (get_or ts k d ∷ drop (k + 1) ts) (items_view (x ∷ drop (k + 1) js)))) is_j

  -- one value more
  pub values_more : (k : ℕ) (d : AidlType) (j : Json) (ds : List Data) (v : Data) → k < length ts → k < length js → get_or js k j ≡ j
      → within (decimal k) (from_json_of S 64 (get_or ts k d) (json_view j)) ≡ Ok v → left_at ds k ≡ left_at (ds ++ v ∷ []) (k + 1)
  values_more k d j ds v short_ts short_js is_j is =
      here k d j ds short_ts short_js is_j
      ∙ goes_on ds v (within (decimal k) (from_json_of S 64 (get_or ts k d) (json_view j))) (values_from S (suc k) (drop (k + 1) ts) (items_view (drop (k + 1) js))) is
      ∙ ap (λ n. onto (ds ++ v ∷ []) (values_from S n (drop (k + 1) ts) (items_view (drop (k + 1) js)))) (sym (add-one k))

-- one value more is typed
pub typed_more : (S : List Decl) (ts : List AidlType) (t : AidlType) (ds : List Data) (v : Data) → AreTyped S ts ds → Fits S t v → AreTyped S (ts ++ t ∷ []) (ds ++ v ∷ [])
typed_more S [] t [] v h fits = (fits, tt)
typed_more S [] t (d ∷ ds) v h fits = absurd h
typed_more S (u ∷ ts) t [] v h fits = absurd h
typed_more S (u ∷ ts) t (d ∷ ds) v h fits = (h.0, typed_more S ts t ds v h.1 fits)

-- there are as many elements as values of JSON
elements_count : (js : List Json) → elements (items_view js) ≡ length js
elements_count [] = refl
elements_count (j ∷ js) = ap suc (elements_count js)

-- as many elements as types, or not
pub values_of-same : (S : List Decl) (ts : List AidlType) (js : List Json) → length ts ≡ length js → values_of S ts (json.array (items_view js)) ≡ values_from S 0 ts (items_view js)
values_of-same S ts js same = let test = eq-eqb (length ts) (elements (items_view js)) (same ∙ sym (elements_count js)) in rw test refl

pub values_of-other : (S : List Decl) (ts : List AidlType) (js : List Json) → (length ts ≡ length js → ⊥) → values_of S ts (json.array (items_view js)) ≡ refuse wrong_shape
values_of-other S ts js other = let test = ne_eqb (length ts) (elements (items_view js)) (λ same. other (same ∙ elements_count js)) in rw test refl
