-- What stands at the first place of a name.
use Rattle.std.proofs.Common.{◌≡◌, ℕ, zero, suc, ◌+◌, ◌<◌, ◌≤◌, Bool, true, false, cond, List, [], ◌∷◌, length, Option, Some, None, slice_get, is_some, Ok, refl, sym, ap, ◌∙◌, arith, add-one}
use Rattle.std.specs.Prelude.{◌||◌, if◌then◌else◌}
use Rattle.std.specs.List.{list_any, position_from}
use Rattle.std.proofs.lemmas.Iterator.Adapters.{position_from-zero}
use Rattle.serde_json.specs.Data as json
use Rattle.aidl_schema.specs.declared.schema.AidlType.{AidlType}
use Rattle.aidl_schema.specs.declared.schema.Enumerator.{Enumerator}
use Rattle.aidl_schema.specs.declared.schema.Field.{Field}
use Rattle.aidl_schema.specs.Same.{same_text}
use Rattle.aidl_values.specs.Data.{Data, number}
use Rattle.json_writing.specs.Named.{bytes_of}
use Rattle.json_values.specs.FromJson.{alternative_from, has_name}
use Rattle.json_values.specs.Refusal.{Answer, refuse, unknown_enumerator, unknown_key, escaped, within}
use Rattle.json_values.specs.Scalars.{enumerator_from}
use Rattle.json_values.specs.steps.Levels.{chosen_from}
use Rattle.json_values.specs.steps.Tables.{enumerator_place, field_place}

module _ {X : Type 0} (is_it : X → Bool) where
  place_later : (b : Bool) (k m : ℕ) (rest : Option ℕ) → cond b (Some k) rest ≡ Some m → (rest ≡ Some m → k ≤ m) → k ≤ m
  place_later true k m rest e later = let same : k ≡ m = cc in omega (arith, same)
  place_later false k m rest e later = later e

  -- a place is not before the first one
  from_first : (k : ℕ) (xs : List X) (m : ℕ) → position_from is_it k xs ≡ Some m → k ≤ m
  from_first k [] m e = cc
  from_first k (x ∷ xs) m e = place_later (is_it x) k m (position_from is_it (k + 1) xs) e (λ at. let le = from_first (k + 1) xs m at in omega (arith, le))

  place_within : (b : Bool) (k m n : ℕ) (rest : Option ℕ) → cond b (Some k) rest ≡ Some m → (rest ≡ Some m → m < k + 1 + n) → m < k + suc n
  place_within true k m n rest e later = let same : k ≡ m = cc in omega (arith, same)
  place_within false k m n rest e later = let lt = later e in omega (arith, lt)

  -- nor behind the last one
  to_last : (k : ℕ) (xs : List X) (m : ℕ) → position_from is_it k xs ≡ Some m → m < k + length xs
  to_last k [] m e = cc
  to_last k (x ∷ xs) m e = place_within (is_it x) k m (length xs) (position_from is_it (k + 1) xs) e (λ at. to_last (k + 1) xs m at)

  -- an item passes where one stands at a place
  any_placed : (k : ℕ) (xs : List X) → list_any is_it xs ≡ is_some (position_from is_it k xs)
  any_placed k [] = refl
  any_placed k (x ∷ xs) = by (is_it x) (any_placed (k + 1) xs)
    where
      by : (b : Bool) → list_any is_it xs ≡ is_some (position_from is_it (k + 1) xs) → (b || list_any is_it xs) ≡ is_some (cond b (Some k) (position_from is_it (k + 1) xs))
      by true e = refl
      by false e = e

-- enumerators
abbrev is_called : List ℕ → Enumerator → Bool
is_called s e = same_text (bytes_of e.name) s

enumerator_from_place : (s : List ℕ) (k : ℕ) (es : List Enumerator) (m i : ℕ) (e : Enumerator) → position_from (is_called s) k es ≡ Some m → m ≡ k + i → slice_get es i ≡ Some e → enumerator_from es s ≡ Ok (number e.value)
enumerator_from_place s k [] m i e placed is at = cc
enumerator_from_place s k (g ∷ es) m i e placed is at = by (is_called s g) i placed is at (λ l here n found. enumerator_from_place s (k + 1) es m l e here n found)
  where
    by : (b : Bool) (i : ℕ) → cond b (Some k) (position_from (is_called s) (k + 1) es) ≡ Some m → m ≡ k + i → slice_get (g ∷ es) i ≡ Some e
        → ((l : ℕ) → position_from (is_called s) (k + 1) es ≡ Some m → m ≡ k + 1 + l → slice_get es l ≡ Some e → enumerator_from es s ≡ Ok (number e.value))
        → (if b then Ok (number g.value) else enumerator_from es s) ≡ Ok (number e.value)
    by true zero here n found later = let same : g ≡ e = cc in ap (λ (h : Enumerator). Ok (number h.value)) same
    by true (suc i) here n found later = let same : k ≡ m = cc in absurd (omega (arith, same, n))
    by false zero here n found later = let le = from_first (is_called s) (k + 1) es m here in absurd (omega (arith, le, n))
    by false (suc i) here n found later = later i here (omega (arith, n)) found

enumerator_from_none : (s : List ℕ) (k : ℕ) (es : List Enumerator) → position_from (is_called s) k es ≡ None → enumerator_from es s ≡ refuse unknown_enumerator
enumerator_from_none s k [] placed = refl
enumerator_from_none s k (g ∷ es) placed = by (is_called s g) placed (λ here. enumerator_from_none s (k + 1) es here)
  where
    by : (b : Bool) → cond b (Some k) (position_from (is_called s) (k + 1) es) ≡ None → (position_from (is_called s) (k + 1) es ≡ None → enumerator_from es s ≡ refuse unknown_enumerator)
        → (if b then Ok (number g.value) else enumerator_from es s) ≡ refuse unknown_enumerator
    by true here later = cc
    by false here later = later here

pub enumerator_lies : (s : List ℕ) (es : List Enumerator) (m : ℕ) → Some m ≡ enumerator_place s es → m < length es
enumerator_lies s es m e = let lt = to_last (is_called s) 0 es m (sym (e ∙ position_from-zero (is_called s) es)) in omega (arith, lt)

pub enumerator_placed : (s : List ℕ) (es : List Enumerator) (m : ℕ) (e : Enumerator) → Some m ≡ enumerator_place s es → slice_get es m ≡ Some e → enumerator_from es s ≡ Ok (number e.value)
enumerator_placed s es m e placed at = enumerator_from_place s 0 es m m e (sym (placed ∙ position_from-zero (is_called s) es)) (omega arith) at

pub enumerator_missing : (s : List ℕ) (es : List Enumerator) → None ≡ enumerator_place s es → enumerator_from es s ≡ refuse unknown_enumerator
enumerator_missing s es none = enumerator_from_none s 0 es (sym (none ∙ position_from-zero (is_called s) es))

-- fields
module _ (key : List ℕ) where
  abbrev is_named : Field → Bool
  is_named f = has_name key f

  pub field_lies : (fs : List Field) (m : ℕ) → Some m ≡ field_place key fs → m < length fs
  field_lies fs m e = let lt = to_last is_named 0 fs m (sym (e ∙ position_from-zero is_named fs)) in omega (arith, lt)

  pub field_known : (fs : List Field) (o : Option ℕ) → o ≡ field_place key fs → is_some o ≡ list_any (λ f. has_name key f) fs
  field_known fs o e = ap is_some (e ∙ position_from-zero is_named fs) ∙ sym (any_placed is_named 0 fs)

  module _ (read : AidlType → json.Data → Answer Data) (j : json.Data) where
    alternative_from_place : (k : ℕ) (fs : List Field) (m i : ℕ) (f : Field) → position_from is_named k fs ≡ Some m → m ≡ k + i → slice_get fs i ≡ Some f → chosen_from read m f key j ≡ alternative_from read k fs key j
    alternative_from_place k [] m i f placed is at = cc
    alternative_from_place k (g ∷ fs) m i f placed is at =
        by (is_named g) i placed is at (λ l here n found. alternative_from_place (k + 1) fs m l f here n found ∙ ap (λ x. alternative_from read x fs key j) (add-one k))
      where
        by : (b : Bool) (i : ℕ) → cond b (Some k) (position_from is_named (k + 1) fs) ≡ Some m → m ≡ k + i → slice_get (g ∷ fs) i ≡ Some f
            → ((l : ℕ) → position_from is_named (k + 1) fs ≡ Some m → m ≡ k + 1 + l → slice_get fs l ≡ Some f → chosen_from read m f key j ≡ alternative_from read (suc k) fs key j)
            → chosen_from read m f key j ≡ (if b then chosen_from read k g key j else alternative_from read (suc k) fs key j)
        by true zero here n found later = let same : m ≡ k = cc in let first : f ≡ g = cc in ap (λ x. chosen_from read x f key j) same ∙ ap (λ (h : Field). chosen_from read k h key j) first
        by true (suc i) here n found later = let same : k ≡ m = cc in absurd (omega (arith, same, n))
        by false zero here n found later = let le = from_first is_named (k + 1) fs m here in absurd (omega (arith, le, n))
        by false (suc i) here n found later = later i here (omega (arith, n)) found

    alternative_from_none : (k : ℕ) (fs : List Field) → position_from is_named k fs ≡ None → within (escaped key) (refuse unknown_key) ≡ alternative_from read k fs key j
    alternative_from_none k [] placed = refl
    alternative_from_none k (g ∷ fs) placed = by (is_named g) placed (λ here. alternative_from_none (k + 1) fs here ∙ ap (λ x. alternative_from read x fs key j) (add-one k))
      where
        by : (b : Bool) → cond b (Some k) (position_from is_named (k + 1) fs) ≡ None
            → (position_from is_named (k + 1) fs ≡ None → within (escaped key) (refuse unknown_key) ≡ alternative_from read (suc k) fs key j)
            → within (escaped key) (refuse unknown_key) ≡ (if b then chosen_from read k g key j else alternative_from read (suc k) fs key j)
        by true here later = cc
        by false here later = later here

    pub alternative_placed : (fs : List Field) (m : ℕ) (f : Field) → Some m ≡ field_place key fs → slice_get fs m ≡ Some f → chosen_from read m f key j ≡ alternative_from read 0 fs key j
    alternative_placed fs m f placed at = alternative_from_place 0 fs m m f (sym (placed ∙ position_from-zero is_named fs)) (omega arith) at

    pub alternative_missing : (fs : List Field) → None ≡ field_place key fs → within (escaped key) (refuse unknown_key) ≡ alternative_from read 0 fs key j
    alternative_missing fs none = alternative_from_none 0 fs (sym (none ∙ position_from-zero is_named fs))
