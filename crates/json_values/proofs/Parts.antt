-- The definition of reading, as the code goes through it.
use Rattle.std.proofs.Common.{◌≡◌, ℕ, zero, suc, ◌+◌, ◌<◌, ◌≤◌, Bool, false, ◌&&◌, List, [], ◌∷◌, ◌++◌, get_or, drop, length, Ok, decimal, refl, sym, ap, ◌∙◌, add-one}
use Rattle.std.proofs.lemmas.List.{at_drop_more, at_drop_all}
use Rattle.serde_json.specs.Data as json
use Rattle.serde_json.specs.Find.{get_member}
use Rattle.serde_json.specs.View.{view as json_view, items_view}
use Rattle.serde_json.specs.declared.value.Value.{Value as Json}
use Rattle.aidl_schema.specs.declared.schema.Decl.{Decl}
use Rattle.aidl_schema.specs.declared.schema.Field.{Field}
use Rattle.aidl_schema.specs.declared.schema.AidlType.{AidlType}
use Rattle.aidl_schema.specs.Types.{is_one, elem}
use Rattle.aidl_values.specs.Data.{Data}
use Rattle.aidl_values.specs.View.{items_of}
use Rattle.json_values.specs.FromJson.{from_by, from_json_of, is_null, sequence_from, elements_from, items_from, fields_from, field_from}
use Rattle.json_writing.specs.Named.{bytes_of}
use Rattle.json_values.specs.Refusal.{Answer, within, escaped}
use Rattle.aidl_values.proofs.lemmas.Fronts.{onto-none, with_front}
use Rattle.aidl_values.proofs.lemmas.Levels.{level_left}
use Rattle.json_values.proofs.Loops.{goes_on}
use Rattle.json_values.specs.steps.Levels.{part_from, default_of}
use Rattle.aidl_values.specs.steps.Levels.{is_level_left}

pub from_json_of-by : (S : List Decl) (d : ℕ) (t : AidlType) (j : json.Data) → from_by S (is_level_left d) (λ f. default_of S d f) (λ u k. part_from S d u k) t j ≡ from_json_of S d t j
unfolding from_json_of
from_json_of-by S zero t j = refl
from_json_of-by S (suc d) t j = refl

pub from_by-sequence : (S : List Decl) (left : Bool) (default : Field → Answer Data) (read : AidlType → json.Data → Answer Data) (t : AidlType) (j : json.Data)
    → (t.nullable && is_null j) ≡ false → is_one t.shape ≡ false → sequence_from left (read (elem S t)) j ≡ from_by S left default read t j
from_by-sequence S left default read t j there many = rw (there, many) refl

pub sequence_from-some : (d : ℕ) (read : json.Data → Answer Data) (js : json.Items) → 0 < d → elements_from read js ≡ sequence_from (is_level_left d) read (json.array js)
sequence_from-some d read js some = let left = level_left d some in rw left refl

module _ (read : json.Data → Answer Data) (js : List Json) where
  -- one element more
  pub items_more : (k : ℕ) (j : Json) (ds : List Data) (v : Data) → k < length js → get_or js k j ≡ j → within (decimal k) (read (json_view j)) ≡ Ok v
      → with_front ds (items_from read k (items_view (drop k js))) ≡ with_front (ds ++ v ∷ []) (items_from read (k + 1) (items_view (drop (k + 1) js)))
  items_more k j ds v short here is =
      at_drop_more (λ l. with_front ds (items_from read k (items_view l))) js k j short
      ∙ ap (λ x. with_front ds (items_from read k (items_view (x ∷ drop (k + 1) js)))) here
      ∙ goes_on ds v (within (decimal k) (read (json_view j))) (items_from read (suc k) (items_view (drop (k + 1) js))) is
      ∙ ap (λ n. with_front (ds ++ v ∷ []) (items_from read n (items_view (drop (k + 1) js)))) (sym (add-one k))

  pub items_done : (k : ℕ) (ds : List Data) → length js ≤ k → with_front ds (items_from read k (items_view (drop k js))) ≡ Ok (items_of ds)
  items_done k ds all = at_drop_all (λ l. with_front ds (items_from read k (items_view l))) js k all ∙ ap Ok (onto-none ds)

module _ (default : Field → Answer Data) (read : AidlType → json.Data → Answer Data) (ms : json.Members) (fs : List Field) where
  -- one field more
  pub fields_more : (k : ℕ) (f : Field) (ds : List Data) (v : Data) → k < length fs → get_or fs k f ≡ f
      → within (escaped (bytes_of f.name)) (field_from default read f (get_member (bytes_of f.name) ms)) ≡ Ok v
      → with_front ds (fields_from default read (drop k fs) (λ key. get_member key ms)) ≡ with_front (ds ++ v ∷ []) (fields_from default read (drop (k + 1) fs) (λ key. get_member key ms))
  fields_more k f ds v short here is =
      at_drop_more (λ l. with_front ds (fields_from default read l (λ key. get_member key ms))) fs k f short
      ∙ ap (λ x. with_front ds (fields_from default read (x ∷ drop (k + 1) fs) (λ key. get_member key ms))) here
      ∙ goes_on ds v (within (escaped (bytes_of f.name)) (field_from default read f (get_member (bytes_of f.name) ms))) (fields_from default read (drop (k + 1) fs) (λ key. get_member key ms)) is

  pub fields_done : (k : ℕ) (ds : List Data) → length fs ≤ k → with_front ds (fields_from default read (drop k fs) (λ key. get_member key ms)) ≡ Ok (items_of ds)
  fields_done k ds all = at_drop_all (λ l. with_front ds (fields_from default read l (λ key. get_member key ms))) fs k all ∙ ap Ok (onto-none ds)
