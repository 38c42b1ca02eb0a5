-- The elements of an array, one by one.
use Rattle.std.proofs.Common.{◌≡◌, ℕ, ◌+◌, ◌<◌, suc, zero, List, [], ◌∷◌, ◌++◌, Some, length, get_or, slice_get, take, map, sym, ap, subst, ◌∙◌, arith}
use Rattle.std.proofs.lemmas.List.{map-append, map_more}
use Rattle.std.proofs.lemmas.Option.{slice_get_within, get_or_from_slice_get}
use Rattle.serde_json.specs.Data as json
use Rattle.serde_json.specs.View.{view as json_view}
use Rattle.serde_json.specs.declared.value.Value.{Value as Json}
use Rattle.aidl_schema.specs.declared.schema.Decl.{Decl}
use Rattle.aidl_schema.specs.declared.schema.AidlType.{AidlType}
use Rattle.aidl_values.specs.Data.{Data}
use Rattle.aidl_values.specs.HasType.{HasType, HaveType}
use Rattle.aidl_values.specs.View.{items_of}
use Rattle.json_writing.specs.Json.{json_of}

module _ (S : List Decl) (t : AidlType) where
  typed_at : (ds : List Data) (i : ℕ) (d : Data) → HaveType S t (items_of ds) → i < length ds → HasType S t (get_or ds i d)
  typed_at [] i d typed lies = absurd (omega (arith, lies))
  typed_at (e ∷ ds) zero d typed lies = typed.0
  typed_at (e ∷ ds) (suc i) d typed lies = typed_at ds i d typed.1 (omega (arith, lies))

  -- each has the elements' type
  pub element_typed : (later : List Decl) (ds : List Data) (i : ℕ) (d : Data) → later ≡ S → slice_get ds i ≡ Some d → HaveType S t (items_of ds) → HasType later t d
  element_typed later ds i d same here typed =
      subst (λ (z : List Decl). HasType z t d) (sym same) (subst (λ (e : Data). HasType S t e) (get_or_from_slice_get ds i d d here) (typed_at ds i d typed (slice_get_within ds i d here)))

  -- one element more, in front of what is left
  pub written_more : (ds : List Data) (i : ℕ) (d : Data) (js new : List Json) (j : Json) → slice_get ds i ≡ Some d → new ≡ js ++ j ∷ [] → json_view j ≡ json_of S t d
      → map json_view js ≡ map (λ e. json_of S t e) (take i ds) → map json_view new ≡ map (λ e. json_of S t e) (take (i + 1) ds)
  written_more ds i d js new j here put is so_far =
      let written : Data → json.Data = λ e. json_of S t e in
      ap (map json_view) put ∙ map-append json_view js (j ∷ []) ∙ ap (λ es. es ++ json_view j ∷ []) so_far
      ∙ ap (λ e. map written (take i ds) ++ e ∷ []) (is ∙ ap written (sym (get_or_from_slice_get ds i d d here)))
      ∙ sym (map_more written ds i d (slice_get_within ds i d here))
