-- Elements and fields as JSON, one by one.
use Rattle.std.proofs.Common.{◌≡◌, ℕ, ◌+◌, ◌<◌, List, [], ◌∷◌, length, drop, get_or, map, Some, slice_get, refl, sym, ap, ◌∙◌}
use Rattle.std.proofs.lemmas.List.{drop_more}
use Rattle.serde_json.specs.Data.{Data, Members, item, put}
use Rattle.serde_json.specs.View.{view as json_view, items_of as json_items_of, items_view}
use Rattle.serde_json.specs.declared.value.Value.{Value as Json}
use Rattle.aidl_schema.specs.declared.schema.Decl.{Decl}
use Rattle.aidl_schema.specs.declared.schema.Field.{Field}
use Rattle.aidl_schema.specs.declared.schema.AidlType.{AidlType}
use Rattle.aidl_values.specs.Data as value
use Rattle.aidl_values.specs.View.{items_of}
use Rattle.aidl_values.proofs.lemmas.Nexts.{next_of_rest}
use Rattle.json_writing.specs.Json.{json_of, json_items, json_members}
use Rattle.json_writing.specs.Named.{bytes_of}

one_by_one : (S : List Decl) (t : AidlType) (ds : List value.Data) → json_items_of (map (λ d. json_of S t d) ds) ≡ json_items S t (items_of ds)
one_by_one S t [] = refl
one_by_one S t (d ∷ ds) = ap (item (json_of S t d)) (one_by_one S t ds)

-- values that are seen as the elements' JSON, as items
pub json_items-datas : (S : List Decl) (t : AidlType) (ds : List value.Data) (js : List Json) → map json_view js ≡ map (λ d. json_of S t d) ds → items_view js ≡ json_items S t (items_of ds)
json_items-datas S t ds js same = ap json_items_of same ∙ one_by_one S t ds

-- a field goes in before those behind it
pub field_put : (S : List Decl) (fs : List Field) (vs : List value.Data) (i : ℕ) (f : Field) (v : value.Data) (name : List ℕ) (d : Data) (later now : Members) → i < length fs
    → f ≡ get_or fs i f → slice_get vs i ≡ Some v → name ≡ bytes_of f.name → d ≡ json_of S f.ty v → now ≡ put name d later
    → later ≡ json_members S (drop (i + 1) fs) (items_of (drop (i + 1) vs)) → now ≡ json_members S (drop i fs) (items_of (drop i vs))
field_put S fs vs i f v name d later now lies is there called written new rest =
    new ∙ ap (λ (n : List ℕ). put n d later) called ∙ ap (λ (e : Data). put (bytes_of f.name) e later) written ∙ ap (put (bytes_of f.name) (json_of S f.ty v)) rest
    ∙ sym (ap (λ gs. json_members S gs (items_of (drop i vs))) (drop_more fs i f lies ∙ ap (λ g. g ∷ drop (i + 1) fs) (sym is))
    ∙ ap (λ ws. json_members S (f ∷ drop (i + 1) fs) (items_of ws)) (next_of_rest vs i v there))
