-- The strings of a JSON value are texts.
use Rattle.std.proofs.Common.{◌≡◌, true, List, [], ◌∷◌, map, String, Global, string_bytes, sym, subst}
use Rattle.std.proofs.lemmas.Str.{scalars-chars, IsUtf8-string_bytes}
use Rattle.std.specs.Str.{chars, all_scalars}
use Rattle.serde_json.specs.Data as json
use Rattle.serde_json.specs.View.{view as json_view, view_step, items_of, members_of}
use Rattle.serde_json.specs.declared.value.Value.{Value as Json, ind-Value, roll-Value, map-Value, fold-roll-Value}
use Rattle.serde_json.specs.declared.value.Value.TheOpen.{Value-F}

abbrev mutual
  pub HasTexts : json.Data → Type 0
  HasTexts (json.string s) = all_scalars (chars s) ≡ true
  HasTexts (json.array js) = HaveTexts js
  HasTexts (json.object ms) = MembersHaveTexts ms
  HasTexts json.null = Unit {0}
  HasTexts (json.boolean b) = Unit {0}
  HasTexts (json.number n) = Unit {0}

  pub HaveTexts : json.Items → Type 0
  HaveTexts json.no_items = Unit {0}
  HaveTexts (json.item j js) = HasTexts j × HaveTexts js

  pub MembersHaveTexts : json.Members → Type 0
  MembersHaveTexts json.no_members = Unit {0}
  MembersHaveTexts (json.member key j ms) = HasTexts j × MembersHaveTexts ms

each_item : {X : Type 0} (pr : X → Json) → ((x : X) → HasTexts (json_view (pr x))) → (xs : List X) → HaveTexts (items_of (map json_view (map pr xs)))
each_item pr ok [] = tt
each_item pr ok (x ∷ xs) = (ok x, each_item pr ok xs)

each_member : {X : Type 0} (pr : X → Json) → ((x : X) → HasTexts (json_view (pr x))) → (ms : List (String Global × X))
    → MembersHaveTexts (members_of (map (λ (m : String Global × Json). (m.0, json_view m.1)) (map (λ (m : String Global × X). (m.0, pr m.1)) ms)))
each_member pr ok [] = tt
each_member pr ok (m ∷ ms) = (ok m.1, each_member pr ok ms)

layer : {X : Type 0} (pr : X → Json) → ((x : X) → HasTexts (json_view (pr x))) → (y : Value-F X) → HasTexts (view_step (map-Value Json json.Data json_view (map-Value X Json pr y)))
layer pr ok Value-F.Null = tt
layer pr ok (Value-F.Bool b) = tt
layer pr ok (Value-F.Number n) = tt
layer pr ok (Value-F.String s) = scalars-chars (string_bytes s) (IsUtf8-string_bytes s)
layer pr ok (Value-F.Array v) = each_item pr ok v.items
layer pr ok (Value-F.Object m) = each_member pr ok m.entries

pub texts-view : (j : Json) → HasTexts (json_view j)
texts-view j = ind-Value (λ v. HasTexts (json_view v)) (λ x y e. subst (λ z. HasTexts (json_view (roll-Value z))) e (subst HasTexts (sym (fold-roll-Value json.Data view_step _)) (layer (λ s. s.0) (λ s. s.1) y))) j
