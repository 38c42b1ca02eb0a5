-- An exception by the number of its array's entries.
use Rattle.std.proofs.Common.{◌≡◌, ◌<◌, List, [], ◌∷◌, length, Some, None, refl, arith}
use Rattle.serde_json.specs.Data as json
use Rattle.serde_json.specs.View.{view, items_view}
use Rattle.serde_json.specs.declared.value.Value.{Value as Json}
use Rattle.call_scripts.specs.Answers.{thrown_of}
use Rattle.call_scripts.specs.steps.Exceptions.{thrown_by}

pub by_two : (code message : json.Data) → thrown_by code message None ≡ thrown_of (json.array (json.item code (json.item message json.no_items)))
by_two code json.null = refl
by_two code (json.boolean b) = refl
by_two code (json.number n) = refl
by_two code (json.string text) = refl
by_two code (json.array js) = refl
by_two code (json.object ms) = refl

pub by_three : (code message error : json.Data) → thrown_by code message (Some error) ≡ thrown_of (json.array (json.item code (json.item message (json.item error json.no_items))))
by_three code json.null error = refl
by_three code (json.boolean b) error = refl
by_three code (json.number n) error = refl
by_three code (json.string text) error = refl
by_three code (json.array js) error = refl
by_three code (json.object ms) error = refl

by_message : (code message third fourth : json.Data) (rest : json.Items) → None ≡ thrown_of (json.array (json.item code (json.item message (json.item third (json.item fourth rest)))))
by_message code json.null third fourth rest = refl
by_message code (json.boolean b) third fourth rest = refl
by_message code (json.number n) third fourth rest = refl
by_message code (json.string text) third fourth rest = refl
by_message code (json.array js) third fourth rest = refl
by_message code (json.object ms) third fourth rest = refl

pub alone : (js : List Json) → length js ≡ 1 → None ≡ thrown_of (json.array (items_view js))
alone [] h = refl
alone (a ∷ []) h = refl
alone (a ∷ b ∷ js) h = absurd (omega arith)

pub more : (js : List Json) → 3 < length js → None ≡ thrown_of (json.array (items_view js))
more [] h = absurd (omega arith)
more (a ∷ []) h = absurd (omega arith)
more (a ∷ b ∷ []) h = absurd (omega arith)
more (a ∷ b ∷ c ∷ []) h = absurd (omega arith)
more (a ∷ b ∷ c ∷ d ∷ js) h = by_message (view a) (view b) (view c) (view d) (items_view js)
