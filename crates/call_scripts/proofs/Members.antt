-- The members of a map, one by one.
use Rattle.std.proofs.Common.{◌≡◌, ℕ, true, false, List, ◌∷◌, Some, String, Global, string_bytes, refl}
use Rattle.serde_json.specs.View.{members_view}
use Rattle.serde_json.specs.declared.value.Value.{Value as Json}
use Rattle.std.specs.List.{list_any}
use Rattle.aidl_schema.specs.Same.{same_text}
use Rattle.call_scripts.specs.Answers.{unknown_in}

abbrev pub Entry : Type 0
Entry = String Global × Json

-- the first key is known, and is not
pub unknown_in-known : (known : List (List ℕ)) (es rest : List Entry) (e : Entry) → es ≡ e ∷ rest → list_any (λ k. same_text k (string_bytes e.0)) known ≡ true
    → unknown_in known (members_view rest) ≡ unknown_in known (members_view es)
unknown_in-known known es rest e is found = rw (is, found) refl

pub unknown_in-first : (known : List (List ℕ)) (es rest : List Entry) (e : Entry) → es ≡ e ∷ rest → list_any (λ k. same_text k (string_bytes e.0)) known ≡ false
    → Some (string_bytes e.0) ≡ unknown_in known (members_view es)
unknown_in-first known es rest e is missed = rw (is, missed) refl
