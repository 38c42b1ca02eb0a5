-- The members of a map, one by one.
use Rattle.std.proofs.Common.{◌≡◌, ℕ, true, false, List, [], ◌∷◌, length, Option, Some, None, slice_get, IsSome, IfSome, ◌↔◌, ◌<◌, option_map, Bor, String, Global, string_bytes, refl, sym, ap, arith, true≢false}
use Rattle.serde_json.specs.Data as json
use Rattle.serde_json.specs.View.{view as json_view, members_view}
use Rattle.serde_json.specs.declared.value.Value.{Value as Json}
use Rattle.std.specs.List.{list_any}
use Rattle.aidl_schema.specs.declared.schema.Decl.{Decl}
use Rattle.aidl_schema.specs.declared.schema.Field.{Field}
use Rattle.json_values.specs.FromJson.{only_member, unknown_in, has_name}

abbrev pub Entry : Type 0
Entry = String Global × Json

pub only_member-other : (es : List Entry) → (length es ≡ 1 → ⊥) → None ≡ only_member (members_view es)
only_member-other [] apart = refl
only_member-other (e ∷ []) apart = absurd (apart refl)
only_member-other (e ∷ f ∷ es) apart = refl

pub only_member-one : (es : List Entry) (e : Entry) → length es ≡ 1 → slice_get es 0 ≡ Some e → ◌≡◌ {A = Option (List ℕ × json.Data)} (Some (string_bytes e.0, json_view e.1)) (only_member (members_view es))
only_member-one [] e one here = absurd (omega arith)
only_member-one (f ∷ []) e one here = let same : f ≡ e = cc in ap (λ (x : Entry). only_member (members_view (x ∷ []))) (sym same)
only_member-one (f ∷ g ∷ es) e one here = absurd (omega arith)

pub seen_first : (es : List Entry) (r : Option (Bor (String Global) × Bor Json)) → length es ≡ 1 → IsSome r ↔ (0 < length es) → IfSome r (λ p. slice_get es 0 ≡ Some (p.0.now, p.1.now))
    → option_map {U = List ℕ × json.Data} (λ p. (string_bytes p.0.now, json_view p.1.now)) r ≡ only_member (members_view es)
seen_first es None one some first = absurd (true≢false (sym (some.1 (omega arith))))
seen_first es (Some p) one some first = only_member-one es (p.0.now, p.1.now) one first

-- the declarations are the same, and the members that are left decide
pub record IsLeft (S now : List Decl) (fs : List Field) (all rest : List Entry) : Type 0 where
  pub same : now ≡ S
  pub left : unknown_in fs (members_view rest) ≡ unknown_in fs (members_view all)

-- the first key is one of a field, and is not
pub unknown_in-known : (fs : List Field) (es rest : List Entry) (e : Entry) → es ≡ e ∷ rest → list_any (λ f. has_name (string_bytes e.0) f) fs ≡ true
    → unknown_in fs (members_view rest) ≡ unknown_in fs (members_view es)
unknown_in-known fs es rest e is known = rw (is, known) refl

pub unknown_in-first : (fs : List Field) (es rest : List Entry) (e : Entry) → es ≡ e ∷ rest → list_any (λ f. has_name (string_bytes e.0) f) fs ≡ false
    → Some (string_bytes e.0) ≡ unknown_in fs (members_view es)
unknown_in-first fs es rest e is unknown = rw (is, unknown) refl
