-- Loops over methods and annotations that look at those before, and over rules.
use Rattle.std.proofs.Common.{◌≡◌, ◌+◌, ◌<◌, ℕ, Bool, true, false, not, ◌||◌, List, [], ◌∷◌, ◌++◌, map, length, take, get_or, add-one, append_assoc, Option, Some, None, option_map, Result, OnOk, refl, ◌∙◌, ap, subst}
use Rattle.std.specs.List.{list_any, slice_get}
use Rattle.std.proofs.lemmas.Option.{slice_get-map}
use Rattle.std.proofs.lemmas.List.{map-append}
use Rattle.std.proofs.lemmas.List.Folds.{list_any-append}
use Rattle.aidl_syntax.specs.declared.token.Token.{Token}
use Rattle.aidl_syntax.specs.Trees.{Method}
use Rattle.declared_names.proofs.lemmas.Earlier.{take-next}
use Rattle.declared_names.specs.Declarations.{Entry}
use Rattle.type_uses.specs.Bases.{is_fixed_entry, is_fixed_number}
use Rattle.type_uses.specs.Ids.{is_id, number_of}
use Rattle.type_rules.specs.IdRules.{has_value, is_bad_token, is_taken}

-- only what is held decides
pub token-same : (some : Bool) (f g : ℕ → Bool) → ((n : ℕ) → f n ≡ g n) → (id : Option Token) → is_bad_token some f id ≡ is_bad_token some g id
token-same some f g same None = refl
token-same some f g same (Some t) = ap (λ b. not (is_id t) || b) (same (number_of t))

or-false : (b : Bool) → (b || false) ≡ b
or-false true = refl
or-false false = refl

-- one more id is taken
pub taken-next : (ms : List Method) (i : ℕ) (m : Method) → i < length ms → m ≡ get_or ms i m → (n : ℕ) → is_taken (take (i + 1) ms) n ≡ (is_taken (take i ms) n || has_value n m.id)
taken-next ms i m lt is n =
    let has = λ (x : Method). has_value n x.id in
    ap (λ (j : ℕ). list_any has (take j ms)) (add-one i) ∙ ap (list_any has) (take-next ms i m lt is) ∙ list_any-append has (take i ms) (m ∷ []) ∙ ap (λ b. list_any has (take i ms) || b) (or-false (has_value n m.id))

-- whether the declaration with a number has `@FixedSize`, by a list that says it of each
abbrev by_list : Option Bool → Bool
by_list None = false
by_list (Some b) = b

fixed_by : (entries : List Entry) (n : ℕ) → by_list (slice_get (map is_fixed_entry entries) n) ≡ is_fixed_number entries n
fixed_by entries n = ap by_list (slice_get-map is_fixed_entry entries n) ∙ go (slice_get entries n)
  where
    go : (o : Option Entry) → by_list (option_map is_fixed_entry o) ≡ (elim o [ None ↦ false | Some e ↦ is_fixed_entry e ])
    go None = refl
    go (Some e) = refl

pub fixed_some : (entries : List Entry) (fixed : List Bool) (n : ℕ) (b : Bool) → fixed ≡ map is_fixed_entry entries → Some b ≡ slice_get fixed n → b ≡ is_fixed_number entries n
fixed_some entries fixed n b is at = ap by_list at ∙ ap (λ bs. by_list (slice_get bs n)) is ∙ fixed_by entries n

pub fixed_none : (entries : List Entry) (fixed : List Bool) (n : ℕ) → fixed ≡ map is_fixed_entry entries → None ≡ slice_get fixed n → false ≡ is_fixed_number entries n
fixed_none entries fixed n is at = ap by_list at ∙ ap (λ bs. by_list (slice_get bs n)) is ∙ fixed_by entries n
