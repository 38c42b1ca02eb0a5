-- Values that fit their types.
use Rattle.std.proofs.Common.{◌≡◌, ℕ, suc, ◌+◌, ◌<◌, List, [], ◌∷◌, length, get_or, drop, map, refl, ap, ◌∙◌, subst}
use Rattle.std.proofs.lemmas.List.{at_drop_more}
use Rattle.aidl_schema.specs.declared.schema.Decl.{Decl}
use Rattle.aidl_schema.specs.declared.schema.AidlType.{AidlType}
use Rattle.aidl_schema.specs.Types.{no_type}
use Rattle.aidl_values.specs.Fits.{Fits}
use Rattle.aidl_values.specs.View.{view}
use Rattle.aidl_values.specs.declared.value.Value.{Value}
use Rattle.parcel_commands.specs.JsonFile.{AreTyped}

-- there are as many values as types
pub same_count : (S : List Decl) (ts : List AidlType) (vs : List Value) → AreTyped S ts (map view vs) → length ts ≡ length vs
same_count S [] [] h = refl
same_count S [] (v ∷ vs) h = elim h [ ]
same_count S (t ∷ ts) [] h = elim h [ ]
same_count S (t ∷ ts) (v ∷ vs) h = ap suc (same_count S ts vs h.1)

-- the first of those that are left
pub fits_at : (S : List Decl) (ts : List AidlType) (vs : List Value) (i : ℕ) (v : Value) → i < length ts → i < length vs → get_or vs i v ≡ v
    → AreTyped S (drop i ts) (map view (drop i vs)) → Fits S (get_or ts i no_type) (view v)
fits_at S ts vs i v short_ts short_vs is h =
    let left_ts = at_drop_more (λ l. l) ts i no_type short_ts in
    let left_vs = at_drop_more (λ l. l) vs i v short_vs ∙ ap (λ x. x ∷ drop (i + 1) vs) is in
    let both : AreTyped S (get_or ts i no_type ∷ drop (i + 1) ts) (map view (v ∷ drop (i + 1) vs)) =
    subst (λ l. AreTyped S (get_or ts i no_type ∷ drop (i + 1) ts) (map view l)) left_vs (subst (λ l. AreTyped S l (map view (drop i vs))) left_ts h) in
    both.0
