-- The first position of a name, where the list begins at position 0.
use Rattle.std.proofs.Common.{◌≡◌, ℕ, ◌+◌, ◌<◌, ◌≤◌, true, cond, List, ◌∷◌, length, drop, get_or, Option, Some, None, sym, ap, ◌∙◌}
use Rattle.std.proofs.lemmas.List.{drop_more, drop_all}
use Rattle.std.proofs.lemmas.Iterator.Adapters.{position_from-zero}
use Rattle.aidl_base.specs.declared.name.Ident.{Ident}
use Rattle.name_tables.specs.Places.{has_name, place_in}
use Rattle.name_tables.specs.steps.Tables.{place_from}

module _ {M : Type 0} (called : M → Ident) (ms : List M) (q : List ℕ) where
  pub found : (o : Option ℕ) → o ≡ place_from called q 0 ms → o ≡ place_in called q ms
  found o e = e ∙ sym (position_from-zero (λ m. has_name called q m) ms)

  -- where what is left decides, and its first member has the name
  pub found_here : (i : ℕ) (m : M) → i < length ms → m ≡ get_or ms i m → has_name called q m ≡ true → place_from called q i (drop i ms) ≡ place_from called q 0 ms → Some i ≡ place_in called q ms
  found_here i m lt is test left =
      let at : drop i ms ≡ m ∷ drop (i + 1) ms = drop_more ms i m lt ∙ ap (λ y. y ∷ drop (i + 1) ms) (sym is) in
      found (Some i) (sym (ap (λ t. cond t (Some i) (place_from called q (i + 1) (drop (i + 1) ms))) test) ∙ sym (ap (place_from called q i) at) ∙ left)

  -- where none is left
  pub found_none : (i : ℕ) → length ms ≤ i → place_from called q i (drop i ms) ≡ place_from called q 0 ms → None ≡ place_in called q ms
  found_none i le left = found None (sym (ap (place_from called q i) (drop_all i ms le)) ∙ left)
