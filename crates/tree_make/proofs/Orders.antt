-- A number goes into a map by its decimal as it goes among numbers in the order of their decimals.
use Rattle.std.proofs.Common.{◌≡◌, ℕ, ◌+◌, List, [], ◌∷◌, map, String, Global, string_bytes, refl, sym, ap, ◌∙◌, subst}
use Rattle.std.specs.Fmt.{decimal}
use Rattle.std.specs.List.{fold, range_with_len}
use Rattle.std.specs.Cmp.Lexicographic.{slice_cmp}
use Rattle.std.specs.declared.cmp.Ordering.{Ordering}
use Rattle.std.specs.declared.cmp.Ordering.TheVariants.{Less, Equal, Greater}
use Rattle.std.specs.Ordering.{nat_cmp, match_ordering}
use Rattle.std.specs.FinMap.{slice_cmp-IsAntisymmetric, nat_cmp-IsAntisymmetric}
use Rattle.std.specs.BTreeMap.{insert_entry}
use Rattle.std.proofs.lemmas.List.Sums.{fold-append}
use Rattle.tree_make.specs.Made.{in_order, put}
use Rattle.tree_make.proofs.Ranges.{range_next}

-- a decimal and its number, as the map holds them
abbrev pub Entry : Type 0
Entry = String Global × ℕ

-- each number stands at its decimal
abbrev pub AreKeyed : List Entry → Type 0
AreKeyed [] = Unit {0}
AreKeyed (e ∷ es) = (string_bytes e.0 ≡ decimal e.1) × AreKeyed es

abbrev pub numbers : List Entry → List ℕ
numbers es = map (λ e. e.1) es

module _ (cmp : String Global → String Global → Ordering) (by : (a b : String Global) → cmp a b ≡ slice_cmp nat_cmp (string_bytes a) (string_bytes b))
    (key : String Global) (k : ℕ) (is : string_bytes key ≡ decimal k) where
  same_decimal : (b : String Global) → cmp key b ≡ Equal → string_bytes key ≡ string_bytes b
  same_decimal b h = slice_cmp-IsAntisymmetric nat_cmp-IsAntisymmetric (string_bytes key) (string_bytes b) (sym (by key b) ∙ h)

  -- a number has gone in, and each still stands at its decimal
  abbrev Went : List Entry → List ℕ → Type 0
  Went new all = AreKeyed new × (numbers new ≡ all)

  inserted : (es : List Entry) → AreKeyed es → Went (insert_entry cmp es key k) (put (numbers es) k)
  inserted [] keyed = ((is, tt), refl)
  inserted (e ∷ es) keyed =
      let w = by_order (cmp key e.0) refl (inserted es keyed.1) in (
        w.0,
        w.1
            ∙ ap (λ o. match_ordering o (k ∷ e.1 ∷ numbers es) (k ∷ numbers es) (e.1 ∷ put (numbers es) k))
            (by key e.0 ∙ ap (λ p. slice_cmp nat_cmp p (string_bytes e.0)) is ∙ ap (slice_cmp nat_cmp (decimal k)) keyed.0),
      )
    where
      by_order : (o : Ordering) → cmp key e.0 ≡ o → Went (insert_entry cmp es key k) (put (numbers es) k)
          → Went (match_ordering o ((key, k) ∷ e ∷ es) ((e.0, k) ∷ es) (e ∷ insert_entry cmp es key k))
          (match_ordering o (k ∷ e.1 ∷ numbers es) (k ∷ numbers es) (e.1 ∷ put (numbers es) k))
      by_order Less h more = ((is, keyed), refl)
      by_order Equal h more = ((sym (same_decimal e.0 h) ∙ is, keyed.1), refl)
      by_order Greater h more = ((keyed.0, more.0), ap (λ z. e.1 ∷ z) more.1)

  -- the next number goes in
  pub next_in : (es new : List Entry) → new ≡ insert_entry cmp es key k → AreKeyed es × (numbers es ≡ in_order k) → AreKeyed new × (numbers new ≡ in_order (k + 1))
  next_in es new e invariant =
      let w = inserted es invariant.0 in (
        subst AreKeyed (sym e) w.0,
        ap numbers e ∙ w.1 ∙ ap (λ js. put js k) invariant.1 ∙ sym (fold-append put [] (range_with_len 0 k) (k ∷ [])) ∙ ap (fold put []) (sym (range_next k)),
      )
