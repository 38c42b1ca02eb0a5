-- A value goes into a map by a text of its own as it goes among values in the order of their texts.
use Rattle.std.proofs.Common.{◌≡◌, ℕ, List, [], ◌∷◌, map, refl, sym, ap, ◌∙◌, subst}
use Rattle.std.specs.Cmp.Lexicographic.{slice_cmp}
use Rattle.std.specs.declared.cmp.Ordering.{Ordering}
use Rattle.std.specs.declared.cmp.Ordering.TheVariants.{Less, Equal, Greater}
use Rattle.std.specs.Ordering.{nat_cmp, match_ordering}
use Rattle.std.specs.FinMap.{slice_cmp-IsAntisymmetric, nat_cmp-IsAntisymmetric}
use Rattle.std.specs.BTreeMap.{insert_entry}
use Rattle.tree_schema.specs.Keyed.{IsKeyed}
use Rattle.tree_schema.proofs.lemmas.walked.Placed.{placed}

module _ {K X V : Type 0} (text : K → List ℕ) (see : X → V) (key : V → List ℕ) where
  abbrev pub seen : K × X → V
  seen e = see e.1

  -- each value stands at its text
  abbrev AreKeyed : List (K × X) → Type 0
  AreKeyed es = IsKeyed text (λ x. key (see x)) es

  -- a value has gone in, and each still stands at its text
  abbrev pub Went : List (K × X) → List V → Type 0
  Went new all = AreKeyed new × (map seen new ≡ all)

  module _ (cmp : K → K → Ordering) (by : (a b : K) → cmp a b ≡ slice_cmp nat_cmp (text a) (text b)) (k : K) (x : X) (is : text k ≡ key (see x)) where
    same_text : (b : K) → cmp k b ≡ Equal → text k ≡ text b
    same_text b h = slice_cmp-IsAntisymmetric nat_cmp-IsAntisymmetric (text k) (text b) (sym (by k b) ∙ h)

    pub inserted : (es : List (K × X)) → AreKeyed es → Went (insert_entry cmp es k x) (placed key (map seen es) (see x))
    inserted [] keyed = ((is, tt), refl)
    inserted (e ∷ es) keyed =
        let w = by_order (cmp k e.0) refl (inserted es keyed.1) in (
          w.0,
          w.1
              ∙ ap (λ o. match_ordering o (see x ∷ seen e ∷ map seen es) (see x ∷ map seen es) (seen e ∷ placed key (map seen es) (see x)))
              (by k e.0 ∙ ap (λ p. slice_cmp nat_cmp p (text e.0)) is ∙ ap (slice_cmp nat_cmp (key (see x))) keyed.0),
        )
      where
        by_order : (o : Ordering) → cmp k e.0 ≡ o → Went (insert_entry cmp es k x) (placed key (map seen es) (see x))
            → Went (match_ordering o ((k, x) ∷ e ∷ es) ((e.0, x) ∷ es) (e ∷ insert_entry cmp es k x))
            (match_ordering o (see x ∷ seen e ∷ map seen es) (see x ∷ map seen es) (seen e ∷ placed key (map seen es) (see x)))
        by_order Less h more = ((is, keyed), refl)
        by_order Equal h more = ((sym (same_text e.0 h) ∙ is, keyed.1), refl)
        by_order Greater h more = ((keyed.0, more.0), ap (λ z. seen e ∷ z) more.1)

    -- one more value goes in
    pub went : (es new : List (K × X)) → new ≡ insert_entry cmp es k x → AreKeyed es → Went new (placed key (map seen es) (see x))
    went es new e keyed = let w = inserted es keyed in (subst AreKeyed (sym e) w.0, ap (map seen) e ∙ w.1)
