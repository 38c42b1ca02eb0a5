-- Views of truth values and numbers, and which lists of data are the same.
use Rattle.std.proofs.Common.{◌≡◌, ℕ, suc, ◌+◌, Bool, true, false, ◌&&◌, List, [], ◌∷◌, length, map, drop, Some, None, slice_get, refl, sym, ap, ◌∙◌, arith}
use Rattle.aidl_schema.specs.declared.schema.AidlType.{AidlType}
use Rattle.aidl_schema.specs.declared.schema.Decl.{Decl}
use Rattle.aidl_values.specs.Data.{Data, null, truth, number, text, seq, rec, alt}
use Rattle.aidl_values.specs.View.{items_of}
use Rattle.aidl_values.proofs.lemmas.Nexts.{next_of_rest}
use Rattle.wire_model.specs.View.{agree, item_first, view_of, view_items, when}
use Rattle.value_views.specs.steps.Same.{same_data, same_items}
use Rattle.value_views.specs.steps.Seen.{AreThemselves, IsItself}

module _ {X : Type 0} (seen : X → Data) (is : (x : X) → IsItself (seen x)) where
  pub are_themselves : (xs : List X) → AreThemselves (map seen xs)
  are_themselves [] = tt
  are_themselves (x ∷ xs) = (is x, are_themselves xs)

module _ (A : List Decl) (t : AidlType) (B : List Decl) (u : AidlType) where
  itself : (d : Data) → IsItself d → view_of A t B u d ≡ when (agree A t B u) (Some d)
  itself (truth b) h = refl
  itself (number n) h = refl
  itself null h = elim h [ ]
  itself (text x) h = elim h [ ]
  itself (seq vs) h = elim h [ ]
  itself (rec vs) h = elim h [ ]
  itself (alt k v) h = elim h [ ]

  pub all_stay : agree A t B u ≡ true → (ds : List Data) → AreThemselves ds → view_items A t B u (items_of ds) ≡ Some (items_of ds)
  all_stay yes' [] h = refl
  all_stay yes' (d ∷ ds) h = rw (itself d h.0, yes', all_stay yes' ds h.1) refl

  pub none_stay : (ds : List Data) → length ds ≡ 0 → view_items A t B u (items_of ds) ≡ Some (items_of ds)
  none_stay [] e = refl
  none_stay (d ∷ ds) e = cc

  pub none_is_seen : agree A t B u ≡ false → (ds : List Data) → AreThemselves ds → (length ds ≡ 0 → ⊥) → view_items A t B u (items_of ds) ≡ None
  none_is_seen no' [] h some = absurd (some refl)
  none_is_seen no' (d ∷ ds) h some = rw (itself d h.0, no') refl

and_false : (a : Bool) → (a && false) ≡ false
and_false true = refl
and_false false = refl

-- as many on either side, or they differ
pub differ_in_count : (ds es : List Data) → (length ds ≡ length es → ⊥) → same_items (items_of ds) (items_of es) ≡ false
differ_in_count [] [] h = absurd (h refl)
differ_in_count [] (e ∷ es) h = refl
differ_in_count (d ∷ ds) [] h = refl
differ_in_count (d ∷ ds) (e ∷ es) h = rw (differ_in_count ds es (λ e. h (ap suc e))) (and_false (same_data d e))

-- what is left is the same where its first is and the others are
pub first_and_others : (ds es : List Data) (i : ℕ) (d e : Data) (said : Bool) → slice_get ds i ≡ Some d → slice_get es i ≡ Some e → same_data d e ≡ said
    → (said && same_items (items_of (drop (i + 1) ds)) (items_of (drop (i + 1) es))) ≡ same_items (items_of (drop i ds)) (items_of (drop i es))
first_and_others ds es i d e said at there is =
    ap (λ b. b && same_items (items_of (drop (i + 1) ds)) (items_of (drop (i + 1) es))) (sym is)
    ∙ sym (ap (λ fs. same_items (items_of fs) (items_of (drop i es))) (next_of_rest ds i d at) ∙ ap (λ fs. same_items (items_of (d ∷ drop (i + 1) ds)) (items_of fs)) (next_of_rest es i e there))
