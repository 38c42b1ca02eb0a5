-- An item goes into a map by its place as it goes into the items in order.
use Rattle.std.proofs.Common.{◌≡◌, ℕ, ◌+◌, ◌<◌, List, [], ◌∷◌, map, length, get_or, drop, drop-cons, add-one, refl, sym, ap, ◌∙◌, subst}
use Rattle.std.specs.List.{fold}
use Rattle.std.specs.declared.cmp.Ordering.{Ordering}
use Rattle.std.specs.declared.cmp.Ordering.TheVariants.{Less, Equal, Greater}
use Rattle.std.specs.Ordering.{nat_cmp, ordering_then, match_ordering}
use Rattle.std.specs.FinMap.{nat_cmp-IsAntisymmetric}
use Rattle.std.specs.BTreeMap.{insert_entry}
use Rattle.const_items.specs.declared.item.ItemRef.{ItemRef}
use Rattle.const_items.specs.Items.{Item, put}
use Rattle.const_items.specs.ItemViews.{item_of}

-- a place: a file and an offset in it
abbrev pub Key : Type 0
Key = ℕ × ℕ

abbrev pub key : ItemRef → Key
key x = (x.file, x.place)

abbrev pub seen : Key × ItemRef → Item
seen e = item_of e.1

-- each item stands at its place
abbrev pub IsKeyed : List (Key × ItemRef) → Type 0
IsKeyed [] = Unit {0}
IsKeyed (e ∷ es) = (e.0 ≡ key e.1) × IsKeyed es

equal_by : (a b : Key) (o : Ordering) → nat_cmp a.0 b.0 ≡ o → ordering_then o (nat_cmp a.1 b.1) ≡ Equal → a ≡ b
equal_by a b Less e h = absurd cc
equal_by a b Equal e h = λ i. (nat_cmp-IsAntisymmetric a.0 b.0 e i, nat_cmp-IsAntisymmetric a.1 b.1 h i)
equal_by a b Greater e h = absurd cc

module _ (cmp : Key → Key → Ordering) (by_parts : (a b : Key) → cmp a b ≡ ordering_then (nat_cmp a.0 b.0) (nat_cmp a.1 b.1)) where
  same_key : (a b : Key) → cmp a b ≡ Equal → a ≡ b
  same_key a b h = equal_by a b (nat_cmp a.0 b.0) refl (sym (by_parts a b) ∙ h)

  module _ (x : ItemRef) where
    -- an item has gone in, and each still stands at its place
    abbrev Went : List (Key × ItemRef) → List Item → Type 0
    Went new all = IsKeyed new × (map seen new ≡ all)

    inserted : (es : List (Key × ItemRef)) → IsKeyed es → Went (insert_entry cmp es (key x) x) (put (map seen es) (item_of x))
    inserted [] k = ((refl, tt), refl)
    inserted (e ∷ es) k =
        let w = by_order (cmp (key x) e.0) refl (inserted es k.1) in
        (w.0, w.1 ∙ ap (λ o. match_ordering o (item_of x ∷ seen e ∷ map seen es) (item_of x ∷ map seen es) (seen e ∷ put (map seen es) (item_of x))) (ap (cmp (key x)) k.0 ∙ by_parts (key x) (key e.1)))
      where
        by_order : (o : Ordering) → cmp (key x) e.0 ≡ o → Went (insert_entry cmp es (key x) x) (put (map seen es) (item_of x))
            → Went (match_ordering o ((key x, x) ∷ e ∷ es) ((e.0, x) ∷ es) (e ∷ insert_entry cmp es (key x) x))
            (match_ordering o (item_of x ∷ seen e ∷ map seen es) (item_of x ∷ map seen es) (seen e ∷ put (map seen es) (item_of x)))
        by_order Less h more = ((refl, k), refl)
        by_order Equal h more = ((sym (same_key (key x) e.0 h), k.1), refl)
        by_order Greater h more = ((k.0, more.0), ap (λ z. seen e ∷ z) more.1)

    -- one more item goes in
    pub next_in : (es new : List (Key × ItemRef)) (rows : List ItemRef) (all : List Item) (i : ℕ) → new ≡ insert_entry cmp es (key x) x → i < length rows → x ≡ get_or rows i x
        → IsKeyed es × (fold put (map seen es) (map item_of (drop i rows)) ≡ all) → IsKeyed new × (fold put (map seen new) (map item_of (drop (i + 1) rows)) ≡ all)
    next_in es new rows all i e lt is invariant =
        let w = inserted es invariant.0 in (
          subst IsKeyed (sym e) w.0,
          ap (λ z. fold put (map seen z) (map item_of (drop (i + 1) rows))) e
              ∙ ap (λ z. fold put z (map item_of (drop (i + 1) rows))) w.1
              ∙ ap (λ y. fold put (put (map seen es) (item_of y)) (map item_of (drop (i + 1) rows))) is
              ∙ ap (λ (j : ℕ). fold put (put (map seen es) (item_of (get_or rows i x))) (map item_of (drop j rows))) (add-one i)
              ∙ ap (λ ys. fold put (map seen es) (map item_of ys)) (sym (drop-cons rows i x lt)) ∙ invariant.1,
        )
