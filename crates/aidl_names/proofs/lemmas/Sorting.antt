-- Breaches in order: they ascend, and they are the same ones.
use Rattle.std.proofs.Common.{◌≡◌, ℕ, zero, suc, ◌<◌, ◌⊎◌, inl, inr, ◌↔◌, List, [], ◌∷◌, length, refl, sym, ap, ◌∙◌, subst, arith}
use Rattle.std.specs.Prelude.{Contains}
use Rattle.std.specs.List.{fold, AllByRecursion}
use Rattle.std.specs.List.Sorted.{IsStrictlySortedBy}
use Rattle.std.specs.FinMap.{nat_cmp-IsAntisymmetric}
use Rattle.std.specs.Cmp.{IsTotalOrder}
use Rattle.std.specs.declared.cmp.Ordering.{Ordering}
use Rattle.std.specs.declared.cmp.Ordering.TheVariants.{Less, Equal, Greater}
use Rattle.std.specs.Ordering.{nat_cmp, match_ordering, ordering_reverse, ordering_then}
use Rattle.std.proofs.lemmas.Cmp.{nat_cmp_total, on_total, then_total}
use Rattle.aidl_base.specs.declared.breach.Breach.{Breach}
use Rattle.aidl_names.specs.Breaches.{order, put, in_order}

order_total : IsTotalOrder order
order_total = then_total (on_total (λ (b : Breach). b.file) nat_cmp_total) (then_total (on_total (λ (b : Breach). b.offset) nat_cmp_total) (on_total (λ (b : Breach). b.rule) nat_cmp_total))

both_equal : (o q : Ordering) → ordering_then o q ≡ Equal → (o ≡ Equal) × (q ≡ Equal)
both_equal Less q e = cc
both_equal Equal q e = (refl, e)
both_equal Greater q e = cc

-- breaches with one place and one rule are one breach
same_breach : (a b : Breach) → order a b ≡ Equal → a ≡ b
same_breach a b e =
    let two = both_equal (nat_cmp a.file b.file) (ordering_then (nat_cmp a.offset b.offset) (nat_cmp a.rule b.rule)) e in
    let more = both_equal (nat_cmp a.offset b.offset) (nat_cmp a.rule b.rule) two.1 in
    alike a.rule a.file a.offset b.rule b.file b.offset (nat_cmp-IsAntisymmetric a.rule b.rule more.1) (nat_cmp-IsAntisymmetric a.file b.file two.0) (nat_cmp-IsAntisymmetric a.offset b.offset more.0)
  where
    breach : ℕ → ℕ → ℕ → Breach
    breach r f o = record { rule = r; file = f; offset = o }

    alike : (r f o s g p : ℕ) → r ≡ s → f ≡ g → o ≡ p → breach r f o ≡ breach s g p
    alike r f o s g p e h i = ap (λ x. breach x f o) e ∙ ap (λ x. breach s x o) h ∙ ap (λ x. breach s g x) i

all_more : (P Q : Breach → Type 0) → ((b : Breach) → P b → Q b) → (bs : List Breach) → AllByRecursion P bs → AllByRecursion Q bs
all_more P Q h [] all = tt
all_more P Q h (b ∷ bs) all = (h b all.0, all_more P Q h bs all.1)

-- what holds of each holds after one has gone in of which it holds
all_put : (P : Breach → Type 0) (cs : List Breach) (b : Breach) → P b → AllByRecursion P cs → AllByRecursion P (put cs b)
all_put P [] b here all = (here, tt)
all_put P (c ∷ cs) b here all = by_order (order b c) (all_put P cs b here all.1)
  where
    by_order : (o : Ordering) → AllByRecursion P (put cs b) → AllByRecursion P (match_ordering o (b ∷ c ∷ cs) (c ∷ cs) (c ∷ put cs b))
    by_order Less later = (here, all)
    by_order Equal later = all
    by_order Greater later = (all.0, later)

put_sorted : (cs : List Breach) (b : Breach) → IsStrictlySortedBy order cs → IsStrictlySortedBy order (put cs b)
unfolding IsStrictlySortedBy
put_sorted [] b sorted = (tt, tt)
put_sorted (c ∷ cs) b sorted = by_order (order b c) refl (put_sorted cs b sorted.1)
  where
    by_order : (o : Ordering) → order b c ≡ o → IsStrictlySortedBy order (put cs b)
        → IsStrictlySortedBy order (match_ordering o (b ∷ c ∷ cs) (c ∷ cs) (c ∷ put cs b))
    by_order Less e later =
        ((e, all_more (λ d. order c d ≡ Less) (λ d. order b d ≡ Less) (λ d h. order_total.trans b c d e h) cs sorted.0), sorted)
    by_order Equal e later = sorted
    by_order Greater e later = (all_put (λ d. order c d ≡ Less) cs b (order_total.antisymm c b ∙ ap ordering_reverse e) sorted.0, later)

fold_sorted : (bs cs : List Breach) → IsStrictlySortedBy order cs → IsStrictlySortedBy order (fold put cs bs)
fold_sorted [] cs sorted = sorted
fold_sorted (b ∷ bs) cs sorted = fold_sorted bs (put cs b) (put_sorted cs b sorted)

pub is_sorted : (bs : List Breach) → IsStrictlySortedBy order (in_order bs)
unfolding IsStrictlySortedBy
is_sorted bs = fold_sorted bs [] tt

-- What a list has: its first, or one of the others.
module _ (x : Breach) where
  here : (b : Breach) (bs : List Breach) → b ≡ x → Contains (b ∷ bs) x
  here b bs e = (zero, omega arith, e)

  later : (b : Breach) (bs : List Breach) → Contains bs x → Contains (b ∷ bs) x
  later b bs h = (suc h.0, omega (arith, h.1), h.2)

  first_or : (b : Breach) (bs : List Breach) → Contains (b ∷ bs) x → (b ≡ x) ⊎ Contains bs x
  first_or b bs (zero, lt, e) = inl e
  first_or b bs (suc k, lt, e) = inr (k, omega arith, e)

  put_has : (cs : List Breach) (b : Breach) → Contains (put cs b) x → (b ≡ x) ⊎ Contains cs x
  put_has [] b h = first_or b [] h
  put_has (c ∷ cs) b h = by_order (order b c) (put_has cs b) h
    where
      by_order : (o : Ordering) → (Contains (put cs b) x → (b ≡ x) ⊎ Contains cs x) → Contains (match_ordering o (b ∷ c ∷ cs) (c ∷ cs) (c ∷ put cs b)) x
          → (b ≡ x) ⊎ Contains (c ∷ cs) x
      by_order Less more h = first_or b (c ∷ cs) h
      by_order Equal more h = inr h
      by_order Greater more h = elim (first_or c (put cs b) h) [
        | inl is ↦ inr (here c cs is)
        | inr among ↦ elim (more among) [ inl is ↦ inl is | inr old ↦ inr (later c cs old) ]
      ]

  put_keeps : (cs : List Breach) (b : Breach) → Contains cs x → Contains (put cs b) x
  put_keeps [] b h = absurd (omega (arith, h.1))
  put_keeps (c ∷ cs) b h = by_order (order b c) (put_keeps cs b)
    where
      by_order : (o : Ordering) → (Contains cs x → Contains (put cs b) x) → Contains (match_ordering o (b ∷ c ∷ cs) (c ∷ cs) (c ∷ put cs b)) x
      by_order Less more = later b (c ∷ cs) h
      by_order Equal more = h
      by_order Greater more = elim (first_or c cs h) [ inl is ↦ here c (put cs b) is | inr old ↦ later c (put cs b) (more old) ]

  put_adds : (cs : List Breach) (b : Breach) → b ≡ x → Contains (put cs b) x
  put_adds [] b is = here b [] is
  put_adds (c ∷ cs) b is = by_order (order b c) refl (put_adds cs b is)
    where
      by_order : (o : Ordering) → order b c ≡ o → Contains (put cs b) x → Contains (match_ordering o (b ∷ c ∷ cs) (c ∷ cs) (c ∷ put cs b)) x
      by_order Less e more = here b (c ∷ cs) is
      by_order Equal e more = here c cs (sym (same_breach b c e) ∙ is)
      by_order Greater e more = later c (put cs b) more

  fold_has : (bs cs : List Breach) → Contains (fold put cs bs) x → Contains cs x ⊎ Contains bs x
  fold_has [] cs h = inl h
  fold_has (b ∷ bs) cs h = elim (fold_has bs (put cs b) h) [
    | inl put_in ↦ elim (put_has cs b put_in) [ inl is ↦ inr (here b bs is) | inr old ↦ inl old ]
    | inr among ↦ inr (later b bs among)
  ]

  fold_keeps : (bs cs : List Breach) → Contains cs x → Contains (fold put cs bs) x
  fold_keeps [] cs h = h
  fold_keeps (b ∷ bs) cs h = fold_keeps bs (put cs b) (put_keeps cs b h)

  fold_adds : (bs cs : List Breach) → Contains bs x → Contains (fold put cs bs) x
  fold_adds [] cs h = absurd (omega (arith, h.1))
  fold_adds (b ∷ bs) cs h = elim (first_or b bs h) [
    | inl is ↦ fold_keeps bs (put cs b) (put_adds cs b is)
    | inr among ↦ fold_adds bs (put cs b) among
  ]

  none_there : Contains [] x → ⊥
  none_there h = omega (arith, h.1)

  pub same_members : (bs : List Breach) → Contains (in_order bs) x ↔ Contains bs x
  same_members bs = (λ h. elim (fold_has bs [] h) [ inl none ↦ absurd (none_there none) | inr among ↦ among ], λ h. fold_adds bs [] h)
