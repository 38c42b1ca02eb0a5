-- What holds of each item of each declaration holds of each item of a tree.
use Rattle.std.proofs.Common.{◌≡◌, ℕ, suc, ◌+◌, List, [], ◌∷◌, Some, refl, subst, arith}
use Rattle.std.specs.List.{All, fold, slice_get}
use Rattle.std.proofs.lemmas.List.Elements.{All-nil, All-cons, All-head, All-tail, All-append}
use Rattle.std.specs.declared.cmp.Ordering.{Ordering}
use Rattle.std.specs.declared.cmp.Ordering.TheVariants.{Less, Equal, Greater}
use Rattle.std.specs.Ordering.{match_ordering}
use Rattle.aidl_syntax.specs.Sources.{Source}
use Rattle.declared_names.specs.Declarations.{Entry, declarations}
use Rattle.declared_names.specs.Numbered.{in_each}
use Rattle.const_items.specs.Items.{Item, declared, items, of_entry, order, put}

module _ (P : Item → Type 0) where
  pub put_all : (xs : List Item) (x : Item) → P x → All P xs → All P (put xs x)
  put_all [] x here all = All-cons P x [] here all
  put_all (y ∷ more) x here all = by_order (order x y) (put_all more x here (All-tail P y more all))
    where
      by_order : (o : Ordering) → All P (put more x) → All P (match_ordering o (x ∷ y ∷ more) (x ∷ more) (y ∷ put more x))
      by_order Less rest = All-cons P x (y ∷ more) here all
      by_order Equal rest = All-cons P x more here (All-tail P y more all)
      by_order Greater rest = All-cons P y (put more x) (All-head P y more all) rest

  pub fold_all : (xs before : List Item) → All P before → All P xs → All P (fold put before xs)
  fold_all [] before old all = old
  fold_all (x ∷ xs) before old all = fold_all xs (put before x) (put_all before x (All-head P x xs all) old) (All-tail P x xs all)

  pub in_each_all : (f : ℕ → Entry → List Item) (n : ℕ) (es : List Entry) → ((k : ℕ) (e : Entry) → slice_get es k ≡ Some e → All P (f (n + k) e)) → All P (in_each f n es)
  in_each_all f n [] each = All-nil P
  in_each_all f n (e ∷ es) each =
      All-append P (f n e) (in_each f (n + 1) es) (subst (λ (j : ℕ). All P (f j e)) (omega arith) (each 0 e refl))
      (in_each_all f (n + 1) es (λ k d h. subst (λ (j : ℕ). All P (f j d)) (omega arith) (each (suc k) d h)))

  pub each_item : (files : List Source) → ((n : ℕ) (e : Entry) → slice_get (declarations files) n ≡ Some e → All P (of_entry files n e)) → All P (items files)
  unfolding items
  each_item files each = fold_all (declared files) [] (All-nil P) (in_each_all (of_entry files) 0 (declarations files) (λ k e h. subst (λ (j : ℕ). All P (of_entry files j e)) (omega arith) (each k e h)))
