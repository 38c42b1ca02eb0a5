-- Files in order: their paths ascend, and where these differ the files are the same ones.
use Rattle.std.proofs.Common.{◌≡◌, ◌≢◌, List, [], ◌∷◌, ◌++◌, map, ℕ, refl, sym, ap, ◌∙◌, subst}
use Rattle.std.specs.List.{fold, AllByRecursion}
use Rattle.std.specs.List.Sorted.{IsPermutation, IsStrictlySortedBy}
use Rattle.std.specs.Cmp.Lexicographic.{slice_cmp}
use Rattle.std.specs.declared.cmp.Ordering.{Ordering}
use Rattle.std.specs.declared.cmp.Ordering.TheVariants.{Less, Equal, Greater}
use Rattle.std.specs.Ordering.{nat_cmp, match_ordering, ordering_reverse}
use Rattle.std.specs.FinMap.{slice_cmp-IsAntisymmetric, nat_cmp-IsAntisymmetric}
use Rattle.std.proofs.lemmas.Cmp.{nat_list_cmp_total}
use Rattle.std.proofs.lemmas.List.Sorted.{IsPermutation-refl, IsPermutation-sym, IsPermutation-cons, IsPermutation-trans, IsPermutation-middle, IsPermutation-append_right}
use Rattle.aidl_base.specs.declared.source_file.SourceFile.{SourceFile}
use Rattle.api_hash.specs.HashText.{path_of, put, in_order, HaveOwnPaths}

abbrev compare : List ℕ → List ℕ → Ordering
compare p q = slice_cmp nat_cmp p q

all_more : (P Q : List ℕ → Type 0) → ((p : List ℕ) → P p → Q p) → (ps : List (List ℕ)) → AllByRecursion P ps → AllByRecursion Q ps
all_more P Q h [] all = tt
all_more P Q h (p ∷ ps) all = (h p all.0, all_more P Q h ps all.1)

-- what holds of each path holds after a file has gone in, where it holds of its path
all_put : (P : List ℕ → Type 0) (gs : List SourceFile) (f : SourceFile) → P (path_of f) → AllByRecursion P (map path_of gs) → AllByRecursion P (map path_of (put gs f))
all_put P [] f here all = (here, tt)
all_put P (g ∷ gs) f here all = by_order (compare (path_of f) (path_of g)) (all_put P gs f here all.1)
  where
    by_order : (o : Ordering) → AllByRecursion P (map path_of (put gs f)) → AllByRecursion P (map path_of (match_ordering o (f ∷ g ∷ gs) (f ∷ gs) (g ∷ put gs f)))
    by_order Less later = (here, all)
    by_order Equal later = (here, all.1)
    by_order Greater later = (all.0, later)

put_sorted : (gs : List SourceFile) (f : SourceFile) → IsStrictlySortedBy compare (map path_of gs) → IsStrictlySortedBy compare (map path_of (put gs f))
unfolding IsStrictlySortedBy
put_sorted [] f sorted = (tt, tt)
put_sorted (g ∷ gs) f sorted = by_order (compare (path_of f) (path_of g)) refl (put_sorted gs f sorted.1)
  where
    by_order : (o : Ordering) → compare (path_of f) (path_of g) ≡ o → IsStrictlySortedBy compare (map path_of (put gs f))
        → IsStrictlySortedBy compare (map path_of (match_ordering o (f ∷ g ∷ gs) (f ∷ gs) (g ∷ put gs f)))
    by_order Less e later =
        ((e, all_more (λ p. compare (path_of g) p ≡ Less) (λ p. compare (path_of f) p ≡ Less) (λ p h. nat_list_cmp_total.trans (path_of f) (path_of g) p e h) (map path_of gs) sorted.0), sorted)
    by_order Equal e later =
        let same : path_of g ≡ path_of f = sym (slice_cmp-IsAntisymmetric nat_cmp-IsAntisymmetric (path_of f) (path_of g) e) in
        (subst (λ q. AllByRecursion (λ p. compare q p ≡ Less) (map path_of gs)) same sorted.0, sorted.1)
    by_order Greater e later =
        (all_put (λ p. compare (path_of g) p ≡ Less) gs f (nat_list_cmp_total.antisymm (path_of g) (path_of f) ∙ ap ordering_reverse e) sorted.0, later)

fold_sorted : (fs gs : List SourceFile) → IsStrictlySortedBy compare (map path_of gs) → IsStrictlySortedBy compare (map path_of (fold put gs fs))
fold_sorted [] gs sorted = sorted
fold_sorted (f ∷ fs) gs sorted = fold_sorted fs (put gs f) (put_sorted gs f sorted)

pub is_sorted : (files : List SourceFile) → IsStrictlySortedBy compare (map path_of (in_order files))
unfolding IsStrictlySortedBy
is_sorted files = fold_sorted files [] tt

put_same : (gs : List SourceFile) (f : SourceFile) → AllByRecursion (λ p. path_of f ≢ p) (map path_of gs) → IsPermutation (f ∷ gs) (put gs f)
put_same [] f apart = IsPermutation-refl (f ∷ [])
put_same (g ∷ gs) f apart = by_order (compare (path_of f) (path_of g)) refl (put_same gs f apart.1)
  where
    by_order : (o : Ordering) → compare (path_of f) (path_of g) ≡ o → IsPermutation (f ∷ gs) (put gs f) → IsPermutation (f ∷ g ∷ gs) (match_ordering o (f ∷ g ∷ gs) (f ∷ gs) (g ∷ put gs f))
    by_order Less e later = IsPermutation-refl (f ∷ g ∷ gs)
    by_order Equal e later = absurd (apart.0 (slice_cmp-IsAntisymmetric nat_cmp-IsAntisymmetric (path_of f) (path_of g) e))
    by_order Greater e later =
        IsPermutation-trans (f ∷ g ∷ gs) (g ∷ f ∷ gs) (g ∷ put gs f) (IsPermutation-sym (g ∷ f ∷ gs) (f ∷ g ∷ gs) (IsPermutation-middle (g ∷ []) f gs))
        (IsPermutation-cons g (f ∷ gs) (put gs f) later)

-- no file among these has the path of one of those
abbrev AreApart : List SourceFile → List SourceFile → Type 0
AreApart [] gs = Unit {0}
AreApart (f ∷ fs) gs = AllByRecursion (λ p. path_of f ≢ p) (map path_of gs) × AreApart fs gs

still_apart : (fs gs : List SourceFile) (f : SourceFile) → AllByRecursion (λ p. path_of f ≢ p) (map path_of fs) → AreApart fs gs → AreApart fs (put gs f)
still_apart [] gs f apart old = tt
still_apart (g ∷ fs) gs f apart old = (all_put (λ p. path_of g ≢ p) gs f (λ e. apart.0 (sym e)) old.0, still_apart fs gs f apart.1 old.1)

fold_same : (fs gs : List SourceFile) → HaveOwnPaths fs → AreApart fs gs → IsPermutation (fs ++ gs) (fold put gs fs)
fold_same [] gs own apart = IsPermutation-refl gs
fold_same (f ∷ fs) gs own apart =
    IsPermutation-trans (f ∷ (fs ++ gs)) (fs ++ put gs f) (fold put (put gs f) fs)
    (IsPermutation-trans (f ∷ (fs ++ gs)) (fs ++ f ∷ gs) (fs ++ put gs f) (IsPermutation-sym (fs ++ f ∷ gs) (f ∷ (fs ++ gs)) (IsPermutation-middle fs f gs))
    (IsPermutation-append_right fs (f ∷ gs) (put gs f) (put_same gs f apart.0)))
    (fold_same fs (put gs f) own.1 (still_apart fs gs f own.0 apart.1))

from_none : (fs : List SourceFile) → AreApart fs []
from_none [] = tt
from_none (f ∷ fs) = (tt, from_none fs)

none_behind : (fs : List SourceFile) → fs ++ [] ≡ fs
none_behind [] = refl
none_behind (f ∷ fs) = ap (λ gs. f ∷ gs) (none_behind fs)

pub is_same : (files : List SourceFile) → HaveOwnPaths files → IsPermutation files (in_order files)
is_same files own = subst (λ fs. IsPermutation fs (in_order files)) (none_behind files) (fold_same files [] own (from_none files))
