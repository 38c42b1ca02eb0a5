-- Each file of a dump is that of a top-level declaration.
use Rattle.std.proofs.Common.{◌≡◌, ℕ, zero, suc, ◌+◌, Bool, true, false, cond, List, [], ◌∷◌, map, Option, Some, None, is_none, slice_get, refl, subst, arith}
use Rattle.std.specs.List.{filter, fold, enumerate_from}
use Rattle.std.specs.BTreeMap.{insert_entry}
use Rattle.std.specs.Cmp.Lexicographic.{slice_cmp}
use Rattle.std.specs.Ordering.{nat_cmp, match_ordering}
use Rattle.std.specs.declared.cmp.Ordering.{Ordering}
use Rattle.std.specs.declared.cmp.Ordering.TheVariants.{Less, Equal, Greater}
use Rattle.std.specs.FinMap.{slice_cmp-IsAntisymmetric, nat_cmp-IsAntisymmetric}
use Rattle.aidl_schema.specs.declared.schema.Decl.{Decl}
use Rattle.api_dump.specs.Dump.{File, file_of, top_level, placed, dump_text}
use Rattle.dump_reading.specs.Reading.{IsTop}

abbrev pub All : {X : Type 0} → (X → Type 0) → List X → Type 0
All P [] = Unit {0}
All P (x ∷ xs) = P x × All P xs

pub all_at : {X : Type 0} (P : X → Type 0) (xs : List X) → All P xs → (i : ℕ) (x : X) → slice_get xs i ≡ Some x → P x
all_at P [] all i x e = cc
all_at P (y ∷ ys) all zero x e = let s : y ≡ x = cc in subst P s all.0
all_at P (y ∷ ys) all (suc i) x e = all_at P ys all.1 i x e

all_placed : (P : File → Type 0) (es : List File) (f : File) → P f → All P es → All P (placed es f)
all_placed P [] f here all = (here, tt)
all_placed P (e ∷ es) f here all = by_order (slice_cmp nat_cmp f.0 e.0) refl (all_placed P es f here all.1) where
  by_order : (o : Ordering) → slice_cmp nat_cmp f.0 e.0 ≡ o → All P (placed es f) → All P (match_ordering o ((f.0, f.1) ∷ e ∷ es) ((e.0, f.1) ∷ es) (e ∷ insert_entry (slice_cmp nat_cmp) es f.0 f.1))
  by_order Less h more = (here, all)
  by_order Equal h more = (subst (λ p. P (p, f.1)) (slice_cmp-IsAntisymmetric nat_cmp-IsAntisymmetric f.0 e.0 h) here, all.1)
  by_order Greater h more = (all.0, more)

all_folded : (P : File → Type 0) (fs es : List File) → All P fs → All P es → All P (fold placed es fs)
all_folded P [] es new old = old
all_folded P (f ∷ fs) es new old = all_folded P fs (placed es f) new.1 (all_placed P es f new.0 old)

pub none_is : {X : Type 0} (o : Option X) → is_none o ≡ true → o ≡ None
none_is None e = refl
none_is (Some x) e = cc

module _ (S : List Decl) where
  abbrev pub IsFileOf : File → Type 0
  IsFileOf f = (x : ℕ × Decl) × IsTop S x × (f ≡ file_of S x)

  all_top : (i : ℕ) (xs : List Decl) → ((k : ℕ) (d : Decl) → slice_get xs k ≡ Some d → slice_get S (i + k) ≡ Some d)
      → All IsFileOf (map (file_of S) (filter (λ x. is_none x.1.outer) (enumerate_from i xs)))
  all_top i [] at = tt
  all_top i (d ∷ ds) at = by_test (is_none d.outer) refl (all_top (i + 1) ds (λ k e f. subst (λ (j : ℕ). slice_get S j ≡ Some e) (omega arith) (at (suc k) e f))) where
    by_test : (t : Bool) → is_none d.outer ≡ t → All IsFileOf (map (file_of S) (filter (λ x. is_none x.1.outer) (enumerate_from (i + 1) ds)))
        → All IsFileOf (map (file_of S) (cond t ((i, d) ∷ filter (λ x. is_none x.1.outer) (enumerate_from (i + 1) ds)) (filter (λ x. is_none x.1.outer) (enumerate_from (i + 1) ds))))
    by_test true h more = (((i, d), (subst (λ (j : ℕ). slice_get S j ≡ Some d) (omega arith) (at zero d refl), none_is d.outer h), refl), more)
    by_test false h more = more

  pub all_files : All IsFileOf (dump_text S)
  all_files = all_folded IsFileOf (map (file_of S) (top_level S)) [] (all_top 0 S (λ k d e. subst (λ (j : ℕ). slice_get S j ≡ Some d) (omega arith) e)) tt
