-- The paths of a dump's files ascend, and each top-level declaration has its file.
use Rattle.std.proofs.Common.{◌≡◌, ℕ, zero, suc, ◌+◌, ◌≤◌, ◌==◌, Bool, true, false, cond, if◌then◌else◌, List, [], ◌∷◌, ◌++◌, map, Some, None, is_none, slice_get, ◌⊎◌, inl, inr, refl, sym, ap, subst, ◌∙◌, arith, append-nil}
use Rattle.std.specs.List.{filter, fold, flat_map, list_all, enumerate_from, AllByRecursion}
use Rattle.std.specs.List.Sorted.{IsStrictlySortedBy}
use Rattle.std.specs.Cmp.Lexicographic.{slice_cmp}
use Rattle.std.specs.Ordering.{nat_cmp, match_ordering, ordering_reverse}
use Rattle.std.specs.declared.cmp.Ordering.{Ordering}
use Rattle.std.specs.declared.cmp.Ordering.TheVariants.{Less, Equal, Greater}
use Rattle.std.specs.FinMap.{slice_cmp-IsAntisymmetric, nat_cmp-IsAntisymmetric}
use Rattle.std.specs.Str.{encode_utf8_all}
use Rattle.std.proofs.lemmas.Cmp.{nat_list_cmp_total}
use Rattle.std.proofs.lemmas.Bool.{and_parts}
use Rattle.std.proofs.lemmas.Bool.Decides.{nat_tests}
use Rattle.std.proofs.lemmas.List.{append_cancel_right}
use Rattle.aidl_base.specs.Identifiers.{is_identifier, is_word_byte}
use Rattle.aidl_base.specs.Names.{dotted}
use Rattle.aidl_base.specs.declared.name.Ident.{Ident}
use Rattle.aidl_schema.specs.declared.schema.Decl.{Decl}
use Rattle.aidl_schema.specs.Holds.{AllHold, AreApart}
use Rattle.aidl_schema.specs.Names.{name_of}
use Rattle.api_dump.specs.Dump.{File, file_of, path_of, slashed, top_level, placed, dump_text}
use Rattle.dump_reading.specs.Reading.{IsTop}
use Rattle.dump_reading.proofs.spelled.Spelled.{name_spelled}
use Rattle.dump_reading.proofs.spelled.Texts.{ascii_same, word_ascii}
use Rattle.dump_reading.proofs.spelled.Values.{are_identifiers, name_parts}
use Rattle.dump_reading.proofs.filed.Files.{All}

abbrev compare : List ℕ → List ℕ → Ordering
compare p q = slice_cmp nat_cmp p q

abbrev paths : List File → List (List ℕ)
paths fs = map (λ f. f.0) fs

-- Sorted.

all_more : (P Q : List ℕ → Type 0) → ((p : List ℕ) → P p → Q p) → (ps : List (List ℕ)) → AllByRecursion P ps → AllByRecursion Q ps
all_more P Q h [] all = tt
all_more P Q h (p ∷ ps) all = (h p all.0, all_more P Q h ps all.1)

all_put : (P : List ℕ → Type 0) (es : List File) (f : File) → P f.0 → AllByRecursion P (paths es) → AllByRecursion P (paths (placed es f))
all_put P [] f here all = (here, tt)
all_put P (e ∷ es) f here all = by_order (compare f.0 e.0) (all_put P es f here all.1) where
  by_order : (o : Ordering) → AllByRecursion P (paths (placed es f)) → AllByRecursion P (paths (match_ordering o ((f.0, f.1) ∷ e ∷ es) ((e.0, f.1) ∷ es) (e ∷ placed es f)))
  by_order Less later = (here, all)
  by_order Equal later = (all.0, all.1)
  by_order Greater later = (all.0, later)

put_sorted : (es : List File) (f : File) → IsStrictlySortedBy compare (paths es) → IsStrictlySortedBy compare (paths (placed es f))
unfolding IsStrictlySortedBy
put_sorted [] f sorted = (tt, tt)
put_sorted (e ∷ es) f sorted = by_order (compare f.0 e.0) refl (put_sorted es f sorted.1) where
  by_order : (o : Ordering) → compare f.0 e.0 ≡ o → IsStrictlySortedBy compare (paths (placed es f))
      → IsStrictlySortedBy compare (paths (match_ordering o ((f.0, f.1) ∷ e ∷ es) ((e.0, f.1) ∷ es) (e ∷ placed es f)))
  by_order Less h later =
      ((h, all_more (λ p. compare e.0 p ≡ Less) (λ p. compare f.0 p ≡ Less) (λ p k. nat_list_cmp_total.trans f.0 e.0 p h k) (paths es) sorted.0), sorted)
  by_order Equal h later = sorted
  by_order Greater h later =
      (all_put (λ p. compare e.0 p ≡ Less) es f (nat_list_cmp_total.antisymm e.0 f.0 ∙ ap ordering_reverse h) sorted.0, later)

fold_sorted : (fs es : List File) → IsStrictlySortedBy compare (paths es) → IsStrictlySortedBy compare (paths (fold placed es fs))
fold_sorted [] es sorted = sorted
fold_sorted (f ∷ fs) es sorted = fold_sorted fs (placed es f) (put_sorted es f sorted)

pub paths_sorted : (S : List Decl) → IsStrictlySortedBy (slice_cmp nat_cmp) (map (λ f. f.0) (dump_text S))
unfolding IsStrictlySortedBy
paths_sorted S = fold_sorted (map (file_of S) (top_level S)) [] tt

-- Whole.

abbrev Has : File → List File → Type 0
Has g [] = ⊥
Has g (e ∷ es) = (e ≡ g) ⊎ Has g es

has_place : (g : File) (es : List File) → Has g es → (i : ℕ) × (slice_get es i ≡ Some g)
has_place g [] h = absurd h
has_place g (e ∷ es) (inl h) = (zero, ap Some h)
has_place g (e ∷ es) (inr h) = let r = has_place g es h in (suc r.0, r.1)

same_path : (p q : List ℕ) → compare p q ≡ Equal → p ≡ q
same_path p q h = slice_cmp-IsAntisymmetric nat_cmp-IsAntisymmetric p q h

has_new : (es : List File) (f : File) → Has f (placed es f)
has_new [] f = inl refl
has_new (e ∷ es) f = by_order (compare f.0 e.0) refl (has_new es f) where
  by_order : (o : Ordering) → compare f.0 e.0 ≡ o → Has f (placed es f) → Has f (match_ordering o ((f.0, f.1) ∷ e ∷ es) ((e.0, f.1) ∷ es) (e ∷ placed es f))
  by_order Less h more = inl refl
  by_order Equal h more = inl (ap (λ p. (p, f.1)) (sym (same_path f.0 e.0 h)))
  by_order Greater h more = inr more

has_still : (es : List File) (f g : File) → Has g es → (g.0 ≡ f.0 → ⊥) → Has g (placed es f)
has_still [] f g old apart = absurd old
has_still (e ∷ es) f g old apart = by_order (compare f.0 e.0) refl (λ h. has_still es f g h apart) old where
  by_order : (o : Ordering) → compare f.0 e.0 ≡ o → (Has g es → Has g (placed es f)) → Has g (e ∷ es) → Has g (match_ordering o ((f.0, f.1) ∷ e ∷ es) ((e.0, f.1) ∷ es) (e ∷ placed es f))
  by_order Less h more old = inr old
  by_order Equal h more (inl s) = absurd (apart (sym (ap (λ x. x.0) s) ∙ sym (same_path f.0 e.0 h)))
  by_order Equal h more (inr s) = inr s
  by_order Greater h more (inl s) = inl s
  by_order Greater h more (inr s) = inr (more s)

fold_still : (fs es : List File) (g : File) → Has g es → All (λ f. g.0 ≡ f.0 → ⊥) fs → Has g (fold placed es fs)
fold_still [] es g old apart = old
fold_still (f ∷ fs) es g old apart = fold_still fs (placed es f) g (has_still es f g old apart.0) apart.1

-- each path differs from those after it
abbrev Apart : List File → Type 0
Apart [] = Unit {0}
Apart (f ∷ fs) = All (λ h. f.0 ≡ h.0 → ⊥) fs × Apart fs

fold_has : (fs es : List File) (g : File) → Has g fs → Apart fs → Has g (fold placed es fs)
fold_has [] es g h apart = absurd h
fold_has (f ∷ fs) es g (inl h) apart = subst (λ x. Has x (fold placed (placed es f) fs)) h (fold_still fs (placed es f) f (has_new es f) apart.0)
fold_has (f ∷ fs) es g (inr h) apart = fold_has fs (placed es f) g h apart.1

all_weaker : {X : Type 0} (P Q : X → Type 0) → ((x : X) → P x → Q x) → (xs : List X) → All P xs → All Q xs
all_weaker P Q h [] all = tt
all_weaker P Q h (x ∷ xs) all = (h x all.0, all_weaker P Q h xs all.1)

-- Paths tell names apart.

abbrev swap : ℕ → ℕ
swap b = if b == 47 then 46 else b

no_slash : (b : ℕ) → is_word_byte b ≡ true → (b == 47) ≡ false
no_slash b h = grind (arith, nat_tests)

word_stays : (w : List ℕ) → list_all is_word_byte w ≡ true → map swap w ≡ w
word_stays [] h = refl
word_stays (b ∷ w) h =
    let two = and_parts (is_word_byte b) (list_all is_word_byte w) h in
    ap (λ t. (if t then 46 else b) ∷ map swap w) (no_slash b two.0) ∙ ap (λ bs. b ∷ bs) (word_stays w two.1)

map_append : (xs ys : List ℕ) → map swap (xs ++ ys) ≡ map swap xs ++ map swap ys
map_append [] ys = refl
map_append (x ∷ xs) ys = ap (λ zs. swap x ∷ zs) (map_append xs ys)

part_stays : (i : Ident) → is_identifier i.0 ≡ true → map swap (encode_utf8_all i.0) ≡ i.0
part_stays i h = let w = (name_spelled i.0 h).1 in ap (map swap) (ascii_same is_word_byte word_ascii i.0 w) ∙ word_stays i.0 w

abbrev pub with_dots : List Ident → List ℕ
with_dots is = flat_map (λ j. 46 ∷ j.0) is

pub joined_dots : (i : Ident) (is : List Ident) → dotted (i ∷ is) ≡ i.0 ++ with_dots is
joined_dots i [] = sym (append-nil i.0)
joined_dots i (j ∷ is) = ap (λ t. i.0 ++ 46 ∷ t) (joined_dots j is)

slashes_swapped : (is : List Ident) → are_identifiers is ≡ true → map swap (flat_map (λ j. 47 ∷ encode_utf8_all j.0) is) ≡ with_dots is
slashes_swapped [] h = refl
slashes_swapped (j ∷ is) h =
    let two = and_parts (is_identifier j.0) (are_identifiers is) h in
    ap (λ bs. 46 ∷ bs) (map_append (encode_utf8_all j.0) (flat_map (λ j. 47 ∷ encode_utf8_all j.0) is) ∙ ap (λ bs. bs ++ map swap (flat_map (λ j. 47 ∷ encode_utf8_all j.0) is)) (part_stays j two.0)
    ∙ ap (λ bs. j.0 ++ bs) (slashes_swapped is two.1))

swapped : (is : List Ident) → are_identifiers is ≡ true → map swap (slashed is) ≡ dotted is
swapped [] h = refl
swapped (i ∷ is) h =
    let two = and_parts (is_identifier i.0) (are_identifiers is) h in
    map_append (encode_utf8_all i.0) (flat_map (λ j. 47 ∷ encode_utf8_all j.0) is) ∙ ap (λ bs. bs ++ map swap (flat_map (λ j. 47 ∷ encode_utf8_all j.0) is)) (part_stays i two.0)
    ∙ ap (λ bs. i.0 ++ bs) (slashes_swapped is two.1) ∙ sym (joined_dots i is)

pub one_name : (is js : List Ident) → are_identifiers is ≡ true → are_identifiers js ≡ true → path_of is ≡ path_of js → dotted is ≡ dotted js
one_name is js h k e = sym (swapped is h) ∙ ap (map swap) (append_cancel_right (slashed is) (slashed js) _ e) ∙ swapped js k

module _ (S : List Decl) (H : AllHold S) (A : AreApart name_of S) where
  -- the file of a declaration from a number on
  abbrev IsFrom : ℕ → File → Type 0
  IsFrom i f = (x : ℕ × Decl) × (slice_get S x.0 ≡ Some x.1) × (f ≡ file_of S x) × (i ≤ x.0)

  abbrev files_from : ℕ → List Decl → List File
  files_from i xs = map (file_of S) (filter (λ x. is_none x.1.outer) (enumerate_from i xs))

  abbrev AreAt : ℕ → List Decl → Type 0
  AreAt i xs = (k : ℕ) (d : Decl) → slice_get xs k ≡ Some d → slice_get S (i + k) ≡ Some d

  next_at : (i : ℕ) (d : Decl) (ds : List Decl) → AreAt i (d ∷ ds) → AreAt (i + 1) ds
  next_at i d ds at k e f = subst (λ (j : ℕ). slice_get S j ≡ Some e) (omega arith) (at (suc k) e f)

  here_at : (i : ℕ) (d : Decl) (ds : List Decl) → AreAt i (d ∷ ds) → slice_get S i ≡ Some d
  here_at i d ds at = subst (λ (j : ℕ). slice_get S j ≡ Some d) (omega arith) (at zero d refl)

  all_from : (i : ℕ) (xs : List Decl) → AreAt i xs → All (IsFrom i) (files_from i xs)
  all_from i [] at = tt
  all_from i (d ∷ ds) at = by_test (is_none d.outer) (all_weaker (IsFrom (i + 1)) (IsFrom i) (λ f h. let le : i + 1 ≤ h.0.0 = h.3 in (h.0, h.1, h.2, omega arith)) (files_from (i + 1) ds) (all_from (i + 1) ds (next_at i d ds at))) where
    by_test : (t : Bool) → All (IsFrom i) (files_from (i + 1) ds) → All (IsFrom i) (map (file_of S) (cond t ((i, d) ∷ filter (λ x. is_none x.1.outer) (enumerate_from (i + 1) ds)) (filter (λ x. is_none x.1.outer) (enumerate_from (i + 1) ds))))
    by_test true more = (((i, d), here_at i d ds at, refl, omega arith), more)
    by_test false more = more

  differs_from : (i : ℕ) (d : Decl) → slice_get S i ≡ Some d → (f : File) → IsFrom (i + 1) f → path_of d.name.0 ≡ f.0 → ⊥
  differs_from i d e f h p =
      let x = h.0 in
      let same = one_name d.name.0 x.1.name.0 (name_parts d.name.0 (H i d e).name).1 (name_parts x.1.name.0 (H x.0 x.1 h.1).name).1 (p ∙ ap (λ g. g.0) h.2) in
      let at : i ≡ x.0 = A i x.0 d x.1 e h.1 same in
      let le : i + 1 ≤ x.0 = h.3 in omega arith

  are_apart : (i : ℕ) (xs : List Decl) → AreAt i xs → Apart (files_from i xs)
  are_apart i [] at = tt
  are_apart i (d ∷ ds) at = by_test (is_none d.outer) (are_apart (i + 1) ds (next_at i d ds at)) where
    by_test : (t : Bool) → Apart (files_from (i + 1) ds) → Apart (map (file_of S) (cond t ((i, d) ∷ filter (λ x. is_none x.1.outer) (enumerate_from (i + 1) ds)) (filter (λ x. is_none x.1.outer) (enumerate_from (i + 1) ds))))
    by_test true more = (all_weaker (IsFrom (i + 1)) (λ f. path_of d.name.0 ≡ f.0 → ⊥) (differs_from i d (here_at i d ds at)) (files_from (i + 1) ds) (all_from (i + 1) ds (next_at i d ds at)), more)
    by_test false more = more

  has_from : (i k : ℕ) (d : Decl) (xs : List Decl) → slice_get xs k ≡ Some d → d.outer ≡ None → Has (file_of S (i + k, d)) (files_from i xs)
  has_from i k d [] e o = cc
  has_from i zero d (y ∷ ys) e o =
      let s : y ≡ d = cc in let none : is_none y.outer ≡ true = ap (λ z. is_none z.outer) s ∙ ap is_none o in
      let more = filter (λ x. is_none x.1.outer) (enumerate_from (i + 1) ys) in
      subst (λ t. Has (file_of S (i + zero, d)) (map (file_of S) (cond t ((i, y) ∷ more) more))) (sym none) (inl (ap (λ (j : ℕ). file_of S (j, y)) (omega arith) ∙ ap (λ z. file_of S (i + zero, z)) s))
  has_from i (suc k) d (y ∷ ys) e o =
      by_test (is_none y.outer) (subst (λ (j : ℕ). Has (file_of S (j, d)) (files_from (i + 1) ys)) (omega arith) (has_from (i + 1) k d ys e o)) where
        by_test : (t : Bool) → Has (file_of S (i + suc k, d)) (files_from (i + 1) ys)
            → Has (file_of S (i + suc k, d)) (map (file_of S) (cond t ((i, y) ∷ filter (λ x. is_none x.1.outer) (enumerate_from (i + 1) ys)) (filter (λ x. is_none x.1.outer) (enumerate_from (i + 1) ys))))
        by_test true h = inr h
        by_test false h = h

  pub has_file : (x : ℕ × Decl) → IsTop S x → (i : ℕ) × (slice_get (dump_text S) i ≡ Some (file_of S x))
  has_file x top = has_place (file_of S x) (dump_text S) (fold_has (files_from 0 S) [] (file_of S x)
      (subst (λ (j : ℕ). Has (file_of S (j, x.1)) (files_from 0 S)) (omega arith) (has_from 0 x.0 x.1 S top.0 top.1))
      (are_apart 0 S (λ k d e. subst (λ (j : ℕ). slice_get S j ≡ Some d) (omega arith) e)))
