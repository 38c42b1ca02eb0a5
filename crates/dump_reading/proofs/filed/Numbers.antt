-- In which order a dump has the declarations of a schema, by their numbers: each stands in it once.
use Rattle.std.proofs.Common.{◌≡◌, ℕ, zero, suc, ◌+◌, ◌<◌, ◌≤◌, ◌==◌, Bool, true, false, cond, if◌then◌else◌, List, [], ◌∷◌, ◌++◌, map, length, Option, Some, None, is_none, slice_get, refl, sym, ap, subst, ◌∙◌, arith, Less}
use Rattle.std.specs.List.{filter, flat_map, enumerate_from, AllByRecursion}
use Rattle.std.specs.List.Sorted.{IsStrictlySortedBy}
use Rattle.std.specs.Cmp.Lexicographic.{slice_cmp}
use Rattle.std.specs.Ordering.{nat_cmp, ordering_then}
use Rattle.std.specs.declared.cmp.Ordering.{Ordering}
use Rattle.std.proofs.lemmas.Bool.Decides.{nat_tests}
use Rattle.std.proofs.lemmas.Bool.{and_parts}
use Rattle.std.proofs.lemmas.Cmp.{nat_list_cmp_total, nat_cmp_total, tied_itself}
use Rattle.std.proofs.lemmas.Option.{slice_get_within}
use Rattle.std.proofs.Common.{append_assoc}
use Rattle.aidl_base.specs.Names.{dotted}
use Rattle.aidl_base.specs.declared.name.Ident.{Ident}
use Rattle.aidl_schema.specs.declared.schema.Decl.{Decl}
use Rattle.aidl_schema.specs.Holds.{AllHold}
use Rattle.aidl_schema.specs.Names.{name_of, last_part, without_last, is_inside, is_outer, encloses, may_enclose}
use Rattle.aidl_schema.specs.Same.{same_idents}
use Rattle.aidl_schema.proofs.lemmas.Sames.{same_idents_is}
use Rattle.api_dump.specs.Declarations.{inside}
use Rattle.api_dump.specs.Dump.{top_level}
use Rattle.tree_schema.proofs.lemmas.walked.Totals.{total, total-append, total-plus, total-length, total-enumerate}
use Rattle.tree_schema.proofs.lemmas.walked.Lists.{mapped-there, there-mapped, first-found, first-passes, one-place}
use Rattle.dump_reading.proofs.spelled.Values.{has_part, name_parts}
use Rattle.dump_reading.proofs.spelled.Spelled.{is_equal}

-- A declaration and those inside it, over so many levels.
abbrev pub walk : List Decl → ℕ → ℕ → List ℕ
walk S zero n = n ∷ []
walk S (suc levels) n = n ∷ flat_map (λ m. walk S levels m) (inside S n)

-- those of each file of a dump
abbrev pub walks : List Decl → List ℕ
walks S = flat_map (λ x. walk S (length S) x.0) (top_level S)

-- Weights.

pub total_flat : {X Y : Type 0} (f : Y → ℕ) (g : X → List Y) (xs : List X) → total f (flat_map g xs) ≡ total (λ x. total f (g x)) xs
total_flat f g [] = refl
total_flat f g (x ∷ xs) = total-append f (g x) (flat_map g xs) ∙ ap (λ (n : ℕ). total f (g x) + n) (total_flat f g xs)

-- the same where each item stands
pub total_at : {X : Type 0} (f g : X → ℕ) (xs : List X) → ((k : ℕ) (x : X) → slice_get xs k ≡ Some x → f x ≡ g x) → total f xs ≡ total g xs
total_at f g [] h = refl
total_at f g (x ∷ xs) h = let a = h zero x refl in let b = total_at f g xs (λ k y e. h (suc k) y e) in omega arith

pub total_zero : {X : Type 0} (f : X → ℕ) (xs : List X) → ((k : ℕ) (x : X) → slice_get xs k ≡ Some x → f x ≡ 0) → total f xs ≡ 0
total_zero f [] h = refl
total_zero f (x ∷ xs) h = let a = h zero x refl in let b = total_zero f xs (λ k y e. h (suc k) y e) in omega arith

-- Places.

pub filter_at : {X : Type 0} (test : X → Bool) (xs : List X) (k : ℕ) (x : X) → slice_get (filter test xs) k ≡ Some x → (j : ℕ) × (slice_get xs j ≡ Some x) × (test x ≡ true)
filter_at test [] k x e = cc
filter_at test (y ∷ ys) k x e = by (test y) refl k e (λ i f. let r = filter_at test ys i x f in (suc r.0, r.1, r.2)) where
  by : (t : Bool) → test y ≡ t → (i : ℕ) → slice_get (cond t (y ∷ filter test ys) (filter test ys)) i ≡ Some x
      → ((i : ℕ) → slice_get (filter test ys) i ≡ Some x → (j : ℕ) × (slice_get (y ∷ ys) j ≡ Some x) × (test x ≡ true)) → (j : ℕ) × (slice_get (y ∷ ys) j ≡ Some x) × (test x ≡ true)
  by true h zero f later = let s : y ≡ x = cc in (zero, ap Some s, ap test (sym s) ∙ h)
  by true h (suc i) f later = later i f
  by false h i f later = later i f

pub numbered_at : {X : Type 0} (i : ℕ) (xs : List X) (k : ℕ) (x : ℕ × X) → slice_get (enumerate_from i xs) k ≡ Some x → (x.0 ≡ i + k) × (slice_get xs k ≡ Some x.1)
numbered_at i [] k x e = cc
numbered_at i (y ∷ ys) zero x e = let s : (i, y) ≡ x = cc in (sym (ap (λ z. z.0) s) ∙ omega arith, ap (λ z. Some z.1) s)
numbered_at i (y ∷ ys) (suc k) x e = let r = numbered_at (i + 1) ys k x e in (r.0 ∙ omega arith, r.1)

inside_is : (n : ℕ) (o : Option ℕ) → is_inside n o ≡ true → o ≡ Some n
inside_is n None e = cc
inside_is n (Some m) e = ap Some (is_equal m n e)

pub none_of : {X : Type 0} (xs : List X) → ((k : ℕ) (x : X) → slice_get xs k ≡ Some x → ⊥) → xs ≡ []
none_of [] h = refl
none_of (x ∷ xs) h = absurd (h zero x refl)

module _ (S : List Decl) where
  pub declared_at : (k : ℕ) (x : ℕ × Decl) → slice_get (enumerate_from 0 S) k ≡ Some x → slice_get S x.0 ≡ Some x.1
  declared_at k x e =
      let r = numbered_at 0 S k x e in
      let is : x.0 ≡ k = r.0 ∙ omega arith in
      subst (λ (j : ℕ). slice_get S j ≡ Some x.1) (sym is) r.1

  -- what stands inside a declaration
  pub inside_at : (n k m : ℕ) → slice_get (inside S n) k ≡ Some m → (d : Decl) × (slice_get S m ≡ Some d) × (d.outer ≡ Some n)
  inside_at n k m e =
      let a = there-mapped (λ x. x.0) (filter (λ x. is_inside n x.1.outer) (enumerate_from 0 S)) k m e in
      let b = filter_at (λ x. is_inside n x.1.outer) (enumerate_from 0 S) k a.0 a.1 in
      let c = declared_at b.0 a.0 b.1 in
      (a.0.1, subst (λ (j : ℕ). slice_get S j ≡ Some a.0.1) a.2 c, inside_is n a.0.1.outer b.2)

-- Names rise inwards.

front_less : (p : List ℕ) (b : ℕ) (q : List ℕ) → slice_cmp nat_cmp p (p ++ b ∷ q) ≡ Less
front_less [] b q = refl
front_less (x ∷ p) b q = ap (λ o. ordering_then o (slice_cmp nat_cmp p (p ++ b ∷ q))) (tied_itself nat_cmp_total x) ∙ front_less p b q

last_split : (i j : Ident) (is : List Ident) → dotted (i ∷ j ∷ is) ≡ dotted (without_last (i ∷ j ∷ is)) ++ 46 ∷ last_part (j ∷ is)
last_split i j [] = refl
last_split i j (k ∷ is) =
    ap (λ t. i.0 ++ 46 ∷ t) (last_split j k is)
    ∙ sym (append_assoc i.0 (46 ∷ dotted (without_last (j ∷ k ∷ is))) (46 ∷ last_part (k ∷ is)))

enclosed_less : (is : List Ident) → has_part (without_last is) ≡ true → slice_cmp nat_cmp (dotted (without_last is)) (dotted is) ≡ Less
enclosed_less [] h = cc
enclosed_less (i ∷ []) h = cc
enclosed_less (i ∷ j ∷ is) h = ap (slice_cmp nat_cmp (dotted (without_last (i ∷ j ∷ is)))) (last_split i j is) ∙ front_less (dotted (without_last (i ∷ j ∷ is))) 46 (last_part (j ∷ is))

later_more : {K : Type 0} (c : K → K → Ordering) (x : K) (xs : List K) → AllByRecursion (λ y. c x y ≡ Less) xs → (k : ℕ) (y : K) → slice_get xs k ≡ Some y → c x y ≡ Less
later_more c x [] all k y e = cc
later_more c x (z ∷ zs) all zero y e = let s : z ≡ y = cc in subst (λ w. c x w ≡ Less) s all.0
later_more c x (z ∷ zs) all (suc k) y e = later_more c x zs all.1 k y e

pub sorted_at : {K : Type 0} (c : K → K → Ordering) (xs : List K) → IsStrictlySortedBy c xs → (j k : ℕ) (x y : K) → j < k → slice_get xs j ≡ Some x → slice_get xs k ≡ Some y → c x y ≡ Less
unfolding IsStrictlySortedBy
sorted_at c [] s j k x y lt e f = cc
sorted_at c (z ∷ zs) s zero zero x y lt e f = absurd (omega arith)
sorted_at c (z ∷ zs) s zero (suc k) x y lt e f = let is : z ≡ x = cc in subst (λ w. c w y ≡ Less) is (later_more c z zs s.0 k y f)
sorted_at c (z ∷ zs) s (suc j) zero x y lt e f = absurd (omega arith)
sorted_at c (z ∷ zs) s (suc j) (suc k) x y lt e f = sorted_at c zs s.1 j k x y (omega arith) e f

-- its own declaration encloses it
enclosed_by : (o : Option Decl) (is : List Ident) → encloses o is ≡ true → (e : Decl) × (o ≡ Some e) × (may_enclose e.kind ≡ true) × (e.name.0 ≡ without_last is)
enclosed_by None is h = cc
enclosed_by (Some e) is h =
    let two = and_parts (may_enclose e.kind) (same_idents e.name.0 (without_last is)) h in
    (e, refl, two.0, same_idents_is e.name.0 (without_last is) two.1)

three : (j k : ℕ) (P : Type 0) → (j < k → P) → (k ≤ j → P) → P
three zero zero P a b = b (omega arith)
three zero (suc k) P a b = a (omega arith)
three (suc j) zero P a b = b (omega arith)
three (suc j) (suc k) P a b = three j k P (λ h. a (omega arith)) (λ h. b (omega arith))

module _ (S : List Decl) (H : AllHold S) (sorted : IsStrictlySortedBy (slice_cmp nat_cmp) (map name_of S)) where
  pub outer_is : (m n : ℕ) (d : Decl) → slice_get S m ≡ Some d → d.outer ≡ Some n → (e : Decl) × (slice_get S n ≡ Some e) × (may_enclose e.kind ≡ true) × (e.name.0 ≡ without_last d.name.0)
  outer_is m n d at o = enclosed_by (slice_get S n) d.name.0 (ap (λ p. is_outer S p d.name.0) (sym o) ∙ (H m d at).outer)

  not_back : (p q : List ℕ) → slice_cmp nat_cmp p q ≡ Less → slice_cmp nat_cmp q p ≡ Less → ⊥
  not_back p q h k = let r : slice_cmp nat_cmp p p ≡ Less = nat_list_cmp_total.trans p q p h k in let z = tied_itself nat_list_cmp_total p in cc

  -- what stands inside a declaration has a higher number
  pub is_after : (m n : ℕ) (d : Decl) → slice_get S m ≡ Some d → d.outer ≡ Some n → n < m
  is_after m n d at o =
      let r = outer_is m n d at o in
      let named : has_part (without_last d.name.0) ≡ true = ap has_part (sym r.3) ∙ (name_parts r.0.name.0 (H n r.0 r.1).name).0 in
      let less : slice_cmp nat_cmp (name_of r.0) (name_of d) ≡ Less = ap (λ is. slice_cmp nat_cmp (dotted is) (dotted d.name.0)) r.3 ∙ enclosed_less d.name.0 named in
      let here : slice_get (map name_of S) n ≡ Some (name_of r.0) = mapped-there name_of S n r.0 r.1 in
      let there : slice_get (map name_of S) m ≡ Some (name_of d) = mapped-there name_of S m d at in
      three n m (n < m) (λ h. h) (λ le. three m n (n < m)
      (λ lt. absurd (not_back (name_of r.0) (name_of d) less (sorted_at (slice_cmp nat_cmp) (map name_of S) sorted m n (name_of d) (name_of r.0) lt there here)))
      (λ ge. let same : n ≡ m = omega arith in
      let one : Some (name_of r.0) ≡ Some (name_of d) = sym here ∙ ap (λ (j : ℕ). slice_get (map name_of S) j) same ∙ there in
      let is : name_of r.0 ≡ name_of d = cc in
      absurd (not_back (name_of r.0) (name_of d) less (ap (λ t. slice_cmp nat_cmp t (name_of r.0)) (sym is) ∙ ap (slice_cmp nat_cmp (name_of r.0)) is ∙ less))))

  pub none_past : (n : ℕ) → length S ≤ n → inside S n ≡ []
  none_past n le = none_of (inside S n) (λ k m e.
      let a = inside_at S n k m e in
      let r = outer_is m n a.0 a.1 a.2 in
      let lt = slice_get_within S n r.0 r.1 in
      omega arith)

  -- what those inside each declaration weigh
  abbrev inner : (ℕ → ℕ) → ℕ → ℕ
  inner f n = total f (inside S n)

  walk_weighs : (levels n : ℕ) → length S ≤ levels + n → (f : ℕ → ℕ) → total f (walk S levels n) ≡ f n + total (inner f) (walk S levels n)
  walk_weighs zero n le f = let none : inner f n ≡ 0 = ap (total f) (none_past n (omega arith)) in omega arith
  walk_weighs (suc levels) n le f =
      let ms = inside S n in
      let flat : total f (flat_map (λ m. walk S levels m) ms) ≡ total (λ m. total f (walk S levels m)) ms = total_flat f (λ m. walk S levels m) ms in
      let each : total (λ m. total f (walk S levels m)) ms ≡ total (λ m. f m + total (inner f) (walk S levels m)) ms =
      total_at (λ m. total f (walk S levels m)) (λ m. f m + total (inner f) (walk S levels m)) ms
      (λ k m e. let a = inside_at S n k m e in let lt = is_after m n a.0 a.1 a.2 in walk_weighs levels m (omega arith) f) in
      let two : total f ms + total (λ m. total (inner f) (walk S levels m)) ms ≡ total (λ m. f m + total (inner f) (walk S levels m)) ms = total-plus f (λ m. total (inner f) (walk S levels m)) ms in
      let back : total (inner f) (flat_map (λ m. walk S levels m) ms) ≡ total (λ m. total (inner f) (walk S levels m)) ms = total_flat (inner f) (λ m. walk S levels m) ms in
      omega arith

  tops_weigh : (f : ℕ → ℕ) → total f (walks S) ≡ total (λ x. f x.0) (top_level S) + total (inner f) (walks S)
  tops_weigh f =
      let xs = top_level S in let N = length S in
      let flat : total f (walks S) ≡ total (λ x. total f (walk S N x.0)) xs = total_flat f (λ x. walk S N x.0) xs in
      let each : total (λ x. total f (walk S N x.0)) xs ≡ total (λ x. f x.0 + total (inner f) (walk S N x.0)) xs =
      total_at (λ x. total f (walk S N x.0)) (λ x. f x.0 + total (inner f) (walk S N x.0)) xs (λ k x e. walk_weighs N x.0 (omega arith) f) in
      let two : total (λ x. f x.0) xs + total (λ x. total (inner f) (walk S N x.0)) xs ≡ total (λ x. f x.0 + total (inner f) (walk S N x.0)) xs = total-plus (λ x. f x.0) (λ x. total (inner f) (walk S N x.0)) xs in
      let back : total (inner f) (walks S) ≡ total (λ x. total (inner f) (walk S N x.0)) xs = total_flat (inner f) (λ x. walk S N x.0) xs in
      omega arith

  -- The same of all declarations.

  once : (v m i : ℕ) (xs : List Decl) → i ≤ m → m < i + length xs → total (λ y. if m == y.0 then v else 0) (enumerate_from i xs) ≡ v
  once v m i [] le lt = absurd (omega arith)
  once v m i (x ∷ xs) le lt = three i m _ (λ h. next (differ h) (once v m (i + 1) xs (omega arith) (omega arith))) (λ h. here (omega arith)) where
    differ : i < m → (m == i) ≡ false
    differ h = grind (arith, nat_tests)

    next : (m == i) ≡ false → total (λ y. if m == y.0 then v else 0) (enumerate_from (i + 1) xs) ≡ v → (if m == i then v else 0) + total (λ y. if m == y.0 then v else 0) (enumerate_from (i + 1) xs) ≡ v
    next apart h = rw apart (omega arith)

    here : m ≡ i → (if m == i then v else 0) + total (λ y. if m == y.0 then v else 0) (enumerate_from (i + 1) xs) ≡ v
    here is =
        let equal : (m == i) ≡ true = grind (arith, nat_tests) in
        let none : total (λ y. if m == y.0 then v else 0) (enumerate_from (i + 1) xs) ≡ 0 = total_zero (λ y. if m == y.0 then v else 0) (enumerate_from (i + 1) xs)
        (λ k y e. let a = (numbered_at (i + 1) xs k y e).0 in beyond y.0 (omega arith)) in
        rw equal (omega arith) where
          beyond : (j : ℕ) → m < j → (if m == j then v else 0) ≡ 0
          beyond j lt = let apart : (m == j) ≡ false = grind (arith, nat_tests) in rw apart refl

  abbrev all : List (ℕ × Decl)
  all = enumerate_from 0 S

  abbrev within : List (ℕ × Decl) → ℕ → List ℕ
  within xs n = map (λ x. x.0) (filter (λ x. is_inside n x.1.outer) xs)

  pick : (f : ℕ → ℕ) (j : ℕ) (b : Bool) (xs : List (ℕ × Decl)) (x : ℕ × Decl) → total f (map (λ x. x.0) (cond b (x ∷ xs) xs)) ≡ (if b then f x.0 else 0) + total f (map (λ x. x.0) xs)
  pick f j true xs x = refl
  pick f j false xs x = omega arith

  parted : (f : ℕ → ℕ) (xs : List (ℕ × Decl)) → ((k : ℕ) (x : ℕ × Decl) (n : ℕ) → slice_get xs k ≡ Some x → x.1.outer ≡ Some n → n < length S)
      → total (λ x. f x.0) xs ≡ total (λ x. f x.0) (filter (λ x. is_none x.1.outer) xs) + total (λ y. total f (within xs y.0)) all
  parted f [] h = let z : total (λ (y : ℕ × Decl). 0) all ≡ 0 = total_zero (λ y. 0) all (λ k x e. refl) in omega arith
  parted f (x ∷ xs) h = by x.1.outer refl (parted f xs (λ k y n e o. h (suc k) y n e o)) where
    by : (o : Option ℕ) → x.1.outer ≡ o → total (λ x. f x.0) xs ≡ total (λ x. f x.0) (filter (λ x. is_none x.1.outer) xs) + total (λ y. total f (within xs y.0)) all
        → f x.0 + total (λ x. f x.0) xs ≡ total (λ x. f x.0) (cond (is_none o) (x ∷ filter (λ x. is_none x.1.outer) xs) (filter (λ x. is_none x.1.outer) xs))
        + total (λ y. total f (map (λ x. x.0) (cond (is_inside y.0 o) (x ∷ filter (λ x. is_inside y.0 x.1.outer) xs) (filter (λ x. is_inside y.0 x.1.outer) xs)))) all
    by None e ih = omega arith
    by (Some n) e ih =
        let lt = h zero x n refl e in
        let picked : total (λ y. total f (map (λ x. x.0) (cond (n == y.0) (x ∷ filter (λ x. is_inside y.0 x.1.outer) xs) (filter (λ x. is_inside y.0 x.1.outer) xs)))) all
        ≡ total (λ y. (if n == y.0 then f x.0 else 0) + total f (within xs y.0)) all =
        total_at _ _ all (λ k y g. pick f y.0 (n == y.0) (filter (λ x. is_inside y.0 x.1.outer) xs) x) in
        let two : total (λ y. if n == y.0 then f x.0 else 0) all + total (λ y. total f (within xs y.0)) all ≡ total (λ y. (if n == y.0 then f x.0 else 0) + total f (within xs y.0)) all =
        total-plus (λ y. if n == y.0 then f x.0 else 0) (λ y. total f (within xs y.0)) all in
        let one : total (λ y. if n == y.0 then f x.0 else 0) all ≡ f x.0 = once (f x.0) n 0 S (omega arith) (omega arith) in
        omega arith

  all_weigh : (f : ℕ → ℕ) → total (λ x. f x.0) all ≡ total (λ x. f x.0) (top_level S) + total (λ y. inner f y.0) all
  all_weigh f = parted f all (λ k x n e o. let r = outer_is x.0 n x.1 (declared_at S k x e) o in slice_get_within S n r.0 r.1)

  inner_none : (j : ℕ) (f : ℕ → ℕ) → ((n : ℕ) → length S ≤ n + j → f n ≡ 0) → (n : ℕ) → length S ≤ n + (j + 1) → inner f n ≡ 0
  inner_none j f h n le = total_zero f (inside S n) (λ k m e. let a = inside_at S n k m e in let lt = is_after m n a.0 a.1 a.2 in h m (omega arith))

  same_weight : (k j : ℕ) (f : ℕ → ℕ) → length S ≤ k + j → ((n : ℕ) → length S ≤ n + j → f n ≡ 0) → total f (walks S) ≡ total (λ x. f x.0) all
  same_weight zero j f le h =
      let a = total_zero f (walks S) (λ k n e. h n (omega arith)) in
      let b = total_zero (λ x. f x.0) all (λ k x e. h x.0 (omega arith)) in
      omega arith
  same_weight (suc k) j f le h =
      let a = tops_weigh f in let b = all_weigh f in
      let c = same_weight k (j + 1) (inner f) (omega arith) (inner_none j f h) in
      omega arith

  -- what the numbers of a dump weigh is what those of the schema do
  pub weighed : (f : ℕ → ℕ) → total f (walks S) ≡ total (λ x. f x.0) all
  weighed f =
      let a = tops_weigh f in let b = all_weigh f in
      let none : (n : ℕ) → length S ≤ n + 1 → inner f n ≡ 0 =
      λ n le. total_zero f (inside S n) (λ k m e. let i = inside_at S n k m e in let lt = is_after m n i.0 i.1 i.2 in let w = slice_get_within S m i.0 i.1 in absurd (omega arith)) in
      let c = same_weight (length S) 1 (inner f) (omega arith) none in
      omega arith

  pub walks_length : length (walks S) ≡ length S
  walks_length = sym (total-length (walks S)) ∙ weighed (λ n. 1) ∙ total-enumerate (λ (d : Decl). 1) 0 S ∙ total-length S

  counts_one : (k : ℕ) → k < length S → total (λ w. if k == w then 1 else 0) (walks S) ≡ 1
  counts_one k lt = weighed (λ w. if k == w then 1 else 0) ∙ once 1 k 0 S (omega arith) (omega arith)

  -- each number has its place
  pub has_place : (k : ℕ) (d : Decl) → slice_get S k ≡ Some d → (j : ℕ) × (slice_get (walks S) j ≡ Some k)
  has_place k d at =
      let one = counts_one k (slice_get_within S k d at) in
      let r = first-found (λ w. k == w) 0 (walks S) (omega arith) in
      let p = first-passes (λ w. k == w) 0 (walks S) r.0 r.1 in
      (p.0, p.3 ∙ ap Some (sym (is_equal k p.1 p.4)))

  -- and one alone
  pub place_once : (i j k : ℕ) (d : Decl) → slice_get S k ≡ Some d → slice_get (walks S) i ≡ Some k → slice_get (walks S) j ≡ Some k → i ≡ j
  place_once i j k d at e f =
      let one = counts_one k (slice_get_within S k d at) in
      let itself : (k == k) ≡ true = grind (arith, nat_tests) in
      one-place (λ w. k == w) (walks S) i j k k e f itself itself (omega arith)
