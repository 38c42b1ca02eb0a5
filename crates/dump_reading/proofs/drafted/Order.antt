-- The declarations of the trees that a dump stands for, in the order of a schema, are those of the schema in its own.
use Rattle.std.proofs.Common.{encode_utf8_all, ◌≡◌, ◌+◌, ◌⊎◌, inl, inr, ℕ, zero, suc, true, ◌&&◌, List, [], ◌∷◌, map, fold, Option, Some, slice_get, Ordering, Less, Equal, Greater, nat_cmp, is_lt, refl, sym, ap, ◌∙◌, subst, arith}
use Rattle.std.specs.List.{list_all, enumerate_from}
use Rattle.std.specs.Cmp.Lexicographic.{slice_cmp}
use Rattle.std.specs.List.Sorted.{IsStrictlySortedBy}
use Rattle.std.specs.Ordering.{match_ordering, ordering_reverse}
use Rattle.std.proofs.lemmas.Bool.{and_parts}
use Rattle.std.proofs.lemmas.Cmp.{nat_list_cmp_total}
use Rattle.aidl_base.specs.Names.{dotted}
use Rattle.aidl_syntax.specs.Sources.{Source}
use Rattle.declared_names.specs.Declarations.{Entry, declarations}
use Rattle.tree_schema.specs.Numbers.{Numbered, bytes_of, number_of}
use Rattle.tree_schema.specs.Numbers as numbers
use Rattle.tree_schema.proofs.lemmas.named.Numbers.{key, sorted-is, sorted-ascending, sorted-there, number-of_place}
use Rattle.tree_schema.proofs.lemmas.walked.Ascii.{plain-dotted}
use Rattle.tree_schema.proofs.lemmas.walked.Placed.{placed}
use Rattle.aidl_schema.specs.declared.schema.Decl.{Decl}
use Rattle.aidl_schema.specs.Holds.{AllHold, AreApart}
use Rattle.aidl_schema.specs.Names.{name_of, are_ascending, is_before, has_names, is_name, is_outer}
use Rattle.aidl_schema.proofs.lemmas.Orders.{tied}
use Rattle.tree_schema.proofs.lemmas.walked.Lists.{mapped-there}
use Rattle.dump_reading.proofs.spelled.Values.{name_parts}
use Rattle.dump_reading.proofs.filed.Numbers.{walks, place_once}
use Rattle.dump_reading.proofs.named.Entries.{IsEntry, AreEntries}
use Rattle.dump_reading.proofs.named.Resolved.{number_is}
use Rattle.dump_reading.proofs.settled.Items.{some_is}

-- Lists that rise and have the same are the same.

abbrev In : List ℕ → List (List ℕ) → Type 0
In x xs = (i : ℕ) × (slice_get xs i ≡ Some x)

less_is : (o : Ordering) → is_lt o ≡ true → o ≡ Less
less_is Less e = refl
less_is Equal e = cc
less_is Greater e = cc

each_before : (x : List ℕ) (xs : List (List ℕ)) → list_all (λ y. is_before x y) xs ≡ true → (y : List ℕ) → In y xs → slice_cmp nat_cmp x y ≡ Less
each_before x [] h y (i, at) = cc
each_before x (z ∷ xs) h y (zero, at) = let is : z ≡ y = cc in ap (slice_cmp nat_cmp x) (sym is) ∙ less_is (slice_cmp nat_cmp x z) (and_parts (is_before x z) (list_all (λ y. is_before x y) xs) h).0
each_before x (z ∷ xs) h y (suc i, at) = each_before x xs (and_parts (is_before x z) (list_all (λ y. is_before x y) xs) h).1 y (i, at)

not_both : (x y : List ℕ) → slice_cmp nat_cmp x y ≡ Less → slice_cmp nat_cmp y x ≡ Less → ⊥
not_both x y h k = let turned : slice_cmp nat_cmp x y ≡ Greater = nat_list_cmp_total.antisymm x y ∙ ap ordering_reverse k in let no_way : Less ≡ Greater = sym h ∙ turned in cc

tail_in : (x z : List ℕ) (xs : List (List ℕ)) → In z (x ∷ xs) → slice_cmp nat_cmp x z ≡ Less → In z xs
tail_in x z xs (zero, at) h = let is : x ≡ z = cc in let same : slice_cmp nat_cmp x x ≡ Less = ap (slice_cmp nat_cmp x) is ∙ h in absurd (not_both x x same same)
tail_in x z xs (suc i, at) h = (i, at)

same_lists : (xs ys : List (List ℕ)) → are_ascending xs ≡ true → are_ascending ys ≡ true → ((z : List ℕ) → In z xs → In z ys) → ((z : List ℕ) → In z ys → In z xs) → xs ≡ ys
same_lists [] [] h k there back = refl
same_lists [] (y ∷ ys) h k there back = let r = back y (zero, refl) in nothing r.0 r.1 where
  nothing : (i : ℕ) → slice_get [] i ≡ Some y → [] ≡ y ∷ ys
  nothing i e = cc
same_lists (x ∷ xs) [] h k there back = let r = there x (zero, refl) in nothing r.0 r.1 where
  nothing : (i : ℕ) → slice_get [] i ≡ Some x → x ∷ xs ≡ []
  nothing i e = cc
same_lists (x ∷ xs) (y ∷ ys) h k there back =
    let a = and_parts (list_all (λ z. is_before x z) xs) (are_ascending xs) h in let b = and_parts (list_all (λ z. is_before y z) ys) (are_ascending ys) k in
    let head = first (there x (zero, refl)) (back y (zero, refl)) (each_before x xs a.0) (each_before y ys b.0) in
    ap (λ z. z ∷ xs) head ∙ ap (λ zs. y ∷ zs) (same_lists xs ys a.1 b.1
    (λ z g. tail_in y z ys (there z (later x xs z g)) (ap (λ w. slice_cmp nat_cmp w z) (sym head) ∙ each_before x xs a.0 z g))
    (λ z g. tail_in x z xs (back z (later y ys z g)) (ap (λ w. slice_cmp nat_cmp w z) head ∙ each_before y ys b.0 z g))) where
      later : (w : List ℕ) (ws : List (List ℕ)) (z : List ℕ) → In z ws → In z (w ∷ ws)
      later w ws z (i, at) = (suc i, at)

      first : In x (y ∷ ys) → In y (x ∷ xs) → ((z : List ℕ) → In z xs → slice_cmp nat_cmp x z ≡ Less) → ((z : List ℕ) → In z ys → slice_cmp nat_cmp y z ≡ Less) → x ≡ y
      first (zero, at) g p q = cc
      first (suc i, at) (zero, also) p q = cc
      first (suc i, at) (suc j, also) p q = absurd (not_both x y (p y (j, also)) (q x (i, at)))

-- Keys stay where items are put in order.

abbrev HasKey : List ℕ → List Numbered → Type 0
HasKey t xs = (i : ℕ) × (x : Numbered) × (slice_get xs i ≡ Some x) × (key x ≡ t)

key_placed : (t : List ℕ) (ys : List Numbered) (x : Numbered) → HasKey t ys ⊎ (key x ≡ t) → HasKey t (placed key ys x)
key_placed t [] x (inl h) = no_item h.0 h.2 where
  no_item : (i : ℕ) {y : Numbered} → slice_get [] i ≡ Some y → HasKey t (x ∷ [])
  no_item i e = cc
key_placed t [] x (inr h) = (zero, x, refl, h)
key_placed t (y ∷ ys) x h = by (slice_cmp nat_cmp (key x) (key y)) refl h (key_placed t ys x) where
  by : (o : Ordering) → slice_cmp nat_cmp (key x) (key y) ≡ o → HasKey t (y ∷ ys) ⊎ (key x ≡ t) → (HasKey t ys ⊎ (key x ≡ t) → HasKey t (placed key ys x)) → HasKey t (match_ordering o (x ∷ y ∷ ys) (x ∷ ys) (y ∷ placed key ys x))
  by Less e (inl g) more = (suc g.0, g.1, g.2, g.3)
  by Less e (inr g) more = (zero, x, refl, g)
  by Equal e (inl (zero, z, at, g)) more = let is : y ≡ z = cc in (zero, x, refl, tied (key x) (key y) e ∙ ap key is ∙ g)
  by Equal e (inl (suc i, z, at, g)) more = (suc i, z, at, g)
  by Equal e (inr g) more = (zero, x, refl, g)
  by Greater e (inl (zero, z, at, g)) more = (zero, z, at, g)
  by Greater e (inl (suc i, z, at, g)) more = let r = more (inl (i, z, at, g)) in (suc r.0, r.1, r.2, r.3)
  by Greater e (inr g) more = let r = more (inr g) in (suc r.0, r.1, r.2, r.3)

keys_placed : (t : List ℕ) (xs ys : List Numbered) → HasKey t ys ⊎ HasKey t xs → HasKey t (fold (placed key) ys xs)
keys_placed t [] ys (inl h) = h
keys_placed t [] ys (inr h) = no_item h.0 h.2 where
  no_item : (i : ℕ) {y : Numbered} → slice_get [] i ≡ Some y → HasKey t ys
  no_item i e = cc
keys_placed t (x ∷ xs) ys (inl h) = keys_placed t xs (placed key ys x) (inl (key_placed t ys x (inl h)))
keys_placed t (x ∷ xs) ys (inr (zero, z, at, g)) = let is : x ≡ z = cc in keys_placed t xs (placed key ys x) (inl (key_placed t ys x (inr (ap key is ∙ g))))
keys_placed t (x ∷ xs) ys (inr (suc i, z, at, g)) = keys_placed t xs (placed key ys x) (inr (i, z, at, g))

numbered_there : (i : ℕ) (xs : List Entry) (k : ℕ) (e : Entry) → slice_get xs k ≡ Some e → slice_get (enumerate_from i xs) k ≡ Some (i + k, e)
numbered_there i [] k e at = cc
numbered_there i (x ∷ xs) zero e at = let is : x ≡ e = cc in let on : i ≡ i + 0 = omega arith in ap Some (ap (λ (j : ℕ). let y : Numbered = (j, x) in y) on ∙ ap (λ z. let y : Numbered = (i + 0, z) in y) is)
numbered_there i (x ∷ xs) (suc k) e at = let on : (i + 1) + k ≡ i + suc k = omega arith in numbered_there (i + 1) xs k e at ∙ ap (λ (j : ℕ). let y : Option Numbered = Some (j, e) in y) on

mapped_back : {X Y : Type 0} (f : X → Y) (xs : List X) (i : ℕ) (y : Y) → slice_get (map f xs) i ≡ Some y → (x : X) × (slice_get xs i ≡ Some x) × (f x ≡ y)
mapped_back f [] i y e = cc
mapped_back f (x ∷ xs) zero y e = (x, refl, cc)
mapped_back f (x ∷ xs) (suc i) y e = mapped_back f xs i y e

module _ (S : List Decl) (H : AllHold S) (sorted : IsStrictlySortedBy (slice_cmp nat_cmp) (map name_of S)) (A : AreApart name_of S) (named : has_names S ≡ true) (files : List Source) (are : AreEntries S files (walks S) (declarations files)) where
  -- the text of an entry's name is that of its declaration's
  key_is : (w : ℕ) (e : Entry) (h : IsEntry S files (walks S) w e) → bytes_of e ≡ name_of h.declared
  key_is w e h = ap (λ is. encode_utf8_all (dotted is)) h.named ∙ plain-dotted h.declared.name.0 (name_parts h.declared.name.0 (H w h.declared h.at).name).1

  rising : are_ascending (map name_of S) ≡ true
  unfolding has_names
  rising = (and_parts (are_ascending (map name_of S)) (list_all (λ d. is_name d.name.0 && is_outer S d.outer d.name.0) S) named).0

  pub keys_are : map key (numbers.sorted (declarations files)) ≡ map name_of S
  keys_are = same_lists (map key (numbers.sorted (declarations files))) (map name_of S) (sorted-ascending (declarations files)) rising there back where
    there : (z : List ℕ) → In z (map key (numbers.sorted (declarations files))) → In z (map name_of S)
    there z (i, at) =
        let x = mapped_back key (numbers.sorted (declarations files)) i z at in
        let r = are.each x.0.0 x.0.1 (sorted-there (declarations files) i x.0 x.1) in
        (r.0, mapped-there name_of S r.0 r.2.declared r.2.at ∙ ap Some (sym (key_is r.0 x.0.1 r.2) ∙ x.2))

    back : (z : List ℕ) → In z (map name_of S) → In z (map key (numbers.sorted (declarations files)))
    back z (n, at) =
        let d = mapped_back name_of S n z at in
        let k = number_is S H sorted A files are n d.0 d.1 in
        let here : slice_get (enumerate_from 0 (declarations files)) k.0 ≡ Some (0 + k.0, k.3) = numbered_there 0 (declarations files) k.0 k.3 k.4 in
        let decl_is : k.5.declared ≡ d.0 = some_is k.5.declared d.0 (sym k.5.at ∙ d.1) in
        let has = keys_placed z (enumerate_from 0 (declarations files)) [] (inr (k.0, (0 + k.0, k.3), here, key_is n k.3 k.5 ∙ ap name_of decl_is ∙ d.2)) in
        (has.0, mapped-there key (numbers.sorted (declarations files)) has.0 has.1 (ap (λ xs. slice_get xs has.0) (sorted-is (declarations files)) ∙ has.2) ∙ ap Some has.3)

  -- what stands at a place is the entry of the declaration there
  pub placed_entry : (n : ℕ) (d : Decl) → slice_get S n ≡ Some d → (x : Numbered) → slice_get (numbers.sorted (declarations files)) n ≡ Some x
      → (slice_get (declarations files) x.0 ≡ Some x.1) × (slice_get (walks S) x.0 ≡ Some n) × IsEntry S files (walks S) n x.1
  placed_entry n d at x there =
      let stands = sorted-there (declarations files) n x there in
      let r = are.each x.0 x.1 stands in
      let texts : Some (key x) ≡ Some (name_of d) = sym (mapped-there key (numbers.sorted (declarations files)) n x there) ∙ ap (λ xs. slice_get xs n) keys_are ∙ mapped-there name_of S n d at in
      let name : key x ≡ name_of d = cc in
      let is : r.0 ≡ n = A r.0 n r.2.declared d r.2.at at (sym (key_is r.0 x.1 r.2) ∙ name) in
      (stands, r.1 ∙ ap Some is, subst (λ (k : ℕ). IsEntry S files (walks S) k x.1) is r.2)

  -- the number in the schema of what stands for a declaration
  pub number_back : (j n : ℕ) (d : Decl) → slice_get S n ≡ Some d → slice_get (walks S) j ≡ Some n → number_of (declarations files) j ≡ Some n
  number_back j n d at there =
      let x = mapped_back key (numbers.sorted (declarations files)) n (name_of d) (ap (λ xs. slice_get xs n) keys_are ∙ mapped-there name_of S n d at) in
      let p = placed_entry n d at x.0 x.1 in
      let is : x.0.0 ≡ j = place_once S H sorted x.0.0 j n d at p.1 there in
      ap (number_of (declarations files)) (sym is) ∙ number-of_place (declarations files) n x.0 x.1
