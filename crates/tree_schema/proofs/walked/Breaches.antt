-- Where no rule of names is broken, no name comes twice, and no declaration is called as a word for a type.
use Rattle.std.proofs.Common.{◌≡◌, ◌≤◌, ◌+◌, ℕ, zero, suc, Bool, true, false, if◌then◌else◌, List, [], ◌∷◌, ◌++◌, map, fold, Some, is_some, slice_get, flat_map, Ordering, Less, Equal, Greater, bytes_eq, encode_utf8_all, refl, ap, ◌∙◌, subst, arith}
use Rattle.std.specs.List.{list_any, list_all}
use Rattle.std.specs.Ordering.{match_ordering}
use Rattle.std.proofs.lemmas.List.Folds.{list_all-append}
use Rattle.aidl_base.specs.declared.breach.Breach.{Breach}
use Rattle.aidl_base.proofs.lemmas.Tests.{both, neither}
use Rattle.aidl_schema.specs.Same.{same_text}
use Rattle.aidl_schema.proofs.lemmas.Places.{both_empty, each_empty}
use Rattle.aidl_schema.proofs.lemmas.Sames.{same_text_refl, same_text_is}
use Rattle.aidl_syntax.specs.declared.tree.NameTree.{NameTree}
use Rattle.aidl_syntax.specs.Members.{Member, members, body, member_name, declared_name}
use Rattle.aidl_names.specs.Breaches.{breaches, in_order, put, order, rules}
use Rattle.declared_names.specs.Declarations.{Entry, declarations}
use Rattle.declared_names.specs.Names.{text, same}
use Rattle.name_resolution.specs.Resolution.{meaning_of_word}
use Rattle.aidl_names.specs.Rules.{Rule, Spot, breaches_at, WrongFile, Duplicate, UnknownImport, UnknownType, LeftOutType, repeated, repeated_inside, argument_names, taken, is_named_again, is_taken, other_imports, breach}
use Rattle.declared_names.specs.Numbered.{after_earlier, in_each}
use Rattle.aidl_syntax.specs.Sources.{Source}
use Rattle.tree_schema.proofs.lemmas.walked.Totals.{total, total-append, is_that}

put_some : (bs : List Breach) (b : Breach) → put bs b ≡ [] → ⊥
put_some [] b e = cc
put_some (c ∷ more) b e = by (order b c) e where
  by : (o : Ordering) → match_ordering o (b ∷ c ∷ more) (c ∷ more) (c ∷ put more b) ≡ [] → ⊥
  by Less e = cc
  by Equal e = cc
  by Greater e = cc

fold_some : (found bs : List Breach) → (found ≡ [] → ⊥) → fold put found bs ≡ [] → ⊥
fold_some found [] h e = h e
fold_some found (b ∷ bs) h e = fold_some (put found b) bs (put_some found b) e

-- no breach in order, no breach
pub none-in_order : (bs : List Breach) → in_order bs ≡ [] → bs ≡ []
none-in_order [] e = refl
none-in_order (b ∷ bs) e = absurd (fold_some (put [] b) bs (put_some [] b) e)

no_map : {X Y : Type 0} (f : X → Y) (xs : List X) → map f xs ≡ [] → xs ≡ []
no_map f [] e = refl
no_map f (x ∷ xs) e = cc

-- of a list of rules each has no spot
abbrev HaveNoSpot : List Source → List (ℕ × Rule) → Type 0
HaveNoSpot files [] = Unit {0}
HaveNoSpot files (r ∷ rs) = (r.1 files ≡ []) × HaveNoSpot files rs

all_unbroken : (files : List Source) (rs : List (ℕ × Rule)) → flat_map (λ r. breaches_at r.0 (r.1 files)) rs ≡ [] → HaveNoSpot files rs
all_unbroken files [] e = tt
all_unbroken files (r ∷ rs) e =
    let two = both_empty (breaches_at r.0 (r.1 files)) (flat_map (λ (r : ℕ × Rule). breaches_at r.0 (r.1 files)) rs) e in
    (no_map (λ (s : Spot). breach r.0 s.0 s.1) (r.1 files) two.0, all_unbroken files rs two.1)

-- E1 to E5, each
pub none-broken : (files : List Source) → breaches files ≡ [] → (WrongFile files ≡ []) × (Duplicate files ≡ []) × (UnknownImport files ≡ []) × (UnknownType files ≡ []) × (LeftOutType files ≡ [])
none-broken files e =
    let all = all_unbroken files rules (none-in_order (flat_map (λ r. breaches_at r.0 (r.1 files)) rules) e) in
    (all.0, all.1.0, all.1.1.0, all.1.1.1.0, all.1.1.1.1.0)

no_one : {X : Type 0} (b : Bool) (x : X) → (if b then x ∷ [] else []) ≡ [] → b ≡ false
no_one true x e = cc
no_one false x e = refl

-- of things that each fail a test of those before them
module _ {A : Type 0} (test : List A → A → Bool) where
  pub none-earlier : (before xs : List A) (x : A) → after_earlier test before (x ∷ xs) ≡ [] → (test before x ≡ false) × (after_earlier test (before ++ x ∷ []) xs ≡ [])
  none-earlier before xs x e =
      let two = both_empty (if test before x then x ∷ [] else []) (after_earlier test (before ++ x ∷ []) xs) e in
      (no_one (test before x) x two.0, two.1)

  -- each fails it
  pub each-fails : (before xs : List A) → after_earlier test before xs ≡ [] → (k : ℕ) (x : A) → slice_get xs k ≡ Some x → (front : List A) × (test front x ≡ false)
  each-fails before [] e k x at = cc
  each-fails before (y ∷ xs) e zero x at = let is : y ≡ x = cc in (before, subst (λ z. test before z ≡ false) is (none-earlier before xs y e).0)
  each-fails before (y ∷ xs) e (suc k) x at = each-fails (before ++ y ∷ []) xs (none-earlier before xs y e).1 k x at

  -- where the test tells a key that was there before, none comes twice
  module _ (key : A → List ℕ) (fine : A → Bool)
      (tells : (before : List A) (x : A) → list_all fine before ≡ true → fine x ≡ true → test before x ≡ false → total (λ y. is_that (key x) (key y)) before ≡ 0) where
    once_more : (t : List ℕ) (before : List A) (x : A) (b : Bool) → same_text t (key x) ≡ b → total (λ y. is_that (key x) (key y)) before ≡ 0 → total (λ y. is_that t (key y)) before ≤ 1
        → total (λ y. is_that t (key y)) before + (if b then 1 else 0) ≤ 1
    once_more t before x true e none le =
        let is : t ≡ key x = same_text_is t (key x) e in
        let same : total (λ y. is_that t (key y)) before ≡ total (λ y. is_that (key x) (key y)) before = ap (λ (u : List ℕ). total (λ y. is_that u (key y)) before) is in
        omega arith
    once_more t before x false e none le = omega arith

    pub each-once : (before xs : List A) → list_all fine before ≡ true → list_all fine xs ≡ true → after_earlier test before xs ≡ [] → (t : List ℕ)
        → total (λ y. is_that t (key y)) before ≤ 1 → total (λ y. is_that t (key y)) before + total (λ y. is_that t (key y)) xs ≤ 1
    each-once before [] f g e t le = omega arith
    each-once before (x ∷ xs) f g e t le =
        let two = both (fine x) (list_all fine xs) g in
        let parts = none-earlier before xs x e in
        let none = tells before x f two.0 parts.0 in
        let now = once_more t before x (same_text t (key x)) refl none le in
        let sum = total-append (λ y. is_that t (key y)) before (x ∷ []) in
        let all : list_all fine (before ++ x ∷ []) ≡ true = list_all-append fine before (x ∷ []) ∙ rw (f, two.0) refl in
        let later = each-once (before ++ x ∷ []) xs all two.1 parts.1 t (omega arith) in
        omega arith

-- the members and arguments of a declaration
pub any-shown : {A : Type 0} (key : A → List ℕ) (fine found : A → Bool) (t : List ℕ) → ((y : A) → fine y ≡ true → same_text t (key y) ≡ true → found y ≡ true)
    → (xs : List A) → list_all fine xs ≡ true → list_any found xs ≡ false → total (λ y. is_that t (key y)) xs ≡ 0
any-shown key fine found t h [] f e = refl
any-shown key fine found t h (x ∷ xs) f e =
    let two = neither (found x) (list_any found xs) e in
    let all = both (fine x) (list_all fine xs) f in
    by (same_text t (key x)) (h x all.0) two.0 (any-shown key fine found t h xs all.1 two.1) where
      by : (b : Bool) → (b ≡ true → found x ≡ true) → found x ≡ false → total (λ y. is_that t (key y)) xs ≡ 0 → (if b then 1 else 0) + total (λ y. is_that t (key y)) xs ≡ 0
      by true shows fails rest = let passes = shows refl in cc
      by false shows fails rest = omega arith

-- the text of a name
abbrev pub name_text : NameTree → List ℕ
name_text n = n.name.0

same_bytes : (x y : List ℕ) → same_text x y ≡ true → bytes_eq (encode_utf8_all x) (encode_utf8_all y) ≡ true
same_bytes x y e = subst (λ (z : List ℕ). bytes_eq (encode_utf8_all x) (encode_utf8_all z) ≡ true) (same_text_is x y e) (same_text_refl (encode_utf8_all x))

all_fine : {A : Type 0} (xs : List A) → list_all (λ x. true) xs ≡ true
all_fine [] = refl
all_fine (x ∷ xs) = all_fine xs

-- no repeated name, so each comes once
pub names-once : (file : ℕ) (names : List NameTree) → repeated file names ≡ [] → (t : List ℕ) → total (λ n. is_that t (name_text n)) names ≤ 1
names-once file names e t =
    let none = no_map (λ n. (file, n.offset)) (after_earlier is_named_again [] names) e in
    let le = each-once is_named_again name_text (λ n. true)
    (λ before x f g h. any-shown name_text (λ n. true) (λ m. bytes_eq (text x.name) (text m.name)) (name_text x) (λ y g s. same_bytes (name_text x) (name_text y) s) before f h)
    [] names refl (all_fine names) none t (omega arith) in
    omega arith

module _ (files : List Source) (unbroken : breaches files ≡ []) where
  duplicates : (flat_map repeated_inside (declarations files) ≡ []) × (taken (declarations files) ≡ [])
  duplicates = both_empty (flat_map repeated_inside (declarations files)) (taken (declarations files))
      (both_empty (flat_map repeated_inside (declarations files) ++ taken (declarations files)) (in_each other_imports 0 files) (none-broken files unbroken).1).0

  -- no declaration has the name of an earlier one
  pub no-taken : after_earlier is_taken [] (declarations files) ≡ []
  no-taken = no_map (λ d. (d.file, (declared_name d.tree).offset)) (after_earlier is_taken [] (declarations files)) duplicates.1

  module _ (k : ℕ) (e : Entry) (at : slice_get (declarations files) k ≡ Some e) where
    inside_parts : (repeated e.file (map member_name (members (body e.tree))) ≡ []) × (flat_map (λ m. repeated e.file (argument_names m)) (members (body e.tree)) ≡ [])
    inside_parts = both_empty (repeated e.file (map member_name (members (body e.tree)))) (flat_map (λ m. repeated e.file (argument_names m)) (members (body e.tree)))
        (each_empty repeated_inside (declarations files) e duplicates.0 (k, at))

    -- the names of its members
    pub members-once : (t : List ℕ) → total (λ n. is_that t (name_text n)) (map member_name (members (body e.tree))) ≤ 1
    members-once = names-once e.file (map member_name (members (body e.tree))) inside_parts.0

    -- the names of the arguments of a method
    pub arguments-once : (j : ℕ) (m : Member) → slice_get (members (body e.tree)) j ≡ Some m → (t : List ℕ) → total (λ n. is_that t (name_text n)) (argument_names m) ≤ 1
    arguments-once j m there = names-once e.file (argument_names m) (each_empty (λ w. repeated e.file (argument_names w)) (members (body e.tree)) m inside_parts.1 (j, there))

    -- its name is no word for a type
    pub no-type_word : is_some (meaning_of_word (text (declared_name e.tree).name)) ≡ false
    no-type_word =
        let fails = each-fails is_taken [] (declarations files) no-taken k e at in
        (neither (list_any (λ d. same d.name e.name) fails.0) (is_some (meaning_of_word (text (declared_name e.tree).name))) fails.1).1
