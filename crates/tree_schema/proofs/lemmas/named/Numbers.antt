-- The declarations in the order of a schema, and the number that each has there.
use Rattle.std.proofs.Common.{is_some, encode_utf8_all, ◌≡◌, ◌≤◌, ◌<◌, ◌+◌, ℕ, zero, suc, Bool, true, false, if◌then◌else◌, nat_eq, List, [], ◌∷◌, map, fold, length, Some, slice_get, refl, sym, ap, ◌∙◌, subst, arith}
use Rattle.std.specs.List.{list_any, list_all, enumerate_from}
use Rattle.std.proofs.lemmas.Bool.Decides.{nat_tests}
use Rattle.aidl_base.specs.declared.name.Ident.{Ident}
use Rattle.aidl_base.specs.Names.{dotted}
use Rattle.aidl_base.proofs.lemmas.Tests.{neither}
use Rattle.aidl_schema.specs.Names.{are_ascending}
use Rattle.aidl_schema.specs.Same.{same_text}
use Rattle.aidl_schema.proofs.lemmas.Sames.{same_text_refl, same_text_is}
use Rattle.aidl_syntax.specs.Members.{declared_name}
use Rattle.aidl_names.specs.Breaches.{breaches}
use Rattle.declared_names.specs.Declarations.{Entry, declarations}
use Rattle.declared_names.specs.Names.{text, same}
use Rattle.name_resolution.specs.Resolution.{meaning_of_word}
use Rattle.aidl_names.specs.Rules.{is_taken}
use Rattle.aidl_syntax.specs.Sources.{Source}
use Rattle.tree_schema.specs.Numbers.{Numbered, bytes_of, put, sorted, has_number, number_of}
use Rattle.tree_schema.proofs.lemmas.walked.Totals.{total, total-enumerate, total-length, is_that}
use Rattle.tree_schema.proofs.lemmas.walked.Placed.{placed, all-total, all-ascending, all-exact, Each, each-at, all-each, placed-by}
use Rattle.tree_schema.proofs.lemmas.walked.Ascii.{is_identifier_part, plain-dotted, dotted-injective}
use Rattle.tree_schema.proofs.walked.Outers.{are_named, walked}
use Rattle.tree_schema.proofs.walked.Breaches.{any-shown, each-once, no-taken}
use Rattle.tree_schema.proofs.lemmas.walked.Lists.{first-passes, first-found, only-found, all-from_at, one-place}

-- the text by which a declaration is put at its place
abbrev pub key : Numbered → List ℕ
key x = bytes_of x.1

-- in the order of a schema each has its place by its name
pub sorted-is : (entries : List Entry) → sorted entries ≡ fold (placed key) [] (enumerate_from 0 entries)
unfolding sorted
sorted-is entries = placed-by key put (λ x. refl) (λ y more x. refl) [] (enumerate_from 0 entries)

pub sorted-ascending : (entries : List Entry) → are_ascending (map key (sorted entries)) ≡ true
sorted-ascending entries = ap (λ xs. are_ascending (map key xs)) (sorted-is entries) ∙ all-ascending key [] (enumerate_from 0 entries) refl

-- what the declarations weigh in that order, whether or not E2 is broken
pub sorted-total : (f : Numbered → ℕ) (entries : List Entry) → total f (sorted entries) ≤ total f (enumerate_from 0 entries)
sorted-total f entries =
    let h = all-total key f [] (enumerate_from 0 entries) in
    subst (λ (xs : List Numbered). total f xs ≤ total f (enumerate_from 0 entries)) (sym (sorted-is entries)) (omega arith)

enumerated : (k : ℕ) (xs all : List Entry) → ((n : ℕ) → slice_get all (k + n) ≡ slice_get xs n) → Each (λ x. slice_get all x.0 ≡ Some x.1) (enumerate_from k xs)
enumerated k [] all h = tt
enumerated k (x ∷ xs) all h =
    let at : k ≡ k + 0 = omega arith in
    (ap (slice_get all) at ∙ h 0, enumerated (k + 1) xs all (λ n. let on : (k + 1) + n ≡ k + suc n = omega arith in ap (slice_get all) on ∙ h (suc n)))

-- each place in that order has a declaration with its number
pub sorted-there : (entries : List Entry) (n : ℕ) (x : Numbered) → slice_get (sorted entries) n ≡ Some x → slice_get entries x.0 ≡ Some x.1
sorted-there entries n x at =
    let P : Numbered → Type 0 = λ y. slice_get entries y.0 ≡ Some y.1 in
    let all = all-each key P [] (enumerate_from 0 entries) tt (enumerated 0 entries entries (λ m. let same : 0 + m ≡ m = omega arith in ap (slice_get entries) same)) in
    each-at P (fold (placed key) [] (enumerate_from 0 entries)) all n x (ap (λ xs. slice_get xs n) (sym (sorted-is entries)) ∙ at)

-- the declaration with a number of the trees stands where its number of the schema says
pub number-there : (entries : List Entry) (k n : ℕ) → number_of entries k ≡ Some n → (e : Entry) × (slice_get (sorted entries) n ≡ Some (k, e)) × (slice_get entries k ≡ Some e)
number-there entries k n e =
    let f = first-passes (has_number k) 0 (sorted entries) n e in
    let far = f.2 in
    let place : f.0 ≡ n = omega arith in
    let passes = f.4 in
    let is : f.1.0 ≡ k = grind (arith, nat_tests) in
    let whole : f.1 ≡ (k, f.1.1) = ap (λ (j : ℕ). let x : Numbered = (j, f.1.1) in x) is in
    let at : slice_get (sorted entries) n ≡ Some (k, f.1.1) = ap (slice_get (sorted entries)) (sym place) ∙ f.3 ∙ ap Some whole in
    (f.1.1, at, sorted-there entries n (k, f.1.1) at)

-- one for each of that number
abbrev pub numbered : ℕ → Numbered → ℕ
numbered k x = if has_number k x then 1 else 0

none_before : (k j : ℕ) (xs : List Entry) → k < j → total (numbered k) (enumerate_from j xs) ≡ 0
none_before k j [] lt = refl
none_before k j (x ∷ xs) lt =
    let later = none_before k (j + 1) xs (omega arith) in
    let differs : nat_eq j k ≡ false = grind (arith, nat_tests) in
    rw differs (omega arith)

one_number : (k j : ℕ) (xs : List Entry) → total (numbered k) (enumerate_from j xs) ≤ 1
one_number k j [] = omega arith
one_number k j (x ∷ xs) = by (nat_eq j k) refl (one_number k (j + 1) xs) where
  by : (b : Bool) → nat_eq j k ≡ b → total (numbered k) (enumerate_from (j + 1) xs) ≤ 1 → (if b then 1 else 0) + total (numbered k) (enumerate_from (j + 1) xs) ≤ 1
  by true e rest = let none = none_before k (j + 1) xs (grind (arith, nat_tests)) in omega arith
  by false e rest = omega arith

this_number : (k j n : ℕ) (xs : List Entry) (e : Entry) → k ≡ j + n → slice_get xs n ≡ Some e → total (numbered k) (enumerate_from j xs) ≡ 1
this_number k j n [] e is at = cc
this_number k j zero (x ∷ xs) e is at =
    let same : nat_eq j k ≡ true = grind (arith, nat_tests) in
    let none = none_before k (j + 1) xs (omega arith) in
    rw same (omega arith)
this_number k j (suc n) (x ∷ xs) e is at =
    let differs : nat_eq j k ≡ false = grind (arith, nat_tests) in
    let rest = this_number k (j + 1) n xs e (omega arith) at in
    rw differs (omega arith)

-- the number of what stands at a place of the schema is that place
pub number-of_place : (entries : List Entry) (n : ℕ) (x : Numbered) → slice_get (sorted entries) n ≡ Some x → number_of entries x.0 ≡ Some n
number-of_place entries n x at =
    let le = sorted-total (numbered x.0) entries in
    let one = one_number x.0 0 entries in
    let same : nat_eq x.0 x.0 ≡ true = grind (arith, nat_tests) in
    let zero_on : 0 + n ≡ n = omega arith in
    only-found (has_number x.0) 0 (sorted entries) n x at same (omega arith) ∙ ap Some zero_on

same_itself : (name : List Ident) → same name name ≡ true
same_itself [] = refl
same_itself (i ∷ is) = rw (same_text_refl (text i), same_itself is) refl

-- the declaration's name has identifiers alone
abbrev pub is_well_named : Entry → Bool
is_well_named e = list_all is_identifier_part e.name

same_bytes_same : (d e : Entry) → is_well_named d ≡ true → is_well_named e ≡ true → same_text (bytes_of e) (bytes_of d) ≡ true → same d.name e.name ≡ true
same_bytes_same d e f g s =
    let texts : dotted e.name ≡ dotted d.name = sym (plain-dotted e.name g) ∙ same_text_is (bytes_of e) (bytes_of d) s ∙ plain-dotted d.name f in
    subst (λ (n : List Ident). same d.name n ≡ true) (sym (dotted-injective e.name d.name g f texts)) (same_itself d.name)

module _ (files : List Source) (names : are_named files ≡ true) where
  pub well-named : list_all is_well_named (declarations files) ≡ true
  well-named = all-from_at is_well_named (declarations files) (λ k e at. (walked files names k e at).parts)

  module _ (unbroken : breaches files ≡ []) where
    -- no two declarations have one canonical name
    pub keys-once : (t : List ℕ) → total (λ e. is_that t (bytes_of e)) (declarations files) ≤ 1
    keys-once t =
        let once = each-once is_taken bytes_of is_well_named
        (λ before x f g h. any-shown bytes_of is_well_named (λ d. same d.name x.name) (bytes_of x) (λ y k s. same_bytes_same y x k g s) before f
        (neither (list_any (λ d. same d.name x.name) before) (is_some (meaning_of_word (text (declared_name x.tree).name))) h).0)
        [] (declarations files) refl well-named (no-taken files unbroken) t (omega arith) in
        omega arith

    -- what the declarations weigh in the order of the schema: each is there
    pub sorted-exact : (f : Numbered → ℕ) → total f (sorted (declarations files)) ≡ total f (enumerate_from 0 (declarations files))
    sorted-exact f =
        let h = all-exact key f [] (enumerate_from 0 (declarations files)) (λ t.
        let once = keys-once t in
        let same = total-enumerate (λ e. is_that t (bytes_of e)) 0 (declarations files) in
        omega arith) in
        ap (total f) (sorted-is (declarations files)) ∙ (omega arith)

    -- as many as there are declarations
    pub sorted-length : length (sorted (declarations files)) ≡ length (declarations files)
    sorted-length =
        sym (total-length (sorted (declarations files))) ∙ sorted-exact (λ x. 1) ∙ total-enumerate (λ e. 1) 0 (declarations files) ∙ total-length (declarations files)

    -- each declaration has a number in the schema, and stands there
    pub number-some : (k : ℕ) (e : Entry) → slice_get (declarations files) k ≡ Some e → (n : ℕ) × (number_of (declarations files) k ≡ Some n) × (slice_get (sorted (declarations files)) n ≡ Some (k, e))
    number-some k e at =
        let exact = sorted-exact (numbered k) in
        let one = this_number k 0 k (declarations files) e (omega arith) at in
        let there = first-found (has_number k) 0 (sorted (declarations files)) (omega arith) in
        let stands = number-there (declarations files) k there.0 there.1 in
        let option : Some stands.0 ≡ Some e = sym stands.2 ∙ at in
        let same : stands.0 ≡ e = cc in
        (there.0, there.1, stands.1 ∙ ap (λ (y : Entry). Some (k, y)) same)

    -- declarations of one name are one
    pub names-apart : (j k : ℕ) (d e : Entry) → slice_get (declarations files) j ≡ Some d → slice_get (declarations files) k ≡ Some e → d.name ≡ e.name → j ≡ k
    names-apart j k d e at there alike =
        let once = keys-once (bytes_of d) in
        let first : same_text (bytes_of d) (bytes_of d) ≡ true = same_text_refl (bytes_of d) in
        let second : same_text (bytes_of d) (bytes_of e) ≡ true = ap (λ (n : List Ident). same_text (bytes_of d) (encode_utf8_all (dotted n))) (sym alike) ∙ first in
        one-place (λ x. same_text (bytes_of d) (bytes_of x)) (declarations files) j k d e at there first second once
