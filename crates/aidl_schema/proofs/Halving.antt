-- What a search by halving over the sorted declarations finds.
use Rattle.std.proofs.Common.{◌≡◌, ℕ, zero, suc, ◌+◌, ◌<◌, ◌≤◌, Bool, true, false, cond, ◌&&◌, List, [], ◌∷◌, ◌++◌, map, length, get_or, Option, Some, None, slice_get, nat_cmp, nat_lt, Ordering, Less, Equal, Greater, refl, sym, ap, ◌∙◌, subst, arith, zero-add, inl, inr, ◌⊎◌, option_map, not, lit<}
use Rattle.std.specs.Cmp.Lexicographic.{slice_cmp}
use Rattle.std.specs.List.{position_from, list_all, AllByRecursion}
use Rattle.std.specs.List.Sorted.{IsStrictlySortedBy, IsNonDecreasingBy, IsPartitionPoint}
use Rattle.std.specs.Ordering.{is_eq, ordering_index}
use Rattle.std.specs.Str.{encode_utf8_all}
use Rattle.std.proofs.lemmas.Iterator.Adapters.{position_from-zero}
use Rattle.std.proofs.lemmas.Map.Text.{is_eq-slice_cmp}
use Rattle.std.proofs.lemmas.Str.{encodes_same, encodes-append, encode_ascii}
use Rattle.std.proofs.lemmas.Bool.Decides.{nat_tests}
use Rattle.std.proofs.lemmas.Cmp.{nat_list_cmp_total}
use Rattle.std.specs.Prelude.{is_none}
use Rattle.aidl_base.specs.declared.name.Ident.{Ident}
use Rattle.aidl_base.specs.Identifiers.{is_identifier, is_letter, is_word_byte, begins}
use Rattle.aidl_base.specs.Names.{dotted}
use Rattle.aidl_base.specs.Reserved.{reserved_of}
use Rattle.aidl_base.proofs.lemmas.Tests.{both}
use Rattle.aidl_schema.proofs.lemmas.Orders.{tied}
use Rattle.std.proofs.lemmas.Option.{slice_get-map, slice_get_within, get_or_from_slice_get}
use Rattle.aidl_schema.specs.declared.schema.Decl.{Decl}
use Rattle.aidl_schema.specs.Find.{number_of_name}
use Rattle.aidl_schema.specs.Holds.{AreApart, AllHold}
use Rattle.aidl_schema.specs.Names.{name_of, is_name, has_part, are_identifiers, is_type_word, last_part}
use Rattle.aidl_schema.specs.Same.{same_text}
use Rattle.aidl_schema.proofs.lemmas.Sames.{same_text_is}

module _ {X : Type 0} (p : X → Bool) where
  found_from : (xs : List X) (k i : ℕ) (x : X) → slice_get xs i ≡ Some x → p x ≡ true → ((j : ℕ) (y : X) → slice_get xs j ≡ Some y → p y ≡ true → j ≡ i) → position_from p k xs ≡ Some (k + i)
  found_from [] k i x at is one = cc
  found_from (y ∷ xs) k zero x at is one =
      let same : y ≡ x = cc in
      let here : p y ≡ true = ap p same ∙ is in
      let n : k ≡ k + zero = omega arith in
      rw here (ap Some n)
  found_from (y ∷ xs) k (suc i) x at is one =
      let n : (k + 1) + i ≡ k + suc i = omega arith in
      let later = found_from xs (k + 1) i x at is (λ j z there so. let same : suc j ≡ suc i = one (suc j) z there so in omega arith) in
      not_here (p y) k (k + suc i) (position_from p (k + 1) xs) (λ e. let clash : zero ≡ suc i = one zero y refl e in cc) (later ∙ ap Some n)
    where
      not_here : (b : Bool) (k n : ℕ) (rest : Option ℕ) → (b ≡ true → ⊥) → rest ≡ Some n → cond b (Some k) rest ≡ Some n
      not_here true k n rest differs e = absurd (differs refl)
      not_here false k n rest differs e = e

  none_from : (xs : List X) (k : ℕ) → ((j : ℕ) (y : X) → slice_get xs j ≡ Some y → p y ≡ false) → position_from p k xs ≡ None
  none_from [] k none = refl
  none_from (y ∷ xs) k none = let here : p y ≡ false = none zero y refl in rw here (none_from xs (k + 1) (λ j z at. none (suc j) z at))

there : {X : Type 0} (xs : List X) (i : ℕ) → i < length xs → (x : X) × (slice_get xs i ≡ Some x)
there [] i lt = absurd (omega arith)
there (x ∷ xs) zero lt = (x, refl)
there (x ∷ xs) (suc i) lt = there xs i (omega arith)

module _ (S : List Decl) (name : List ℕ) (apart : AreApart name_of S) where
  called : Decl → Bool
  called d = same_text (encode_utf8_all (name_of d)) name

  one_called : (i j : ℕ) (x y : Decl) → slice_get S i ≡ Some x → slice_get S j ≡ Some y → same_text (encode_utf8_all (name_of x)) name ≡ true → same_text (encode_utf8_all (name_of y)) name ≡ true → j ≡ i
  one_called i j x y at there p q =
      apart j i y x there at (encodes_same (name_of y) (name_of x) (same_text_is (encode_utf8_all (name_of y)) name q ∙ sym (same_text_is (encode_utf8_all (name_of x)) name p)))

  -- one that ties is the one
  pub found_at : (i : ℕ) → i < length S → ((d : Decl) → slice_cmp nat_cmp (encode_utf8_all (name_of (get_or S i d))) name ≡ Equal) → Some i ≡ number_of_name S name
  found_at i lt tie =
      let x = there S i lt in
      let same = get_or_from_slice_get S i x.0 x.0 x.1 in
      let p : same_text (encode_utf8_all (name_of x.0)) name ≡ true =
      sym (is_eq-slice_cmp (encode_utf8_all (name_of x.0)) name) ∙ ap (λ d. is_eq (slice_cmp nat_cmp (encode_utf8_all (name_of d)) name)) (sym same) ∙ ap is_eq (tie x.0) in
      sym (position_from-zero (λ d. same_text (encode_utf8_all (name_of d)) name) S
      ∙ found_from (λ d. same_text (encode_utf8_all (name_of d)) name) S 0 i x.0 x.1 p (λ j y at q. one_called i j x.0 y x.1 at p q)
      ∙ ap Some (zero-add i))

-- names are of ASCII
small_byte : (b : ℕ) → is_word_byte b ≡ true → b < 128
small_byte b h = grind (arith, nat_tests)

ascii_word : (w : List ℕ) → list_all is_word_byte w ≡ true → encode_utf8_all w ≡ w
ascii_word [] h = refl
ascii_word (b ∷ w) h =
    let two = both (is_word_byte b) (list_all is_word_byte w) h in
    ap (λ c. c ++ encode_utf8_all w) (encode_ascii b (small_byte b two.0)) ∙ ap (λ x. b ∷ x) (ascii_word w two.1)

ascii_identifier : (w : List ℕ) → is_identifier w ≡ true → encode_utf8_all w ≡ w
ascii_identifier w h = ascii_word w (both (begins is_letter w) (list_all is_word_byte w) (both (begins is_letter w && list_all is_word_byte w) (is_none (reserved_of w)) h).0).1

ascii_parts : (parts : List Ident) → are_identifiers (map (λ i. i.0) parts) ≡ true → encode_utf8_all (dotted parts) ≡ dotted parts
ascii_parts [] h = refl
ascii_parts (i ∷ []) h = ascii_identifier i.0 (both (is_identifier i.0) true h).0
ascii_parts (i ∷ j ∷ is) h =
    let two = both (is_identifier i.0) (are_identifiers (map (λ k. k.0) (j ∷ is))) h in
    encodes-append i.0 (46 ∷ dotted (j ∷ is))
    ∙ ap (λ dot. encode_utf8_all i.0 ++ (dot ++ encode_utf8_all (dotted (j ∷ is)))) (encode_ascii 46 (lit< tt))
    ∙ ap (λ x. x ++ (46 ∷ encode_utf8_all (dotted (j ∷ is)))) (ascii_identifier i.0 two.0)
    ∙ ap (λ x. i.0 ++ (46 ∷ x)) (ascii_parts (j ∷ is) two.1)

pub ascii_name : (d : Decl) → is_name d.name.0 ≡ true → encode_utf8_all (name_of d) ≡ name_of d
ascii_name d h =
    let one = both (has_part d.name.0) (are_identifiers (map (λ i. i.0) d.name.0) && not (is_type_word (last_part d.name.0))) h in
    ascii_parts d.name.0 (both (are_identifiers (map (λ i. i.0) d.name.0)) (not (is_type_word (last_part d.name.0))) one.1).0

-- sorted names by their places
all_rec_at : {X : Type 0} (P : X → Type 0) (xs : List X) (k : ℕ) (x : X) → AllByRecursion P xs → slice_get xs k ≡ Some x → P x
all_rec_at P [] k x all at = cc
all_rec_at P (y ∷ xs) zero x all at = let same : y ≡ x = cc in subst P same all.0
all_rec_at P (y ∷ xs) (suc k) x all at = all_rec_at P xs k x all.1 at

named_at : (xs : List Decl) (k : ℕ) (d : Decl) → slice_get xs k ≡ Some d → slice_get (map name_of xs) k ≡ Some (name_of d)
named_at xs k d at = slice_get-map name_of xs k ∙ ap (option_map name_of) at

before_at : (xs : List Decl) (i j : ℕ) (x y : Decl) → IsStrictlySortedBy (slice_cmp nat_cmp) (map name_of xs) → slice_get xs i ≡ Some x → slice_get xs j ≡ Some y → i < j
    → slice_cmp nat_cmp (name_of x) (name_of y) ≡ Less
unfolding IsStrictlySortedBy
before_at [] i j x y sorted at there lt = cc
before_at (z ∷ xs) i zero x y sorted at there lt = absurd (omega arith)
before_at (z ∷ xs) zero (suc j) x y sorted at there lt =
    let same : z ≡ x = cc in
    subst (λ d. slice_cmp nat_cmp (name_of d) (name_of y) ≡ Less) same
    (all_rec_at (λ n. slice_cmp nat_cmp (name_of z) n ≡ Less) (map name_of xs) j (name_of y) sorted.0 (named_at xs j y there))
before_at (z ∷ xs) (suc i) (suc j) x y sorted at there lt = before_at xs i j x y sorted.1 at there (omega arith)

at_most_two : (o : Ordering) → ordering_index o ≤ 2
at_most_two Less = omega arith
at_most_two Equal = omega arith
at_most_two Greater = omega arith

index_rises : (a b n : List ℕ) → slice_cmp nat_cmp a b ≡ Less → (o : Ordering) → slice_cmp nat_cmp b n ≡ o → ordering_index (slice_cmp nat_cmp a n) ≤ ordering_index o
index_rises a b n less Less e = let same = nat_list_cmp_total.trans a b n less e in rw same (omega arith)
index_rises a b n less Equal e = let same : slice_cmp nat_cmp a n ≡ Less = subst (λ x. slice_cmp nat_cmp a x ≡ Less) (tied b n e) less in rw same (omega arith)
index_rises a b n less Greater e = at_most_two (slice_cmp nat_cmp a n)

differs_at : (o : Ordering) → (o ≡ Less) ⊎ (o ≡ Greater) → is_eq o ≡ false
differs_at o (inl e) = rw e refl
differs_at o (inr e) = rw e refl

module _ (S : List Decl) (name : List ℕ) (sorted : IsStrictlySortedBy (slice_cmp nat_cmp) (map name_of S)) (hold : AllHold S) where
  bytes_at : (i : ℕ) (x d : Decl) → slice_get S i ≡ Some x → encode_utf8_all (name_of (get_or S i d)) ≡ name_of x
  bytes_at i x d at = ap (λ e. encode_utf8_all (name_of e)) (get_or_from_slice_get S i x d at) ∙ ascii_name x (hold i x at).name

  rises_at : (i j : ℕ) (x y d : Decl) → slice_get S i ≡ Some x → slice_get S j ≡ Some y → (b : Bool) → nat_lt i j ≡ b → i ≤ j
      → ordering_index (slice_cmp nat_cmp (encode_utf8_all (name_of (get_or S i d))) name) ≤ ordering_index (slice_cmp nat_cmp (encode_utf8_all (name_of (get_or S j d))) name)
  rises_at i j x y d at there true lt le =
      let less : i < j = grind (arith, nat_tests) in
      rw (bytes_at i x d at, bytes_at j y d there) (index_rises (name_of x) (name_of y) name (before_at S i j x y sorted at there less) (slice_cmp nat_cmp (name_of y) name) refl)
  rises_at i j x y d at there false lt le =
      let same : i ≡ j = grind (arith, nat_tests) in
      rw same (omega arith)

  pub rises : IsNonDecreasingBy (λ d. ordering_index (slice_cmp nat_cmp (encode_utf8_all (name_of d)) name)) S
  rises i j d le lt =
      let x = there S i (omega arith) in
      let y = there S j lt in
      rises_at i j x.0 y.0 d x.1 y.1 (nat_lt i j) refl le

  other_at : (i j : ℕ) (y : Decl) → slice_get S j ≡ Some y
      → IsPartitionPoint (λ d. slice_cmp nat_cmp (encode_utf8_all (name_of d)) name ≡ Less) (λ d. slice_cmp nat_cmp (encode_utf8_all (name_of d)) name ≡ Greater) S i
      → (b : Bool) → nat_lt j i ≡ b → (slice_cmp nat_cmp (encode_utf8_all (name_of y)) name ≡ Less) ⊎ (slice_cmp nat_cmp (encode_utf8_all (name_of y)) name ≡ Greater)
  other_at i j y at split true lt =
      let less : j < i = grind (arith, nat_tests) in
      inl (subst (λ d. slice_cmp nat_cmp (encode_utf8_all (name_of d)) name ≡ Less) (get_or_from_slice_get S j y y at) (split.0 j y (omega arith) less))
  other_at i j y at split false lt =
      let more : i ≤ j = grind (arith, nat_tests) in
      inr (subst (λ d. slice_cmp nat_cmp (encode_utf8_all (name_of d)) name ≡ Greater) (get_or_from_slice_get S j y y at) (split.1 j y more (slice_get_within S j y at)))

  pub none_at : (i : ℕ) → IsPartitionPoint (λ d. slice_cmp nat_cmp (encode_utf8_all (name_of d)) name ≡ Less) (λ d. slice_cmp nat_cmp (encode_utf8_all (name_of d)) name ≡ Greater) S i
      → None ≡ number_of_name S name
  none_at i split =
      sym (position_from-zero (λ d. same_text (encode_utf8_all (name_of d)) name) S
      ∙ none_from (λ d. same_text (encode_utf8_all (name_of d)) name) S 0 (λ j y at.
      sym (is_eq-slice_cmp (encode_utf8_all (name_of y)) name) ∙ differs_at (slice_cmp nat_cmp (encode_utf8_all (name_of y)) name) (other_at i j y at split (nat_lt j i) refl)))
