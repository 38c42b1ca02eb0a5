-- What the law of trees says of files, as rules 5 to 7 ask it: no place comes twice, and the literals are plain.
use Rattle.std.proofs.Common.{◌≡◌, ◌≤◌, ◌<◌, ◌+◌, ◌==◌, ℕ, pos, suc, Bool, true, false, not, ◌&&◌, nat_le, if◌then◌else◌, All, List, [], ◌∷◌, Some, slice_get, refl, sym, ap, ◌∙◌, subst, arith}
use Rattle.std.specs.List.{list_all, slice_index}
use Rattle.std.specs.List.Sorted.{IsStrictlyIncreasing}
use Rattle.std.specs.Ordering.{int_eq}
use Rattle.std.proofs.lemmas.Bool.Decides.{nat_tests, Decides-int_eq}
use Rattle.std.proofs.lemmas.Option.{slice_get_within, get_or_from_slice_get}
use Rattle.aidl_base.specs.declared.reserved.Reserved.{Reserved}
use Rattle.aidl_base.specs.declared.reserved.Reserved.TheVariants as word
use Rattle.aidl_base.proofs.lemmas.Tests.{both}
use Rattle.aidl_schema.specs.Constants.{is_char_literal, is_string_character}
use Rattle.aidl_syntax.specs.Bytes.{is_inside}
use Rattle.aidl_syntax.specs.declared.token.Token.{Token}
use Rattle.aidl_syntax.specs.declared.token.TokenKind.{TokenKind}
use Rattle.aidl_syntax.specs.declared.token.TokenKind.TheVariants as token
use Rattle.aidl_syntax.specs.Parses.{Holds}
use Rattle.aidl_syntax.specs.Walks.{counting, in_file, literals_of, places_of}
use Rattle.aidl_syntax.specs.Sources.{Source}
use Rattle.const_values.specs.Literals.{literal_of}
use Rattle.tree_schema.proofs.lemmas.walked.Lists.{all-from_at}
use Rattle.tree_schema.proofs.lemmas.walked.Placed.{Each}
use Rattle.tree_schema.proofs.lemmas.walked.Totals.{total}
use Rattle.tree_schema.proofs.typed.Uses.{each-from_at}
use Rattle.tree_schema.proofs.lemmas.settled.Places.{HasPlacesOnce}
use Rattle.tree_schema.proofs.settled.Plain.{is_plain_option}
use Rattle.tree_schema.proofs.settled.Walks.{is_plain_token, are_plain}

at_place : {X : Type 0} (P : X → Type 0) (xs : List X) → All P xs → (k : ℕ) (x : X) → slice_get xs k ≡ Some x → P x
at_place P xs all k x at = subst P (get_or_from_slice_get xs k x x at) (all k x (slice_get_within xs k x at))

-- Places that ascend

abbrev Rises : ℕ → List ℕ → Type 0
Rises low [] = Unit {0}
Rises low (x ∷ xs) = (low ≤ x) × Rises (x + 1) xs

rises_from : (x : ℕ) (xs : List ℕ) → IsStrictlyIncreasing (x ∷ xs) → Rises (x + 1) xs
rises_from x [] h = tt
rises_from x (y ∷ more) h = let lt : x < y = h 0 (omega arith) in (
  omega arith,
  rises_from y more (λ k le.
      let on : suc k + 1 ≡ suc (k + 1) = omega arith in
      subst (λ (j : ℕ). slice_index (x ∷ y ∷ more) (suc k) < slice_index (x ∷ y ∷ more) j) on (h (suc k) (omega arith))),
)

rises : (xs : List ℕ) → IsStrictlyIncreasing xs → Rises 0 xs
rises [] h = tt
rises (x ∷ xs) h = (omega arith, rises_from x xs h)

none_below : (place low : ℕ) (xs : List ℕ) → place < low → Rises low xs → total (λ o. if place == o then 1 else 0) xs ≡ 0
none_below place low [] lt r = refl
none_below place low (x ∷ xs) lt r =
    let le = r.0 in
    let differs : (place == x) ≡ false = grind (arith, nat_tests) in
    let rest = none_below place (x + 1) xs (omega arith) r.1 in
    rw differs (omega arith)

once : (place low : ℕ) (xs : List ℕ) → Rises low xs → total (λ o. if place == o then 1 else 0) xs ≤ 1
once place low [] r = omega arith
once place low (x ∷ xs) r = by (place == x) refl (once place (x + 1) xs r.1) where
  by : (b : Bool) → (place == x) ≡ b → total (λ o. if place == o then 1 else 0) xs ≤ 1 → (if b then 1 else 0) + total (λ o. if place == o then 1 else 0) xs ≤ 1
  by true e rest =
      let same : place ≡ x = grind (arith, nat_tests) in
      let none = none_below place (x + 1) xs (omega arith) r.1 in
      omega arith
  by false e rest = omega arith

file_once : (s : Source) → IsStrictlyIncreasing (places_of s.tree) → HasPlacesOnce s
unfolding places_of
file_once s h place = once place 0 (places_of s.tree) (rises (places_of s.tree) h)

-- the clause `ascend` of the law of trees, of each file
pub placed-files : (files : List Source) → All (λ s. IsStrictlyIncreasing (places_of s.tree)) files → Each HasPlacesOnce files
placed-files files all = each-from_at HasPlacesOnce files (λ k s at. file_once s (at_place (λ (r : Source). IsStrictlyIncreasing (places_of r.tree)) files all k s at))

-- Literals

four : (a b c d : Bool) → (a && b && c && d) ≡ true → (a ≡ true) × (b ≡ true) × (c ≡ true) × (d ≡ true)
four a b c d h =
    let one = both (a && b && c) d h in
    let two = both (a && b) c one.0 in
    let three = both a b two.0 in
    (three.0, three.1, two.1, one.1)

same_number : (c n : ℕ) → pos c ≡ pos n → c ≡ n
same_number c n e = cc

differs_so : (c n : ℕ) → not (c == n) ≡ true → not (int_eq (pos c) (pos n)) ≡ true
differs_so c n h = by (int_eq (pos c) (pos n)) refl where
  by : (b : Bool) → int_eq (pos c) (pos n) ≡ b → not b ≡ true
  by false e = refl
  by true e =
      let same : c ≡ n = same_number c n ((Decides-int_eq (pos c) (pos n)).0 e) in
      let equal : (c == n) ≡ true = grind (arith, nat_tests) in
      ap not (sym equal) ∙ h

character_plain : (c : ℕ) → is_inside 39 c ≡ true → is_char_literal (pos c) ≡ true
character_plain c h =
    let parts = four (nat_le 32 c) (nat_le c 126) (not (c == 39)) (not (c == 92)) h in
    rw (parts.0, parts.1, differs_so c 39 parts.2, differs_so c 92 parts.3) refl

string_plain : (c : ℕ) → is_inside 34 c ≡ true → is_string_character c ≡ true
string_plain c h =
    let parts = four (nat_le 32 c) (nat_le c 126) (not (c == 34)) (not (c == 92)) h in
    rw (parts.0, parts.1, parts.2, parts.3) refl

text_plain : (x : List ℕ) → list_all (is_inside 34) x ≡ true → list_all is_string_character x ≡ true
text_plain [] h = refl
text_plain (c ∷ x) h =
    let parts = both (is_inside 34 c) (list_all (is_inside 34) x) h in
    rw (string_plain c parts.0, text_plain x parts.1) refl

holds_plain : (k : TokenKind) → Holds k → is_plain_option (literal_of k) ≡ true
holds_plain (token.Number bits hexadecimal long) h = number hexadecimal long where
  number : (a b : Bool) → is_plain_option (literal_of (token.Number bits a b)) ≡ true
  number a true = refl
  number a false = refl
holds_plain (token.Character c) h = character_plain c h
holds_plain (token.Str x) h = text_plain x h
holds_plain (token.Name x) h = refl
holds_plain (token.Mark s) h = refl
holds_plain (token.Word w) h = by w where
  by : (v : Reserved) → is_plain_option (literal_of (token.Word v)) ≡ true
  by word.True = refl
  by word.False = refl
  by _ = refl

file_plain : (s : Source) → All (λ t. Holds t.kind) (literals_of s.tree) → list_all is_plain_token (in_file counting s.tree) ≡ true
unfolding literals_of
file_plain s all = all-from_at is_plain_token (in_file counting s.tree) (λ k t at. holds_plain t.kind (at_place (λ (u : Token). Holds u.kind) (literals_of s.tree) all k t at))

-- the clause `literals` of the law of trees, of each file
pub plain-files : (files : List Source) → All (λ s. All (λ t. Holds t.kind) (literals_of s.tree)) files → are_plain files ≡ true
plain-files files all = all-from_at (λ (s : Source). list_all is_plain_token (in_file counting s.tree)) files
    (λ k s at. file_plain s (at_place (λ (r : Source). All (λ (t : Token). Holds t.kind) (literals_of r.tree)) files all k s at))
