-- Findings that are sorted and freed of repetitions, as breaks.
use Rattle.std.proofs.Common.{◌≡◌, ℕ, zero, suc, ◌<◌, Bool, true, ◌&&◌, List, [], ◌∷◌, map, length, get_or, Some, Result, Ok, Err, IfOk, Contains, refl, sym, ap, ◌∙◌, subst, arith}
use Rattle.std.specs.declared.cmp.Ordering.{Ordering}
use Rattle.std.specs.declared.cmp.Ordering.TheVariants.{Less, Equal, Greater}
use Rattle.std.specs.Cmp.{IsEquivalence, IsTotalOrder}
use Rattle.std.specs.Prelude.{◌==◌}
use Rattle.std.specs.Cmp.Lexicographic.{slice_cmp}
use Rattle.std.specs.List.{AllByRecursion, dedup}
use Rattle.std.specs.List.Sorted.{IsPermutation, IsSorted, IsStrictlySortedBy}
use Rattle.std.specs.Ordering.{eq_by_cmp, is_eq, nat_cmp, on, then_cmp, ordering_then}
use Rattle.std.specs.Str.{IsUtf8, bytes_eq, chars, encode_utf8_all}
use Rattle.std.proofs.lemmas.Str.{IsUtf8-had, chars-encodes}
use Rattle.std.specs.String.{string_bytes}
use Rattle.std.proofs.lemmas.Bool.Decides.{nat_tests}
use Rattle.std.proofs.lemmas.Cmp.{eq_by_cmp_equiv, then_total, on_total, nat_cmp_total, nat_list_cmp_total}
use Rattle.std.proofs.lemmas.List.Kept.{Any-dedup, Contains-from_dedup, IsStrictlySortedBy-dedup}
use Rattle.std.proofs.lemmas.Map.Text.{is_eq-slice_cmp}
use Rattle.std.proofs.lemmas.List.Sorted.{Contains-permutation, IsPermutation-sym}
use Rattle.aidl_schema.specs.Broken.{Break, break_order, sorted_once}
use Rattle.aidl_schema.specs.Unbroken.{Has}
use Rattle.compat_judge.specs.declared.findings.Finding.{Finding}
use Rattle.compat_judge.specs.steps.Adds.{finding}
use Rattle.compat_judge.proofs.SortedOnce.{is_once, ties as break_ties}
use Rattle.compat_judge.proofs.Utf8Order.{utf8-order}

-- the order of findings
abbrev pub order : Finding → Finding → Ordering
order = then_cmp (on (λ f. string_bytes f.place) (slice_cmp nat_cmp)) (on (λ f. f.rule) nat_cmp)

order_total : IsTotalOrder order
order_total = then_total (on_total (λ (f : Finding). string_bytes f.place) nat_list_cmp_total) (on_total (λ (f : Finding). f.rule) nat_cmp_total)

utf8_is : (f : Finding) → encode_utf8_all (chars (string_bytes f.place)) ≡ string_bytes f.place
utf8_is f =
    let u : IsUtf8 (string_bytes f.place) = IsUtf8-had (string_bytes f.place) f.place.ok in
    ap (λ bs. encode_utf8_all (chars bs)) (sym u.1.1) ∙ ap encode_utf8_all (chars-encodes u.0 u.1.0) ∙ u.1.1

same_order : (f g : Finding) → order f g ≡ break_order (finding f) (finding g)
same_order f g =
    ap (λ o. ordering_then o (nat_cmp f.rule g.rule))
    (ap (λ x. slice_cmp nat_cmp x (string_bytes g.place)) (sym (utf8_is f)) ∙ ap (λ y. slice_cmp nat_cmp (encode_utf8_all (chars (string_bytes f.place))) y) (sym (utf8_is g))
    ∙ utf8-order (chars (string_bytes f.place)) (chars (string_bytes g.place)))

all_mapped : (f : Finding) (fs : List Finding) → AllByRecursion (λ g. order f g ≡ Less) fs → AllByRecursion (λ b. break_order (finding f) b ≡ Less) (map finding fs)
all_mapped f [] h = tt
all_mapped f (g ∷ fs) h = (sym (same_order f g) ∙ h.0, all_mapped f fs h.1)

strict_mapped : (fs : List Finding) → IsStrictlySortedBy order fs → IsStrictlySortedBy break_order (map finding fs)
unfolding IsStrictlySortedBy
strict_mapped [] h = tt
strict_mapped (f ∷ fs) h = (all_mapped f fs h.0, strict_mapped fs h.1)

has_mapped : (fs : List Finding) (f : Finding) → Contains fs f → Has (map finding fs) (finding f)
has_mapped fs f h = go fs h.0 h.1 h.2
  where
    go : (fs : List Finding) (k : ℕ) → k < length fs → get_or fs k f ≡ f → Has (map finding fs) (finding f)
    go [] k lt e = absurd (omega arith)
    go (g ∷ fs) zero lt e = (0, ap (λ x. Some (finding x)) e)
    go (g ∷ fs) (suc k) lt e = let r = go fs k (omega arith) e in (suc r.0, r.1)

from_mapped : (fs : List Finding) (b : Break) → Has (map finding fs) b → (f : Finding) × Contains fs f × (finding f ≡ b)
from_mapped [] b (i, at) = absurd cc
from_mapped (f ∷ fs) b (zero, at) = (f, (0, omega arith, refl), cc)
from_mapped (f ∷ fs) b (suc i, at) = let r = from_mapped fs b (i, at) in (r.0, (suc r.1.0, omega (arith, r.1.1), r.1.2), r.2)

-- what ties has one place and one rule
kept_tie : (f g : Finding) → order f g ≡ Equal → finding f ≡ finding g
kept_tie f g e = break_ties (finding f) (finding g) (sym (same_order f g) ∙ e)

equal_is : (o : Ordering) → is_eq o ≡ true → o ≡ Equal
equal_is Less e = cc
equal_is Equal e = refl
equal_is Greater e = cc

pub sorted_findings : (same : Finding → Finding → Bool) → IsEquivalence same → ((f g : Finding) → same f g ≡ eq_by_cmp order f g) → (fs gs hs : List Finding) → IsPermutation fs gs → IsSorted order gs → hs ≡ dedup same gs
    → map finding hs ≡ sorted_once (map finding fs)
sorted_findings same equal tie fs gs hs moved rises is =
    is_once (map finding fs) (map finding hs)
    (subst (λ zs. IsStrictlySortedBy break_order (map finding zs)) (sym is) (strict_mapped (dedup same gs) (IsStrictlySortedBy-dedup order_total tie gs rises)))
    back forth
  where
    back : (b : Break) → Has (map finding hs) b → Has (map finding fs) b
    back b h =
        let r = from_mapped (dedup same gs) b (subst (λ zs. Has (map finding zs) b) is h) in
        subst (λ z. Has (map finding fs) z) r.2 (has_mapped fs r.0 (Contains-permutation gs fs r.0 (IsPermutation-sym fs gs moved) (Contains-from_dedup same gs r.0 r.1)))

    forth : (b : Break) → Has (map finding fs) b → Has (map finding hs) b
    forth b h =
        let r = from_mapped fs b h in
        let a = Any-dedup equal gs r.0 (Contains-permutation fs gs r.0 moved r.1) in
        let one : finding r.0 ≡ finding a.1 = kept_tie r.0 a.1 (equal_is (order r.0 a.1) (sym (tie r.0 a.1) ∙ a.4)) in
        subst (λ zs. Has (map finding zs) b) (sym is) (subst (λ z. Has (map finding (dedup same gs)) z) (sym one ∙ r.2) (has_mapped (dedup same gs) a.1 (a.0, a.2, a.3)))

-- findings are the same where their texts and their rules are
abbrev pub same : Finding → Finding → Bool
same f g = bytes_eq (string_bytes f.place) (string_bytes g.place) && (f.rule == g.rule)

pub tie : (f g : Finding) → same f g ≡ eq_by_cmp order f g
tie f g =
    ap (λ b. b && (f.rule == g.rule)) (sym (is_eq-slice_cmp (string_bytes f.place) (string_bytes g.place))) ∙ ap (λ b. is_eq (slice_cmp nat_cmp (string_bytes f.place) (string_bytes g.place)) && b) (sym (is_eq-nat_cmp f.rule g.rule))
    ∙ sym (is_eq-then (slice_cmp nat_cmp (string_bytes f.place) (string_bytes g.place)) (nat_cmp f.rule g.rule))
  where
    is_eq-nat_cmp : (m n : ℕ) → is_eq (nat_cmp m n) ≡ (m == n)
    is_eq-nat_cmp m n = grind (arith, nat_tests)

    is_eq-then : (o p : Ordering) → is_eq (ordering_then o p) ≡ (is_eq o && is_eq p)
    is_eq-then Less p = refl
    is_eq-then Equal p = refl
    is_eq-then Greater p = refl

pub equal : IsEquivalence same
equal =
    let e = eq_by_cmp_equiv order_total in
    record {
      refl = λ x. tie x x ∙ e.refl x;
      symm = λ x y. tie x y ∙ e.symm x y ∙ sym (tie y x);
      congr = λ x y z h. tie x z ∙ e.congr x y z (sym (tie x y) ∙ h) ∙ sym (tie y z);
    }

-- what holds whatever is answered
pub beside_ok : {A E : Type 0} (W : Type 0) (P : A → Type 0) (r : Result A E) → W → IfOk r P → IfOk r (λ a. W × P a)
beside_ok W P (Ok a) w h = (w, h)
beside_ok W P (Err e) w h = tt
