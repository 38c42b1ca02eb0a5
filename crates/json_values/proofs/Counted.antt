-- Where as many fields are found as there are keys, each key names a field.
use Rattle.std.proofs.Common.{◌≡◌, ℕ, zero, suc, ◌+◌, ◌<◌, ◌≤◌, Bool, true, false, cond, List, [], ◌∷◌, take, get_or, length, Option, Some, None, slice_get, is_some, Ordering, Less, Equal, Greater, refl, sym, ap, ◌∙◌, arith, true≢false}
use Rattle.std.specs.Prelude.{if◌then◌else◌}
use Rattle.std.specs.Cmp.Lexicographic.{slice_cmp}
use Rattle.std.specs.List.{count_by, list_any}
use Rattle.std.specs.Ordering.{is_eq, nat_cmp, match_ordering}
use Rattle.std.proofs.lemmas.List.Sums.{count_by_more_no, count_by_more_yes, sum_by-cons}
use Rattle.std.proofs.lemmas.Map.Text.{is_eq-slice_cmp}
use Rattle.std.proofs.lemmas.Slice.Eq.{bytes_eq-Decides}
use Rattle.serde_json.specs.Data as json
use Rattle.serde_json.specs.Find.{get_member}
use Rattle.serde_json.specs.Events.{members_len}
use Rattle.aidl_schema.specs.declared.schema.Field.{Field}
use Rattle.aidl_schema.specs.Holds.{AreApart}
use Rattle.aidl_base.proofs.lemmas.Tests.{neither}
use Rattle.json_values.specs.FromJson.{has_name, unknown_in}
use Rattle.json_writing.specs.Named.{bytes_of}
use Rattle.json_values.specs.steps.Given.{is_found}
use Rattle.json_values.proofs.Names.{name_of_field, later_fields, names_differ}
use Rattle.json_values.proofs.lemmas.Names.{text_apart}

abbrev one_if : Bool → ℕ
one_if b = cond b 1 0

-- no field from this position on has a member
abbrev pub AreMissing : json.Members → ℕ → List Field → Type 0
AreMissing ms given fs = (k : ℕ) (f : Field) → given ≤ k → slice_get fs k ≡ Some f → get_member (bytes_of f.name) ms ≡ None

found-cons : (ms : json.Members) (f : Field) (fs : List Field) → count_by (is_found ms) (f ∷ fs) ≡ cond (is_found ms f) 1 0 + count_by (is_found ms) fs
found-cons ms f fs = sum_by-cons (λ x. cond (is_found ms x) 1 0) f fs

at_most_one : (b : Bool) → cond b 1 0 ≤ 1
at_most_one true = omega arith
at_most_one false = omega arith

skipped : (o : Ordering) (a b : Option json.Data) → is_eq o ≡ false → match_ordering o a b a ≡ a
skipped Less a b e = refl
skipped Equal a b e = absurd (true≢false e)
skipped Greater a b e = refl

-- a member of another name changes nothing
other_member : (l : List ℕ) (j : json.Data) (ms : json.Members) (f : Field) → has_name l f ≡ false → is_found (json.member l j ms) f ≡ is_found ms f
other_member l j ms f other =
    ap is_some (skipped (slice_cmp nat_cmp (bytes_of f.name) l) (get_member (bytes_of f.name) ms) (Some j) (is_eq-slice_cmp (bytes_of f.name) l ∙ other))

none_more : (l : List ℕ) (j : json.Data) (ms : json.Members) (fs : List Field) → list_any (λ f. has_name l f) fs ≡ false → count_by (is_found (json.member l j ms)) fs ≡ count_by (is_found ms) fs
none_more l j ms [] none = refl
none_more l j ms (f ∷ fs) none =
    let two = neither (has_name l f) (list_any (λ g. has_name l g) fs) none in
    let here = other_member l j ms f two.0 in
    let later = none_more l j ms fs two.1 in
    found-cons (json.member l j ms) f fs ∙ ap (λ b. cond b 1 0 + count_by (is_found (json.member l j ms)) fs) here ∙ ap (λ n. cond (is_found ms f) 1 0 + n) later ∙ sym (found-cons ms f fs)

none_named : (l : List ℕ) (f : Field) (fs gs : List Field) → has_name l f ≡ true → ((k : ℕ) (g : Field) → slice_get gs k ≡ Some g → bytes_of g.name ≡ bytes_of f.name → ⊥) → list_any (λ g. has_name l g) gs ≡ false
none_named l f fs [] is differ = refl
none_named l f fs (g ∷ gs) is differ =
    let same : bytes_of f.name ≡ l = (bytes_eq-Decides (bytes_of f.name) l).0 is in
    let other : has_name l g ≡ false = text_apart (bytes_of g.name) l (λ e. differ zero g refl (e ∙ sym same)) in
    rw other (none_named l f fs gs is (λ k h at. differ (suc k) h at))

-- a member more finds at most one field more
one_more : (l : List ℕ) (j : json.Data) (ms : json.Members) (fs : List Field) → AreApart name_of_field fs → count_by (is_found (json.member l j ms)) fs ≤ suc (count_by (is_found ms) fs)
one_more l j ms [] apart = omega arith
one_more l j ms (f ∷ fs) apart = by (has_name l f) refl (one_more l j ms fs (later_fields f fs apart))
  where
    by : (b : Bool) → has_name l f ≡ b → count_by (is_found (json.member l j ms)) fs ≤ suc (count_by (is_found ms) fs)
        → count_by (is_found (json.member l j ms)) (f ∷ fs) ≤ suc (count_by (is_found ms) (f ∷ fs))
    by true is later =
        let same = none_more l j ms fs (none_named l f fs fs is (λ k g at. names_differ f fs apart k g at)) in
        let one = at_most_one (is_found (json.member l j ms) f) in
        omega (arith, found-cons (json.member l j ms) f fs, found-cons ms f fs, same, one)
    by false is later =
        let same = ap (λ b. one_if b) (other_member l j ms f is) in
        omega (arith, found-cons (json.member l j ms) f fs, found-cons ms f fs, same, later)

none_found : (fs : List Field) → count_by (is_found json.no_members) fs ≡ 0
none_found [] = refl
none_found (f ∷ fs) = omega (arith, found-cons json.no_members f fs, none_found fs)

few_found : (fs : List Field) → AreApart name_of_field fs → (ms : json.Members) → count_by (is_found ms) fs ≤ members_len ms
few_found fs apart json.no_members = let none = none_found fs in omega arith
few_found fs apart (json.member l j ms) = let later = few_found fs apart ms in let more = one_more l j ms fs apart in omega arith

pub all_known : (fs : List Field) → AreApart name_of_field fs → (ms : json.Members) → members_len ms ≤ count_by (is_found ms) fs → unknown_in fs ms ≡ None
all_known fs apart json.no_members all = refl
all_known fs apart (json.member l j ms) all = by (list_any (λ f. has_name l f) fs) refl (λ le. all_known fs apart ms le)
  where
    by : (b : Bool) → list_any (λ f. has_name l f) fs ≡ b → (members_len ms ≤ count_by (is_found ms) fs → unknown_in fs ms ≡ None) → (if b then unknown_in fs ms else Some l) ≡ None
    by true is rest = let more = one_more l j ms fs apart in rest (omega arith)
    by false is rest = let same = none_more l j ms fs is in let few = few_found fs apart ms in absurd (omega arith)

-- a field that is found behind a position is one more than those before
found_behind : (ms : json.Members) (fs : List Field) (i k : ℕ) (f : Field) → i ≤ k → slice_get fs k ≡ Some f → is_found ms f ≡ true → suc (count_by (is_found ms) (take i fs)) ≤ count_by (is_found ms) fs
found_behind ms [] i k f le at is = absurd (true≢false (sym (ap is_some at)))
found_behind ms (g ∷ fs) zero zero f le at is =
    let here : is_found ms g ≡ true = ap (λ (o : Option Field). found_in o) at ∙ is in
    omega (arith, found-cons ms g fs, ap one_if here)
  where
    found_in : Option Field → Bool
    found_in None = false
    found_in (Some x) = is_found ms x
found_behind ms (g ∷ fs) zero (suc k) f le at is = let later = found_behind ms fs 0 k f (omega arith) at is in omega (arith, found-cons ms g fs, later)
found_behind ms (g ∷ fs) (suc i) zero f le at is = absurd (omega arith)
found_behind ms (g ∷ fs) (suc i) (suc k) f le at is =
    let later = found_behind ms fs i k f (omega arith) at is in
    omega (arith, found-cons ms g fs, found-cons ms g (take i fs), later)

found_before : (ms : json.Members) (fs : List Field) (i : ℕ) → count_by (is_found ms) (take i fs) ≤ count_by (is_found ms) fs
found_before ms fs zero = omega arith
found_before ms [] (suc i) = omega arith
found_before ms (f ∷ fs) (suc i) = let later = found_before ms fs i in omega (arith, found-cons ms f fs, found-cons ms f (take i fs), later)

-- where as many fields are found before a position as there are keys, they are all that are found
pub all_found : (fs : List Field) → AreApart name_of_field fs → (ms : json.Members) (i : ℕ) → members_len ms ≤ count_by (is_found ms) (take i fs) → count_by (is_found ms) (take i fs) ≡ count_by (is_found ms) fs
all_found fs apart ms i all = let before = found_before ms fs i in let few = few_found fs apart ms in omega arith

-- and no field from there on is found
pub missing_behind : (fs : List Field) → AreApart name_of_field fs → (ms : json.Members) (i : ℕ) → members_len ms ≤ count_by (is_found ms) (take i fs) → AreMissing ms i fs
missing_behind fs apart ms i all k f le at = by (get_member (bytes_of f.name) ms) refl
  where
    by : (o : Option json.Data) → get_member (bytes_of f.name) ms ≡ o → get_member (bytes_of f.name) ms ≡ None
    by None is = is
    by (Some j) is =
        let more = found_behind ms fs i k f le at (ap is_some is) in
        let few = few_found fs apart ms in
        absurd (omega arith)

-- one field more
pub found_more : (ms : json.Members) (fs : List Field) (i : ℕ) (f : Field) (b : Bool) → i < length fs → get_or fs i f ≡ f → is_found ms f ≡ b → count_by (is_found ms) (take (i + 1) fs) ≡ count_by (is_found ms) (take i fs) + cond b 1 0
found_more ms fs i f true lt at is = count_by_more_yes (is_found ms) fs i f lt (ap (is_found ms) at ∙ is)
found_more ms fs i f false lt at is = let same = count_by_more_no (is_found ms) fs i f lt (ap (is_found ms) at ∙ is) in omega (arith, same)
