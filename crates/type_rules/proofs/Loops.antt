-- Loops over annotations and methods that look at those before, and what the rules add one after the other.
use Rattle.std.proofs.Common.{◌≡◌, ◌+◌, ◌<◌, ℕ, Bool, List, [], ◌∷◌, ◌++◌, map, length, take, drop, get_or, add-one, append_assoc, Result, OnOk, ◌∙◌, ap, sym, subst}
use Rattle.std.proofs.lemmas.List.{map-append}
use Rattle.std.proofs.lemmas.Simd.{map-map}
use Rattle.aidl_base.specs.declared.breach.Breach.{Breach}
use Rattle.aidl_names.specs.Rules.{breach}
use Rattle.declared_names.specs.Numbered.{after_earlier}
use Rattle.declared_names.proofs.lemmas.Earlier.{earlier-next, one_if, take-next}
use Rattle.type_rules.specs.Filters.{breaches_at}

-- what f makes of one more of the first
pub mapped-next : {A B : Type 0} (f : A → B) (xs : List A) (i : ℕ) (x : A) → i < length xs → x ≡ get_or xs i x → map f (take (i + 1) xs) ≡ map f (take i xs) ++ f x ∷ []
mapped-next f xs i x lt is = ap (λ (j : ℕ). map f (take j xs)) (add-one i) ∙ ap (map f) (take-next xs i x lt is) ∙ map-append f (take i xs) (x ∷ [])

-- the breaches at a place of each
pub many : {A : Type 0} (rule file : ℕ) (place : A → ℕ) (xs : List A) → breaches_at rule file (map place xs) ≡ map (λ x. breach rule file (place x)) xs
many rule file place xs = map-map (breach rule file) place xs

-- the breach of the next of the things that pass a test with those before them
pub placed-next : {A : Type 0} (rule file : ℕ) (place : A → ℕ) (test : List A → A → Bool) (xs : List A) (i : ℕ) (x : A) → i < length xs → x ≡ get_or xs i x
    → breaches_at rule file (map place (after_earlier test (take i xs) (drop i xs)))
    ≡ one_if (test (take i xs) x) (breach rule file (place x)) ++ breaches_at rule file (map place (after_earlier test (take (i + 1) xs) (drop (i + 1) xs)))
placed-next {A = A} rule file place test xs i x lt is =
    let found : A → Breach = λ y. breach rule file (place y) in
    many rule file place (after_earlier test (take i xs) (drop i xs))
    ∙ earlier-next found test xs i x lt is
    ∙ ap (λ bs. one_if (test (take i xs) x) (found x) ++ bs) (sym (many rule file place (after_earlier test (take (i + 1) xs) (drop (i + 1) xs))))

-- what is added, and then more, is all that is added
pub and_more : {B : Type 0} (r x s more : List B) → s ≡ r ++ x → s ++ more ≡ r ++ (x ++ more)
and_more r x s more e = ap (λ z. z ++ more) e ∙ append_assoc r x more
