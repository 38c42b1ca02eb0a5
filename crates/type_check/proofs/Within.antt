-- What it says that no declaration breaks E22 or E23.
use Rattle.std.proofs.Common.{◌≡◌, ◌<◌, ◌+◌, ◌++◌, ℕ, zero, suc, nat_eq, if◌then◌else◌, List, [], ◌∷◌, length, map, refl, ap, ◌∙◌, subst, arith}
use Rattle.std.specs.List.{range_with_len}
use Rattle.std.proofs.lemmas.List.FromFn.{get_or-map-range_with_len}
use Rattle.aidl_base.specs.declared.breach.Breach.{Breach}
use Rattle.aidl_syntax.specs.Members.{declared_name}
use Rattle.declared_names.specs.Declarations.{declarations}
use Rattle.aidl_names.specs.Rules.{breach}
use Rattle.declared_names.specs.Numbered.{in_each}
use Rattle.aidl_syntax.specs.Sources.{Source}
use Rattle.aidl_schema.specs.declared.schema.Decl.{Decl}
use Rattle.schema_bounds.specs.declared.bound.Bound.{Bound}
use Rattle.schema_bounds.specs.declared.bound.Bound.TheVariants.{Within, HoldsItself as Holding, TooLarge}
use Rattle.schema_bounds.specs.Bounds.{bound}
use Rattle.tree_schema.specs.Numbers.{Numbered, sorted}
use Rattle.type_check.specs.Bounds.{rule_of, bound_at, broken_at, broken, HoldsItself, DefaultTooLarge}

pub both-empty : {A : Type 0} (xs ys : List A) → xs ++ ys ≡ [] → (xs ≡ []) × (ys ≡ [])
both-empty [] ys e = (refl, e)
both-empty (x ∷ xs) ys e = cc

one_within : (b : Bound) (x y : Breach) → (if nat_eq (rule_of b) 22 then x ∷ [] else []) ≡ [] → (if nat_eq (rule_of b) 23 then y ∷ [] else []) ≡ [] → b ≡ Within
one_within Within x y e f = refl
one_within Holding x y e f = cc
one_within TooLarge x y e f = cc

each_within : (bound_of : ℕ → Bound) (k : ℕ) (xs : List Numbered) → in_each (broken_at 22 bound_of) k xs ≡ [] → in_each (broken_at 23 bound_of) k xs ≡ [] → (n : ℕ) → n < length xs → (m : ℕ) → m ≡ k + n → bound_of m ≡ Within
each_within bound_of k [] e f n lt m at = absurd (omega arith)
each_within bound_of k (x ∷ xs) e f zero lt m at =
    let same : m ≡ k = omega arith in
    let first = both-empty (broken_at 22 bound_of k x) (in_each (broken_at 22 bound_of) (k + 1) xs) e in
    let second = both-empty (broken_at 23 bound_of k x) (in_each (broken_at 23 bound_of) (k + 1) xs) f in
    ap bound_of same ∙ one_within (bound_of k) _ _ first.0 second.0
each_within bound_of k (x ∷ xs) e f (suc n) lt m at =
    let first = both-empty (broken_at 22 bound_of k x) (in_each (broken_at 22 bound_of) (k + 1) xs) e in
    let second = both-empty (broken_at 23 bound_of k x) (in_each (broken_at 23 bound_of) (k + 1) xs) f in
    each_within bound_of (k + 1) xs first.1 second.1 n (omega arith) m (omega arith)

-- then each is within bounds
pub all-within : (files : List Source) (S : List Decl) → HoldsItself files S ++ DefaultTooLarge files S ≡ [] → length S ≡ length (sorted (declarations files)) → (n : ℕ) → n < length S → bound S n ≡ Within
unfolding broken
all-within files S e same n lt =
    let none = both-empty (HoldsItself files S) (DefaultTooLarge files S) e in
    each_within (bound S) 0 (sorted (declarations files)) none.0 none.1 n (omega arith) n (omega arith)

-- the breaches are the same by bounds that are the same
each_same : (rule : ℕ) (f g : ℕ → Bound) (k : ℕ) (xs : List Numbered) → ((n : ℕ) → n < length xs → f (k + n) ≡ g (k + n)) → in_each (broken_at rule f) k xs ≡ in_each (broken_at rule g) k xs
each_same rule f g k [] h = refl
each_same rule f g k (x ∷ xs) h =
    let here : k + 0 ≡ k = omega arith in
    let first : f k ≡ g k = subst (λ (j : ℕ). f j ≡ g j) here (h 0 (omega arith)) in
    let rest = each_same rule f g (k + 1) xs (λ n lt. let next : k + suc n ≡ k + 1 + n = omega arith in subst (λ (j : ℕ). f j ≡ g j) next (h (suc n) (omega arith))) in
    ap (λ (b : Bound). (if nat_eq (rule_of b) rule then breach rule x.1.file (declared_name x.1.tree).offset ∷ [] else []) ++ in_each (broken_at rule f) (k + 1) xs) first ∙ ap (λ more. broken_at rule g k x ++ more) rest

-- so they are by the bounds of a schema
pub of-bounds : (rule : ℕ) (bounds : List Bound) (S : List Decl) (xs : List Numbered) → bounds ≡ map (bound S) (range_with_len 0 (length S)) → length xs ≡ length S
    → in_each (broken_at rule (bound_at bounds)) 0 xs ≡ in_each (broken_at rule (bound S)) 0 xs
of-bounds rule bounds S xs e same =
    each_same rule (bound_at bounds) (bound S) 0 xs (λ n lt. let at : n ≡ 0 + n = omega arith in subst (λ (j : ℕ). bound_at bounds j ≡ bound S j) at (ap (λ bs. bound_at bs n) e ∙ get_or-map-range_with_len (bound S) 0 (length S) n n Within (omega arith) (omega arith)))
