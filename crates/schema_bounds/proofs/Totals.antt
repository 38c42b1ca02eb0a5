-- Parts are counted one after the other, and each count stops at the same number.
use Rattle.std.proofs.Common.{◌≡◌, ℕ, zero, suc, ◌+◌, ◌<◌, ◌≤◌, max, min, ◌-◌, List, [], ◌∷◌, map, length, get_or, drop, drop-cons, add-one, refl, sym, ap, ◌∙◌, arith, rules}
use Rattle.std.specs.Prelude.{sum}
use Rattle.std.proofs.lemmas.List.Sums.{sum_by-cons}
use Rattle.aidl_schema.specs.Sizes.{greatest_of, const_depth, const_nodes}
use Rattle.aidl_base.specs.declared.constant.Const.{Const, Members, the_lemmas}
use Rattle.schema_bounds.specs.declared.measure.Measure.{Measure}
use Rattle.schema_bounds.specs.declared.measure.Measure.TheVariants.{Depth, Nodes}
use Rattle.schema_bounds.specs.steps.Measures.{most, beside, total, const_size}

-- nothing beside what is counted
nothing_before : (m : Measure) (n : ℕ) → beside m 0 n ≡ n
nothing_before Depth n = omega arith
nothing_before Nodes n = omega arith

nothing_behind : (m : Measure) (n : ℕ) → beside m n 0 ≡ n
nothing_behind Depth n = omega arith
nothing_behind Nodes n = omega arith

-- one part more
one_more : (m : Measure) (top size new part x rest all : ℕ) → min top part ≡ min top x → new ≡ min top (beside m size part)
    → min top (beside m size (beside m x rest)) ≡ min top all → min top (beside m new rest) ≡ min top all
one_more Depth top size new part x rest all same is old = omega arith
one_more Nodes top size new part x rest all same is old = omega arith

-- one level above parts that are counted up to one less
pub one_above : (m : Measure) (size n : ℕ) → size ≡ min (most m - 1) n → size + 1 ≡ min (most m) (suc n)
one_above Depth size n e = omega arith
one_above Nodes size n e = omega arith

-- parts of a depth and of nodes
pub greatest_is : (ns : List ℕ) → greatest_of ns ≡ total Depth ns
greatest_is [] = refl
greatest_is (n ∷ ns) = ap (λ k. max n k) (greatest_is ns)

pub sum_is : (ns : List ℕ) → sum ns ≡ total Nodes ns
sum_is [] = refl
sum_is (n ∷ ns) = sum_by-cons (λ x. x) n ns ∙ ap (λ k. n + k) (sum_is ns)

depth_of_members : (cs : List Const) → const_depth (Members cs) ≡ suc (greatest_of (map const_depth cs))
depth_of_members cs = search (rules, the_lemmas)

nodes_of_members : (cs : List Const) → const_nodes (Members cs) ≡ suc (sum (map const_nodes cs))
nodes_of_members cs = search (rules, the_lemmas)

-- of a brace list
pub of_members : (m : Measure) (cs : List Const) → const_size m (Members cs) ≡ suc (total m (map (λ c. const_size m c) cs))
of_members Depth cs = depth_of_members cs ∙ ap (λ (n : ℕ). suc n) (greatest_is (map const_depth cs))
of_members Nodes cs = nodes_of_members cs ∙ ap (λ (n : ℕ). suc n) (sum_is (map const_nodes cs))

module _ {X : Type 0} (m : Measure) (f : X → ℕ) (top : ℕ) (xs : List X) where
  -- the parts before one are counted, and with the others they are all
  abbrev pub AreCounted : ℕ → ℕ → Type 0
  AreCounted i size = (size ≤ top) × (min top (beside m size (total m (map f (drop i xs)))) ≡ min top (total m (map f xs)))

  pub first : AreCounted 0 0
  first = (omega arith, ap (λ n. min top n) (nothing_before m (total m (map f xs))))

  pub next : (i size new part : ℕ) (x : X) → i < length xs → x ≡ get_or xs i x → min top part ≡ min top (f x) → new ≡ min top (beside m size part)
      → AreCounted i size → AreCounted (i + 1) new
  next i size new part x lt is same so old =
      let rest : drop i xs ≡ x ∷ drop (i + 1) xs = drop-cons xs i x lt ∙ ap (λ y. y ∷ drop (suc i) xs) (sym is) ∙ ap (λ (j : ℕ). x ∷ drop j xs) (sym (add-one i)) in
      let whole : min top (beside m size (beside m (f x) (total m (map f (drop (i + 1) xs))))) ≡ min top (total m (map f xs)) =
      ap (λ ys. min top (beside m size (total m (map f ys)))) (sym rest) ∙ old.1 in
      (omega arith, one_more m top size new part (f x) (total m (map f (drop (i + 1) xs))) (total m (map f xs)) same so whole)

  drop_all : {Y : Type 0} (ys : List Y) (n : ℕ) → length ys ≤ n → drop n ys ≡ []
  drop_all [] zero le = refl
  drop_all [] (suc n) le = refl
  drop_all (y ∷ ys) zero le = absurd (omega arith)
  drop_all (y ∷ ys) (suc n) le = drop_all ys n (omega arith)

  pub last : (i size : ℕ) → length xs ≤ i → AreCounted i size → size ≡ min top (total m (map f xs))
  last i size le old =
      let all : min top (beside m size 0) ≡ min top (total m (map f xs)) = ap (λ ys. min top (beside m size (total m (map f ys)))) (sym (drop_all xs i le)) ∙ old.1 in
      let le = old.0 in
      let none = nothing_behind m size in
      omega arith
