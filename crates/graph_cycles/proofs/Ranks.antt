-- How many nodes a node leads to is less than for a node from which an edge leads to it, where that one lies on no cycle.
use Rattle.std.proofs.Common.{◌≡◌, ℕ, zero, suc, ◌+◌, ◌<◌, ◌≤◌, ◌⊎◌, inl, inr, ◌↔◌, IsTrue, Bool, true, false, List, [], ◌∷◌, length, get_or, set, eqb, nat_lt, take, slice_index, slice_index_or, slice_set, ◌++◌, ◌≢◌, get_or-set_other, refl, sym, ◌∙◌, ap, subst, arith, true≢false}
use Rattle.graph_cycles.specs.Paths.{IsEdge, Leads, TellsCycles, Descends, flag, targets}
use Rattle.graph_cycles.specs.steps.Marks.{AfterNode, IsOrLeads, IsClosed, IsRank, unmarked}
use Rattle.std.proofs.lemmas.List.{take_more, get_or_append_left}
use Rattle.std.proofs.lemmas.Grind.{common_steps, get_or-set_at}
use Rattle.std.proofs.lemmas.Bool.Decides.{nat_tests}
use Rattle.std.proofs.Math.Seq.{get_or-append_seam}
use Rattle.graph_cycles.proofs.Steps.{join, one_edge, closed_has, kept, flag_within, source}

no_more : (xs : List Bool) → unmarked xs ≤ length xs
no_more [] = omega arith
no_more (true ∷ xs) = let rest = no_more xs in omega arith
no_more (false ∷ xs) = let rest = no_more xs in omega arith

-- flags that mark all that others mark leave no more unmarked
subset : (xs ys : List Bool) → length xs ≡ length ys → ((k : ℕ) → flag xs k ≡ true → flag ys k ≡ true) → unmarked ys ≤ unmarked xs
subset [] [] len h = omega arith
subset [] (y ∷ ys) len h = absurd (omega arith)
subset (x ∷ xs) [] len h = absurd (omega arith)
subset (true ∷ xs) (true ∷ ys) len h = subset xs ys (omega arith) (λ k. h (suc k))
subset (true ∷ xs) (false ∷ ys) len h = absurd (true≢false (sym (h zero refl)))
subset (false ∷ xs) (true ∷ ys) len h = let rest = subset xs ys (omega arith) (λ k. h (suc k)) in omega arith
subset (false ∷ xs) (false ∷ ys) len h = let rest = subset xs ys (omega arith) (λ k. h (suc k)) in omega arith

-- and less, where they mark one more
strict : (xs ys : List Bool) (n : ℕ) → length xs ≡ length ys → ((k : ℕ) → flag xs k ≡ true → flag ys k ≡ true) → flag xs n ≡ false → flag ys n ≡ true → unmarked ys < unmarked xs
strict [] [] n len h f t = absurd (true≢false (sym t))
strict [] (y ∷ ys) n len h f t = absurd (omega arith)
strict (x ∷ xs) [] n len h f t = absurd (omega arith)
strict (true ∷ xs) (y ∷ ys) zero len h f t = absurd (true≢false f)
strict (false ∷ xs) (false ∷ ys) zero len h f t = absurd (true≢false (sym t))
strict (false ∷ xs) (true ∷ ys) zero len h f t = let rest = subset xs ys (omega arith) (λ k. h (suc k)) in omega arith
strict (true ∷ xs) (true ∷ ys) (suc n) len h f t = strict xs ys n (omega arith) (λ k. h (suc k)) f t
strict (true ∷ xs) (false ∷ ys) (suc n) len h f t = absurd (true≢false (sym (h zero refl)))
strict (false ∷ xs) (true ∷ ys) (suc n) len h f t = let rest = strict xs ys n (omega arith) (λ k. h (suc k)) f t in omega arith
strict (false ∷ xs) (false ∷ ys) (suc n) len h f t = let rest = strict xs ys n (omega arith) (λ k. h (suc k)) f t in omega arith

some_marked : (xs : List Bool) (n : ℕ) → flag xs n ≡ true → unmarked xs < length xs
some_marked [] n t = absurd (true≢false (sym t))
some_marked (true ∷ xs) n t = let rest = no_more xs in omega arith
some_marked (false ∷ xs) zero t = absurd (true≢false (sym t))
some_marked (false ∷ xs) (suc n) t = let rest = some_marked xs n t in omega arith

unset : (b : Bool) → (b ≡ true → ⊥) → b ≡ false
unset true h = absurd (h refl)
unset false h = refl

module _ (G : List (List ℕ)) where
  -- what an edge leads to and all that this leads to
  through : (m n k : ℕ) → IsEdge (targets G) m n → IsOrLeads (targets G) n k → Leads (targets G) m k
  through m n k e (inl same) = subst (λ x. Leads (targets G) m x) same (one_edge G m n e)
  through m n k e (inr p) = join G m n k (one_edge G m n e) p

  module _ (m n r s : ℕ) (e : IsEdge (targets G) m n) (off : Leads (targets G) m m → ⊥) (at_m : IsRank G m r) (at_n : IsRank G n s) (row : m < length G) where
    below : (k : ℕ) → flag at_n.marks k ≡ true → flag at_m.marks k ≡ true
    below k t =
        let lt = flag_within at_n.marks k t in
        let len_m = at_m.len in
        let len_n = at_n.len in
        at_m.whole k (omega arith) (inr (through m n k e (at_n.sound k t)))

    not_there : flag at_n.marks m ≡ false
    not_there = unset (flag at_n.marks m) (λ t. off (through m n m e (at_n.sound m t)))

    pub rank_falls : s < r
    rank_falls =
        let len_m = at_m.len in
        let len_n = at_n.len in
        let less = strict at_n.marks at_m.marks m (len_n ∙ sym len_m) below not_there (at_m.whole m (omega arith) (inl refl)) in
        let count_m = at_m.count in
        let count_n = at_n.count in
        omega arith

  -- each node counts itself
  pub counts_itself : (m r : ℕ) → IsRank G m r → m < length G → 0 < r
  counts_itself m r at row =
      let len = at.len in
      let some = some_marked at.marks m (at.whole m (omega arith) (inl refl)) in
      let count = at.count in
      omega arith

  has_set : (xs : List Bool) (m n : ℕ) (b : Bool) → eqb n m ≡ b → m < length xs → (n ≢ m → flag xs n ≡ true) → flag (slice_set xs m true) n ≡ true
  has_set xs m n true e lt other = let same : n ≡ m = grind (arith, nat_tests) in get_or-set_at xs m n true false same lt
  has_set xs m n false e lt other = let ne : n ≢ m = grind (arith, nat_tests) in get_or-set_other xs m n true false ne ∙ other ne

  apart : (m n : ℕ) → IsOrLeads (targets G) m n → n ≢ m → Leads (targets G) m n
  apart m n (inl same) ne = absurd (ne (sym same))
  apart m n (inr p) ne = p

  -- the marks of a search from a node, with the node itself, are those of its rank
  pub reach_is : (xs ys : List Bool) (m r : ℕ) → AfterNode (targets G) m xs → IsClosed (targets G) m xs → length xs ≡ length G → m < length G
      → ys ≡ slice_set xs m true → length ys ≡ length G → r + unmarked ys ≡ length ys → IsRank G m r
  reach_is xs ys m r old closed len lt is same count = record {
    marks = ys;
    len = same;
    sound = λ n t. kept (λ k. IsOrLeads (targets G) m k) xs m (λ k h. inr (old k h)) (inl refl) n (ap (λ zs. flag zs n) (sym is) ∙ t);
    whole = λ n here reached. ap (λ zs. flag zs n) is ∙ has_set xs m n (eqb n m) refl (omega arith) (λ ne. closed_has G xs m n len closed (omega arith) (apart m n reached ne));
    count = count;
  }

  beyond_or_within : (ranks : List ℕ) (m n : ℕ) → length ranks ≡ length G → ((k : ℕ) → k < length G → IsRank G k (slice_index ranks k))
      → IsEdge (targets G) m n → (Leads (targets G) m m → ⊥) → m < length G → (b : Bool) → nat_lt n (length G) ≡ b → slice_index ranks n < slice_index ranks m
  beyond_or_within ranks m n len ranked e off row true h =
      let lt : n < length G = grind (arith, nat_tests) in
      rank_falls m n (slice_index ranks m) (slice_index ranks n) e off (ranked m row) (ranked n lt) row
  beyond_or_within ranks m n len ranked e off row false h =
      let ge : length G ≤ n = grind (arith, nat_tests) in
      let none : slice_index ranks n ≡ 0 = beyond ranks n (omega arith) in
      let some = counts_itself m (slice_index ranks m) (ranked m row) row in
      omega arith
    where
      beyond : (xs : List ℕ) (k : ℕ) → length xs ≤ k → slice_index xs k ≡ 0
      beyond [] k le = refl
      beyond (x ∷ xs) zero le = absurd (omega arith)
      beyond (x ∷ xs) (suc k) le = beyond xs k (omega arith)

  -- where each node has its rank, ranks fall along edges from nodes that are on no cycle
  pub descends : (xs : List Bool) (ranks : List ℕ) → length ranks ≡ length G → ((k : ℕ) → k < length G → IsRank G k (slice_index ranks k)) → TellsCycles (targets G) xs
      → Descends (targets G) xs ranks
  descends xs ranks len ranked told m n e f =
      beyond_or_within ranks m n len ranked e (λ p. true≢false (sym ((told m).1 p) ∙ f)) (source G m n e) (nat_lt n (length G)) refl

-- one flag more
append_one : (xs : List Bool) (b : Bool) → unmarked (xs ++ b ∷ []) ≡ unmarked xs + unmarked (b ∷ [])
append_one [] b = omega arith
append_one (true ∷ xs) b = append_one xs b
append_one (false ∷ xs) b = let rest = append_one xs b in omega arith

pub one_more : (xs : List Bool) (i : ℕ) → i < length xs → unmarked (take (i + 1) xs) ≡ unmarked (take i xs) + unmarked (get_or xs i false ∷ [])
one_more xs i lt = ap unmarked (take_more xs i false lt) ∙ append_one (take i xs) (get_or xs i false)

-- what holds of each so far holds with one more, where it holds of that
pub pushed : {X : Type 0} (P : ℕ → X → Type 0) (xs : List X) (y d : X) (n : ℕ) → length xs ≡ n → ((k : ℕ) → k < n → P k (slice_index_or xs k d)) → P n y
    → (k : ℕ) → k < n + 1 → P k (slice_index_or (xs ++ y ∷ []) k d)
pushed P xs y d n len old new k lt = by_place (eqb k n) refl
  where
    by_place : (b : Bool) → eqb k n ≡ b → P k (slice_index_or (xs ++ y ∷ []) k d)
    by_place true e =
        let same : n ≡ k = grind (arith, nat_tests) in
        let there : slice_index_or (xs ++ y ∷ []) k d ≡ y = ap (λ i. slice_index_or (xs ++ y ∷ []) i d) (sym same ∙ sym len) ∙ get_or-append_seam xs y [] d in
        subst (λ v. P k v) (sym there) (subst (λ i. P i y) same new)
    by_place false e =
        let ne : k ≢ n = grind (arith, nat_tests) in
        let less : k < n = omega arith in
        subst (λ v. P k v) (sym (get_or_append_left xs (y ∷ []) d k (omega arith))) (old k less)

-- one flag more is counted, where it is set
pub counted : (xs : List Bool) (i count next : ℕ) (b : Bool) → i < length xs → get_or xs i false ≡ b → count + unmarked (take i xs) ≡ i → next + unmarked (b ∷ []) ≡ count + 1
    → next + unmarked (take (i + 1) xs) ≡ i + 1
counted xs i count next b lt is old new =
    let more : unmarked (take (i + 1) xs) ≡ unmarked (take i xs) + unmarked (b ∷ []) = one_more xs i lt ∙ ap (λ c. unmarked (take i xs) + unmarked (c ∷ [])) is in
    omega arith
