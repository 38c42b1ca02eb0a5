-- Paths joined, marks kept, and what a certificate shows.
use Rattle.std.proofs.Common.{◌≡◌, ◌≢◌, ℕ, zero, suc, ◌<◌, ◌≤◌, ◌⊎◌, inl, inr, ◌↔◌, IsTrue, Bool, true, false, eqb, List, [], ◌∷◌, ◌++◌, length, get_or, set, slice_index, refl, sym, ◌∙◌, ap, subst, arith, true≢false, get_or-set_other}
use Rattle.std.proofs.lemmas.Grind.{common_steps}
use Rattle.std.specs.Prelude.{Option, Some, None, slice_get, Contains, slice_set}
use Rattle.std.proofs.lemmas.Bool.Decides.{nat_tests}
use Rattle.graph_cycles.specs.Paths.{or_empty, IsEdge, IsPath, Leads, TellsCycles, Descends, flag, targets}
use Rattle.graph_cycles.specs.steps.Marks.{OnCycles, AfterRoots, BeforeRoots, AfterNode, IsOrLeads, IsCertificate, IsClosed, IsRank, unmarked}

get_within : {X : Type 0} (xs : List X) (k : ℕ) (x : X) → slice_get xs k ≡ Some x → k < length xs
get_within [] k x e = cc
get_within (y ∷ xs) zero x e = omega arith
get_within (y ∷ xs) (suc k) x e = let later = get_within xs k x e in omega arith

contains_at : (xs : List ℕ) (k : ℕ) → k < length xs → Contains xs (get_or xs k 0)
contains_at xs k h = (k, h, grind (arith, common_steps))

module _ (G : List (List ℕ)) where
  join_paths : (m n k : ℕ) (js ks : List ℕ) → IsPath (targets G) m js n → IsPath (targets G) n ks k → IsPath (targets G) m (js ++ n ∷ ks) k
  join_paths m n k [] ks p q = (p, q)
  join_paths m n k (j ∷ js) ks p q = (p.0, join_paths j n k js ks p.1 q)

  pub join : (m n k : ℕ) → Leads (targets G) m n → Leads (targets G) n k → Leads (targets G) m k
  join m n k p q = (p.0 ++ n ∷ q.0, join_paths m n k p.0 q.0 p.1 q.1)

  pub one_edge : (m n : ℕ) → IsEdge (targets G) m n → Leads (targets G) m n
  one_edge m n e = ([], e)

  pub edge_after : (m n k : ℕ) → IsOrLeads (targets G) m n → IsEdge (targets G) n k → Leads (targets G) m k
  edge_after m n k (inl same) e = subst (λ x. Leads (targets G) x k) (sym same) (one_edge n k e)
  edge_after m n k (inr p) e = join m n k p (one_edge n k e)

  -- a certificate: along a path ranks never go up
  ranks_fall : (ranks : List ℕ) (xs : List Bool) → IsCertificate (targets G) ranks xs → (m n : ℕ) (js : List ℕ) → IsPath (targets G) m js n → slice_index ranks n ≤ slice_index ranks m
  ranks_fall ranks xs h m n [] p = (h m n p).0
  ranks_fall ranks xs h m n (j ∷ js) p = let first = (h m j p.0).0 in let rest = ranks_fall ranks xs h j n js p.1 in omega arith

  back_at : (ranks : List ℕ) (xs : List Bool) → IsCertificate (targets G) ranks xs → (n : ℕ) (js : List ℕ) → flag xs n ≡ false → IsPath (targets G) n js n → ⊥
  back_at ranks xs h n [] f p = let first = (h n n p).1 f in omega arith
  back_at ranks xs h n (j ∷ js) f p = let first = (h n j p.0).1 f in let rest = ranks_fall ranks xs h j n js p.1 in omega arith

  by_flag : (b : Bool) → (b ≡ false → ⊥) → b ≡ true
  by_flag true h = refl
  by_flag false h = absurd (h refl)

  -- so a node that a path leads back to has a mark
  pub is_marked : (ranks : List ℕ) (xs : List Bool) → IsCertificate (targets G) ranks xs → (n : ℕ) → Leads (targets G) n n → flag xs n ≡ true
  is_marked ranks xs h n p = by_flag (flag xs n) (λ f. back_at ranks xs h n p.0 f p.1)

  -- what an edge leaves has a row
  source_at : (m n : ℕ) (o : Option (List ℕ)) → slice_get G m ≡ o → Contains (or_empty o) n → m < length G
  source_at m n None e h = absurd (omega (arith, h.1))
  source_at m n (Some row) e h = get_within G m row e

  pub source : (m n : ℕ) → IsEdge (targets G) m n → m < length G
  source m n h = source_at m n (slice_get G m) refl h

  first_source : (m n : ℕ) (js : List ℕ) → IsPath (targets G) m js n → m < length G
  first_source m n [] p = source m n p
  first_source m n (j ∷ js) p = source m j p.0

  -- what is closed has all that m leads to
  reaches_closed : (xs : List Bool) (m : ℕ) → length xs ≡ length G → IsClosed (targets G) m xs → (i n : ℕ) (js : List ℕ) → (i ≡ m) ⊎ (flag xs i ≡ true) → n < length xs → IsPath (targets G) i js n → flag xs n ≡ true
  reaches_closed xs m len h i n [] s lt p = h i n p s lt
  reaches_closed xs m len h i n (j ∷ js) s lt p =
      let has = first_source j n js p.1 in
      reaches_closed xs m len h j n js (inr (h i j p.0 s (omega arith))) lt p.1

  pub closed_has : (xs : List Bool) (m n : ℕ) → length xs ≡ length G → IsClosed (targets G) m xs → n < length xs → Leads (targets G) m n → flag xs n ≡ true
  closed_has xs m n len h lt p = reaches_closed xs m len h m n p.0 (inl refl) lt p.1

kept_at : (P : ℕ → Type 0) (xs : List Bool) (i n : ℕ) (b : Bool) → eqb n i ≡ b → ((k : ℕ) → flag xs k ≡ true → P k) → P i → flag (slice_set xs i true) n ≡ true → P n
kept_at P xs i n true e old new h = let same : i ≡ n = grind (arith, nat_tests) in subst P same new
kept_at P xs i n false e old new h =
    let ne : n ≢ i = grind (arith, nat_tests) in
    old n (sym (get_or-set_other xs i n true false ne) ∙ h)

-- what holds of each marked node still does after one more mark, where it holds there
pub kept : (P : ℕ → Type 0) (xs : List Bool) (i : ℕ) → ((k : ℕ) → flag xs k ≡ true → P k) → P i → (n : ℕ) → flag (slice_set xs i true) n ≡ true → P n
kept P xs i old new n h = kept_at P xs i n (eqb n i) refl old new h

module _ (G : List (List ℕ)) where
  -- the k-th of a node's row is an edge
  pub edge_at : (m : ℕ) (row : List ℕ) (k : ℕ) → row ≡ targets G m → k < length row → IsEdge (targets G) m (get_or row k 0)
  edge_at m row k e lt = subst (λ r. Contains r (get_or row k 0)) e (contains_at row k lt)

  module _ (roots : List ℕ) where
    pub after_step : (xs ys : List Bool) (m n : ℕ) → AfterRoots (targets G) roots xs → IsOrLeads (targets G) (slice_index roots m) m → IsEdge (targets G) m n → slice_index roots n ≡ slice_index roots m → ys ≡ slice_set xs n true → AfterRoots (targets G) roots ys
    after_step xs ys m n old starts e same is =
        subst (λ zs. AfterRoots (targets G) roots zs) (sym is)
        (kept (λ k. Leads (targets G) (slice_index roots k) k) xs n old (subst (λ r. Leads (targets G) r n) (sym same) (edge_after G (slice_index roots m) m n starts e)))

    pub before_step : (xs ys : List Bool) (m : ℕ) → BeforeRoots (targets G) roots xs → Leads (targets G) m (slice_index roots m) → ys ≡ slice_set xs m true → BeforeRoots (targets G) roots ys
    before_step xs ys m old leads is = subst (λ zs. BeforeRoots (targets G) roots zs) (sym is) (kept (λ k. Leads (targets G) k (slice_index roots k)) xs m old leads)

    pub by_next : (xs : List Bool) (m n : ℕ) → BeforeRoots (targets G) roots xs → IsEdge (targets G) m n → slice_index roots n ≡ slice_index roots m → flag xs n ≡ true → Leads (targets G) m (slice_index roots m)
    by_next xs m n old e same f = join G m n (slice_index roots m) (one_edge G m n e) (subst (λ r. Leads (targets G) n r) same (old n f))

    pub both_step : (after before xs ys : List Bool) (m : ℕ) → AfterRoots (targets G) roots after → BeforeRoots (targets G) roots before → OnCycles (targets G) xs → flag after m ≡ true → flag before m ≡ true → ys ≡ slice_set xs m true → OnCycles (targets G) ys
    both_step after before xs ys m a b old f g is =
        subst (λ zs. OnCycles (targets G) zs) (sym is) (kept (λ k. Leads (targets G) k k) xs m old (join G m (slice_index roots m) m (b m g) (a m f)))

  pub node_step : (xs ys : List Bool) (m n : ℕ) → AfterNode (targets G) m xs → Leads (targets G) m n → ys ≡ slice_set xs n true → AfterNode (targets G) m ys
  node_step xs ys m n old leads is = subst (λ zs. AfterNode (targets G) m zs) (sym is) (kept (λ k. Leads (targets G) m k) xs n old leads)

-- one more mark leaves one less unmarked
fewer : (xs : List Bool) (n : ℕ) → n < length xs → flag xs n ≡ false → unmarked (set xs n true) < unmarked xs
fewer [] n lt h = absurd (omega arith)
fewer (true ∷ xs) zero lt h = absurd (true≢false h)
fewer (false ∷ xs) zero lt h = omega arith
fewer (true ∷ xs) (suc n) lt h = fewer xs n (omega arith) h
fewer (false ∷ xs) (suc n) lt h = let rest = fewer xs n (omega arith) h in omega arith

pub fewer_unmarked : (xs ys : List Bool) (n : ℕ) → n < length xs → flag xs n ≡ false → ys ≡ slice_set xs n true → unmarked ys < unmarked xs
fewer_unmarked xs ys n lt h is = subst (λ zs. unmarked zs < unmarked xs) (sym is) (fewer xs n lt h)

pub flag_within : (xs : List Bool) (n : ℕ) → flag xs n ≡ true → n < length xs
flag_within [] n h = absurd (true≢false (sym h))
flag_within (x ∷ xs) zero h = omega arith
flag_within (x ∷ xs) (suc n) h = let rest = flag_within xs n h in omega arith

module _ (G : List (List ℕ)) where
  -- a mark on the start tells whether it leads to itself
  pub told : (xs : List Bool) (n : ℕ) (b : Bool) → AfterNode (targets G) n xs → IsClosed (targets G) n xs → length xs ≡ length G → n < length G → b ≡ flag xs n → IsTrue b ↔ Leads (targets G) n n
  told xs n b old closed len lt is = (
    λ h. old n (sym is ∙ h),
    λ p. is ∙ closed_has G xs n n len closed (omega arith) p,
  )

  -- what is told of each node that has a row is told of all
  pub told_all : (xs : List Bool) → length xs ≡ length G → ((k : ℕ) → k < length G → IsTrue (flag xs k) ↔ Leads (targets G) k k) → TellsCycles (targets G) xs
  told_all xs len h n = (
    λ t. let lt = flag_within xs n t in (h n (omega arith)).0 t,
    λ p. (h n (first_source G n n p.0 p.1)).1 p,
  )

  -- marks on cycles alone, and a certificate for the others
  pub certified : (ranks : List ℕ) (xs ys : List Bool) → OnCycles (targets G) xs → ys ≡ xs → IsCertificate (targets G) ranks ys → TellsCycles (targets G) xs
  certified ranks xs ys on is h n = (on n, λ p. ap (λ zs. flag zs n) (sym is) ∙ is_marked G ranks ys h n p)

  -- and its ranks fall
  pub certified_descends : (ranks : List ℕ) (xs ys : List Bool) → ys ≡ xs → IsCertificate (targets G) ranks ys → Descends (targets G) xs ranks
  certified_descends ranks xs ys is h m n e f = (h m n e).1 (ap (λ zs. flag zs m) is ∙ f)
