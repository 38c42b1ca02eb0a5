-- Behind the hub a node is on a cycle exactly where it leads to one.
use Rattle.std.proofs.Common.{◌≡◌, ℕ, zero, suc, ◌<◌, ◌⊎◌, inl, inr, ◌↔◌, Bool, true, false, List, [], ◌∷◌, ◌++◌, map, length, Option, Some, None, slice_get, refl, sym, ap, ◌∙◌, subst, arith}
use Rattle.std.specs.Prelude.{Contains}
use Rattle.std.specs.List.{range_with_len}
use Rattle.std.proofs.lemmas.List.FromFn.{length-map-range_with_len}
use Rattle.std.proofs.lemmas.Option.{slice_get_within}
use Rattle.graph_cycles.specs.Paths.{or_empty, IsEdge, IsPath, Leads, TellsCycles, flag, targets}
use Rattle.schema_bounds.specs.steps.Hubs.{hub_if, with_hub, LeadsToCycle, LeadInside}
use Rattle.schema_bounds.proofs.Lists.{made_at, in_front, behind, of_either, of_first, of_second, all_below}

-- an edge in front of a way to a cycle
edge_first : (next : ℕ → List ℕ) (m j : ℕ) → IsEdge next m j → LeadsToCycle next j → LeadsToCycle next m
edge_first next m j e (k, inl same, p) = (k, inr ([], subst (λ x. IsEdge next m x) same e), p)
edge_first next m j e (k, inr q, p) = (k, inr (j ∷ q.0, (e, q.1)), p)

join_paths : (next : ℕ → List ℕ) (m n k : ℕ) (js ks : List ℕ) → IsPath next m js n → IsPath next n ks k → IsPath next m (js ++ n ∷ ks) k
join_paths next m n k [] ks p q = (p, q)
join_paths next m n k (j ∷ js) ks p q = (p.0, join_paths next j n k js ks p.1 q)

join : (next : ℕ → List ℕ) (m n k : ℕ) → Leads next m n → Leads next n k → Leads next m k
join next m n k p q = (p.0 ++ n ∷ q.0, join_paths next m n k p.0 q.0 p.1 q.1)

only_hub : (b : Bool) (hub n : ℕ) → Contains (hub_if b hub) n → (b ≡ true) × (n ≡ hub)
only_hub false hub n h = absurd (omega (arith, h.1))
only_hub true hub n (zero, lt, e) = (refl, sym e)
only_hub true hub n (suc k, lt, e) = absurd (omega arith)

the_hub : (b : Bool) (hub : ℕ) → b ≡ true → Contains (hub_if b hub) hub
the_hub b hub e = subst (λ a. Contains (hub_if a hub) hub) (sym e) (zero, omega arith, refl)

source_at : (G : List (List ℕ)) (m n : ℕ) (o : Option (List ℕ)) → slice_get G m ≡ o → Contains (or_empty o) n → m < length G
source_at G m n None e h = absurd (omega (arith, h.1))
source_at G m n (Some row) e h = slice_get_within G m row e

module _ (G : List (List ℕ)) (on : List Bool) (inside : LeadInside G) (tells : TellsCycles (targets G) on) where
  at_node : (n : ℕ) → n < length G → targets (with_hub G on) n ≡ targets G n ++ hub_if (flag on n) (length G)
  at_node n lt =
      ap or_empty (in_front (map (λ k. targets G k ++ hub_if (flag on k) (length G)) (range_with_len 0 (length G))) (range_with_len 0 (length G) ∷ []) n
      (omega (arith, length-map-range_with_len (λ k. targets G k ++ hub_if (flag on k) (length G)) 0 (length G)))
      ∙ made_at (λ k. targets G k ++ hub_if (flag on k) (length G)) (length G) n lt)

  at_hub : targets (with_hub G on) (length G) ≡ range_with_len 0 (length G)
  at_hub =
      ap or_empty (ap (slice_get (with_hub G on)) (sym (length-map-range_with_len (λ k. targets G k ++ hub_if (flag on k) (length G)) 0 (length G)))
      ∙ behind (map (λ k. targets G k ++ hub_if (flag on k) (length G)) (range_with_len 0 (length G))) (range_with_len 0 (length G)))

  edge_at : (m n : ℕ) → m < length G → IsEdge (targets (with_hub G on)) m n → IsEdge (targets G) m n ⊎ ((flag on m ≡ true) × (n ≡ length G))
  edge_at m n lt e =
      elim (of_either (targets G m) (hub_if (flag on m) (length G)) n (subst (λ xs. Contains xs n) (at_node m lt) e)) [
        | inl h ↦ inl h
        | inr h ↦ inr (only_hub (flag on m) (length G) n h)
      ]

  -- a path between nodes stays among them, or leads to the hub and so to a cycle
  path_in : (m n : ℕ) (js : List ℕ) → m < length G → n < length G → IsPath (targets (with_hub G on)) m js n → LeadsToCycle (targets G) m ⊎ Leads (targets G) m n
  path_in m n [] m_in n_in p = elim (edge_at m n m_in p) [ inl e ↦ inr ([], e) | inr h ↦ absurd (omega (arith, h.1)) ]
  path_in m n (j ∷ js) m_in n_in p =
      elim (edge_at m j m_in p.0) [
        | inl e ↦ elim (path_in j n js (inside m j e) n_in p.1) [ inl c ↦ inl (edge_first (targets G) m j e c) | inr q ↦ inr (j ∷ q.0, (e, q.1)) ]
        | inr h ↦ inl (m, inl refl, (tells m).0 h.0)
      ]

  kept_edge : (m n : ℕ) → IsEdge (targets G) m n → IsEdge (targets (with_hub G on)) m n
  kept_edge m n e =
      subst (λ xs. Contains xs n) (sym (at_node m (source_at G m n (slice_get G m) refl e))) (of_first (targets G m) (hub_if (flag on m) (length G)) n e)

  kept_path : (m n : ℕ) (js : List ℕ) → IsPath (targets G) m js n → IsPath (targets (with_hub G on)) m js n
  kept_path m n [] p = kept_edge m n p
  kept_path m n (j ∷ js) p = (kept_edge m j p.0, kept_path j n js p.1)

  source : (m n : ℕ) (js : List ℕ) → IsPath (targets G) m js n → m < length G
  source m n [] p = source_at G m n (slice_get G m) refl p
  source m n (j ∷ js) p = source_at G m j (slice_get G m) refl p.0

  to_hub : (m : ℕ) → Leads (targets G) m m → Leads (targets (with_hub G on)) m (length G)
  to_hub m p = (
    [],
    subst (λ xs. Contains xs (length G)) (sym (at_node m (source m m p.0 p.1)))
        (of_second (targets G m) (hub_if (flag on m) (length G)) (length G) (the_hub (flag on m) (length G) ((tells m).1 p))),
  )

  way_to_hub : (n : ℕ) → LeadsToCycle (targets G) n → Leads (targets (with_hub G on)) n (length G)
  way_to_hub n (m, inl same, p) = subst (λ x. Leads (targets (with_hub G on)) x (length G)) (sym same) (to_hub m p)
  way_to_hub n (m, inr q, p) = join (targets (with_hub G on)) n m (length G) (q.0, kept_path n m q.0 q.1) (to_hub m p)

  -- on a cycle with the hub is what leads to a cycle without
  pub on_cycle : (n : ℕ) → n < length G → Leads (targets (with_hub G on)) n n ↔ LeadsToCycle (targets G) n
  on_cycle n lt = (
    λ p. elim (path_in n n p.0 lt lt p.1) [ inl c ↦ c | inr q ↦ (n, inl refl, q) ],
    λ c. join (targets (with_hub G on)) n (length G) n (way_to_hub n c) ([], subst (λ xs. Contains xs n) (sym at_hub) (all_below (length G) n lt)),
  )
