-- The first of two lists, one after the other.
use Rattle.std.proofs.Common.{◌≡◌, ℕ, zero, suc, ◌+◌, ◌<◌, ◌≤◌, List, [], ◌∷◌, ◌++◌, length, get_or, drop, map, Bool, Option, Some, None, inl, inr, refl, sym, ap, ◌∙◌, subst, arith}
use Rattle.std.specs.List.{flat_map}
use Rattle.std.proofs.lemmas.List.{drop_all}
use Rattle.aidl_schema.specs.declared.schema.Decl.{Decl}
use Rattle.aidl_values.specs.Data.{none, item}
use Rattle.aidl_values.specs.View.{view}
use Rattle.aidl_values.specs.declared.value.Value.{Value}
use Rattle.compat_witness.specs.Candidates.{Candidate, client_of, request, server_of}
use Rattle.compat_witness.specs.Reaching.{asks, methods_reaching}
use Rattle.witness_calls.proofs.lemmas.Drops.{drop_at}
use Rattle.witness_search.specs.steps.First.{IsFirst}
use Rattle.witness_search.specs.Asked.{candidates_seen, group_seen, method_seen, part_seen, parts_seen}
use Rattle.witness_search.specs.declared.candidates.Group.{Group}
use Rattle.witness_search.specs.declared.candidates.Candidates.{Candidates}
use Rattle.witness_search.specs.declared.candidates.Part.{Part}
use Rattle.witness_search.specs.declared.candidates.Reach.{Reach}
use Rattle.witness_search.specs.declared.shown.Witness.{Witness}
use Rattle.witness_search.specs.steps.Requests.{request_of, requests_of}

module _ (old new : List Decl) where
  pub later : (cs ds : List Candidate) → IsFirst old new cs None → (r : Option Witness) → IsFirst old new ds r → IsFirst old new (cs ++ ds) r
  later [] ds h r q = q
  later (c ∷ cs) ds (inl h) r q = absurd h
  later (c ∷ cs) ds (inr h) r q = inr (h.0, later cs ds h.1 r q)

  pub sooner : (cs ds : List Candidate) (w : Witness) → IsFirst old new cs (Some w) → IsFirst old new (cs ++ ds) (Some w)
  sooner [] ds w h = cc
  sooner (c ∷ cs) ds w (inl h) = inl h
  sooner (c ∷ cs) ds w (inr h) = inr (h.0, sooner cs ds w h.1)

  -- a list of lists, of which some are left
  module _ {X : Type 0} (F : X → List Candidate) (xs : List X) (j : ℕ) (x : X) (lt : j < length xs) (is : x ≡ get_or xs j x) where
    pub found_there : (w : Witness) → IsFirst old new (F x) (Some w) → IsFirst old new (flat_map F (drop j xs)) (Some w)
    found_there w h = subst (λ ys. IsFirst old new (flat_map F ys) (Some w)) (sym (drop_at xs j x lt is)) (sooner (F x) (flat_map F (drop (j + 1) xs)) w h)

    pub not_there : IsFirst old new (F x) None → (r : Option Witness) → IsFirst old new (flat_map F (drop (j + 1) xs)) r → IsFirst old new (flat_map F (drop j xs)) r
    not_there h r q = subst (λ ys. IsFirst old new (flat_map F ys) r) (sym (drop_at xs j x lt is)) (later (F x) (flat_map F (drop (j + 1) xs)) h r q)

  pub nothing_left : {X : Type 0} (F : X → List Candidate) (xs : List X) (j : ℕ) → length xs ≤ j → IsFirst old new (flat_map F (drop j xs)) None
  nothing_left F xs j h = subst (λ ys. IsFirst old new (flat_map F ys) None) (sym (drop_all j xs h)) refl

  -- the same of an item that is read by its index
  got : {X : Type 0} (xs : List X) (j : ℕ) (d : X) → j < length xs → get_or xs j d ≡ get_or xs j (get_or xs j d)
  got [] j d lt = absurd (omega arith)
  got (x ∷ xs) zero d lt = refl
  got (x ∷ xs) (suc j) d lt =
      let one = got xs j d (omega arith) in
      one ∙ again xs j (get_or xs j d) (get_or (x ∷ xs) (suc j) d) (omega arith)
    where
      again : {X : Type 0} (xs : List X) (j : ℕ) (a b : X) → j < length xs → get_or xs j a ≡ get_or xs j b
      again [] j a b lt = absurd (omega arith)
      again (x ∷ xs) zero a b lt = refl
      again (x ∷ xs) (suc j) a b lt = again xs j a b (omega arith)

  module _ {X : Type 0} (F : X → List Candidate) (xs : List X) (j : ℕ) (d : X) (lt : j < length xs) (o : Option Witness) (h : IsFirst old new (F (get_or xs j d)) o) where
    pub found_here : (w : Witness) → o ≡ Some w → IsFirst old new (flat_map F (drop j xs)) (Some w)
    found_here w is = found_there F xs j (get_or xs j d) lt (got xs j d lt) w (subst (λ o. IsFirst old new (F (get_or xs j d)) o) is h)

    pub not_here : o ≡ None → (r : Option Witness) → IsFirst old new (flat_map F (drop (j + 1) xs)) r → IsFirst old new (flat_map F (drop j xs)) r
    not_here is = not_there F xs j (get_or xs j d) lt (got xs j d lt) (subst (λ o. IsFirst old new (F (get_or xs j d)) o) is h)

-- a group's requests, as the loops make them
of_values : (back : Bool) (r : Reach) (vs : List Value) → requests_of back vs r ≡ map (λ d. request back r.interface r.method (item d none)) (map view vs)
of_values back r [] = refl
of_values back r (v ∷ vs) = ap (λ cs. request_of back r v ∷ cs) (of_values back r vs)

of_methods : (back : Bool) (vs : List Value) (rs : List Reach) → flat_map (requests_of back vs) rs ≡ asks back (map method_seen rs) (map view vs)
of_methods back vs [] = refl
of_methods back vs (r ∷ rs) = ap (λ cs. cs ++ flat_map (requests_of back vs) rs) (of_values back r vs)
    ∙ ap (λ cs. map (λ d. request back r.interface r.method (item d none)) (map view vs) ++ cs) (of_methods back vs rs)

pub of_group : (old new : List Decl) (g : Group) (vs : List Value) (rs : List Reach) → vs ≡ g.values
    → map method_seen rs ≡ methods_reaching (client_of g.back old new) g.number (server_of g.back old new) → flat_map (requests_of g.back vs) rs ≡ group_seen old new g
of_group old new g vs rs e are =
    ap (λ ws. flat_map (requests_of g.back ws) rs) e ∙ of_methods g.back g.values rs ∙ ap (λ ms. asks g.back ms (map view g.values)) are

-- one part or two
module _ (old new : List Decl) where
  pub part_found : (g : Candidates) (w : Witness) → IsFirst old new (part_seen old new g.first) (Some w) → IsFirst old new (candidates_seen old new g) (Some w)
  part_found g w h = by g.second
    where
      by : (o : Option Part) → IsFirst old new (parts_seen old new g.first o) (Some w)
      by None = h
      by (Some k) = sooner old new (part_seen old new g.first) (part_seen old new k) w h

  pub part_later : (g : Candidates) (k : Part) → g.second ≡ Some k → IsFirst old new (part_seen old new g.first) None → (r : Option Witness) → IsFirst old new (part_seen old new k) r → IsFirst old new (candidates_seen old new g) r
  part_later g k is h r q = subst (λ o. IsFirst old new (parts_seen old new g.first o) r) (sym is) (later old new (part_seen old new g.first) (part_seen old new k) h r q)

  pub part_alone : (g : Candidates) → g.second ≡ None → IsFirst old new (part_seen old new g.first) None → IsFirst old new (candidates_seen old new g) None
  part_alone g is h = subst (λ o. IsFirst old new (parts_seen old new g.first o) None) (sym is) h
