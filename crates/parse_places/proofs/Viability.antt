-- What the place says of trees.
use Rattle.std.proofs.Common.{inl, inr, ◌⊎◌, ◌≡◌, ℕ, zero, suc, ◌+◌, ◌<◌, ◌≤◌, true, List, [], ◌∷◌, ◌++◌, length, map, take, Option, Some, None, refl, sym, ap, subst, ◌∙◌, append_assoc, append-nil, length-append, arith}
use Rattle.std.specs.Prelude.{Result, Ok, Err, IfOk, MatchOption}
use Rattle.std.proofs.Math.Seq.{take-append_seam}
use Rattle.aidl_base.specs.declared.memory.OutOfMemory.{OutOfMemory}
use Rattle.aidl_syntax.specs.declared.token.TokenKind.{TokenKind}
use Rattle.aidl_syntax.specs.declared.token.Token.{Token}
use Rattle.aidl_syntax.specs.Trees.{File}
use Rattle.aidl_syntax.specs.Productions.{IsFile}
use Rattle.parse_places.specs.declared.expected.Expected.{Expected}
use Rattle.parse_places.specs.steps.Terminals.{terminal_of}
use Rattle.parse_places.specs.steps.Rows.{row}
use Rattle.parse_places.specs.steps.Moves.{same_terminal, moves, skips}
use Rattle.parse_places.specs.steps.Places.{place_from, whole}
use Rattle.parse_places.specs.Viable.{HasTree, Viable, IsFaultPlace}
use Rattle.parse_places.proofs.runs.Runs.{Run, Goes, goes_map}
use Rattle.parse_places.proofs.runs.Follows.{refuses, proper, may_begin, apart, fits}
use Rattle.parse_places.proofs.runs.Steps.{all, Good, good_append}
use Rattle.parse_places.proofs.runs.Finish.{finish}
use Rattle.parse_places.proofs.runs.Walks.{run_none, none_run, Stops, place_stops}
use Rattle.parse_places.proofs.productions.FileLaws.{file_law}

whole_fits : fits whole all ≡ true
unfolding row same_terminal moves skips refuses proper may_begin apart fits
whole_fits = refl

whole_good : Good whole
unfolding may_begin
whole_good = good_append whole [] all whole_fits (λ c b. cc) tt

tree_run : (ts : List Token) (f : File) → IsFile ts f → Run ts whole
tree_run ts f h = (file_law 0).reads ts f h

run_tree : (ts : List Token) → Run ts whole → HasTree ts
run_tree ts r = (file_law (length ts)).gives ts (omega arith) r

none_tree : (ts : List Token) → place_from 0 ts whole ≡ None → HasTree ts
none_tree ts e = run_tree ts (none_run ts 0 whole e)

tree_none : (ts : List Token) → HasTree ts → place_from 0 ts whole ≡ None
tree_none ts (f, h) = run_none ts 0 whole whole_good (tree_run ts f h)

viable_front : (ts front back : List Token) → Stops ts whole front back → Viable front
viable_front ts front back s = let f = finish s.stack in (f.0, run_tree (front ++ f.0) (s.on f.0 f.1))

place_at : (ts front back : List Token) (k : ℕ) → k ≡ length front → Stops ts whole front back → IsFaultPlace ts k
place_at ts front [] k e s =
    let is : ts ≡ front = s.parted ∙ append-nil front in
    let t : take k ts ≡ front = ap (λ n. take n ts) e ∙ ap (λ us. take (length front) us) s.parted ∙ take-append_seam front [] in
    (subst Viable (sym t) (viable_front ts front [] s), inl (e ∙ sym (ap length is)))
place_at ts front (u ∷ back) k e s =
    let t : take k ts ≡ front = ap (λ n. take n ts) e ∙ ap (λ us. take (length front) us) s.parted ∙ take-append_seam front (u ∷ back) in
    let l : length ts ≡ length front + suc (length back) = ap length s.parted ∙ length-append front (u ∷ back) in
    (subst Viable (sym t) (viable_front ts front (u ∷ back) s), inr (omega arith, stopped)) where
      one_more : take (k + 1) ts ≡ front ++ u ∷ []
      one_more =
          let m : length (front ++ u ∷ []) ≡ length front + 1 = length-append front (u ∷ []) in
          let n : k + 1 ≡ length (front ++ u ∷ []) = omega arith in
          ap (λ n. take n ts) n ∙ ap (λ us. take (length (front ++ u ∷ [])) us) (s.parted ∙ sym (append_assoc front (u ∷ []) back)) ∙ take-append_seam (front ++ u ∷ []) back

      stopped : Viable (take (k + 1) ts) → ⊥
      stopped (more, (f, h)) =
          s.stop u back refl more (subst (λ us. Run us whole) (ap (λ us. us ++ more) one_more ∙ append_assoc front (u ∷ []) more) (tree_run (take (k + 1) ts ++ more) f h))

some_place : (ts : List Token) (k : ℕ) → place_from 0 ts whole ≡ Some k → IsFaultPlace ts k
some_place ts k e = let p = place_stops ts 0 k whole whole_good e in place_at ts p.0 p.1 k (omega arith) p.3

-- There is one place.

take_less : (j k : ℕ) (ts : List Token) → j ≤ k → (rest : List Token) × (take k ts ≡ take j ts ++ rest)
take_less zero k ts le = (take k ts, refl)
take_less (suc j) zero ts le = absurd (omega arith)
take_less (suc j) (suc k) [] le = ([], refl)
take_less (suc j) (suc k) (t ∷ ts) le = let p = take_less j k ts (omega arith) in (p.0, ap (λ us. t ∷ us) p.1)

viable_less : (j k : ℕ) (ts : List Token) → j ≤ k → Viable (take k ts) → Viable (take j ts)
viable_less j k ts le (more, h) = let p = take_less j k ts le in (p.0 ++ more, subst HasTree (ap (λ us. us ++ more) p.1 ∙ append_assoc (take j ts) p.0 more) h)

not_before : (ts : List Token) (j k : ℕ) → IsFaultPlace ts j → IsFaultPlace ts k → j < k → ⊥
not_before ts j k (v, inl e) (w, inl d) lt = omega arith
not_before ts j k (v, inl e) (w, inr (l, d)) lt = omega arith
not_before ts j k (v, inr (l, stop)) (w, q) lt = stop (viable_less (j + 1) k ts (omega arith) w)

pub same_place : (ts : List Token) (j k : ℕ) → IsFaultPlace ts j → IsFaultPlace ts k → j ≡ k
same_place ts j k p q = go (λ lt. not_before ts j k p q lt) (λ lt. not_before ts k j q p lt) where
  go : (j < k → ⊥) → (k < j → ⊥) → j ≡ k
  go f g = omega arith

not_both : (k : ℕ) (o : Option ℕ) → o ≡ Some k → o ≡ None → ⊥
not_both k o e f = cc

-- Tokens have a tree, or they have none and a place.
pub tree_or_place : (ts : List Token) → HasTree ts ⊎ ((HasTree ts → ⊥) × ((k : ℕ) × IsFaultPlace ts k))
tree_or_place ts = by_place (place_from 0 ts whole) refl
  where
    by_place : (o : Option ℕ) → place_from 0 ts whole ≡ o → HasTree ts ⊎ ((HasTree ts → ⊥) × ((k : ℕ) × IsFaultPlace ts k))
    by_place None e = inl (none_tree ts e)
    by_place (Some k) e = inr (λ tree. not_both k (place_from 0 ts whole) e (tree_none ts tree), (k, some_place ts k e))

-- The clauses of the public call.

abbrev Answered : List Token → Result (Option ℕ) OutOfMemory → Type 0
Answered ts result = IfOk result (λ place. place ≡ place_from 0 ts whole)

pub answer : (ts : List Token) (result : Result (Option ℕ) OutOfMemory) → Answered ts result → IfOk result (λ place. MatchOption place (HasTree ts) (IsFaultPlace ts))
answer ts (Ok None) h = none_tree ts (sym h)
answer ts (Ok (Some k)) h = some_place ts k (sym h)
answer ts (Err e) h = tt

pub only_tree : (ts : List Token) (result : Result (Option ℕ) OutOfMemory) → Answered ts result → HasTree ts → IfOk result (λ place. place ≡ None)
only_tree ts (Ok place) h t = h ∙ tree_none ts t
only_tree ts (Err e) h t = tt

pub only_place : (ts : List Token) (result : Result (Option ℕ) OutOfMemory) → Answered ts result → (k : ℕ) → (HasTree ts → ⊥) → IsFaultPlace ts k → IfOk result (λ place. place ≡ Some k)
only_place ts (Ok None) h k n p = absurd (n (none_tree ts (sym h)))
only_place ts (Ok (Some j)) h k n p = ap Some (same_place ts j k (some_place ts j (sym h)) p)
only_place ts (Err e) h k n p = tt

-- Offsets don't count.

abbrev kinds : List Token → List TokenKind
kinds ts = map (λ t. t.kind) ts

run_kinds : (ts us : List Token) (s : List Expected) → kinds ts ≡ kinds us → Run ts s → Run us s
run_kinds [] [] s e r = r
run_kinds [] (u ∷ us) s e r = cc
run_kinds (t ∷ ts) [] s e r = cc
run_kinds (t ∷ ts) (u ∷ us) s e r =
    let k : t.kind ≡ u.kind = cc in
    let ks : kinds ts ≡ kinds us = cc in
    subst (λ c. Goes (Run us) c s) (ap terminal_of k) (goes_map (Run ts) (Run us) (terminal_of t.kind) s (λ v q. run_kinds ts us v ks q) r)

kinds_append : (ts us : List Token) → kinds (ts ++ us) ≡ kinds ts ++ kinds us
kinds_append [] us = refl
kinds_append (t ∷ ts) us = ap (λ ks. t.kind ∷ ks) (kinds_append ts us)

pub offsets_free : (ts us : List Token) → map (λ t. t.kind) ts ≡ map (λ t. t.kind) us → Viable ts → Viable us
offsets_free ts us e (more, (f, h)) =
    (more, run_tree (us ++ more) (run_kinds (ts ++ more) (us ++ more) whole (kinds_append ts more ∙ ap (λ ks. ks ++ kinds more) e ∙ sym (kinds_append us more)) (tree_run (ts ++ more) f h)))
