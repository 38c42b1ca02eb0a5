-- What the place says of the runs.
use Rattle.std.proofs.Common.{◌≡◌, ℕ, ◌+◌, Bool, true, false, cond, List, [], ◌∷◌, ◌++◌, length, Option, Some, None, refl, sym, ap, subst, ◌∙◌, arith}
use Rattle.aidl_syntax.specs.declared.token.Token.{Token}
use Rattle.parse_places.specs.declared.expected.Expected.{Expected}
use Rattle.parse_places.specs.steps.Terminals.{terminal_of}
use Rattle.parse_places.specs.steps.Moves.{step, ends}
use Rattle.parse_places.specs.steps.Places.{place_or, place_from}
use Rattle.parse_places.proofs.runs.Runs.{Ends, Run}
use Rattle.parse_places.proofs.runs.Steps.{Good, goes_step, step_goes, good_step}
use Rattle.parse_places.proofs.runs.Finish.{ends_are}

are_ends : (s : List Expected) → Ends s → ends s ≡ true
unfolding ends
are_ends [] n = refl
are_ends (x ∷ s) (k, n) = rw k (are_ends s n)

pair_some : (s u : List Expected) → ◌≡◌ {A = Option (List Expected)} (Some s) (Some u) → s ≡ u
pair_some s u e = cc

-- no place is answered of tokens that run to the end
pub run_none : (ts : List Token) (i : ℕ) (s : List Expected) → Good s → Run ts s → place_from i ts s ≡ None
unfolding place_from
run_none [] i s g h = ap (λ b. cond {A = Option ℕ} b None (Some i)) (are_ends s h)
run_none (t ∷ ts) i s g h =
    let a = goes_step (Run ts) (terminal_of t.kind) s g h in
    ap (λ o. place_or i o (place_from (i + 1) ts)) a.1 ∙ run_none ts (i + 1) a.0 (good_step (terminal_of t.kind) s a.0 g a.1) a.2

-- and where none is answered, they do
pub none_run : (ts : List Token) (i : ℕ) (s : List Expected) → place_from i ts s ≡ None → Run ts s
unfolding place_from
none_run [] i s e = go (ends s) refl e where
  go : (b : Bool) → ends s ≡ b → cond {A = Option ℕ} b None (Some i) ≡ None → Ends s
  go true k d = ends_are s k
  go false k d = cc
none_run (t ∷ ts) i s e = go (step s (terminal_of t.kind)) refl e (λ u d. none_run ts (i + 1) u d) where
  go : (o : Option (List Expected)) → step s (terminal_of t.kind) ≡ o → place_or i o (place_from (i + 1) ts) ≡ None → ((u : List Expected) → place_from (i + 1) ts u ≡ None → Run ts u) → Run (t ∷ ts) s
  go None m d f = cc
  go (Some u) m d f = step_goes (Run ts) (terminal_of t.kind) s u m (f u d)

-- the tokens before a place can go on, and not with the token at it
pub record Stops (ts : List Token) (s : List Expected) (front back : List Token) : Type 0 where
  pub parted : ts ≡ front ++ back
  pub stack : List Expected
  pub on : (more : List Token) → Run more stack → Run (front ++ more) s
  pub stop : (t : Token) (rest : List Token) → back ≡ t ∷ rest → (more : List Token) → Run (front ++ t ∷ more) s → ⊥

head_is : (t u : Token) (ts us : List Token) → t ∷ ts ≡ u ∷ us → t ≡ u
head_is t u ts us e = cc

pub place_stops : (ts : List Token) (i k : ℕ) (s : List Expected) → Good s → place_from i ts s ≡ Some k → (front back : List Token) × (k ≡ i + length front) × Stops ts s front back
unfolding place_from
place_stops [] i k s g e = go (ends s) e where
  go : (b : Bool) → cond {A = Option ℕ} b None (Some i) ≡ Some k → (front back : List Token) × (k ≡ i + length front) × Stops [] s front back
  go true d = cc
  go false d = let n : i ≡ k = cc in ([], [], omega arith, record { parted = refl; stack = s; on = λ more r. r; stop = λ t rest f. cc })
place_stops (t ∷ ts) i k s g e = go (step s (terminal_of t.kind)) refl e (λ u h d. place_stops ts (i + 1) k u h d) where
  go : (o : Option (List Expected)) → step s (terminal_of t.kind) ≡ o → place_or i o (place_from (i + 1) ts) ≡ Some k
      → ((u : List Expected) → Good u → place_from (i + 1) ts u ≡ Some k → (front back : List Token) × (k ≡ (i + 1) + length front) × Stops ts u front back)
      → (front back : List Token) × (k ≡ i + length front) × Stops (t ∷ ts) s front back
  go None m d f = let n : i ≡ k = cc in ([], t ∷ ts, omega arith, record { parted = refl; stack = s; on = λ more r. r; stop = stopped }) where
    stopped : (u : Token) (rest : List Token) → t ∷ ts ≡ u ∷ rest → (more : List Token) → Run (u ∷ more) s → ⊥
    stopped u rest is more r =
        let a = goes_step (Run more) (terminal_of u.kind) s g r in
        let b : step s (terminal_of t.kind) ≡ Some a.0 = subst (λ (x : Token). step s (terminal_of x.kind) ≡ Some a.0) (sym (head_is t u ts rest is)) a.1 in cc
  go (Some u) m d f = let a = f u (good_step (terminal_of t.kind) s u g m) d in
      (t ∷ a.0, a.1, omega arith, record { parted = ap (λ us. t ∷ us) a.3.parted; stack = a.3.stack; on = λ more r. step_goes (Run (a.0 ++ more)) (terminal_of t.kind) s u m (a.3.on more r); stop = stopped a.0 a.1 a.3.stop }) where
        stopped : (front back : List Token) → ((v : Token) (rest : List Token) → back ≡ v ∷ rest → (more : List Token) → Run (front ++ v ∷ more) u → ⊥)
            → (v : Token) (rest : List Token) → back ≡ v ∷ rest → (more : List Token) → Run (t ∷ (front ++ v ∷ more)) s → ⊥
        stopped front back h v rest is more r =
            let b = goes_step (Run (front ++ v ∷ more)) (terminal_of t.kind) s g r in
            h v rest is more (subst (Run (front ++ v ∷ more)) (pair_some b.0 u (sym b.1 ∙ m)) b.2)
