-- One step of a stack: it goes on exactly where a run does, as long as nothing that must not follow stands behind anything.
use Rattle.std.proofs.Common.{◌⊎◌, inl, inr, ◌≡◌, Bool, true, false, ◌&&◌, not, List, [], ◌∷◌, ◌++◌, Option, Some, None, is_some, refl, sym, ap, subst, ◌∙◌}
use Rattle.parse_places.specs.declared.terminal.Terminal.{Terminal}
use Rattle.parse_places.specs.declared.expected.Expected.{Expected}
use Rattle.parse_places.specs.steps.Moves.{moves, skips, move_or_skip, step}
use Rattle.parse_places.proofs.runs.Follows.{refuses, proper, may_begin, apart, fits, fits_maybe, guards, right}
use Rattle.parse_places.proofs.Tables.{rights}
use Rattle.parse_places.proofs.Bools.{and_parts, or_mono, or_left, or_right, not_both, guarded, none_is, every}
use Rattle.parse_places.proofs.runs.Runs.{After, Goes, after_some, some_after}

abbrev pub all : Terminal → Bool
all c = true

-- the stack may go on with the terminal
abbrev pub begins : List Expected → Terminal → Bool
begins s c = may_begin s all c

abbrev pub Good : List Expected → Type 0
Good [] = Unit {0}
Good (e ∷ s) = (proper e ≡ true) × ((c : Terminal) → begins s c ≡ true → refuses e c ≡ false) × Good s

begin_append : (es s : List Expected) (refused : Terminal → Bool) (c : Terminal) → (begins s c ≡ true → refused c ≡ false) → begins (es ++ s) c ≡ true → may_begin es refused c ≡ true
unfolding may_begin
begin_append [] s refused c f b = rw (f b) refl
begin_append (e ∷ es) s refused c f b = or_mono (is_some (moves e c)) (skips e) (begins (es ++ s) c) (may_begin es refused c) (begin_append es s refused c f) b

pub good_append : (es s : List Expected) (refused : Terminal → Bool) → fits es refused ≡ true → ((c : Terminal) → begins s c ≡ true → refused c ≡ false) → Good s → Good (es ++ s)
unfolding fits apart
good_append [] s refused h f g = g
good_append (e ∷ es) s refused h f g =
    let p = and_parts (proper e) (apart e es refused && fits es refused) h in
    let q = and_parts (apart e es refused) (fits es refused) p.1 in
    (p.0, λ c b. not_both (refuses e c) (may_begin es refused c) (every (λ d. not (refuses e d && may_begin es refused d)) q.0 c) (begin_append es s refused c (f c) b), good_append es s refused q.1 f g)

rules_of : (e : Expected) (c : Terminal) → proper e ≡ true → (guards e c ≡ true) × (fits_maybe (moves e c) (refuses e) ≡ true)
unfolding right
rules_of e c k = and_parts (guards e c) (fits_maybe (moves e c) (refuses e)) (every (λ d. guards e d && fits_maybe (moves e d) (refuses e)) (rights e k) c)

row_fits : (e : Expected) (c : Terminal) (es : List Expected) → proper e ≡ true → moves e c ≡ Some es → fits es (refuses e) ≡ true
unfolding fits_maybe
row_fits e c es k m = ap (λ o. fits_maybe o (refuses e)) (sym m) ∙ (rules_of e c k).1

no_move : (e : Expected) (c : Terminal) → proper e ≡ true → skips e ≡ true → refuses e c ≡ false → moves e c ≡ None
unfolding guards
no_move e c k s r = none_is (moves e c) (guarded (skips e) (is_some (moves e c)) (refuses e c) (rules_of e c k).0 s r)

some_is : (o : Option (List Expected)) (es : List Expected) → o ≡ Some es → is_some o ≡ true
some_is o es e = ap is_some e

goes_begins : (R : List Expected → Type 0) (c : Terminal) (s : List Expected) → Goes R c s → begins s c ≡ true
unfolding may_begin
goes_begins R c [] h = absurd h
goes_begins R c (e ∷ s) (inl h) = let a = after_some (λ es. R (es ++ s)) (moves e c) h in or_left (is_some (moves e c)) (skips e && begins s c) (some_is (moves e c) a.0 a.1)
goes_begins R c (e ∷ s) (inr (k, h)) = or_right (is_some (moves e c)) (skips e) (begins s c) k (goes_begins R c s h)

abbrev pub Stepped : (List Expected → Type 0) → Terminal → List Expected → Type 0
Stepped R c s = (u : List Expected) × (step s c ≡ Some u) × R u

-- where a run goes on, the step does
pub goes_step : (R : List Expected → Type 0) (c : Terminal) (s : List Expected) → Good s → Goes R c s → Stepped R c s
unfolding step
goes_step R c [] g h = absurd h
goes_step R c (e ∷ s) g (inl h) = let a = after_some (λ es. R (es ++ s)) (moves e c) h in (a.0 ++ s, ap (λ o. move_or_skip o (skips e) s (step s c)) a.1, a.2)
goes_step R c (e ∷ s) (p, f, g) (inr (k, h)) =
    let a = goes_step R c s g h in
    let n = no_move e c p k (f c (goes_begins R c s h)) in
    (a.0, ap (λ o. move_or_skip o (skips e) s (step s c)) n ∙ ap (λ b. move_or_skip None b s (step s c)) k ∙ a.1, a.2)

-- where the step goes on, a run does
pub step_goes : (R : List Expected → Type 0) (c : Terminal) (s u : List Expected) → step s c ≡ Some u → R u → Goes R c s
unfolding step
step_goes R c [] u e r = cc
step_goes R c (x ∷ s) u e r = go (moves x c) (skips x) refl refl e (λ d. step_goes R c s u d r) where
  go : (o : Option (List Expected)) (k : Bool) → moves x c ≡ o → skips x ≡ k → move_or_skip o k s (step s c) ≡ Some u → (step s c ≡ Some u → Goes R c s) → After (λ es. R (es ++ s)) (moves x c) ⊎ ((skips x ≡ true) × Goes R c s)
  go (Some es) k m n d f = inl (some_after (λ es. R (es ++ s)) (moves x c) es m (subst R (same (es ++ s) u d) r)) where
    same : (v w : List Expected) → ◌≡◌ {A = Option (List Expected)} (Some v) (Some w) → w ≡ v
    same v w e = cc
  go None true m n d f = inr (n, f d)
  go None false m n d f = cc

pub good_step : (c : Terminal) (s u : List Expected) → Good s → step s c ≡ Some u → Good u
unfolding step
good_step c [] u g e = cc
good_step c (x ∷ s) u (p, f, g) e = go (moves x c) (skips x) refl e (good_step c s u g) where
  go : (o : Option (List Expected)) (k : Bool) → moves x c ≡ o → move_or_skip o k s (step s c) ≡ Some u → (step s c ≡ Some u → Good u) → Good u
  go (Some es) k m d h = subst Good (same (es ++ s) u d) (good_append es s (refuses x) (row_fits x c es p m) f g) where
    same : (v w : List Expected) → ◌≡◌ {A = Option (List Expected)} (Some v) (Some w) → v ≡ w
    same v w e = cc
  go None true m d h = h d
  go None false m d h = cc
