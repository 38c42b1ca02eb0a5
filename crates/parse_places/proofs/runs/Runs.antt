-- Tokens that a stack goes on with to its end, in whatever way what may be left out is left out.
use Rattle.std.proofs.Common.{◌⊎◌, inl, inr, ◌≡◌, true, false, List, [], ◌∷◌, ◌++◌, Option, Some, None, refl, sym, ap, subst, append_assoc, append-nil}
use Rattle.aidl_syntax.specs.declared.token.Token.{Token}
use Rattle.parse_places.specs.declared.terminal.Terminal.{Terminal}
use Rattle.parse_places.specs.declared.expected.Expected.{Expected}
use Rattle.parse_places.specs.steps.Terminals.{terminal_of}
use Rattle.parse_places.specs.steps.Moves.{moves, skips}

abbrev pub After : (List Expected → Type 0) → Option (List Expected) → Type 0
After P None = ⊥
After P (Some es) = P es

abbrev pub Ends : List Expected → Type 0
Ends [] = Unit {0}
Ends (e ∷ stack) = (skips e ≡ true) × Ends stack

-- the stack goes on with the terminal, and what it is then is of R
abbrev pub Goes : (List Expected → Type 0) → Terminal → List Expected → Type 0
Goes R c [] = ⊥
Goes R c (e ∷ stack) = After (λ es. R (es ++ stack)) (moves e c) ⊎ ((skips e ≡ true) × Goes R c stack)

abbrev pub Run : List Token → List Expected → Type 0
Run [] stack = Ends stack
Run (t ∷ ts) stack = Goes (Run ts) (terminal_of t.kind) stack

pub after_some : (P : List Expected → Type 0) (o : Option (List Expected)) → After P o → (es : List Expected) × (o ≡ Some es) × P es
after_some P None h = absurd h
after_some P (Some es) h = (es, refl, h)

pub some_after : (P : List Expected → Type 0) (o : Option (List Expected)) (es : List Expected) → o ≡ Some es → P es → After P o
some_after P o es e h = subst (After P) (sym e) h

pub after_map : (P Q : List Expected → Type 0) (o : Option (List Expected)) → ((es : List Expected) → P es → Q es) → After P o → After Q o
after_map P Q None f h = h
after_map P Q (Some es) f h = f es h

pub goes_map : (R S : List Expected → Type 0) (c : Terminal) (s : List Expected) → ((v : List Expected) → R v → S v) → Goes R c s → Goes S c s
goes_map R S c [] f h = absurd h
goes_map R S c (e ∷ s) f (inl h) = inl (after_map (λ es. R (es ++ s)) (λ es. S (es ++ s)) (moves e c) (λ es r. f (es ++ s) r) h)
goes_map R S c (e ∷ s) f (inr (k, h)) = inr (k, goes_map R S c s f h)

-- One stack, and then another.

goes_append : (R S : List Expected → Type 0) (c : Terminal) (s u : List Expected) → ((v : List Expected) → R v → S (v ++ u)) → Goes R c s → Goes S c (s ++ u)
goes_append R S c [] u f h = absurd h
goes_append R S c (e ∷ s) u f (inl h) = inl (after_map (λ es. R (es ++ s)) (λ es. S (es ++ (s ++ u))) (moves e c) (λ es r. subst S (append_assoc es s u) (f (es ++ s) r)) h)
goes_append R S c (e ∷ s) u f (inr (k, h)) = inr (k, goes_append R S c s u f h)

-- what may be left out before a stack that goes on
pub run_skip : (ts : List Token) (e : Expected) (s : List Expected) → skips e ≡ true → Run ts s → Run ts (e ∷ s)
run_skip [] e s k h = (k, h)
run_skip (t ∷ ts) e s k h = inr (k, h)

skip_all : (ts : List Token) (s u : List Expected) → Ends s → Run ts u → Run ts (s ++ u)
skip_all ts [] u n h = h
skip_all ts (e ∷ s) u (k, n) h = run_skip ts e (s ++ u) k (skip_all ts s u n h)

pub run_append : (ts us : List Token) (s u : List Expected) → Run ts s → Run us u → Run (ts ++ us) (s ++ u)
run_append [] us s u h g = skip_all us s u h g
run_append (t ∷ ts) us s u h g = goes_append (Run ts) (Run (ts ++ us)) (terminal_of t.kind) s u (λ v r. run_append ts us v u r g) h

abbrev pub Parted : List Token → List Expected → List Expected → Type 0
Parted ts s u = (front back : List Token) × (ts ≡ front ++ back) × Run front s × Run back u

goes_split : (t : Token) (ts : List Token) (s u : List Expected) → ((v : List Expected) → Run ts (v ++ u) → Parted ts v u) → Goes (Run ts) (terminal_of t.kind) (s ++ u) → Parted (t ∷ ts) s u
goes_split t ts [] u f h = ([], t ∷ ts, refl, tt, h)
goes_split t ts (e ∷ s) u f (inl h) =
    let a = after_some (λ es. Run ts (es ++ (s ++ u))) (moves e (terminal_of t.kind)) h in
    let p = f (a.0 ++ s) (subst (Run ts) (sym (append_assoc a.0 s u)) a.2) in
    (t ∷ p.0, p.1, ap (λ us. t ∷ us) p.2, inl (some_after (λ es. Run p.0 (es ++ s)) (moves e (terminal_of t.kind)) a.0 a.1 p.3), p.4)
goes_split t ts (e ∷ s) u f (inr (k, h)) =
    let p = goes_split t ts s u f h in
    (p.0, p.1, p.2, run_skip p.0 e s k p.3, p.4)

ends_split : (s u : List Expected) → Ends (s ++ u) → Ends s × Ends u
ends_split [] u h = (tt, h)
ends_split (e ∷ s) u (k, h) = let p = ends_split s u h in ((k, p.0), p.1)

pub run_split : (ts : List Token) (s u : List Expected) → Run ts (s ++ u) → Parted ts s u
run_split [] s u h = let p = ends_split s u h in ([], [], refl, p.0, p.1)
run_split (t ∷ ts) s u h = goes_split t ts s u (λ v r. run_split ts v u r) h

-- The first of what is expected.

-- a terminal or a part goes on with its first token
pub run_first : (ts : List Token) (e : Expected) → skips e ≡ false → Run ts (e ∷ []) → (t : Token) × (us : List Token) × (ts ≡ t ∷ us) × After (Run us) (moves e (terminal_of t.kind))
run_first [] e k (n, h) = cc
run_first (t ∷ ts) e k (inl h) = (t, ts, refl, after_map (λ es. Run ts (es ++ [])) (Run ts) (moves e (terminal_of t.kind)) (λ es r. subst (Run ts) (append-nil es) r) h)
run_first (t ∷ ts) e k (inr (n, h)) = absurd h

pub first_run : (t : Token) (us : List Token) (e : Expected) → After (Run us) (moves e (terminal_of t.kind)) → Run (t ∷ us) (e ∷ [])
first_run t us e h = inl (after_map (Run us) (λ es. Run us (es ++ [])) (moves e (terminal_of t.kind)) (λ es r. subst (Run us) (sym (append-nil es)) r) h)
