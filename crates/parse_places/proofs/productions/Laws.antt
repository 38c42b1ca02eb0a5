-- The laws of the signs of the productions: a stack runs over the tokens of a form, and what it runs over is of the form.
use Rattle.std.proofs.Common.{◌⊎◌, inl, inr, ◌≡◌, ℕ, ◌+◌, ◌≤◌, Bool, true, false, cond, List, [], ◌∷◌, ◌++◌, length, Option, Some, None, refl, sym, ap, subst, ◌∙◌, length-append, arith, rules}
use denote.Enum.Bare.{same_true}
use Rattle.aidl_syntax.specs.declared.token.Token.{Token as Tok}
use Rattle.aidl_syntax.specs.Parts.{Form, Then, Maybe, Single, first}
use Rattle.parse_places.specs.contracts.terminal.Terminal as terminals
use Rattle.parse_places.specs.declared.terminal.Terminal.{Terminal}
use Rattle.parse_places.specs.declared.terminal.Terminal.TheVariants as terminal
use Rattle.parse_places.specs.declared.expected.Part.{Part}
use Rattle.parse_places.specs.declared.expected.Expected.{Expected}
use Rattle.parse_places.specs.declared.expected.Expected.TheVariants as expected
use Rattle.parse_places.specs.declared.expected.Expected.TheVariants.{Token, Once}
use Rattle.parse_places.specs.steps.Terminals.{terminal_of}
use Rattle.parse_places.specs.steps.Rows.{row}
use Rattle.parse_places.specs.steps.Moves.{same_terminal, moves, skips}
use Rattle.parse_places.proofs.Tokens.{kind_of, is_one, terminal_kind, one_kind}
use Rattle.parse_places.proofs.runs.Runs.{After, Run, after_some, some_after, run_append, run_split, run_first, first_run}

-- n is the greatest number of tokens
pub record Law {A : Type 0} (n : ℕ) (s : List Expected) (P : List Tok → A → Type 0) : Type 0 where
  pub reads : (ts : List Tok) (x : A) → P ts x → Run ts s
  pub gives : (ts : List Tok) → length ts ≤ n → Run ts s → (x : A) × P ts x

-- one part, and then another
pub both_law : {A B : Type 0} (n : ℕ) (s u : List Expected) (P : Form A) (Q : Form B) → Law n s P → Law n u Q → Law n (s ++ u) (Then P Q)
both_law {A = A} {B = B} n s u P Q a b = record { reads = reads; gives = gives } where
  reads : (ts : List Tok) (x : A × B) → Then P Q ts x → Run ts (s ++ u)
  reads ts x (front, back, is, p, q) = subst (λ us. Run us (s ++ u)) (sym is) (run_append front back s u (a.reads front x.0 p) (b.reads back x.1 q))

  gives : (ts : List Tok) → length ts ≤ n → Run ts (s ++ u) → (x : A × B) × Then P Q ts x
  gives ts le r =
      let p = run_split ts s u r in
      let l : length ts ≡ length p.0 + length p.1 = ap length p.2 ∙ length-append p.0 p.1 in
      let x = a.gives p.0 (omega arith) p.3 in
      let y = b.gives p.1 (omega arith) p.4 in
      ((x.0, y.0), (p.0, p.1, p.2, x.1, y.1))

-- Terminals.

pub same_self : (c : Terminal) → same_terminal c c ≡ true
unfolding same_terminal
same_self terminal.Name = refl
same_self _ = refl

pub same_is : (c d : Terminal) → same_terminal c d ≡ true → c ≡ d
unfolding same_terminal
same_is c d e = same_true terminals.the_type (search rules) _ _ e

pub run_nil : (ts : List Tok) → Run ts [] → ts ≡ []
run_nil [] h = refl
run_nil (t ∷ ts) h = absurd h

-- a token of the terminal, and then the rest
pub token_run : (t : Tok) (us : List Tok) (c : Terminal) (s : List Expected) → terminal_of t.kind ≡ c → Run us s → Run (t ∷ us) (Token c ∷ s)
unfolding moves
token_run t us c s e r = inl (some_after (λ es. Run us (es ++ s)) (moves (Token c) (terminal_of t.kind)) [] (ap (λ d. cond (same_terminal c d) (Some []) None) e ∙ ap (λ b. cond b (Some []) None) (same_self c)) r)

pub run_token : (ts : List Tok) (c : Terminal) (s : List Expected) → Run ts (Token c ∷ s) → (t : Tok) × (us : List Tok) × (ts ≡ t ∷ us) × (terminal_of t.kind ≡ c) × Run us s
unfolding moves skips
run_token [] c s (k, h) = cc
run_token (t ∷ ts) c s (inr (k, h)) = cc
run_token (t ∷ ts) c s (inl h) = go (same_terminal c (terminal_of t.kind)) refl h where
  go : (b : Bool) → same_terminal c (terminal_of t.kind) ≡ b → After (λ es. Run ts (es ++ s)) (cond b (Some []) None) → (u : Tok) × (us : List Tok) × (t ∷ ts ≡ u ∷ us) × (terminal_of u.kind ≡ c) × Run us s
  go true e r = (t, ts, refl, sym (same_is c (terminal_of t.kind) e), r)
  go false e r = absurd r

-- a quoted token
pub single_law : (n : ℕ) (c : Terminal) → is_one c ≡ true → Law n (Token c ∷ []) (Single (kind_of c))
single_law n c one = record { reads = reads; gives = gives } where
  reads : (ts : List Tok) (x : Unit {0}) → Single (kind_of c) ts x → Run ts (Token c ∷ [])
  reads ts x (t, is, k) = subst (λ us. Run us (Token c ∷ [])) (sym is) (token_run t [] c [] (ap terminal_of k ∙ terminal_kind c) tt)

  gives : (ts : List Tok) → length ts ≤ n → Run ts (Token c ∷ []) → (x : Unit {0}) × Single (kind_of c) ts x
  gives ts le r =
      let p = run_token ts c [] r in
      (tt, (p.0, p.2 ∙ ap (λ us. p.0 ∷ us) (run_nil p.1 p.4), one_kind p.0.kind c p.3 one))

-- Parts.

-- a part by its first token
pub run_once : (ts : List Tok) (x : Part) → Run ts (Once x ∷ []) → (t : Tok) × (us : List Tok) × (ts ≡ t ∷ us) × After (Run us) (row x (terminal_of t.kind))
unfolding moves skips
run_once ts x r = run_first ts (Once x) refl r

pub once_run : (t : Tok) (us : List Tok) (x : Part) → After (Run us) (row x (terminal_of t.kind)) → Run (t ∷ us) (Once x ∷ [])
unfolding moves
once_run t us x h = first_run t us (Once x) h

-- a part that begins with the terminal
pub enter : (ts : List Tok) (x : Part) (c : Terminal) (s : List Expected) → row x c ≡ Some s → Run ts (Token c ∷ s) → Run ts (Once x ∷ [])
enter ts x c s e r =
    let p = run_token ts c s r in
    subst (λ us. Run us (Once x ∷ [])) (sym p.2) (once_run p.0 p.1 x (some_after (Run p.1) (row x (terminal_of p.0.kind)) s (ap (row x) p.3 ∙ e) p.4))

-- a part that begins with no other
abbrev pub Only : Part → Terminal → List Expected → Type 0
Only x c s = (d : Terminal) (es : List Expected) → row x d ≡ Some es → (d ≡ c) × (es ≡ s)

pub leave : (ts : List Tok) (x : Part) (c : Terminal) (s : List Expected) → Only x c s → Run ts (Once x ∷ []) → Run ts (Token c ∷ s)
leave ts x c s only r =
    let p = run_once ts x r in
    let a = after_some (Run p.1) (row x (terminal_of p.0.kind)) p.3 in
    let o = only (terminal_of p.0.kind) a.0 a.1 in
    subst (λ us. Run us (Token c ∷ s)) (sym p.2) (token_run p.0 p.1 c s o.0 (subst (Run p.1) o.1 a.2))

-- the law of a part whose tokens are those of what its one row says
pub part_law : {A : Type 0} (n : ℕ) (x : Part) (c : Terminal) (s : List Expected) (P : Form A) → row x c ≡ Some s → Only x c s → Law n (Token c ∷ s) P → Law n (Once x ∷ []) P
part_law n x c s P e only a = record { reads = λ ts y p. enter ts x c s e (a.reads ts y p); gives = λ ts le r. a.gives ts le (leave ts x c s only r) }

-- [x]
pub maybe_run : (ts : List Tok) (x : Part) → Run ts (Once x ∷ []) → Run ts (expected.Maybe x ∷ [])
unfolding moves skips
maybe_run ts x r = let p = run_once ts x r in subst (λ us. Run us (expected.Maybe x ∷ [])) (sym p.2) (first_run p.0 p.1 (expected.Maybe x) p.3)

pub run_maybe : (ts : List Tok) (x : Part) → Run ts (expected.Maybe x ∷ []) → (ts ≡ []) ⊎ Run ts (Once x ∷ [])
unfolding moves skips
run_maybe [] x h = inl refl
run_maybe (t ∷ ts) x (inl h) = inr (inl h)
run_maybe (t ∷ ts) x (inr (k, h)) = absurd h

pub nil_run : (ts : List Tok) (e : Expected) → skips e ≡ true → ts ≡ [] → Run ts (e ∷ [])
nil_run ts e k is = subst (λ us. Run us (e ∷ [])) (sym is) (k, tt)

pub maybe_law : {A : Type 0} (n : ℕ) (x : Part) (P : Form A) → Law n (Once x ∷ []) P → Law n (expected.Maybe x ∷ []) (Maybe P)
unfolding skips
maybe_law {A = A} n x P a = record { reads = reads; gives = gives } where
  reads : (ts : List Tok) (y : Option A) → Maybe P ts y → Run ts (expected.Maybe x ∷ [])
  reads ts None is = nil_run ts (expected.Maybe x) refl is
  reads ts (Some y) p = maybe_run ts x (a.reads ts y p)

  gives : (ts : List Tok) → length ts ≤ n → Run ts (expected.Maybe x ∷ []) → (y : Option A) × Maybe P ts y
  gives ts le r = go (run_maybe ts x r) where
    go : (ts ≡ []) ⊎ Run ts (Once x ∷ []) → (y : Option A) × Maybe P ts y
    go (inl is) = (None, is)
    go (inr h) = let y = a.gives ts le h in (Some y.0, y.1)

-- a quoted token before a part, and behind one
pub behind_law : {A : Type 0} (n : ℕ) (c : Terminal) (s : List Expected) (P : Form A) → is_one c ≡ true → Law n s P → Law n (Token c ∷ s) (λ ts x. Then (Single (kind_of c)) P ts (tt, x))
behind_law {A = A} n c s P one a =
    let b = both_law n (Token c ∷ []) s (Single (kind_of c)) P (single_law n c one) a in
    record { reads = λ ts x p. b.reads ts (tt, x) p; gives = λ ts le r. let y = b.gives ts le r in (y.0.1, y.1) }

pub before_law : {A : Type 0} (n : ℕ) (c : Terminal) (s : List Expected) (P : Form A) → is_one c ≡ true → Law n s P → Law n (s ++ Token c ∷ []) (λ ts x. Then P (Single (kind_of c)) ts (x, tt))
before_law {A = A} n c s P one a =
    let b = both_law n s (Token c ∷ []) P (Single (kind_of c)) a (single_law n c one) in
    record { reads = λ ts x p. b.reads ts (x, tt) p; gives = λ ts le r. let y = b.gives ts le r in (y.0.0, y.1) }

-- with the offset of the first token
pub placed_law : {A B : Type 0} (n : ℕ) (s : List Expected) (P : Form A) (make : ℕ → A → B) (parts : B → A) (offset : B → ℕ) → ((o : ℕ) (x : A) → parts (make o x) ≡ x) → ((o : ℕ) (x : A) → offset (make o x) ≡ o)
    → Law n s P → Law n s (λ ts y. P ts (parts y) × (offset y ≡ first ts))
placed_law {A = A} {B = B} n s P make parts offset pm om a = record { reads = λ ts y p. a.reads ts (parts y) p.0; gives = gives } where
  gives : (ts : List Tok) → length ts ≤ n → Run ts s → (y : B) × (P ts (parts y) × (offset y ≡ first ts))
  gives ts le r = let x = a.gives ts le r in (make (first ts) x.0, (subst (P ts) (sym (pm (first ts) x.0)) x.1, om (first ts) x.0))
