-- The laws of what is repeated or listed.
use Rattle.std.proofs.Common.{◌⊎◌, inl, inr, ◌≡◌, ℕ, zero, suc, ◌+◌, ◌<◌, ◌≤◌, Bool, true, false, cond, List, [], ◌∷◌, ◌++◌, length, Option, Some, None, refl, sym, ap, subst, ◌∙◌, append_assoc, append-nil, length-append, arith}
use Rattle.aidl_syntax.specs.declared.token.Symbol.TheVariants as mark
use Rattle.aidl_syntax.specs.declared.token.TokenKind.TheVariants as kind
use Rattle.aidl_syntax.specs.declared.token.Token.{Token as Tok}
use Rattle.aidl_syntax.specs.Parts.{Form, Then, Maybe, Many, Quoted, Behind, MaybeListed, Trailing, MaybeTrailing}
use Rattle.parse_places.specs.declared.terminal.Terminal.{Terminal}
use Rattle.parse_places.specs.declared.terminal.Terminal.TheVariants as terminal
use Rattle.parse_places.specs.declared.expected.Part.{Part}
use Rattle.parse_places.specs.declared.expected.Expected.{Expected}
use Rattle.parse_places.specs.declared.expected.Expected.TheVariants as expected
use Rattle.parse_places.specs.declared.expected.Expected.TheVariants.{Token, Once}
use Rattle.parse_places.specs.steps.Terminals.{terminal_of}
use Rattle.parse_places.specs.steps.Rows.{row}
use Rattle.parse_places.specs.steps.Moves.{same_terminal, and_then, behind_comma, moves, skips}
use Rattle.parse_places.proofs.Tokens.{kind_of, is_one, one_kind}
use Rattle.parse_places.proofs.runs.Runs.{After, Run, after_some, some_after, run_append, run_split, first_run}
use Rattle.parse_places.proofs.productions.Laws.{Law, same_self, same_is, run_once, once_run, nil_run}

-- A first token with what is expected behind it.
abbrev pub Element : (Terminal → Option (List Expected)) → List Tok → Type 0
Element f ts = (t : Tok) × (us : List Tok) × (ts ≡ t ∷ us) × After (Run us) (f (terminal_of t.kind))

-- what may be left out, or else is an element with something behind it
abbrev pub IsThen : Expected → (Terminal → Option (List Expected)) → Expected → Type 0
IsThen e f last = (d : Terminal) → moves e d ≡ and_then (f d) last

and_then_some : (o : Option (List Expected)) (last : Expected) (es : List Expected) → and_then o last ≡ Some es → (fs : List Expected) × (o ≡ Some fs) × (es ≡ fs ++ last ∷ [])
and_then_some None last es e = cc
and_then_some (Some fs) last es e = (fs, refl, same es (fs ++ last ∷ []) e) where
  same : (v w : List Expected) → ◌≡◌ {A = Option (List Expected)} (Some w) (Some v) → v ≡ w
  same v w e = cc

-- an element in front, and the rest of the tokens, which are fewer
abbrev pub ElementThen : List Tok → (Terminal → Option (List Expected)) → Expected → Type 0
ElementThen ts f last = (front back : List Tok) × (ts ≡ front ++ back) × (length back < length ts) × Element f front × Run back (last ∷ [])

first_then : (t : Tok) (us : List Tok) (e : Expected) (f : Terminal → Option (List Expected)) (last : Expected) → IsThen e f last → After (Run us) (moves e (terminal_of t.kind)) → ElementThen (t ∷ us) f last
first_then t us e f last m h =
    let a = after_some (Run us) (moves e (terminal_of t.kind)) h in
    let b = and_then_some (f (terminal_of t.kind)) last a.0 (sym (m (terminal_of t.kind)) ∙ a.1) in
    let p = run_split us b.0 (last ∷ []) (subst (Run us) b.2 a.2) in
    let l : length us ≡ length p.0 + length p.1 = ap length p.2 ∙ length-append p.0 p.1 in
    (t ∷ p.0, p.1, ap (λ vs. t ∷ vs) p.2, omega arith, (t, p.0, refl, some_after (Run p.0) (f (terminal_of t.kind)) b.0 b.1 p.3), p.4)

drop_nil : (ts : List Tok) (o : Option (List Expected)) → After (λ es. Run ts (es ++ [])) o → After (Run ts) o
drop_nil ts None h = h
drop_nil ts (Some es) h = subst (Run ts) (append-nil es) h

pub run_then : (ts : List Tok) (e : Expected) (f : Terminal → Option (List Expected)) (last : Expected) → IsThen e f last → Run ts (e ∷ []) → (ts ≡ []) ⊎ ElementThen ts f last
run_then [] e f last m r = inl refl
run_then (t ∷ ts) e f last m (inl h) = inr (first_then t ts e f last m (drop_nil ts (moves e (terminal_of t.kind)) h))
run_then (t ∷ ts) e f last m (inr (k, h)) = absurd h

pub then_run : (front back : List Tok) (e : Expected) (f : Terminal → Option (List Expected)) (last : Expected) → IsThen e f last → Element f front → Run back (last ∷ []) → Run (front ++ back) (e ∷ [])
then_run front back e f last m (t, us, is, h) q =
    let a = after_some (Run us) (f (terminal_of t.kind)) h in
    let r = run_append us back a.0 (last ∷ []) a.2 q in
    subst (λ vs. Run (vs ++ back) (e ∷ [])) (sym is)
    (first_run t (us ++ back) e (some_after (Run (us ++ back)) (moves e (terminal_of t.kind)) (a.0 ++ last ∷ []) (m (terminal_of t.kind) ∙ ap (λ o. and_then o last) a.1) r))

pub record Elements {A : Type 0} (n : ℕ) (f : Terminal → Option (List Expected)) (P : List Tok → A → Type 0) : Type 0 where
  pub reads : (ts : List Tok) (x : A) → P ts x → Element f ts
  pub gives : (ts : List Tok) → length ts ≤ n → Element f ts → (x : A) × P ts x

pub element_once : (ts : List Tok) (x : Part) → Element (row x) ts → Run ts (Once x ∷ [])
element_once ts x (t, us, is, h) = subst (λ vs. Run vs (Once x ∷ [])) (sym is) (once_run t us x h)

pub once_elements : {A : Type 0} (n : ℕ) (x : Part) (P : Form A) → Law n (Once x ∷ []) P → Elements n (row x) P
once_elements n x P a = record { reads = λ ts y p. run_once ts x (a.reads ts y p); gives = λ ts le h. a.gives ts le (element_once ts x h) }

-- {x}, of elements
pub repeat_law : {A : Type 0} (n : ℕ) (e : Expected) (f : Terminal → Option (List Expected)) (P : Form A) → IsThen e f e → skips e ≡ true → Elements n f P → Law n (e ∷ []) (Many P)
repeat_law {A = A} n e f P m k a = record { reads = reads; gives = λ ts le r. gives n (omega arith) ts le r } where
  reads : (ts : List Tok) (ys : List A) → Many P ts ys → Run ts (e ∷ [])
  reads ts [] is = nil_run ts e k is
  reads ts (y ∷ ys) (front, back, is, p, q) = subst (λ us. Run us (e ∷ [])) (sym is) (then_run front back e f e m (a.reads front y p) (reads back ys q))

  given : (c : ℕ) → c ≤ n → ((ts : List Tok) → length ts < c → Run ts (e ∷ []) → (ys : List A) × Many P ts ys)
      → (ts : List Tok) → length ts ≤ c → (ts ≡ []) ⊎ ElementThen ts f e → (ys : List A) × Many P ts ys
  given c le ih ts l (inl is) = ([], is)
  given c le ih ts l (inr (front, back, is, less, r, q)) =
      let k : length ts ≡ length front + length back = ap length is ∙ length-append front back in
      let y = a.gives front (omega arith) r in
      let ys = ih back (omega arith) q in
      (y.0 ∷ ys.0, (front, back, is, y.1, ys.1))

  gives : (c : ℕ) → c ≤ n → (ts : List Tok) → length ts ≤ c → Run ts (e ∷ []) → (ys : List A) × Many P ts ys
  gives zero le ts l r = given zero le (λ us k h. absurd (omega arith)) ts l (run_then ts e f e m r)
  gives (suc c) le ts l r = given (suc c) le (λ us k h. gives c (omega arith) us (omega arith) h) ts l (run_then ts e f e m r)

-- {x}
pub many_law : {A : Type 0} (n : ℕ) (x : Part) (P : Form A) → Law n (Once x ∷ []) P → Law n (expected.Many x ∷ []) (Many P)
unfolding moves skips
many_law n x P a = repeat_law n (expected.Many x) (row x) P (λ d. refl) refl (once_elements n x P a)

-- {"," x}

comma_some : (e : Expected) (d : Terminal) (es : List Expected) → behind_comma e d ≡ Some es → (d ≡ terminal.Comma) × (es ≡ e ∷ [])
comma_some e d es h = go (same_terminal d terminal.Comma) refl h where
  go : (b : Bool) → same_terminal d terminal.Comma ≡ b → cond {A = Option (List Expected)} b (Some (e ∷ [])) None ≡ Some es → (d ≡ terminal.Comma) × (es ≡ e ∷ [])
  go true k c = (same_is d terminal.Comma k, same es (e ∷ []) c) where
    same : (v w : List Expected) → ◌≡◌ {A = Option (List Expected)} (Some w) (Some v) → v ≡ w
    same v w e = cc
  go false k c = cc

comma_is : (e : Expected) (d : Terminal) → d ≡ terminal.Comma → behind_comma e d ≡ Some (e ∷ [])
comma_is e d k = ap (λ c. cond {A = Option (List Expected)} (same_terminal c terminal.Comma) (Some (e ∷ [])) None) k ∙ ap (λ b. cond {A = Option (List Expected)} b (Some (e ∷ [])) None) (same_self terminal.Comma)

comma_kind : (t : Tok) → terminal_of t.kind ≡ terminal.Comma → t.kind ≡ kind.Mark mark.Comma
unfolding kind_of is_one
comma_kind t k = one_kind t.kind terminal.Comma k refl

kind_comma : (t : Tok) → t.kind ≡ kind.Mark mark.Comma → terminal_of t.kind ≡ terminal.Comma
kind_comma t k = ap terminal_of k

comma_elements : {A : Type 0} (n : ℕ) (x : Part) (P : Form A) → Law n (Once x ∷ []) P → Elements n (behind_comma (Once x)) (Behind mark.Comma P)
comma_elements {A = A} n x P a = record { reads = reads; gives = gives } where
  reads : (ts : List Tok) (y : A) → Behind mark.Comma P ts y → Element (behind_comma (Once x)) ts
  reads ts y (front, back, is, (t, js, k), p) =
      (t, back, is ∙ ap (λ us. us ++ back) js, some_after (Run back) (behind_comma (Once x) (terminal_of t.kind)) (Once x ∷ []) (comma_is (Once x) (terminal_of t.kind) (kind_comma t k)) (a.reads back y p))

  gives : (ts : List Tok) → length ts ≤ n → Element (behind_comma (Once x)) ts → (y : A) × Behind mark.Comma P ts y
  gives ts le (t, us, is, h) =
      let b = after_some (Run us) (behind_comma (Once x) (terminal_of t.kind)) h in
      let c = comma_some (Once x) (terminal_of t.kind) b.0 b.1 in
      let l : length ts ≡ suc (length us) = ap length is in
      let y = a.gives us (omega arith) (subst (Run us) c.1 b.2) in
      (y.0, (t ∷ [], us, is, (t, refl, comma_kind t c.0), y.1))

pub commas_law : {A : Type 0} (n : ℕ) (x : Part) (P : Form A) → Law n (Once x ∷ []) P → Law n (expected.Commas x ∷ []) (Many (Behind mark.Comma P))
unfolding moves skips
commas_law n x P a = repeat_law n (expected.Commas x) (behind_comma (Once x)) (Behind mark.Comma P) (λ d. refl) refl (comma_elements n x P a)

-- [x {"," x}]
pub maybe_listed_law : {A : Type 0} (n : ℕ) (x : Part) (P : Form A) → Law n (Once x ∷ []) P → Law n (expected.MaybeListed x ∷ []) (MaybeListed P)
unfolding moves skips
maybe_listed_law {A = A} n x P a = record { reads = reads; gives = λ ts le r. gives ts le (run_then ts (expected.MaybeListed x) (row x) (expected.Commas x) (λ d. refl) r) } where
  reads : (ts : List Tok) (ys : List A) → MaybeListed P ts ys → Run ts (expected.MaybeListed x ∷ [])
  reads ts [] is = nil_run ts (expected.MaybeListed x) refl is
  reads ts (y ∷ ys) (front, back, is, p, q) =
      subst (λ us. Run us (expected.MaybeListed x ∷ [])) (sym is)
      (then_run front back (expected.MaybeListed x) (row x) (expected.Commas x) (λ d. refl) (run_once front x (a.reads front y p)) ((commas_law n x P a).reads back ys q))

  gives : (ts : List Tok) → length ts ≤ n → (ts ≡ []) ⊎ ElementThen ts (row x) (expected.Commas x) → (ys : List A) × MaybeListed P ts ys
  gives ts le (inl is) = ([], is)
  gives ts le (inr (front, back, is, less, h, q)) =
      let k : length ts ≡ length front + length back = ap length is ∙ length-append front back in
      let y = a.gives front (omega arith) (element_once front x h) in
      let ys = (commas_law n x P a).gives back (omega arith) q in
      (y.0 ∷ ys.0, (front, back, is, y.1, ys.1))

-- {"," x} [","]
abbrev pub Tail : {A : Type 0} → Form A → Form (List A)
Tail P ts ys = (comma : Option (Unit {0})) × Then (Many (Behind mark.Comma P)) (Maybe (Quoted mark.Comma)) ts (ys, comma)

comma_run : (t : Tok) (us : List Tok) (x : Part) → t.kind ≡ kind.Mark mark.Comma → Run us (expected.MaybeTrailing x ∷ []) → Run (t ∷ us) (expected.CommasTrailing x ∷ [])
unfolding moves
comma_run t us x k r =
    first_run t us (expected.CommasTrailing x)
    (some_after (Run us) (behind_comma (expected.MaybeTrailing x) (terminal_of t.kind)) (expected.MaybeTrailing x ∷ []) (comma_is (expected.MaybeTrailing x) (terminal_of t.kind) (kind_comma t k)) r)

run_comma : (ts : List Tok) (x : Part) → Run ts (expected.CommasTrailing x ∷ []) → (ts ≡ []) ⊎ ((t : Tok) × (us : List Tok) × (ts ≡ t ∷ us) × (t.kind ≡ kind.Mark mark.Comma) × Run us (expected.MaybeTrailing x ∷ []))
unfolding moves
run_comma [] x r = inl refl
run_comma (t ∷ ts) x (inl h) =
    let b = after_some (Run ts) (behind_comma (expected.MaybeTrailing x) (terminal_of t.kind)) (drop_nil ts (behind_comma (expected.MaybeTrailing x) (terminal_of t.kind)) h) in
    let c = comma_some (expected.MaybeTrailing x) (terminal_of t.kind) b.0 b.1 in
    inr (t, ts, refl, comma_kind t c.0, subst (Run ts) c.1 b.2)
run_comma (t ∷ ts) x (inr (k, h)) = absurd h

tail_more : {A : Type 0} (P : Form A) (ts : List Tok) (t : Tok) (us front back : List Tok) (y : A) (ys : List A)
    → ts ≡ t ∷ us → t.kind ≡ kind.Mark mark.Comma → us ≡ front ++ back → P front y → Tail P back ys → Tail P ts (y ∷ ys)
tail_more P ts t us front back y ys is k e p (comma, (m, c, f, ms, cs)) =
    (comma, ((t ∷ front) ++ m, c, is ∙ ap (λ vs. t ∷ vs) (e ∙ ap (λ vs. front ++ vs) f ∙ sym (append_assoc front m c)), (t ∷ front, m, refl, (t ∷ [], front, refl, (t, refl, k), p), ms), cs))

pub tail_law : {A : Type 0} (n : ℕ) (x : Part) (P : Form A) → Law n (Once x ∷ []) P → Law n (expected.CommasTrailing x ∷ []) (Tail P)
unfolding moves skips
tail_law {A = A} n x P a = record { reads = reads; gives = λ ts le r. gives n (omega arith) ts le r } where
  reads : (ts : List Tok) (ys : List A) → Tail P ts ys → Run ts (expected.CommasTrailing x ∷ [])
  reads ts [] (None, (m, c, is, e, f)) = nil_run ts (expected.CommasTrailing x) refl (is ∙ ap (λ us. us ++ c) e ∙ f)
  reads ts [] (Some u, (m, c, is, e, (t, f, k))) =
      subst (λ us. Run us (expected.CommasTrailing x ∷ [])) (sym (is ∙ ap (λ us. us ++ c) e ∙ f)) (comma_run t [] x k (refl, tt))
  reads ts (y ∷ ys) (comma, (m, c, is, (m0, m1, e, (q, front, f, (t, g, k), p), ms), cs)) =
      let w : ts ≡ t ∷ (front ++ (m1 ++ c)) = is ∙ ap (λ us. us ++ c) (e ∙ ap (λ us. us ++ m1) (f ∙ ap (λ us. us ++ front) g)) ∙ ap (λ us. t ∷ us) (append_assoc front m1 c) in
      subst (λ us. Run us (expected.CommasTrailing x ∷ [])) (sym w)
      (comma_run t (front ++ (m1 ++ c)) x k
      (then_run front (m1 ++ c) (expected.MaybeTrailing x) (row x) (expected.CommasTrailing x) (λ d. refl) (run_once front x (a.reads front y p)) (reads (m1 ++ c) ys (comma, (m1, c, refl, ms, cs)))))

  given : (b : ℕ) → b ≤ n → ((ts : List Tok) → length ts < b → Run ts (expected.CommasTrailing x ∷ []) → (ys : List A) × Tail P ts ys)
      → (ts : List Tok) → length ts ≤ b → (t : Tok) (us : List Tok) → ts ≡ t ∷ us → t.kind ≡ kind.Mark mark.Comma → (us ≡ []) ⊎ ElementThen us (row x) (expected.CommasTrailing x) → (ys : List A) × Tail P ts ys
  given b le ih ts l t us is k (inl e) = ([], (Some tt, ([], ts, refl, refl, (t, is ∙ ap (λ vs. t ∷ vs) e, k))))
  given b le ih ts l t us is k (inr (front, back, e, less, h, q)) =
      let l1 : length ts ≡ suc (length us) = ap length is in
      let l2 : length us ≡ length front + length back = ap length e ∙ length-append front back in
      let y = a.gives front (omega arith) (element_once front x h) in
      let r = ih back (omega arith) q in
      (y.0 ∷ r.0, tail_more P ts t us front back y.0 r.0 is k e y.1 r.1)

  gives_by : (b : ℕ) → b ≤ n → ((ts : List Tok) → length ts < b → Run ts (expected.CommasTrailing x ∷ []) → (ys : List A) × Tail P ts ys)
      → (ts : List Tok) → length ts ≤ b → (ts ≡ []) ⊎ ((t : Tok) × (us : List Tok) × (ts ≡ t ∷ us) × (t.kind ≡ kind.Mark mark.Comma) × Run us (expected.MaybeTrailing x ∷ [])) → (ys : List A) × Tail P ts ys
  gives_by b le ih ts l (inl is) = ([], (None, ([], [], is, refl, refl)))
  gives_by b le ih ts l (inr (t, us, is, k, r)) = given b le ih ts l t us is k (run_then us (expected.MaybeTrailing x) (row x) (expected.CommasTrailing x) (λ d. refl) r)

  gives : (b : ℕ) → b ≤ n → (ts : List Tok) → length ts ≤ b → Run ts (expected.CommasTrailing x ∷ []) → (ys : List A) × Tail P ts ys
  gives zero le ts l r = gives_by zero le (λ us k h. absurd (omega arith)) ts l (run_comma ts x r)
  gives (suc b) le ts l r = gives_by (suc b) le (λ us k h. gives b (omega arith) us (omega arith) h) ts l (run_comma ts x r)

-- x {"," x} [","], by its first
abbrev Cut : {A : Type 0} → Form A → List Tok → A → List A → Type 0
Cut P ts y ys = (front back : List Tok) × (ts ≡ front ++ back) × P front y × Tail P back ys

trailing_cut : {A : Type 0} (P : Form A) (ts : List Tok) (y : A) (ys : List A) → Trailing P ts (y ∷ ys) → Cut P ts y ys
trailing_cut P ts y ys (comma, (m, c, is, (front, back, e, p, q), cs)) = (front, back ++ c, is ∙ ap (λ us. us ++ c) e ∙ append_assoc front back c, p, (comma, (back, c, refl, q, cs)))

cut_trailing : {A : Type 0} (P : Form A) (ts : List Tok) (y : A) (ys : List A) → Cut P ts y ys → Trailing P ts (y ∷ ys)
cut_trailing P ts y ys (front, back, is, p, (comma, (m, c, e, q, cs))) =
    (comma, (front ++ m, c, is ∙ ap (λ us. front ++ us) e ∙ sym (append_assoc front m c), (front, m, refl, p, q), cs))

-- x {"," x} [","]
pub trailing_law : {A : Type 0} (n : ℕ) (x : Part) (P : Form A) → Law n (Once x ∷ []) P → Law n (Once x ∷ expected.CommasTrailing x ∷ []) (Trailing P)
trailing_law {A = A} n x P a = record { reads = reads; gives = gives } where
  reads : (ts : List Tok) (ys : List A) → Trailing P ts ys → Run ts (Once x ∷ expected.CommasTrailing x ∷ [])
  reads ts [] (comma, (m, c, is, p, cs)) = absurd p
  reads ts (y ∷ ys) h =
      let d = trailing_cut P ts y ys h in
      subst (λ us. Run us (Once x ∷ expected.CommasTrailing x ∷ [])) (sym d.2) (run_append d.0 d.1 (Once x ∷ []) (expected.CommasTrailing x ∷ []) (a.reads d.0 y d.3) ((tail_law n x P a).reads d.1 ys d.4))

  gives : (ts : List Tok) → length ts ≤ n → Run ts (Once x ∷ expected.CommasTrailing x ∷ []) → (ys : List A) × Trailing P ts ys
  gives ts le r =
      let p = run_split ts (Once x ∷ []) (expected.CommasTrailing x ∷ []) r in
      let l : length ts ≡ length p.0 + length p.1 = ap length p.2 ∙ length-append p.0 p.1 in
      let y = a.gives p.0 (omega arith) p.3 in
      let ys = (tail_law n x P a).gives p.1 (omega arith) p.4 in
      (y.0 ∷ ys.0, cut_trailing P ts y.0 ys.0 (p.0, p.1, p.2, y.1, ys.1))

-- [x {"," x} [","]]
pub maybe_trailing_law : {A : Type 0} (n : ℕ) (x : Part) (P : Form A) → Law n (Once x ∷ []) P → Law n (expected.MaybeTrailing x ∷ []) (MaybeTrailing P)
unfolding moves skips
maybe_trailing_law {A = A} n x P a = record { reads = reads; gives = λ ts le r. gives ts le (run_then ts (expected.MaybeTrailing x) (row x) (expected.CommasTrailing x) (λ d. refl) r) } where
  reads : (ts : List Tok) (ys : List A) → MaybeTrailing P ts ys → Run ts (expected.MaybeTrailing x ∷ [])
  reads ts [] is = nil_run ts (expected.MaybeTrailing x) refl is
  reads ts (y ∷ ys) h =
      let d = trailing_cut P ts y ys h in
      subst (λ us. Run us (expected.MaybeTrailing x ∷ [])) (sym d.2)
      (then_run d.0 d.1 (expected.MaybeTrailing x) (row x) (expected.CommasTrailing x) (λ d. refl) (run_once d.0 x (a.reads d.0 y d.3)) ((tail_law n x P a).reads d.1 ys d.4))

  gives : (ts : List Tok) → length ts ≤ n → (ts ≡ []) ⊎ ElementThen ts (row x) (expected.CommasTrailing x) → (ys : List A) × MaybeTrailing P ts ys
  gives ts le (inl is) = ([], is)
  gives ts le (inr (front, back, is, less, h, q)) =
      let k : length ts ≡ length front + length back = ap length is ∙ length-append front back in
      let y = a.gives front (omega arith) (element_once front x h) in
      let ys = (tail_law n x P a).gives back (omega arith) q in
      (y.0 ∷ ys.0, cut_trailing P ts y.0 ys.0 (front, back, is, y.1, ys.1))
