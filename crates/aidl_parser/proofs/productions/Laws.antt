-- The laws of the signs of the productions: what a reader gives stands for the front that it read, and what stands for a
-- front is given, before tokens that can't go on with it.
use Rattle.std.proofs.Common.{◌⊎◌, inl, inr, ◌≡◌, ℕ, zero, suc, Bool, true, false, cond, List, [], ◌∷◌, ◌++◌, Option, Some, None, refl, sym, ap, subst, ◌∙◌, append_assoc, length-append, length, ◌≤◌, ◌+◌, arith, rules}
use denote.Enum.Bare.{same_true}
use Rattle.aidl_syntax.specs.contracts.token.Symbol as symbols
use Rattle.aidl_base.specs.contracts.reserved.Reserved as words
use Rattle.aidl_syntax.specs.declared.token.Symbol.{Symbol}
use Rattle.aidl_syntax.specs.declared.token.Symbol.TheVariants as mark
use Rattle.aidl_base.specs.declared.reserved.Reserved.{Reserved}
use Rattle.aidl_base.specs.declared.reserved.Reserved.TheVariants as word
use Rattle.aidl_syntax.specs.declared.token.TokenKind.{TokenKind}
use Rattle.aidl_syntax.specs.declared.token.TokenKind.TheVariants as kind
use Rattle.aidl_syntax.specs.declared.token.Token.{Token}
use Rattle.aidl_syntax.specs.Parts.{Form, Then, Maybe, Many, Quoted, Worded, Behind, Before, Listed, first}
use Rattle.expr_parser.specs.Reading.{Read, mark_of, ◌>>=◌}
use Rattle.aidl_parser.specs.steps.Parts.{same_symbol, same_word, is_symbol, is_reserved, word_of, begins, begins_word, quoted, worded, before, then_at, both, altered, alter, second, behind, fore, upto, placed, as_some, maybe, more_at, ahead, many, listed}
use Rattle.expr_parser.proofs.lemmas.Told.{bind_some, pair_some, chosen, is_mark}

abbrev pub IsTold : {A : Type 0} → (List Token → Read A) → (List Token → A → Type 0) → Type 0
IsTold {A = A} r P = (ts : List Token) (x : A) (rest : List Token) → r ts ≡ Some (x, rest) → (front : List Token) × (ts ≡ front ++ rest) × P front x

-- F is what may follow, and n the greatest number of tokens
abbrev pub IsFound : {A : Type 0} → ℕ → (List Token → Read A) → (List Token → A → Type 0) → (List Token → Bool) → Type 0
IsFound {A = A} n r P F = (ts : List Token) (x : A) (rest : List Token) → length ts ≤ n → P ts x → F rest ≡ true → r (ts ++ rest) ≡ Some (x, rest)

pub record Law {A : Type 0} (n : ℕ) (r : List Token → Read A) (P : List Token → A → Type 0) (F : List Token → Bool) : Type 0 where
  pub told : IsTold r P
  pub found : IsFound n r P F

-- what Q stands for, or else what follows it, may follow
abbrev pub MayFollow : {B : Type 0} → (List Token → Bool) → (List Token → B → Type 0) → (List Token → Bool) → Type 0
MayFollow {B = B} F Q G = (ts : List Token) (y : B) (rest : List Token) → Q ts y → G rest ≡ true → F (ts ++ rest) ≡ true

-- the test holds where the form stands
abbrev pub Begins : {A : Type 0} → (List Token → A → Type 0) → (List Token → Bool) → Type 0
Begins {A = A} P goes = (ts : List Token) (x : A) (rest : List Token) → P ts x → goes (ts ++ rest) ≡ true

-- the form has a first token
abbrev pub Starts : {A : Type 0} → (List Token → A → Type 0) → Type 0
Starts {A = A} P = (ts : List Token) (x : A) → P ts x → (t : Token) × (us : List Token) × (ts ≡ t ∷ us)

-- before anything
abbrev pub any : List Token → Bool
any rest = true

both_told : {A B : Type 0} (r : List Token → Read A) (s : List Token → Read B) (P : Form A) (Q : Form B) → IsTold r P → IsTold s Q → IsTold (both r s) (Then P Q)
both_told {A = A} {B = B} r s P Q t u ts x rest e =
    let a = bind_some (r ts) (then_at s) (x, rest) e in
    let b = bind_some (s a.0.1) (before a.0.0) (x, rest) a.2 in
    let f = t ts a.0.0 a.0.1 a.1 in
    let g = u a.0.1 b.0.0 b.0.1 b.1 in
    let p = pair_some {A = A × B} (a.0.0, b.0.0) x b.0.1 rest b.2 in
    let h : Then P Q (f.0 ++ g.0) (a.0.0, b.0.0) = (f.0, g.0, refl, f.2, g.2) in
    (f.0 ++ g.0, f.1 ∙ ap (λ us. f.0 ++ us) (g.1 ∙ ap (λ us. g.0 ++ us) p.1) ∙ sym (append_assoc f.0 g.0 rest), subst (Then P Q (f.0 ++ g.0)) p.0 h)

both_found : {A B : Type 0} (n : ℕ) (r : List Token → Read A) (s : List Token → Read B) (P : Form A) (Q : Form B) (F G : List Token → Bool)
    → IsFound n r P F → IsFound n s Q G → MayFollow F Q G → IsFound n (both r s) (Then P Q) G
both_found n r s P Q F G t u m ts x rest len (front, back, is, p, q) ok =
    let l : length ts ≡ length front + length back = ap length is ∙ length-append front back in
    let w : ts ++ rest ≡ front ++ (back ++ rest) = ap (λ us. us ++ rest) is ∙ append_assoc front back rest in
    let a : r (front ++ (back ++ rest)) ≡ Some (x.0, back ++ rest) = t front x.0 (back ++ rest) (omega arith) p (m back x.1 rest q ok) in
    let b : s (back ++ rest) ≡ Some (x.1, rest) = u back x.1 rest (omega arith) q ok in
    ap (both r s) w ∙ ap (λ z. z >>= then_at s) a ∙ ap (λ z. z >>= before x.0) b

pub both_law : {A B : Type 0} (n : ℕ) (r : List Token → Read A) (s : List Token → Read B) (P : Form A) (Q : Form B) (F G : List Token → Bool)
    → Law n r P F → Law n s Q G → MayFollow F Q G → Law n (both r s) (Then P Q) G
both_law n r s P Q F G a b m = record { told = both_told r s P Q a.told b.told; found = both_found n r s P Q F G a.found b.found m }

pub weaken : {A : Type 0} (n : ℕ) (r : List Token → Read A) (P : Form A) (F G : List Token → Bool) → ((rest : List Token) → G rest ≡ true → F rest ≡ true) → Law n r P F → Law n r P G
weaken n r P F G f a = record { told = a.told; found = λ ts x rest len p ok. a.found ts x rest len p (f rest ok) }

-- seen otherwise, there and back
pub alter_law : {A B : Type 0} (n : ℕ) (f : A → B) (g : B → A) (r : List Token → Read A) (P : Form A) (F : List Token → Bool) → ((x : A) → g (f x) ≡ x) → ((y : B) → f (g y) ≡ y)
    → Law n r P F → Law n (alter f r) (λ ts y. P ts (g y)) F
alter_law {A = A} {B = B} n f g r P F gf fg a = record { told = told; found = found } where
  told : IsTold (alter f r) (λ ts y. P ts (g y))
  told ts y rest e =
      let b = bind_some (r ts) (altered f) (y, rest) e in
      let h = a.told ts b.0.0 b.0.1 b.1 in
      let p = pair_some {A = B} (f b.0.0) y b.0.1 rest b.2 in
      (h.0, h.1 ∙ ap (λ us. h.0 ++ us) p.1, subst (P h.0) (sym (gf b.0.0) ∙ ap g p.0) h.2)

  found : IsFound n (alter f r) (λ ts y. P ts (g y)) F
  found ts y rest len p ok = ap (λ z. z >>= altered f) (a.found ts (g y) rest len p ok) ∙ ap (λ x. Some (x, rest)) (fg y)

-- with its offset
pub placed_law : {A B : Type 0} (n : ℕ) (make : ℕ → A → B) (parts : B → A) (offset : B → ℕ) (r : List Token → Read A) (P : Form A) (F : List Token → Bool)
    → ((o : ℕ) (x : A) → parts (make o x) ≡ x) → ((o : ℕ) (x : A) → offset (make o x) ≡ o) → ((y : B) → make (offset y) (parts y) ≡ y) → Starts P
    → Law n r P F → Law n (placed make r) (λ ts y. P ts (parts y) × (offset y ≡ first ts)) F
placed_law {A = A} {B = B} n make parts offset r P F pm om mp starts a = record { told = told; found = found } where
  kept : (ts rest : List Token) (x : A) → P ts x → first (ts ++ rest) ≡ first ts
  kept ts rest x p = let s = starts ts x p in rw s.2 refl

  told : IsTold (placed make r) (λ ts y. P ts (parts y) × (offset y ≡ first ts))
  told ts y rest e =
      let b = bind_some (r ts) (altered (make (first ts))) (y, rest) e in
      let h = a.told ts b.0.0 b.0.1 b.1 in
      let p = pair_some {A = B} (make (first ts) b.0.0) y b.0.1 rest b.2 in
      let o : first ts ≡ first h.0 = ap first h.1 ∙ kept h.0 b.0.1 b.0.0 h.2 in
      (h.0, h.1 ∙ ap (λ us. h.0 ++ us) p.1, (subst (P h.0) (sym (pm (first ts) b.0.0) ∙ ap parts p.0) h.2, sym (ap offset p.0) ∙ om (first ts) b.0.0 ∙ o))

  found : IsFound n (placed make r) (λ ts y. P ts (parts y) × (offset y ≡ first ts)) F
  found ts y rest len (p, o) ok =
      let f : first (ts ++ rest) ≡ offset y = kept ts rest (parts y) p ∙ sym o in
      ap (λ z. z >>= altered (make (first (ts ++ rest)))) (a.found ts (parts y) rest len p ok)
      ∙ ap (λ k. Some (make k (parts y), rest)) f ∙ ap (λ x. Some (x, rest)) (mp y)

-- Symbols and words.

same_is : (s t : Symbol) → same_symbol t s ≡ true → t ≡ s
unfolding same_symbol
same_is s t e = same_true symbols.the_type (search rules) _ _ e

pub same_self : (s : Symbol) → same_symbol s s ≡ true
unfolding same_symbol
same_self mark.OpenBrace = refl
same_self _ = refl

word_is : (s t : Reserved) → same_word t s ≡ true → t ≡ s
unfolding same_word
word_is s t e = same_true words.the_type (search rules) _ _ e

pub word_self : (s : Reserved) → same_word s s ≡ true
unfolding same_word
word_self word.Package = refl
word_self _ = refl

pub symbol_is : (s : Symbol) (o : Option Symbol) → is_symbol s o ≡ true → o ≡ Some s
symbol_is s None e = cc
symbol_is s (Some t) e = ap Some (same_is s t e)

pub reserved_is : (s : Reserved) (o : Option Reserved) → is_reserved s o ≡ true → o ≡ Some s
reserved_is s None e = cc
reserved_is s (Some t) e = ap Some (word_is s t e)

pub is_word : (k : TokenKind) (r : Reserved) → word_of k ≡ Some r → k ≡ kind.Word r
is_word (kind.Name x) s e = cc
is_word (kind.Word r) s e = cc
is_word (kind.Number n h l) s e = cc
is_word (kind.Character c) s e = cc
is_word (kind.Str x) s e = cc
is_word (kind.Mark t) s e = cc

pub quoted_law : (n : ℕ) (s : Symbol) (F : List Token → Bool) → Law n (quoted s) (Quoted s) F
quoted_law n s F = record { told = told; found = found } where
  told : IsTold (quoted s) (Quoted s)
  told [] x rest e = cc
  told (t ∷ ts) x rest e = go (chosen (is_symbol s (mark_of t.kind)) (Some (tt, ts)) None (Some (x, rest)) e) where
    go : ((is_symbol s (mark_of t.kind) ≡ true) × (◌≡◌ {A = Read (Unit {0})} (Some (tt, ts)) (Some (x, rest)))) ⊎ ((is_symbol s (mark_of t.kind) ≡ false) × (◌≡◌ {A = Read (Unit {0})} None (Some (x, rest))))
        → (front : List Token) × (t ∷ ts ≡ front ++ rest) × Quoted s front x
    go (inl (y, d)) = let p = pair_some {A = Unit {0}} tt x ts rest d in
        (t ∷ [], ap (λ us. t ∷ us) p.1, (t, refl, is_mark t.kind s (symbol_is s (mark_of t.kind) y)))
    go (inr (y, d)) = cc

  found : IsFound n (quoted s) (Quoted s) F
  found ts u rest len (t, is, k) ok = rw (is, k, same_self s) refl

pub worded_law : (n : ℕ) (s : Reserved) (F : List Token → Bool) → Law n (worded s) (Worded s) F
worded_law n s F = record { told = told; found = found } where
  told : IsTold (worded s) (Worded s)
  told [] x rest e = cc
  told (t ∷ ts) x rest e = go (chosen (is_reserved s (word_of t.kind)) (Some (tt, ts)) None (Some (x, rest)) e) where
    go : ((is_reserved s (word_of t.kind) ≡ true) × (◌≡◌ {A = Read (Unit {0})} (Some (tt, ts)) (Some (x, rest)))) ⊎ ((is_reserved s (word_of t.kind) ≡ false) × (◌≡◌ {A = Read (Unit {0})} None (Some (x, rest))))
        → (front : List Token) × (t ∷ ts ≡ front ++ rest) × Worded s front x
    go (inl (y, d)) = let p = pair_some {A = Unit {0}} tt x ts rest d in
        (t ∷ [], ap (λ us. t ∷ us) p.1, (t, refl, is_word t.kind s (reserved_is s (word_of t.kind) y)))
    go (inr (y, d)) = cc

  found : IsFound n (worded s) (Worded s) F
  found ts u rest len (t, is, k) ok = rw (is, k, word_self s) refl

pub quoted_begins : (s : Symbol) (ts : List Token) (u : Unit {0}) (rest : List Token) → Quoted s ts u → begins s (ts ++ rest) ≡ true
quoted_begins s ts u rest (t, is, k) = rw (is, k, same_self s) refl

pub worded_begins : (s : Reserved) (ts : List Token) (u : Unit {0}) (rest : List Token) → Worded s ts u → begins_word s (ts ++ rest) ≡ true
worded_begins s ts u rest (t, is, k) = rw (is, k, word_self s) refl

unit_is : (u : Unit {0}) → tt ≡ u
unit_is u = refl

-- a quoted symbol before a part
pub behind_law : {A : Type 0} (n : ℕ) (s : Symbol) (r : List Token → Read A) (P : Form A) (F : List Token → Bool) → Law n r P F → Law n (behind s r) (Behind s P) F
behind_law {A = A} n s r P F a =
    alter_law n second (λ y. (tt, y)) (both (quoted s) r) (Then (Quoted s) P) F (λ x. refl) (λ y. refl) (both_law n (quoted s) r (Quoted s) P any F (quoted_law n s any) a (λ ts y rest q ok. refl))

-- a quoted symbol behind a part
pub upto_law : {A : Type 0} (n : ℕ) (r : List Token → Read A) (s : Symbol) (P : Form A) (F G : List Token → Bool) → Law n r P F → ((t : Token) (us : List Token) → t.kind ≡ kind.Mark s → F (t ∷ us) ≡ true)
    → Law n (upto r s) (Before P s) G
upto_law {A = A} n r s P F G a ends =
    alter_law n fore (λ y. (y, tt)) (both r (quoted s)) (Then P (Quoted s)) G (λ x. refl) (λ y. refl)
    (both_law n r (quoted s) P (Quoted s) F G a (quoted_law n s G) (λ ts y rest q ok. subst (λ us. F (us ++ rest) ≡ true) (sym q.1) (ends q.0 rest q.2)))

pub behind_begins : {A : Type 0} (s : Symbol) (P : Form A) → Begins (Behind s P) (begins s)
behind_begins s P ts x rest (front, back, is, q, p) = rw (is, append_assoc) (quoted_begins s front tt (back ++ rest) q)

pub behind_starts : {A : Type 0} (s : Symbol) (P : Form A) → Starts (Behind s P)
behind_starts s P ts x (front, back, is, (t, js, k), p) = (t, back, is ∙ ap (λ us. us ++ back) js)

pub then_starts : {A B : Type 0} (P : Form A) (Q : Form B) → Starts P → Starts (Then P Q)
then_starts P Q s ts x (front, back, is, p, q) = let f = s front x.0 p in (f.0, f.1 ++ back, is ∙ ap (λ us. us ++ back) f.2)

-- [x]
abbrev pub unless : (List Token → Bool) → (List Token → Bool) → List Token → Bool
unless goes F rest = cond (goes rest) false (F rest)

pub unless_parts : (v w : Bool) → cond v false w ≡ true → (v ≡ false) × (w ≡ true)
unless_parts true w e = cc
unless_parts false w e = (refl, e)

pub unless_from : (v w : Bool) → v ≡ false → w ≡ true → cond v false w ≡ true
unless_from v w e f = rw (e, f) refl

pub maybe_law : {A : Type 0} (n : ℕ) (goes : List Token → Bool) (r : List Token → Read A) (P : Form A) (F : List Token → Bool)
    → Begins P goes → Law n r P F → Law n (maybe goes r) (Maybe P) (unless goes F)
maybe_law {A = A} n goes r P F starts a = record { told = told; found = found } where
  told : IsTold (maybe goes r) (Maybe P)
  told ts x rest e = go (chosen (goes ts) (alter as_some r ts) (Some (None, ts)) (Some (x, rest)) e) where
    go : ((goes ts ≡ true) × (alter as_some r ts ≡ Some (x, rest))) ⊎ ((goes ts ≡ false) × (◌≡◌ {A = Read (Option A)} (Some (None, ts)) (Some (x, rest)))) → (front : List Token) × (ts ≡ front ++ rest) × Maybe P front x
    go (inl (y, d)) =
        let b = bind_some (r ts) (altered as_some) (x, rest) d in
        let f = a.told ts b.0.0 b.0.1 b.1 in
        let p = pair_some {A = Option A} (Some b.0.0) x b.0.1 rest b.2 in
        (f.0, f.1 ∙ ap (λ us. f.0 ++ us) p.1, subst (Maybe P f.0) p.0 f.2)
    go (inr (y, d)) = let p = pair_some {A = Option A} None x ts rest d in ([], p.1, subst (Maybe P []) p.0 refl)

  found : IsFound n (maybe goes r) (Maybe P) (unless goes F)
  found ts None rest len p ok = rw p (go (goes rest) refl ok) where
    go : (v : Bool) → goes rest ≡ v → cond v false (F rest) ≡ true → cond v (alter as_some r rest) (Some (None, rest)) ≡ Some (None, rest)
    go true e o = cc
    go false e o = refl
  found ts (Some x) rest len p ok =
      rw (starts ts x rest p) (ap (λ z. z >>= altered as_some) (a.found ts x rest len p (unless_parts (goes rest) (F rest) ok).1))

-- {x}
many_told : {A : Type 0} (goes : List Token → Bool) (r : List Token → Read A) (P : Form A) → IsTold r P → (n : ℕ) → IsTold (many n goes r) (Many P)
many_told {A = A} goes r P t zero ts x rest e = go (chosen (goes ts) None (Some ([], ts)) (Some (x, rest)) e) where
  go : ((goes ts ≡ true) × (◌≡◌ {A = Read (List A)} None (Some (x, rest)))) ⊎ ((goes ts ≡ false) × (◌≡◌ {A = Read (List A)} (Some ([], ts)) (Some (x, rest)))) → (front : List Token) × (ts ≡ front ++ rest) × Many P front x
  go (inl (y, d)) = cc
  go (inr (y, d)) = let p = pair_some {A = List A} [] x ts rest d in ([], p.1, subst (Many P []) p.0 refl)
many_told {A = A} goes r P t (suc n) ts x rest e = go (many_told goes r P t n) (chosen (goes ts) (r ts >>= more_at (many n goes r)) (Some ([], ts)) (Some (x, rest)) e) where
  go : IsTold (many n goes r) (Many P) → ((goes ts ≡ true) × ((r ts >>= more_at (many n goes r)) ≡ Some (x, rest))) ⊎ ((goes ts ≡ false) × (◌≡◌ {A = Read (List A)} (Some ([], ts)) (Some (x, rest)))) → (front : List Token) × (ts ≡ front ++ rest) × Many P front x
  go ih (inr (y, d)) = let p = pair_some {A = List A} [] x ts rest d in ([], p.1, subst (Many P []) p.0 refl)
  go ih (inl (y, d)) =
      let a = bind_some (r ts) (more_at (many n goes r)) (x, rest) d in
      let b = bind_some (many n goes r a.0.1) (ahead a.0.0) (x, rest) a.2 in
      let f = t ts a.0.0 a.0.1 a.1 in
      let g = ih a.0.1 b.0.0 b.0.1 b.1 in
      let p = pair_some {A = List A} (a.0.0 ∷ b.0.0) x b.0.1 rest b.2 in
      let h : Many P (f.0 ++ g.0) (a.0.0 ∷ b.0.0) = (f.0, g.0, refl, f.2, g.2) in
      (f.0 ++ g.0, f.1 ∙ ap (λ us. f.0 ++ us) (g.1 ∙ ap (λ us. g.0 ++ us) p.1) ∙ sym (append_assoc f.0 g.0 rest), subst (Many P (f.0 ++ g.0)) p.0 h)

-- what stands for many, or what follows them, may follow one
many_follow : {A : Type 0} (goes : List Token → Bool) (P : Form A) (F : List Token → Bool) → Begins P goes → ((rest : List Token) → goes rest ≡ true → F rest ≡ true) → MayFollow F (Many P) (unless goes F)
many_follow goes P F starts fg ts [] rest e ok = rw e (unless_parts (goes rest) (F rest) ok).1
many_follow goes P F starts fg ts (y ∷ ys) rest (f, b, e, h, k) ok = fg (ts ++ rest) (rw (e, append_assoc) (starts f y (b ++ rest) h))

many_found : {A : Type 0} (m : ℕ) (goes : List Token → Bool) (r : List Token → Read A) (P : Form A) (F : List Token → Bool)
    → Begins P goes → Starts P → IsFound m r P F → ((rest : List Token) → goes rest ≡ true → F rest ≡ true)
    → (n : ℕ) (ts : List Token) (xs : List A) (rest : List Token) → Many P ts xs → length ts ≤ n → length ts ≤ m → unless goes F rest ≡ true → many n goes r (ts ++ rest) ≡ Some (xs, rest)
many_found m goes r P F starts some t fg zero ts [] rest p len l stop = rw (p, (unless_parts (goes rest) (F rest) stop).0) refl
many_found m goes r P F starts some t fg (suc n) ts [] rest p len l stop = rw (p, (unless_parts (goes rest) (F rest) stop).0) refl
many_found m goes r P F starts some t fg zero ts (x ∷ xs) rest (front, back, is, p, q) len l stop =
    let s = some front x p in let l : length ts ≡ length front + length back = ap length is ∙ length-append front back in
    let k : length front ≡ suc (length s.1) = ap length s.2 in absurd (omega arith)
many_found m goes r P F starts some t fg (suc n) ts (x ∷ xs) rest (front, back, is, p, q) len le stop =
    let s = some front x p in
    let l : length ts ≡ length front + length back = ap length is ∙ length-append front back in
    let k : length front ≡ suc (length s.1) = ap length s.2 in
    let w : ts ++ rest ≡ front ++ (back ++ rest) = ap (λ us. us ++ rest) is ∙ append_assoc front back rest in
    let g : goes (front ++ (back ++ rest)) ≡ true = starts front x (back ++ rest) p in
    let a : r (front ++ (back ++ rest)) ≡ Some (x, back ++ rest) = t front x (back ++ rest) (omega arith) p (many_follow goes P F starts fg back xs rest q stop) in
    let b : many n goes r (back ++ rest) ≡ Some (xs, rest) = many_found m goes r P F starts some t fg n back xs rest q (omega arith) (omega arith) stop in
    rw (w, g, a, b) refl

pub many_law : {A : Type 0} (n m : ℕ) (goes : List Token → Bool) (r : List Token → Read A) (P : Form A) (F : List Token → Bool)
    → n ≤ m → Begins P goes → Starts P → ((rest : List Token) → goes rest ≡ true → F rest ≡ true) → Law n r P F → Law n (many m goes r) (Many P) (unless goes F)
many_law n m goes r P F le starts some fg a = record {
  told = many_told goes r P a.told m;
  found = λ ts xs rest len p ok. many_found n goes r P F starts some a.found fg m ts xs rest p (omega arith) len ok;
}

-- x {"," x}
pub listed_law : {A : Type 0} (n m : ℕ) (goes : List Token → Bool) (r : List Token → Read A) (P : Form A) (F : List Token → Bool)
    → n ≤ m → Begins (Behind mark.Comma P) goes → ((rest : List Token) → goes rest ≡ true → F rest ≡ true) → Law n r P F → Law n (listed m goes r) (Listed P) (unless goes F)
listed_law {A = A} n m goes r P F le starts fg a = record { told = told; found = found } where
  rest_law : Law n (many m goes (behind mark.Comma r)) (Many (Behind mark.Comma P)) (unless goes F)
  rest_law = many_law n m goes (behind mark.Comma r) (Behind mark.Comma P) F le starts (behind_starts mark.Comma P) fg (behind_law n mark.Comma r P F a)

  both_are : Law n (both r (many m goes (behind mark.Comma r))) (Then P (Many (Behind mark.Comma P))) (unless goes F)
  both_are = both_law n r (many m goes (behind mark.Comma r)) P (Many (Behind mark.Comma P)) F (unless goes F) a rest_law (many_follow goes (Behind mark.Comma P) F starts fg)

  told : IsTold (listed m goes r) (Listed P)
  told ts xs rest e =
      let b = bind_some (r ts) (more_at (many m goes (behind mark.Comma r))) (xs, rest) e in
      let c = bind_some (many m goes (behind mark.Comma r) b.0.1) (ahead b.0.0) (xs, rest) b.2 in
      let f = a.told ts b.0.0 b.0.1 b.1 in
      let g = rest_law.told b.0.1 c.0.0 c.0.1 c.1 in
      let p = pair_some {A = List A} (b.0.0 ∷ c.0.0) xs c.0.1 rest c.2 in
      let h : Listed P (f.0 ++ g.0) (b.0.0 ∷ c.0.0) = (f.0, g.0, refl, f.2, g.2) in
      (f.0 ++ g.0, f.1 ∙ ap (λ us. f.0 ++ us) (g.1 ∙ ap (λ us. g.0 ++ us) p.1) ∙ sym (append_assoc f.0 g.0 rest), subst (Listed P (f.0 ++ g.0)) p.0 h)

  found : IsFound n (listed m goes r) (Listed P) (unless goes F)
  found ts [] rest len p ok = absurd p
  found ts (x ∷ xs) rest len (front, back, is, p, q) ok =
      let l : length ts ≡ length front + length back = ap length is ∙ length-append front back in
      let w : ts ++ rest ≡ front ++ (back ++ rest) = ap (λ us. us ++ rest) is ∙ append_assoc front back rest in
      let u = a.found front x (back ++ rest) (omega arith) p (many_follow goes (Behind mark.Comma P) F starts fg back xs rest q ok) in
      let v = rest_law.found back xs rest (omega arith) q ok in
      ap (listed m goes r) w ∙ ap (λ z. z >>= more_at (many m goes (behind mark.Comma r))) u ∙ ap (λ z. z >>= ahead x) v
