-- Rows of files: one more file at the end, and that files have one list of rows.
use Rattle.std.proofs.Common.{◌≡◌, ℕ, ◌+◌, List, [], ◌∷◌, ◌++◌, length, inl, inr, refl, ◌∙◌, ap, subst, add-zero, arith}
use Rattle.std.specs.List.{All}
use Rattle.std.proofs.lemmas.List.Elements.{All-nil, All-cons, All-head, All-tail}
use Rattle.aidl_base.specs.declared.source_file.SourceFile.{SourceFile}
use Rattle.tree_files.specs.Refusals.{Rows}

-- a good file has no row
pub rows-good : {A : Type 0} (G : SourceFile → Type 0) (R : ℕ → SourceFile → A → Type 0) (n : ℕ) (fs : List SourceFile) (f : SourceFile) (rs : List A)
    → G f → Rows G R n fs rs → Rows G R n (fs ++ f ∷ []) rs
rows-good G R n [] f [] g h = (g, tt)
rows-good G R n [] f (r ∷ rs) g h = absurd h
rows-good G R n (e ∷ fs) f [] g h = (h.0, rows-good G R (n + 1) fs f [] g h.1)
rows-good G R n (e ∷ fs) f (r ∷ rs) g (inl h) = inl (h.0, rows-good G R (n + 1) fs f (r ∷ rs) g h.1)
rows-good G R n (e ∷ fs) f (r ∷ rs) g (inr h) = inr (h.0, rows-good G R (n + 1) fs f rs g h.1)

-- another file has its row
pub rows-next : {A : Type 0} (G : SourceFile → Type 0) (R : ℕ → SourceFile → A → Type 0) (n m : ℕ) (fs : List SourceFile) (f : SourceFile) (rs : List A) (r : A)
    → m ≡ n + length fs → R m f r → Rows G R n fs rs → Rows G R n (fs ++ f ∷ []) (rs ++ r ∷ [])
rows-next G R n m [] f [] r e h t = inr (subst (λ k. R k f r) (e ∙ add-zero n) h, tt)
rows-next G R n m [] f (q ∷ rs) r e h t = absurd t
rows-next G R n m (d ∷ fs) f [] r e h t = inl (t.0, rows-next G R (n + 1) m fs f [] r (omega (arith, e)) h t.1)
rows-next G R n m (d ∷ fs) f (q ∷ rs) r e h (inl t) = inl (t.0, rows-next G R (n + 1) m fs f (q ∷ rs) r (omega (arith, e)) h t.1)
rows-next G R n m (d ∷ fs) f (q ∷ rs) r e h (inr t) = inr (t.0, rows-next G R (n + 1) m fs f rs r (omega (arith, e)) h t.1)

-- where all files are good, there are no rows
pub no-rows : {A : Type 0} (G : SourceFile → Type 0) (R : ℕ → SourceFile → A → Type 0) (n : ℕ) (fs : List SourceFile) → All G fs → Rows G R n fs []
no-rows G R n [] a = tt
no-rows G R n (f ∷ fs) a = (All-head G f fs a, no-rows G R (n + 1) fs (All-tail G f fs a))

-- where there are no rows, all files are good
pub all-good : {A : Type 0} (G : SourceFile → Type 0) (R : ℕ → SourceFile → A → Type 0) (n : ℕ) (fs : List SourceFile) → Rows G R n fs [] → All G fs
all-good G R n [] h = All-nil G
all-good G R n (f ∷ fs) h = All-cons G f fs h.0 (all-good G R (n + 1) fs h.1)

cons-same : {A : Type 0} (q r : A) (qs rs : List A) → q ≡ r → qs ≡ rs → q ∷ qs ≡ r ∷ rs
cons-same q r qs rs e h = ap (λ z. z ∷ qs) e ∙ ap (λ z. r ∷ z) h

-- where no good file has a row, and no file has two
pub one-rows : {A : Type 0} (G : SourceFile → Type 0) (R : ℕ → SourceFile → A → Type 0)
    → ((n : ℕ) (f : SourceFile) (r : A) → G f → R n f r → ⊥) → ((n : ℕ) (f : SourceFile) (q r : A) → R n f q → R n f r → q ≡ r)
    → (n : ℕ) (fs : List SourceFile) (qs rs : List A) → Rows G R n fs qs → Rows G R n fs rs → qs ≡ rs
one-rows G R never one n [] [] [] h k = refl
one-rows G R never one n [] [] (r ∷ rs) h k = absurd k
one-rows G R never one n [] (q ∷ qs) rs h k = absurd h
one-rows G R never one n (f ∷ fs) [] [] h k = refl
one-rows G R never one n (f ∷ fs) [] (r ∷ rs) h (inl k) = one-rows G R never one (n + 1) fs [] (r ∷ rs) h.1 k.1
one-rows G R never one n (f ∷ fs) [] (r ∷ rs) h (inr k) = absurd (never n f r h.0 k.0)
one-rows G R never one n (f ∷ fs) (q ∷ qs) [] (inl h) k = one-rows G R never one (n + 1) fs (q ∷ qs) [] h.1 k.1
one-rows G R never one n (f ∷ fs) (q ∷ qs) [] (inr h) k = absurd (never n f q k.0 h.0)
one-rows G R never one n (f ∷ fs) (q ∷ qs) (r ∷ rs) (inl h) (inl k) = one-rows G R never one (n + 1) fs (q ∷ qs) (r ∷ rs) h.1 k.1
one-rows G R never one n (f ∷ fs) (q ∷ qs) (r ∷ rs) (inl h) (inr k) = absurd (never n f r h.0 k.0)
one-rows G R never one n (f ∷ fs) (q ∷ qs) (r ∷ rs) (inr h) (inl k) = absurd (never n f q k.0 h.0)
one-rows G R never one n (f ∷ fs) (q ∷ qs) (r ∷ rs) (inr h) (inr k) = cons-same q r qs rs (one n f q r h.0 k.0) (one-rows G R never one (n + 1) fs qs rs h.1 k.1)
