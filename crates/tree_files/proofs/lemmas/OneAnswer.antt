-- Files have one answer.
use Rattle.std.proofs.Common.{◌≡◌, ◌≢◌, ℕ, ◌+◌, ◌==◌, if◌then◌else◌, List, [], ◌∷◌, map, Option, Some, None, inl, inr, refl, sym, ◌∙◌, ap, subst}
use Rattle.std.specs.List.{All, AllZip}
use Rattle.std.proofs.lemmas.List.Elements.{All-head, All-tail, All-weaker}
use Rattle.aidl_base.specs.declared.limit.Limit.{Limit}
use Rattle.aidl_base.specs.declared.limit.LimitName.{LimitName}
use Rattle.aidl_base.specs.declared.source_file.SourceFile.{SourceFile}
use Rattle.aidl_syntax.specs.declared.token.Token.{Token}
use Rattle.aidl_syntax.specs.declared.tree.ParsedFile.{ParsedFile}
use Rattle.aidl_syntax.specs.Sources.{Source, source_of}
use Rattle.aidl_syntax.specs.Trees.{File, file_of}
use Rattle.aidl_syntax.specs.Productions.{IsFile}
use Rattle.aidl_lexer.specs.declared.fault.LexFault.{LexFault}
use Rattle.aidl_lexer.specs.declared.fault.LexFault.TheVariants as lexical
use Rattle.aidl_lexer.specs.Naming.{number_of, offset_of}
use Rattle.aidl_lexer.proofs.lemmas.meaning.OneLexing.{one_list, one_fault, never_both}
use Rattle.aidl_parser.specs.Limits.{passed}
use Rattle.aidl_parser.proofs.lemmas.productions.Parses.{one_tree}
use Rattle.tree_files.specs.declared.fault.LexBreach.{LexBreach}
use Rattle.tree_files.specs.declared.fault.FilesFault.{FilesFault}
use Rattle.tree_files.specs.declared.fault.FilesFault.TheVariants as fault
use Rattle.tree_files.specs.Files.{HasTokens, HasLimit, HasTree, IsParsed}
use Rattle.tree_files.specs.Parsed.{AreParsed}
use Rattle.tree_files.specs.Refusals.{Rows, IsLexBreach, IsTreeless, FirstLimit, IsRefusal}
use Rattle.tree_files.proofs.Rows.{no-rows, one-rows}
use Rattle.tree_files.proofs.Standing.{has-tokens, has-tree}

-- Trees.

source-same : (p q : Source) → p.path ≡ q.path → p.tree ≡ q.tree → p ≡ q
source-same p q e h = ap (λ (z : List ℕ). let s : Source = record { path = z; tree = p.tree } in s) e ∙ ap (λ (z : File). let s : Source = record { path = q.path; tree = z } in s) h

one-source : (f : SourceFile) (p q : ParsedFile) → IsParsed f p → IsParsed f q → source_of p ≡ source_of q
one-source f p q h k =
    let same : h.1.0 ≡ k.1.0 = one_list f.bytes h.1.0 k.1.0 h.1.1 k.1.1 in
    source-same (source_of p) (source_of q) (h.0 ∙ sym k.0) (one_tree k.1.0 (file_of p.tree) (file_of q.tree) (subst (λ (ts : List Token). IsFile ts (file_of p.tree)) same h.1.2) k.1.2)

pub one-trees : (fs : List SourceFile) (ps qs : List ParsedFile) → AllZip IsParsed fs ps → AllZip IsParsed fs qs → map source_of ps ≡ map source_of qs
one-trees [] [] [] h k = refl
one-trees [] [] (q ∷ qs) h k = absurd k
one-trees [] (p ∷ ps) qs h k = absurd h
one-trees (f ∷ fs) [] qs h k = absurd h
one-trees (f ∷ fs) (p ∷ ps) [] h k = absurd k
one-trees (f ∷ fs) (p ∷ ps) (q ∷ qs) h k = ap (λ z. z ∷ map source_of ps) (one-source f p q h.0 k.0) ∙ ap (λ z. source_of q ∷ z) (one-trees fs ps qs h.1 k.1)

all-trees : (fs : List SourceFile) (ps : List ParsedFile) → AllZip IsParsed fs ps → (n : ℕ) → Rows HasTree IsTreeless n fs []
all-trees [] ps h n = tt
all-trees (f ∷ fs) [] h n = absurd h
all-trees (f ∷ fs) (p ∷ ps) h n = (has-tree f p h.0, all-trees fs ps h.1 (n + 1))

-- Limits on tokens.

one-limit : (f : SourceFile) (o p : Option LimitName) → HasLimit o f → HasLimit p f → o ≡ p
one-limit f o p h k = sym h.2 ∙ ap passed (one_list f.bytes h.0 k.0 h.1 k.1) ∙ k.2

not-none : (w : LimitName) → ◌≡◌ {A = Option LimitName} (Some w) None → ⊥
not-none w e = cc

some-same : (v w : LimitName) → ◌≡◌ {A = Option LimitName} (Some v) (Some w) → v ≡ w
some-same v w e = cc

one-first : (fs : List SourceFile) (v w : LimitName) → FirstLimit fs v → FirstLimit fs w → v ≡ w
one-first [] v w h k = absurd h
one-first (f ∷ fs) v w (inl h) (inl k) = some-same v w (one-limit f (Some v) (Some w) h k)
one-first (f ∷ fs) v w (inl h) (inr k) = absurd (not-none v (one-limit f (Some v) None h k.0))
one-first (f ∷ fs) v w (inr h) (inl k) = absurd (not-none w (one-limit f (Some w) None k h.0))
one-first (f ∷ fs) v w (inr h) (inr k) = one-first fs v w h.1 k.1

none-first : (fs : List SourceFile) (w : LimitName) → All (HasLimit None) fs → FirstLimit fs w → ⊥
none-first [] w a h = h
none-first (f ∷ fs) w a (inl h) = not-none w (one-limit f (Some w) None h (All-head (HasLimit None) f fs a))
none-first (f ∷ fs) w a (inr h) = none-first fs w (All-tail (HasLimit None) f fs a) h.1

-- Rows.

never-lexical : (n : ℕ) (f : SourceFile) (b : LexBreach) → HasTokens f → IsLexBreach n f b → ⊥
never-lexical n f b h k = never_both f.bytes h.0 k.1 k.2 h.1 k.5

-- a fault by its number and its offset
abbrev fault_by : ℕ → ℕ → LexFault
fault_by n o = if n == 1 then lexical.BadByte o else (if n == 2 then lexical.OpenComment o else (if n == 3 then lexical.OpenLiteral o else lexical.BadNumber o))

number-same : (m n : ℕ) → ◌≡◌ {A = Option ℕ} (Some m) (Some n) → m ≡ n
number-same m n e = cc

no-number : (n : ℕ) → ◌≡◌ {A = Option ℕ} None (Some n) → ⊥
no-number n e = cc

by-both : (k o n m : ℕ) → ◌≡◌ {A = Option ℕ} (Some k) (Some n) → ◌≡◌ {A = Option ℕ} (Some o) (Some m) → fault_by k o ≡ fault_by n m
by-both k o n m a b = ap (λ z. fault_by k z) (number-same o m b) ∙ ap (λ z. fault_by z m) (number-same k n a)

fault-is : (d : LexFault) (n m : ℕ) → number_of d ≡ Some n → offset_of d ≡ Some m → d ≡ fault_by n m
fault-is (lexical.BadByte o) n m a b = by-both 1 o n m a b
fault-is (lexical.OpenComment o) n m a b = by-both 2 o n m a b
fault-is (lexical.OpenLiteral o) n m a b = by-both 3 o n m a b
fault-is (lexical.BadNumber o) n m a b = by-both 4 o n m a b
fault-is lexical.OutOfMemory n m a b = absurd (no-number n a)

breach-same : (a b : LexBreach) → a.file ≡ b.file → a.fault ≡ b.fault → a ≡ b
breach-same a b e h = ap (λ (z : ℕ). let s : LexBreach = record { file = z; fault = a.fault } in s) e ∙ ap (λ (z : LexFault). let s : LexBreach = record { file = b.file; fault = z } in s) h

one-lexical : (n : ℕ) (f : SourceFile) (a b : LexBreach) → IsLexBreach n f a → IsLexBreach n f b → a ≡ b
one-lexical n f a b h k =
    let same = one_fault f.bytes h.1 k.1 h.2 k.2 h.5 k.5 in
    breach-same a b (h.0 ∙ sym k.0) (fault-is a.fault h.1 h.2 h.3 h.4 ∙ ap (λ z. fault_by z h.2) same.0 ∙ ap (λ z. fault_by k.1 z) same.1 ∙ sym (fault-is b.fault k.1 k.2 k.3 k.4))

never-treeless : (n : ℕ) (f : SourceFile) (k : ℕ) → HasTree f → IsTreeless n f k → ⊥
never-treeless n f k t h = h.1 t

one-treeless : (n : ℕ) (f : SourceFile) (j k : ℕ) → IsTreeless n f j → IsTreeless n f k → j ≡ k
one-treeless n f j k g h = g.0 ∙ sym h.0

all-tokens : (fs : List SourceFile) → All (HasLimit None) fs → All HasTokens fs
all-tokens fs a = All-weaker (HasLimit None) HasTokens (has-tokens None) fs a

one-lexicals : (fs : List SourceFile) (qs rs : List LexBreach) → Rows HasTokens IsLexBreach 0 fs qs → Rows HasTokens IsLexBreach 0 fs rs → qs ≡ rs
one-lexicals = one-rows HasTokens IsLexBreach never-lexical one-lexical 0

no-lexicals : (fs : List SourceFile) (rs : List LexBreach) → All HasTokens fs → Rows HasTokens IsLexBreach 0 fs rs → rs ≡ []
no-lexicals fs rs a h = one-lexicals fs rs [] h (no-rows HasTokens IsLexBreach 0 fs a)

one-treelesses : (fs : List SourceFile) (qs rs : List ℕ) → Rows HasTree IsTreeless 0 fs qs → Rows HasTree IsTreeless 0 fs rs → qs ≡ rs
one-treelesses = one-rows HasTree IsTreeless never-treeless one-treeless 0

-- Refusals.

pub never : (fs : List SourceFile) (ps : List ParsedFile) (r : FilesFault) → r ≢ fault.OutOfMemory → AreParsed fs ps → IsRefusal fs r → ⊥
never fs ps (fault.Limit l) differs p (inl s) = not-none l.which (sym s ∙ p.sizes)
never fs ps (fault.Limit l) differs p (inr s) = none-first fs l.which p.limits s.2
never fs ps (fault.Lex rows) differs p s = s.2 (no-lexicals fs rows (all-tokens fs p.limits) s.1)
never fs ps (fault.Syntax rows) differs p s = s.3 (one-treelesses fs rows [] s.2 (all-trees fs ps p.trees 0))
never fs ps fault.OutOfMemory differs p s = differs refl

limit-lexical : (fs : List SourceFile) (l : Limit) (rows : List LexBreach) → IsRefusal fs (fault.Limit l) → IsRefusal fs (fault.Lex rows) → ⊥
limit-lexical fs l rows (inl s) h = not-none l.which (sym s ∙ h.0)
limit-lexical fs l rows (inr s) h = h.2 (no-lexicals fs rows s.1 h.1)

limit-treeless : (fs : List SourceFile) (l : Limit) (rows : List ℕ) → IsRefusal fs (fault.Limit l) → IsRefusal fs (fault.Syntax rows) → ⊥
limit-treeless fs l rows (inl s) h = not-none l.which (sym s ∙ h.0)
limit-treeless fs l rows (inr s) h = none-first fs l.which h.1 s.2

lexical-treeless : (fs : List SourceFile) (qs : List LexBreach) (rs : List ℕ) → IsRefusal fs (fault.Lex qs) → IsRefusal fs (fault.Syntax rs) → ⊥
lexical-treeless fs qs rs s h = s.2 (no-lexicals fs qs (all-tokens fs h.1) s.1)

one-limit-refusal : (fs : List SourceFile) (l m : Limit) → IsRefusal fs (fault.Limit l) → IsRefusal fs (fault.Limit m) → l.which ≡ m.which
one-limit-refusal fs l m (inl s) (inl h) = some-same l.which m.which (sym s ∙ h)
one-limit-refusal fs l m (inl s) (inr h) = absurd (not-none l.which (sym s ∙ h.0))
one-limit-refusal fs l m (inr s) (inl h) = absurd (not-none m.which (sym h ∙ s.0))
one-limit-refusal fs l m (inr s) (inr h) = one-first fs l.which m.which s.2 h.2

pub one-refusal : (fs : List SourceFile) (q r : FilesFault) → q ≢ fault.OutOfMemory → r ≢ fault.OutOfMemory → IsRefusal fs q → IsRefusal fs r → q ≡ r
one-refusal fs fault.OutOfMemory r differs nor h k = absurd (differs refl)
one-refusal fs (fault.Limit l) (fault.Limit m) differs nor h k = ap (λ (w : LimitName). fault.Limit (record { which = w })) (one-limit-refusal fs l m h k)
one-refusal fs (fault.Limit l) (fault.Lex rs) differs nor h k = absurd (limit-lexical fs l rs h k)
one-refusal fs (fault.Limit l) (fault.Syntax rs) differs nor h k = absurd (limit-treeless fs l rs h k)
one-refusal fs (fault.Limit l) fault.OutOfMemory differs nor h k = absurd (nor refl)
one-refusal fs (fault.Lex qs) (fault.Limit m) differs nor h k = absurd (limit-lexical fs m qs k h)
one-refusal fs (fault.Lex qs) (fault.Lex rs) differs nor h k = ap fault.Lex (one-lexicals fs qs rs h.1 k.1)
one-refusal fs (fault.Lex qs) (fault.Syntax rs) differs nor h k = absurd (lexical-treeless fs qs rs h k)
one-refusal fs (fault.Lex qs) fault.OutOfMemory differs nor h k = absurd (nor refl)
one-refusal fs (fault.Syntax qs) (fault.Limit m) differs nor h k = absurd (limit-treeless fs m qs k h)
one-refusal fs (fault.Syntax qs) (fault.Lex rs) differs nor h k = absurd (lexical-treeless fs rs qs k h)
one-refusal fs (fault.Syntax qs) (fault.Syntax rs) differs nor h k = ap fault.Syntax (one-treelesses fs qs rs h.2 k.2)
one-refusal fs (fault.Syntax qs) fault.OutOfMemory differs nor h k = absurd (nor refl)
