-- Bytes have one list of tokens or one fault: the function on lists has one value.
use Rattle.std.proofs.Common.{◌≡◌, ℕ, List, Result, Ok, Err, ◌⊎◌, inl, inr, refl, sym, ap, ◌∙◌}
use Rattle.aidl_syntax.specs.declared.token.Token.{Token}
use Rattle.aidl_syntax.specs.Tokens.{Tokens}
use Rattle.aidl_syntax.specs.Faults.{LexFault}
use Rattle.aidl_lexer.specs.steps.Reading.{lex_of}
use Rattle.aidl_lexer.proofs.meaning.Whole.{tokens_told, fault_told, tokens_again, fault_again}

pub some_lexing : (bs : List ℕ) → ((ts : List Token) × Tokens bs ts) ⊎ ((n at : ℕ) × LexFault bs n at)
some_lexing bs = go (lex_of 0 0 bs) refl where
  go : (r : Result (List Token) (ℕ × ℕ)) → lex_of 0 0 bs ≡ r → ((ts : List Token) × Tokens bs ts) ⊎ ((n at : ℕ) × LexFault bs n at)
  go (Ok ts) e = inl (ts, tokens_told bs ts e)
  go (Err p) e = inr (p.0, p.1, fault_told bs p.0 p.1 e)

pub one_list : (bs : List ℕ) (ts us : List Token) → Tokens bs ts → Tokens bs us → ts ≡ us
one_list bs ts us t u = let a = tokens_again bs ts t in let b = tokens_again bs us u in cc

same_err : (p q : ℕ × ℕ) → ◌≡◌ {A = Result (List Token) (ℕ × ℕ)} (Err p) (Err q) → (p.0 ≡ q.0) × (p.1 ≡ q.1)
same_err p q e = let pair : p ≡ q = cc in (ap (λ r. r.0) pair, ap (λ r. r.1) pair)

pub one_fault : (bs : List ℕ) (m n from to : ℕ) → LexFault bs m from → LexFault bs n to → (m ≡ n) × (from ≡ to)
one_fault bs m n from to s t = same_err (m, from) (n, to) (sym (fault_again bs m from s) ∙ fault_again bs n to t)

pub never_both : (bs : List ℕ) (ts : List Token) (n at : ℕ) → Tokens bs ts → LexFault bs n at → ⊥
never_both bs ts n at t f = let a = tokens_again bs ts t in let b = fault_again bs n at f in cc
