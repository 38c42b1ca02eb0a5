-- What a call answered, once it is what the function on lists gives.
use Rattle.std.proofs.Common.{ℕ, List, Result, Ok, Err, subst, IfOk, IfErr}
use Rattle.std.specs.declared.vec.Vec.{Vec}
use Rattle.std.specs.declared.alloc.Global.{Global}
use Rattle.aidl_syntax.specs.declared.token.Token.{Token}
use Rattle.aidl_syntax.specs.Tokens.{Tokens}
use Rattle.aidl_syntax.specs.Faults as faults
use Rattle.aidl_lexer.specs.declared.fault.LexFault.{LexFault}
use Rattle.aidl_lexer.specs.declared.fault.LexFault.TheVariants as fault
use Rattle.aidl_lexer.specs.steps.Reading.{lex_of}
use Rattle.aidl_lexer.specs.Gives.{Gives, IsFault, HasFault}
use Rattle.aidl_lexer.proofs.meaning.Whole.{tokens_told, fault_told, tokens_again, fault_again}

pub tokens : (bs : List ℕ) (r : Result (Vec Token Global) LexFault) → Gives r (lex_of 0 0 bs) → IfOk r (λ v. Tokens bs v.items)
tokens bs (Ok v) g = tokens_told bs v.items g
tokens bs (Err e) g = tt

pub only_tokens : (bs : List ℕ) (r : Result (Vec Token Global) LexFault) → Gives r (lex_of 0 0 bs) → (ts : List Token) → Tokens bs ts → Gives r (Ok ts)
only_tokens bs r g ts t = subst (Gives r) (tokens_again bs ts t) g

has_fault : (bs : List ℕ) (e : LexFault) → IsFault e (lex_of 0 0 bs) → HasFault bs e
has_fault bs (fault.BadByte at) g = fault_told bs 1 at g
has_fault bs (fault.OpenComment at) g = fault_told bs 2 at g
has_fault bs (fault.OpenLiteral at) g = fault_told bs 3 at g
has_fault bs (fault.BadNumber at) g = fault_told bs 4 at g
has_fault bs fault.OutOfMemory g = tt

pub has_faults : (bs : List ℕ) (r : Result (Vec Token Global) LexFault) → Gives r (lex_of 0 0 bs) → IfErr r (HasFault bs)
has_faults bs (Ok v) g = tt
has_faults bs (Err e) g = has_fault bs e g

pub only_fault : (bs : List ℕ) (r : Result (Vec Token Global) LexFault) → Gives r (lex_of 0 0 bs) → (n at : ℕ) → faults.LexFault bs n at → Gives r (Err (n, at))
only_fault bs r g n at f = subst (Gives r) (fault_again bs n at f) g
