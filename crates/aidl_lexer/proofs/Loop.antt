-- The loop over the bytes.
use Rattle.std.proofs.Common.{◌≡◌, ℕ, zero, suc, ◌+◌, ◌-◌, ◌<◌, ◌≤◌, List, [], ◌∷◌, ◌++◌, length, drop, Result, Ok, Err, refl, sym, ap, ◌∙◌, arith, add-zero, append_assoc, append-nil}
use Rattle.aidl_syntax.specs.declared.token.Token.{Token}
use Rattle.aidl_syntax.specs.declared.token.TokenKind.{TokenKind}
use Rattle.aidl_lexer.specs.declared.fronts.Front.TheVariants as front
use Rattle.aidl_lexer.specs.declared.fault.FaultKind.{FaultKind}
use Rattle.aidl_lexer.specs.steps.Reading.{front_of, lex_of, by_front, onto, with_front}
use Rattle.aidl_lexer.specs.Naming.{fault_number}

-- bytes that are passed
pub skipped : (k at : ℕ) (bs : List ℕ) → k ≤ length bs → lex_of k at bs ≡ lex_of 0 (at + k) (drop k bs)
unfolding lex_of
skipped zero at bs le = rw add-zero refl
skipped (suc k) at [] le = absurd (omega arith)
skipped (suc k) at (b ∷ bs) le =
    let e : at + suc k ≡ at + 1 + k = omega arith in
    skipped k (at + 1) bs (omega arith) ∙ ap (λ n. lex_of 0 n (drop k bs)) (sym e)

pass : (n at : ℕ) (b : ℕ) (bs : List ℕ) → 0 < n → n ≤ length (b ∷ bs) → lex_of (n - 1) (at + 1) bs ≡ lex_of 0 (at + n) (drop n (b ∷ bs))
pass zero at b bs lt le = absurd (omega arith)
pass (suc k) at b bs lt le =
    let e : suc k - 1 ≡ k = omega arith in
    let f : at + suc k ≡ at + 1 + k = omega arith in
    rw (e, f) (skipped k (at + 1) bs (omega arith))

pub at_gap : (at n : ℕ) (bs : List ℕ) → front_of bs ≡ front.Gap n → 0 < n → n ≤ length bs → lex_of 0 at bs ≡ lex_of 0 (at + n) (drop n bs)
unfolding lex_of
at_gap at n [] e lt le = absurd (omega arith)
at_gap at n (b ∷ bs) e lt le = ap (λ f. by_front at f (λ n. lex_of (n - 1) (at + 1) bs)) e ∙ pass n at b bs lt le

pub at_token : (at n : ℕ) (k : TokenKind) (bs : List ℕ) → front_of bs ≡ front.Token k n → 0 < n → n ≤ length bs
    → lex_of 0 at bs ≡ onto (record { kind = k; offset = at }) (lex_of 0 (at + n) (drop n bs))
unfolding lex_of
at_token at n k [] e lt le = absurd (omega arith)
at_token at n k (b ∷ bs) e lt le =
    ap (λ f. by_front at f (λ n. lex_of (n - 1) (at + 1) bs)) e ∙ ap (onto (record { kind = k; offset = at })) (pass n at b bs lt le)

pub at_fault : (at : ℕ) (e : FaultKind) (bs : List ℕ) → front_of bs ≡ front.Fault e → 0 < length bs → lex_of 0 at bs ≡ Err (fault_number e, at)
unfolding lex_of
at_fault at k [] e lt = absurd (omega arith)
at_fault at k (b ∷ bs) e lt = ap (λ f. by_front at f (λ n. lex_of (n - 1) (at + 1) bs)) e

pub at_end : (at : ℕ) (bs : List ℕ) → length bs ≡ 0 → lex_of 0 at bs ≡ Ok []
unfolding lex_of
at_end at [] e = refl
at_end at (b ∷ bs) e = absurd (omega arith)

pub with_onto : (ts : List Token) (t : Token) (r : Result (List Token) (ℕ × ℕ)) → with_front ts (onto t r) ≡ with_front (ts ++ t ∷ []) r
with_onto ts t (Ok us) = rw append_assoc refl
with_onto ts t (Err e) = refl

pub read_token : (old new : List Token) (at n : ℕ) (k : TokenKind) (bs : List ℕ) → front_of bs ≡ front.Token k n → 0 < n → n ≤ length bs
    → new ≡ old ++ record { kind = k; offset = at } ∷ [] → with_front new (lex_of 0 (at + n) (drop n bs)) ≡ with_front old (lex_of 0 at bs)
read_token old new at n k bs e lt le is =
    ap (λ ts. with_front ts (lex_of 0 (at + n) (drop n bs))) is
    ∙ sym (ap (with_front old) (at_token at n k bs e lt le) ∙ with_onto old (record { kind = k; offset = at }) (lex_of 0 (at + n) (drop n bs)))

pub whole : (ts : List Token) (at : ℕ) (bs : List ℕ) (r : Result (List Token) (ℕ × ℕ)) → with_front ts (lex_of 0 at bs) ≡ r → length bs ≡ 0 → r ≡ Ok ts
whole ts at bs r e z = sym e ∙ ap (with_front ts) (at_end at bs z) ∙ ap Ok (append-nil ts)
