-- The relation and the function on lists: what is cut is read so, and what is read is cut so.
use Rattle.std.proofs.Common.{◌≡◌, ℕ, zero, suc, ◌+◌, ◌<◌, ◌≤◌, List, [], ◌∷◌, ◌++◌, length, take, drop, Result, Ok, Err, inl, inr, refl, sym, ap, subst, ◌∙◌, arith, length-drop, append-nil}
use Rattle.aidl_syntax.specs.declared.token.Token.{Token}
use Rattle.aidl_syntax.specs.declared.token.TokenKind.{TokenKind}
use Rattle.aidl_syntax.specs.Forms.{IsGap, IsToken}
use Rattle.aidl_syntax.specs.Tokens.{Cut, Tokens}
use Rattle.aidl_syntax.specs.Tokens.Cut.{here, gap, token}
use Rattle.aidl_syntax.specs.Faults.{BadByte, FaultAt, LexFault}
use Rattle.aidl_syntax.specs.Faults.FaultAt.{bad_byte, open_comment, open_character, open_string, bad_number}
use Rattle.aidl_lexer.specs.declared.fault.FaultKind.{FaultKind}
use Rattle.aidl_lexer.specs.declared.fault.FaultKind.TheVariants as reason
use Rattle.aidl_lexer.specs.declared.fronts.Front.{Front}
use Rattle.aidl_lexer.specs.declared.fronts.Front.TheVariants as front
use Rattle.aidl_lexer.specs.Naming.{fault_number}
use Rattle.aidl_lexer.specs.steps.Reading.{front_of, lex_of, onto, with_front, Moves}
use Rattle.aidl_lexer.proofs.Loop.{at_gap, at_token, at_fault, at_end}
use Rattle.aidl_lexer.proofs.Moving.{moves}
use Rattle.aidl_lexer.proofs.Runs.{drop_front}
use Rattle.aidl_lexer.proofs.meaning.Found.{token_front, gap_front}
use Rattle.aidl_lexer.proofs.meaning.Told.{Stops, Stands}
use Rattle.aidl_lexer.proofs.meaning.Standing.{stands, open_comment_front, open_character_front, open_string_front, bad_number_front}

halves : (n : ℕ) (bs : List ℕ) → n ≤ length bs → (take n bs ++ drop n bs ≡ bs) × (length (take n bs) ≡ n)
halves zero bs le = (refl, refl)
halves (suc n) [] le = absurd (omega arith)
halves (suc n) (b ∷ bs) le = let h = halves n bs (omega arith) in (ap (λ x. b ∷ x) h.0, ap suc h.1)

-- Faults.

stops_at : (e : FaultKind) (bs : List ℕ) → Stops e bs → FaultAt (fault_number e) bs
stops_at reason.BadByte bs s = bad_byte bs s
stops_at reason.OpenComment bs s = open_comment bs s
stops_at reason.OpenLiteral bs (inl s) = open_character bs s
stops_at reason.OpenLiteral bs (inr s) = open_string bs s
stops_at reason.BadNumber bs s = bad_number bs s

bad_byte_front : (b : ℕ) (bs : List ℕ) → BadByte (b ∷ bs) → front_of (b ∷ bs) ≡ front.Fault reason.BadByte
bad_byte_front b bs bad = go (front_of (b ∷ bs)) refl (stands b bs) (moves (b ∷ bs) (omega arith)) where
  go : (f : Front) → front_of (b ∷ bs) ≡ f → Stands (front_of (b ∷ bs)) (b ∷ bs) → Moves (front_of (b ∷ bs)) (length (b ∷ bs)) → front_of (b ∷ bs) ≡ front.Fault reason.BadByte
  go (front.Gap k) e s m =
      let w : (0 < k) × (k ≤ length (b ∷ bs)) = subst (λ f. Moves f (length (b ∷ bs))) e m in
      absurd (bad.1 (take k (b ∷ bs)) (drop k (b ∷ bs)) (sym (halves k (b ∷ bs) w.1).0) (subst (λ f. Stands f (b ∷ bs)) e s))
  go (front.Token t k) e s m =
      let w : (0 < k) × (k ≤ length (b ∷ bs)) = subst (λ f. Moves f (length (b ∷ bs))) e m in
      absurd (bad.2 t (take k (b ∷ bs)) (drop k (b ∷ bs)) (sym (halves k (b ∷ bs) w.1).0) (subst (λ f. Stands f (b ∷ bs)) e s))
  go (front.Fault reason.BadByte) e s m = e
  go (front.Fault reason.OpenComment) e s m = absurd (bad.3 (subst (λ f. Stands f (b ∷ bs)) e s))
  go (front.Fault reason.OpenLiteral) e s m = literal (subst (λ f. Stands f (b ∷ bs)) e s) where
    literal : Stops reason.OpenLiteral (b ∷ bs) → front_of (b ∷ bs) ≡ front.Fault reason.BadByte
    literal (inl s) = absurd (bad.4 s)
    literal (inr s) = absurd (bad.5 s)
  go (front.Fault reason.BadNumber) e s m = absurd (bad.6 (subst (λ f. Stands f (b ∷ bs)) e s))

any_bad_byte_front : (bs : List ℕ) → BadByte bs → front_of bs ≡ front.Fault reason.BadByte
any_bad_byte_front [] bad = absurd (empty bad.0.0 bad.0.1 bad.0.2) where
  empty : (b : ℕ) (rest : List ℕ) → [] ≡ b ∷ rest → ⊥
  empty b rest e = cc
any_bad_byte_front (b ∷ bs) bad = bad_byte_front b bs bad

-- a fault by its definition is what stands at the front
fault_front : (n : ℕ) (bs : List ℕ) → FaultAt n bs → (e : FaultKind) × (front_of bs ≡ front.Fault e) × (fault_number e ≡ n)
fault_front _ _ (bad_byte bs s) = (reason.BadByte, any_bad_byte_front bs s, refl)
fault_front _ _ (open_comment bs s) = (reason.OpenComment, open_comment_front bs s, refl)
fault_front _ _ (open_character bs s) = (reason.OpenLiteral, open_character_front bs s, refl)
fault_front _ _ (open_string bs s) = (reason.OpenLiteral, open_string_front bs s, refl)
fault_front _ _ (bad_number bs s) = (reason.BadNumber, bad_number_front bs s, refl)

-- What is read is cut so.

abbrev pub Lexes : ℕ → List ℕ → Result (List Token) (ℕ × ℕ) → Type 0
Lexes at bs (Ok ts) = (end : ℕ) × Cut at bs ts end []
Lexes at bs (Err e) = (ts : List Token) × (rest : List ℕ) × Cut at bs ts e.1 rest × FaultAt e.0 rest

gap_lexes : (at : ℕ) (piece bytes : List ℕ) (r : Result (List Token) (ℕ × ℕ)) → IsGap piece bytes → Lexes (at + length piece) bytes r → Lexes at (piece ++ bytes) r
gap_lexes at piece bytes (Ok ts) g (end, c) = (end, gap at piece bytes ts end [] g c)
gap_lexes at piece bytes (Err e) g (ts, rest, c, f) = (ts, rest, gap at piece bytes ts e.1 rest g c, f)

token_lexes : (t : Token) (piece bytes : List ℕ) (r : Result (List Token) (ℕ × ℕ)) → IsToken t.kind piece bytes → Lexes (t.offset + length piece) bytes r → Lexes t.offset (piece ++ bytes) (onto t r)
token_lexes t piece bytes (Ok ts) k (end, c) = (end, token t piece bytes ts end [] k c)
token_lexes t piece bytes (Err e) k (ts, rest, c, f) = (t ∷ ts, rest, token t piece bytes ts e.1 rest k c, f)

told : (n at : ℕ) (bs : List ℕ) → length bs ≤ n → Lexes at bs (lex_of 0 at bs)
told n at [] le = subst (Lexes at []) (sym (at_end at [] refl)) (at, here at [])
told zero at (b ∷ bs) le = absurd (omega arith)
told (suc n) at (b ∷ bs) le = go (front_of (b ∷ bs)) refl (stands b bs) (moves (b ∷ bs) (omega arith)) (told n) where
  go : (f : Front) → front_of (b ∷ bs) ≡ f → Stands (front_of (b ∷ bs)) (b ∷ bs) → Moves (front_of (b ∷ bs)) (length (b ∷ bs)) → ((at : ℕ) (us : List ℕ) → length us ≤ n → Lexes at us (lex_of 0 at us)) → Lexes at (b ∷ bs) (lex_of 0 at (b ∷ bs))
  go (front.Gap k) e s m ih =
      let g : IsGap (take k (b ∷ bs)) (drop k (b ∷ bs)) = subst (λ f. Stands f (b ∷ bs)) e s in
      let w : (0 < k) × (k ≤ length (b ∷ bs)) = subst (λ f. Moves f (length (b ∷ bs))) e m in
      let h = halves k (b ∷ bs) w.1 in
      let i = ih (at + k) (drop k (b ∷ bs)) (omega (arith, length-drop k (b ∷ bs))) in
      subst (Lexes at (b ∷ bs)) (sym (at_gap at k (b ∷ bs) e w.0 w.1))
      (subst (λ x. Lexes at x (lex_of 0 (at + k) (drop k (b ∷ bs)))) h.0 (gap_lexes at (take k (b ∷ bs)) (drop k (b ∷ bs)) (lex_of 0 (at + k) (drop k (b ∷ bs))) g
      (subst (λ x. Lexes (at + x) (drop k (b ∷ bs)) (lex_of 0 (at + k) (drop k (b ∷ bs)))) (sym h.1) i)))
  go (front.Token t k) e s m ih =
      let g : IsToken t (take k (b ∷ bs)) (drop k (b ∷ bs)) = subst (λ f. Stands f (b ∷ bs)) e s in
      let w : (0 < k) × (k ≤ length (b ∷ bs)) = subst (λ f. Moves f (length (b ∷ bs))) e m in
      let h = halves k (b ∷ bs) w.1 in
      let u : Token = record { kind = t; offset = at } in
      let i = ih (at + k) (drop k (b ∷ bs)) (omega (arith, length-drop k (b ∷ bs))) in
      subst (Lexes at (b ∷ bs)) (sym (at_token at k t (b ∷ bs) e w.0 w.1))
      (subst (λ x. Lexes at x (onto u (lex_of 0 (at + k) (drop k (b ∷ bs))))) h.0 (token_lexes u (take k (b ∷ bs)) (drop k (b ∷ bs)) (lex_of 0 (at + k) (drop k (b ∷ bs))) g
      (subst (λ x. Lexes (at + x) (drop k (b ∷ bs)) (lex_of 0 (at + k) (drop k (b ∷ bs)))) (sym h.1) i)))
  go (front.Fault k) e s m ih =
      subst (Lexes at (b ∷ bs)) (sym (at_fault at k (b ∷ bs) e (omega arith))) ([], b ∷ bs, here at (b ∷ bs), stops_at k (b ∷ bs) (subst (λ f. Stands f (b ∷ bs)) e s))

-- the tokens that are read are those of the bytes
pub tokens_told : (bs : List ℕ) (ts : List Token) → lex_of 0 0 bs ≡ Ok ts → Tokens bs ts
tokens_told bs ts e = subst (Lexes 0 bs) e (told (length bs) 0 bs (omega arith))

-- the fault that is read is that of the bytes
pub fault_told : (bs : List ℕ) (n at : ℕ) → lex_of 0 0 bs ≡ Err (n, at) → LexFault bs n at
fault_told bs n at e = subst (Lexes 0 bs) e (told (length bs) 0 bs (omega arith))

-- What is cut is read so.

with_none : (r : Result (List Token) (ℕ × ℕ)) → r ≡ with_front [] r
with_none (Ok ts) = refl
with_none (Err e) = refl

onto_with : (t : Token) (ts : List Token) (r : Result (List Token) (ℕ × ℕ)) → onto t (with_front ts r) ≡ with_front (t ∷ ts) r
onto_with t ts (Ok us) = refl
onto_with t ts (Err e) = refl

some_gap : (bs : List ℕ) (n : ℕ) → front_of bs ≡ front.Gap n → 0 < length bs
unfolding front_of
some_gap [] n e = cc
some_gap (b ∷ bs) n e = omega arith

some_token : (bs : List ℕ) (k : TokenKind) (n : ℕ) → front_of bs ≡ front.Token k n → 0 < length bs
unfolding front_of
some_token [] k n e = cc
some_token (b ∷ bs) k n e = omega arith

again : (at : ℕ) (bs : List ℕ) (ts : List Token) (end : ℕ) (rest : List ℕ) → Cut at bs ts end rest → lex_of 0 at bs ≡ with_front ts (lex_of 0 end rest)
again _ _ _ _ _ (here at rest) = with_none (lex_of 0 at rest)
again _ _ _ _ _ (gap at piece bytes ts end rest g c) =
    let m = subst (λ f. Moves f (length (piece ++ bytes))) (gap_front piece bytes g) (moves (piece ++ bytes) (some_gap (piece ++ bytes) (length piece) (gap_front piece bytes g))) in
    at_gap at (length piece) (piece ++ bytes) (gap_front piece bytes g) m.0 m.1
    ∙ ap (lex_of 0 (at + length piece)) (drop_front piece bytes)
    ∙ again (at + length piece) bytes ts end rest c
again _ _ _ _ _ (token t piece bytes ts end rest k c) =
    let m = subst (λ f. Moves f (length (piece ++ bytes))) (token_front t.kind piece bytes k) (moves (piece ++ bytes) (some_token (piece ++ bytes) t.kind (length piece) (token_front t.kind piece bytes k))) in
    at_token t.offset (length piece) t.kind (piece ++ bytes) (token_front t.kind piece bytes k) m.0 m.1
    ∙ ap (λ r. onto t (lex_of 0 (t.offset + length piece) r)) (drop_front piece bytes)
    ∙ ap (onto t) (again (t.offset + length piece) bytes ts end rest c)
    ∙ onto_with t ts (lex_of 0 end rest)

-- the tokens of bytes are what reading gives
pub tokens_again : (bs : List ℕ) (ts : List Token) → Tokens bs ts → lex_of 0 0 bs ≡ Ok ts
tokens_again bs ts (end, c) = again 0 bs ts end [] c ∙ ap (with_front ts) (at_end end [] refl) ∙ ap Ok (append-nil ts)

stopped : (at : ℕ) (bs : List ℕ) (n : ℕ) (e : FaultKind) → front_of bs ≡ front.Fault e → fault_number e ≡ n → 0 < length bs → lex_of 0 at bs ≡ Err (n, at)
stopped at bs n e is number some = at_fault at e bs is some ∙ ap (λ m. Err (m, at)) number

fault_some : (n : ℕ) (bs : List ℕ) → FaultAt n bs → 0 < length bs
fault_some _ _ (bad_byte bs s) = rw s.0.2 (omega arith)
fault_some _ _ (open_comment bs s) = rw s.1 (omega arith)
fault_some _ _ (open_character [] s) = cc
fault_some _ _ (open_character (b ∷ bs) s) = omega arith
fault_some _ _ (open_string [] s) = cc
fault_some _ _ (open_string (b ∷ bs) s) = omega arith
fault_some _ _ (bad_number [] s) = cc
fault_some _ _ (bad_number (b ∷ bs) s) = omega arith

-- the fault of bytes is what reading gives
pub fault_again : (bs : List ℕ) (n at : ℕ) → LexFault bs n at → lex_of 0 0 bs ≡ Err (n, at)
fault_again bs n at (ts, rest, c, f) =
    let h = fault_front n rest f in
    again 0 bs ts at rest c ∙ ap (with_front ts) (stopped at rest n h.0 h.1 h.2 (fault_some n rest f))
