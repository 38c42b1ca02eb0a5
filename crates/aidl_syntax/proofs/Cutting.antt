-- What the tokens of bytes are: they ascend, and hold what their kind may hold.
use Rattle.std.proofs.Common.{◌≡◌, ℕ, ◌+◌, ◌<◌, ◌≤◌, Bool, true, false, List, [], ◌∷◌, length, map, refl, ap, arith, length-append}
use Rattle.std.specs.List.{All}
use Rattle.std.specs.List.Sorted.{IsStrictlyIncreasing}
use Rattle.std.proofs.lemmas.List.Elements.{All-nil, All-cons}
use Rattle.aidl_base.specs.Identifiers.{begins}
use Rattle.aidl_syntax.specs.declared.token.Token.{Token}
use Rattle.aidl_syntax.specs.declared.token.TokenKind.{TokenKind}
use Rattle.aidl_syntax.specs.declared.token.TokenKind.TheVariants as kind
use Rattle.aidl_syntax.specs.Forms.{IsToken}
use Rattle.aidl_syntax.specs.Forms.IsSymbol.{of_one, of_two}
use Rattle.aidl_syntax.specs.Numbers.{IsBody}
use Rattle.aidl_syntax.specs.Parses.{Holds, most_bits}
use Rattle.aidl_syntax.specs.Tokens.{Cut, Tokens}
use Rattle.aidl_syntax.specs.Tokens.Cut.{here, gap, token}
use Rattle.aidl_syntax.proofs.Rising.{Rises, from_lower, below, increasing}

begins_some : (class : ℕ → Bool) (bytes : List ℕ) → begins class bytes ≡ true → 0 < length bytes
begins_some class [] e = cc
begins_some class (b ∷ bytes) e = omega arith

is_some_piece : (k : TokenKind) (piece rest : List ℕ) → IsToken k piece rest → 0 < length piece
is_some_piece (kind.Name text) piece rest ((first, all, stop), none, is) = begins_some _ piece first
is_some_piece (kind.Word word) piece rest ((first, all, stop), some) = begins_some _ piece first
is_some_piece (kind.Number bits hexadecimal long) piece rest ((first, all, stop), form) = begins_some _ piece first
is_some_piece (kind.Character c) piece rest (inside, is) = let e = ap length is in omega arith
is_some_piece (kind.Str text) piece rest (inside, is) = let e = ap length is in omega arith
is_some_piece (kind.Mark symbol) piece rest (of_two a b e is) = let l = ap length is in omega arith
is_some_piece (kind.Mark symbol) piece rest (of_one a e two comment is) = let l = ap length is in omega arith

body_most : (hexadecimal : Bool) (body : List ℕ) (bits : ℕ) → IsBody hexadecimal body bits → bits ≤ most_bits hexadecimal
body_most false body bits (all, first, zero_alone, value, most) = most
body_most true body bits (x, digits, is, mark, all, first, value, most) = most

kind_holds : (k : TokenKind) (piece rest : List ℕ) → IsToken k piece rest → Holds k
kind_holds (kind.Name text) piece rest ((first, all, stop), none, is) = rw (is, first, all, none) refl
kind_holds (kind.Word word) piece rest h = tt
kind_holds (kind.Number bits hexadecimal long) piece rest (run, (body, suffix, is, marked, form)) = body_most hexadecimal body bits form
kind_holds (kind.Character c) piece rest (inside, is) = inside
kind_holds (kind.Str text) piece rest (inside, is) = inside
kind_holds (kind.Mark symbol) piece rest h = tt

cut_rises : (at : ℕ) (bytes : List ℕ) (ts : List Token) (end : ℕ) (rest : List ℕ) → Cut at bytes ts end rest → Rises at (map (λ t. t.offset) ts) end
cut_rises _ _ _ _ _ (here at rest) = omega arith
cut_rises _ _ _ _ _ (gap at piece bytes ts end rest is more) =
    from_lower (map (λ t. t.offset) ts) at (at + length piece) end (omega arith) (cut_rises (at + length piece) bytes ts end rest more)
cut_rises _ _ _ _ _ (token t piece bytes ts end rest is more) =
    let some = is_some_piece t.kind piece bytes is in
    (omega arith, from_lower (map (λ t. t.offset) ts) (t.offset + 1) (t.offset + length piece) end (omega arith) (cut_rises (t.offset + length piece) bytes ts end rest more))

cut_length : (at : ℕ) (bytes : List ℕ) (ts : List Token) (end : ℕ) (rest : List ℕ) → Cut at bytes ts end rest → at + length bytes ≡ end + length rest
cut_length _ _ _ _ _ (here at rest) = refl
cut_length _ _ _ _ _ (gap at piece bytes ts end rest is more) =
    let e = cut_length (at + length piece) bytes ts end rest more in omega (arith, length-append piece bytes)
cut_length _ _ _ _ _ (token t piece bytes ts end rest is more) =
    let e = cut_length (t.offset + length piece) bytes ts end rest more in omega (arith, length-append piece bytes)

cut_holds : (at : ℕ) (bytes : List ℕ) (ts : List Token) (end : ℕ) (rest : List ℕ) → Cut at bytes ts end rest → All (λ t. Holds t.kind) ts
cut_holds _ _ _ _ _ (here at rest) = All-nil (λ t. Holds t.kind)
cut_holds _ _ _ _ _ (gap at piece bytes ts end rest is more) = cut_holds (at + length piece) bytes ts end rest more
cut_holds _ _ _ _ _ (token t piece bytes ts end rest is more) =
    All-cons (λ t. Holds t.kind) t ts (kind_holds t.kind piece bytes is) (cut_holds (t.offset + length piece) bytes ts end rest more)

pub rises : (bytes : List ℕ) (ts : List Token) → Tokens bytes ts → Rises 0 (map (λ t. t.offset) ts) (length bytes)
rises bytes ts (end, cut) =
    let e : length bytes ≡ end = omega (arith, cut_length 0 bytes ts end [] cut) in
    rw e (cut_rises 0 bytes ts end [] cut)

pub hold : (bytes : List ℕ) (ts : List Token) → Tokens bytes ts → All (λ t. Holds t.kind) ts
hold bytes ts (end, cut) = cut_holds 0 bytes ts end [] cut

below_each : (high : ℕ) (ts : List Token) (low : ℕ) → Rises low (map (λ t. t.offset) ts) high → All (λ t. t.offset < high) ts
below_each high [] low h = All-nil (λ t. t.offset < high)
below_each high (t ∷ ts) low (le, more) =
    let r : All (λ o. o < high) (t.offset ∷ map (λ t. t.offset) ts) = below (t.offset ∷ map (λ t. t.offset) ts) low high (le, more) in
    All-cons (λ t. t.offset < high) t ts (r 0 0 (omega arith)) (below_each high ts (t.offset + 1) more)

pub inside : (bytes : List ℕ) (ts : List Token) → Tokens bytes ts → All (λ t. t.offset < length bytes) ts
inside bytes ts h = below_each (length bytes) ts 0 (rises bytes ts h)

pub ascend : (bytes : List ℕ) (ts : List Token) → Tokens bytes ts → IsStrictlyIncreasing (map (λ t. t.offset) ts)
ascend bytes ts h = increasing (map (λ t. t.offset) ts) 0 (length bytes) (rises bytes ts h)
