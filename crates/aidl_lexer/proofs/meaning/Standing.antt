-- Each front stands by the definition, and each fault by the definition is the front.
use Rattle.std.proofs.Common.{◌≡◌, ℕ, Bool, true, false, cond, ◌&&◌, ◌||◌, ◌==◌, List, [], ◌∷◌, ◌++◌, length, Option, Some, None, refl, sym, ap, subst, ◌∙◌, ◌⊎◌, inl, inr, append_assoc}
use Rattle.std.specs.Char.{is_ascii_digit}
use Rattle.std.specs.List.{list_all}
use Rattle.std.proofs.lemmas.Bool.{and_from}
use Rattle.aidl_syntax.specs.declared.token.Symbol.{Symbol}
use Rattle.aidl_syntax.specs.declared.token.Symbol.TheVariants as mark
use Rattle.aidl_syntax.specs.declared.token.TokenKind.{TokenKind}
use Rattle.aidl_syntax.specs.declared.token.TokenKind.TheVariants as kind
use Rattle.aidl_base.specs.Blanks.{is_blank}
use Rattle.aidl_syntax.specs.Bytes.{is_inside, is_no_newline, has_close}
use Rattle.aidl_base.specs.Identifiers.{is_letter, is_word_byte, begins}
use Rattle.aidl_syntax.specs.Tables.{double, single, double_at}
use Rattle.aidl_syntax.specs.Forms.{IsNumber, IsDigitRun, IsCharacter, IsString}
use Rattle.aidl_syntax.specs.Forms.IsGap.{blank, line, block}
use Rattle.aidl_syntax.specs.Forms.IsSymbol.{of_one, of_two}
use Rattle.aidl_syntax.specs.Faults.{OpenComment, OpenCharacter, OpenString, BadNumber, BadByte}
use Rattle.aidl_lexer.specs.declared.fault.FaultKind.{FaultKind}
use Rattle.aidl_lexer.specs.declared.fault.FaultKind.TheVariants as reason
use Rattle.aidl_lexer.specs.declared.fronts.Front.TheVariants as front
use Rattle.aidl_lexer.specs.steps.Reading.{numeral_of, by_numeral, character_at, string_at, close_len, by_single, by_double, symbol_at, slash_at, front_of}
use Rattle.aidl_lexer.proofs.Runs.{run, run_len, drop_front}
use Rattle.aidl_lexer.proofs.meaning.Found.{number_front, same_test, or_false}
use Rattle.aidl_lexer.proofs.meaning.Told.{Stands, IsNumeralOf, numeral_told, letter_stands, token_stands, gap_stands, fault_stands, no_token, no_gap, digit_word}

-- Numbers: one begins the bytes, or the fault stands.

pub record BeginsNumber (bytes : List ℕ) : Type 0 where
  pub bits : ℕ
  pub hexadecimal : Bool
  pub long : Bool
  pub piece : List ℕ
  pub rest : List ℕ
  pub is : bytes ≡ piece ++ rest
  pub number : IsNumber bits hexadecimal long piece rest

number_of_run : (text rest : List ℕ) (k : Option TokenKind) → IsDigitRun text rest → numeral_of text ≡ k → ((m : TokenKind) → numeral_of text ≡ Some m → IsNumeralOf text m)
    → BeginsNumber (text ++ rest) ⊎ (front_of (text ++ rest) ≡ front.Fault reason.BadNumber)
number_of_run text rest (Some k) digits e told =
    let t = told k e in
    inl (record { bits = t.0; hexadecimal = t.1; long = t.2; piece = text; rest = rest; is = refl; number = (digits, t.4) })
number_of_run text rest None digits e told = inr (number_front text rest digits ∙ ap (λ k. by_numeral k (length text)) e)

pub number_or : (b : ℕ) (bs : List ℕ) → is_ascii_digit b ≡ true → BeginsNumber (b ∷ bs) ⊎ (front_of (b ∷ bs) ≡ front.Fault reason.BadNumber)
number_or b bs first =
    let r = run is_word_byte bs in
    subst (λ xs. BeginsNumber (b ∷ xs) ⊎ (front_of (b ∷ xs) ≡ front.Fault reason.BadNumber)) (sym r.is)
    (number_of_run (b ∷ r.text) r.rest (numeral_of (b ∷ r.text)) (first, and_from _ _ (digit_word b first) r.all, r.stop) refl (λ m e. numeral_told b r.text m first e))

number_case : (bytes : List ℕ) → begins is_ascii_digit bytes ≡ true → BeginsNumber bytes ⊎ (front_of bytes ≡ front.Fault reason.BadNumber) → Stands (front_of bytes) bytes
number_case bytes first (inl n) = subst (λ xs. Stands (front_of xs) xs) (sym n.is) (token_stands (kind.Number n.bits n.hexadecimal n.long) n.piece n.rest n.number)
number_case bytes first (inr e) = fault_stands reason.BadNumber bytes e (first, λ bits hexadecimal long piece rest is n. no_token reason.BadNumber bytes e (kind.Number bits hexadecimal long) piece rest is n)

pub bad_number_front : (bytes : List ℕ) → BadNumber bytes → front_of bytes ≡ front.Fault reason.BadNumber
bad_number_front [] (first, none) = cc
bad_number_front (b ∷ bs) (first, none) = go (number_or b bs first) where
  go : BeginsNumber (b ∷ bs) ⊎ (front_of (b ∷ bs) ≡ front.Fault reason.BadNumber) → front_of (b ∷ bs) ≡ front.Fault reason.BadNumber
  go (inl n) = absurd (none n.bits n.hexadecimal n.long n.piece n.rest n.is n.number)
  go (inr e) = e

-- Characters.

pub record BeginsCharacter (bytes : List ℕ) : Type 0 where
  pub code : ℕ
  pub piece : List ℕ
  pub rest : List ℕ
  pub is : bytes ≡ piece ++ rest
  pub character : IsCharacter code piece

character_or : (bs : List ℕ) → BeginsCharacter (39 ∷ bs) ⊎ (front_of (39 ∷ bs) ≡ front.Fault reason.OpenLiteral)
unfolding front_of character_at
character_or [] = inr refl
character_or (c ∷ []) = go (is_inside 39 c) where
  go : (v : Bool) → BeginsCharacter (39 ∷ c ∷ []) ⊎ (cond (v && false) (front.Token (kind.Character c) 3) (front.Fault reason.OpenLiteral) ≡ front.Fault reason.OpenLiteral)
  go true = inr refl
  go false = inr refl
character_or (c ∷ d ∷ bs) = go (is_inside 39 c) refl (d == 39) refl where
  go : (v : Bool) → is_inside 39 c ≡ v → (w : Bool) → (d == 39) ≡ w
      → BeginsCharacter (39 ∷ c ∷ d ∷ bs) ⊎ (cond (v && w) (front.Token (kind.Character c) 3) (front.Fault reason.OpenLiteral) ≡ front.Fault reason.OpenLiteral)
  go true inside true close = inl (record { code = c; piece = 39 ∷ c ∷ 39 ∷ []; rest = bs; is = ap (λ x. 39 ∷ c ∷ x ∷ bs) (same_test d 39 close); character = (inside, refl) })
  go true inside false close = inr refl
  go false inside w close = inr refl

character_case : (bytes : List ℕ) → begins (λ b. b == 39) bytes ≡ true → BeginsCharacter bytes ⊎ (front_of bytes ≡ front.Fault reason.OpenLiteral) → Stands (front_of bytes) bytes
character_case bytes first (inl n) = subst (λ xs. Stands (front_of xs) xs) (sym n.is) (token_stands (kind.Character n.code) n.piece n.rest n.character)
character_case bytes first (inr e) = fault_stands reason.OpenLiteral bytes e (inl (first, λ c piece rest is n. no_token reason.OpenLiteral bytes e (kind.Character c) piece rest is n))

pub open_character_front : (bytes : List ℕ) → OpenCharacter bytes → front_of bytes ≡ front.Fault reason.OpenLiteral
open_character_front [] (first, none) = cc
open_character_front (b ∷ bs) (first, none) =
    let is : b ≡ 39 = same_test b 39 first in
    go (subst (λ x. BeginsCharacter (x ∷ bs) ⊎ (front_of (x ∷ bs) ≡ front.Fault reason.OpenLiteral)) (sym is) (character_or bs)) where
      go : BeginsCharacter (b ∷ bs) ⊎ (front_of (b ∷ bs) ≡ front.Fault reason.OpenLiteral) → front_of (b ∷ bs) ≡ front.Fault reason.OpenLiteral
      go (inl n) = absurd (none n.code n.piece n.rest n.is n.character)
      go (inr e) = e

-- Strings.

pub record BeginsString (bytes : List ℕ) : Type 0 where
  pub text : List ℕ
  pub piece : List ℕ
  pub rest : List ℕ
  pub is : bytes ≡ piece ++ rest
  pub string : IsString text piece

string_of_run : (text rest : List ℕ) → list_all (is_inside 34) text ≡ true → begins (is_inside 34) rest ≡ false
    → BeginsString (34 ∷ (text ++ rest)) ⊎ (front_of (34 ∷ (text ++ rest)) ≡ front.Fault reason.OpenLiteral)
unfolding front_of string_at
string_of_run text [] all stop = inr (rw (run_len (is_inside 34) text [] all stop, drop_front text []) refl)
string_of_run text (d ∷ rest) all stop = go (d == 34) refl where
  go : (v : Bool) → (d == 34) ≡ v → BeginsString (34 ∷ (text ++ d ∷ rest)) ⊎ (front_of (34 ∷ (text ++ d ∷ rest)) ≡ front.Fault reason.OpenLiteral)
  go true close = inl (record {
    text = text;
    piece = 34 ∷ (text ++ 34 ∷ []);
    rest = rest;
    is = ap (λ x. 34 ∷ (text ++ x ∷ rest)) (same_test d 34 close) ∙ ap (λ t. 34 ∷ t) (sym (append_assoc text (34 ∷ []) rest));
    string = (all, refl);
  })
  go false close = inr (rw (run_len (is_inside 34) text (d ∷ rest) all stop, drop_front text (d ∷ rest), close) refl)

string_or : (bs : List ℕ) → BeginsString (34 ∷ bs) ⊎ (front_of (34 ∷ bs) ≡ front.Fault reason.OpenLiteral)
string_or bs =
    let r = run (is_inside 34) bs in
    subst (λ xs. BeginsString (34 ∷ xs) ⊎ (front_of (34 ∷ xs) ≡ front.Fault reason.OpenLiteral)) (sym r.is) (string_of_run r.text r.rest r.all r.stop)

string_case : (bytes : List ℕ) → begins (λ b. b == 34) bytes ≡ true → BeginsString bytes ⊎ (front_of bytes ≡ front.Fault reason.OpenLiteral) → Stands (front_of bytes) bytes
string_case bytes first (inl n) = subst (λ xs. Stands (front_of xs) xs) (sym n.is) (token_stands (kind.Str n.text) n.piece n.rest n.string)
string_case bytes first (inr e) = fault_stands reason.OpenLiteral bytes e (inr (first, λ text piece rest is n. no_token reason.OpenLiteral bytes e (kind.Str text) piece rest is n))

pub open_string_front : (bytes : List ℕ) → OpenString bytes → front_of bytes ≡ front.Fault reason.OpenLiteral
open_string_front [] (first, none) = cc
open_string_front (b ∷ bs) (first, none) =
    let is : b ≡ 34 = same_test b 34 first in
    go (subst (λ x. BeginsString (x ∷ bs) ⊎ (front_of (x ∷ bs) ≡ front.Fault reason.OpenLiteral)) (sym is) (string_or bs)) where
      go : BeginsString (b ∷ bs) ⊎ (front_of (b ∷ bs) ≡ front.Fault reason.OpenLiteral) → front_of (b ∷ bs) ≡ front.Fault reason.OpenLiteral
      go (inl n) = absurd (none n.text n.piece n.rest n.is n.string)
      go (inr e) = e

-- Comments.

-- bytes up to their first `*/`, or none stands in them
pub record Closed (bytes : List ℕ) : Type 0 where
  pub text : List ℕ
  pub rest : List ℕ
  pub is : bytes ≡ text ++ 42 ∷ 47 ∷ rest
  pub first : has_close (text ++ 42 ∷ []) ≡ false

begins_is : (n : ℕ) (bs : List ℕ) → begins (λ c. c == n) bs ≡ true → (rest : List ℕ) × (bs ≡ n ∷ rest)
begins_is n [] e = cc
begins_is n (c ∷ bs) e = (bs, ap (λ x. x ∷ bs) (same_test c n e))

begins_front : (p : ℕ → Bool) (text xs ys : List ℕ) → begins p (text ++ 42 ∷ xs) ≡ begins p (text ++ 42 ∷ ys)
begins_front p [] xs ys = refl
begins_front p (c ∷ text) xs ys = refl

or_both : (x y : Bool) → x ≡ false → y ≡ false → (x || y) ≡ false
or_both x y e f = rw (e, f) refl

closed : (bytes : List ℕ) → Closed bytes ⊎ ((has_close bytes ≡ false) × (close_len bytes ≡ None))
closed [] = inr (refl, refl)
closed (b ∷ bytes) = go (b == 42) refl (begins (λ c. c == 47) bytes) refl (closed bytes) where
  more : ((b == 42 && begins (λ c. c == 47) bytes) ≡ false) → Closed bytes ⊎ ((has_close bytes ≡ false) × (close_len bytes ≡ None))
      → Closed (b ∷ bytes) ⊎ ((has_close (b ∷ bytes) ≡ false) × (close_len (b ∷ bytes) ≡ None))
  more here (inl c) = inl (record {
    text = b ∷ c.text;
    rest = c.rest;
    is = ap (λ t. b ∷ t) c.is;
    first = or_both _ _ (ap (λ v. b == 42 && v) (begins_front (λ c. c == 47) c.text [] (47 ∷ c.rest) ∙ sym (ap (begins (λ c. c == 47)) c.is)) ∙ here) c.first;
  })
  more here (inr (none, len)) = inr (or_both _ _ here none, rw (here, len) refl)

  go : (v : Bool) → (b == 42) ≡ v → (w : Bool) → begins (λ c. c == 47) bytes ≡ w → Closed bytes ⊎ ((has_close bytes ≡ false) × (close_len bytes ≡ None))
      → Closed (b ∷ bytes) ⊎ ((has_close (b ∷ bytes) ≡ false) × (close_len (b ∷ bytes) ≡ None))
  go true e true f r =
      let s = begins_is 47 bytes f in
      inl (record { text = []; rest = s.0; is = ap (λ x. x ∷ bytes) (same_test b 42 e) ∙ ap (λ t. 42 ∷ t) s.1; first = refl })
  go true e false f r = more (rw (e, f) refl) r
  go false e w f r = more (rw e refl) r

no_close : (bytes : List ℕ) → has_close bytes ≡ false → close_len bytes ≡ None
no_close [] e = refl
no_close (b ∷ bytes) e =
    let h = or_false (b == 42 && begins (λ c. c == 47) bytes) (has_close bytes) e in
    rw (h.0, no_close bytes h.1) refl

pub open_comment_front : (bytes : List ℕ) → OpenComment bytes → front_of bytes ≡ front.Fault reason.OpenComment
unfolding front_of slash_at
open_comment_front bytes (rest, is, none) = ap front_of is ∙ rw (no_close rest none) refl

line_stands : (bs : List ℕ) → Stands (front_of (47 ∷ 47 ∷ bs)) (47 ∷ 47 ∷ bs)
line_stands bs =
    let r = run is_no_newline bs in
    subst (λ xs. Stands (front_of (47 ∷ 47 ∷ xs)) (47 ∷ 47 ∷ xs)) (sym r.is) (gap_stands (47 ∷ 47 ∷ r.text) r.rest (line r.text r.all r.stop refl))

block_stands : (bs : List ℕ) → Closed bs ⊎ ((has_close bs ≡ false) × (close_len bs ≡ None)) → Stands (front_of (47 ∷ 42 ∷ bs)) (47 ∷ 42 ∷ bs)
block_stands bs (inl c) =
    subst (λ xs. Stands (front_of (47 ∷ 42 ∷ xs)) (47 ∷ 42 ∷ xs)) (sym (c.is ∙ sym (append_assoc c.text (42 ∷ 47 ∷ []) c.rest)))
    (gap_stands (47 ∷ 42 ∷ (c.text ++ 42 ∷ 47 ∷ [])) c.rest (block c.text c.first refl))
block_stands bs (inr (none, len)) =
    let o : OpenComment (47 ∷ 42 ∷ bs) = (bs, refl, none) in
    fault_stands reason.OpenComment (47 ∷ 42 ∷ bs) (open_comment_front (47 ∷ 42 ∷ bs) o) o

no_double : (bs : List ℕ) → double_at (47 ∷ bs) ≡ None
unfolding double
no_double [] = refl
no_double (c ∷ bs) = refl

slash_is_single : single 47 ≡ Some mark.Slash
unfolding single
slash_is_single = refl

slash_stands : (bs : List ℕ) → Stands (front_of (47 ∷ bs)) (47 ∷ bs)
slash_stands bs = go (begins (λ c. c == 47) bs) refl (begins (λ c. c == 42) bs) refl where
  go : (v : Bool) → begins (λ c. c == 47) bs ≡ v → (w : Bool) → begins (λ c. c == 42) bs ≡ w → Stands (front_of (47 ∷ bs)) (47 ∷ bs)
  go true e w f = let s = begins_is 47 bs e in subst (λ xs. Stands (front_of (47 ∷ xs)) (47 ∷ xs)) (sym s.1) (line_stands s.0)
  go false e true f = let s = begins_is 42 bs f in subst (λ xs. Stands (front_of (47 ∷ xs)) (47 ∷ xs)) (sym s.1) (block_stands s.0 (closed s.0))
  go false e false f = token_stands (kind.Mark mark.Slash) (47 ∷ []) bs (of_one 47 slash_is_single (no_double bs) (or_both _ _ e f) refl)

-- Symbols, and what begins nothing.

differs : {e : FaultKind} (bytes : List ℕ) → front_of bytes ≡ front.Fault reason.BadByte → front_of bytes ≡ front.Fault e → (front.Fault e ≡ front.Fault reason.BadByte → ⊥) → ⊥
differs bytes a b apart = apart (sym b ∙ a)

bad_byte_stands : (b : ℕ) (bs : List ℕ) → front_of (b ∷ bs) ≡ front.Fault reason.BadByte → BadByte (b ∷ bs)
bad_byte_stands b bs e = (
  (b, bs, refl),
  no_gap reason.BadByte (b ∷ bs) e,
  no_token reason.BadByte (b ∷ bs) e,
  (λ o. differs (b ∷ bs) e (open_comment_front (b ∷ bs) o) (λ h. cc)),
  (λ o. differs (b ∷ bs) e (open_character_front (b ∷ bs) o) (λ h. cc)),
  (λ o. differs (b ∷ bs) e (open_string_front (b ∷ bs) o) (λ h. cc)),
  (λ o. differs (b ∷ bs) e (bad_number_front (b ∷ bs) o) (λ h. cc)),
)

one : (b : ℕ) (bs : List ℕ) → (b == 47) ≡ false → double_at (b ∷ bs) ≡ None → (s : Option Symbol) → single b ≡ s → front_of (b ∷ bs) ≡ by_single s → Stands (front_of (b ∷ bs)) (b ∷ bs)
one b bs plain d (Some s) f e = token_stands (kind.Mark s) (b ∷ []) bs (of_one b f d (rw plain refl) refl)
one b bs plain d None f e = fault_stands reason.BadByte (b ∷ bs) e (bad_byte_stands b bs e)

symbol_stands : (b : ℕ) (bs : List ℕ) → (b == 47) ≡ false → front_of (b ∷ bs) ≡ symbol_at (b ∷ bs) → Stands (front_of (b ∷ bs)) (b ∷ bs)
unfolding symbol_at
symbol_stands b [] plain e = one b [] plain refl (single b) refl e
symbol_stands b (c ∷ bs) plain e = two (double b c) refl e where
  two : (s : Option Symbol) → double b c ≡ s → front_of (b ∷ c ∷ bs) ≡ by_double s b → Stands (front_of (b ∷ c ∷ bs)) (b ∷ c ∷ bs)
  two (Some s) d e = token_stands (kind.Mark s) (b ∷ c ∷ []) bs (of_two b c d refl)
  two None d e = one b (c ∷ bs) plain d (single b) refl e

-- each front stands by its definition
pub stands : (b : ℕ) (bs : List ℕ) → Stands (front_of (b ∷ bs)) (b ∷ bs)
unfolding front_of
stands b bs = by_blank (is_blank b) refl where
  by_slash : (is_blank b ≡ false) → (is_letter b ≡ false) → (is_ascii_digit b ≡ false) → ((b == 39) ≡ false) → ((b == 34) ≡ false) → (v : Bool) → (b == 47) ≡ v → Stands (front_of (b ∷ bs)) (b ∷ bs)
  by_slash e1 e2 e3 e4 e5 true e = subst (λ a. Stands (front_of (a ∷ bs)) (a ∷ bs)) (sym (same_test b 47 e)) (slash_stands bs)
  by_slash e1 e2 e3 e4 e5 false e = symbol_stands b bs e (rw (e1, e2, e3, e4, e5, e) refl)

  by_quote : (is_blank b ≡ false) → (is_letter b ≡ false) → (is_ascii_digit b ≡ false) → ((b == 39) ≡ false) → (v : Bool) → (b == 34) ≡ v → Stands (front_of (b ∷ bs)) (b ∷ bs)
  by_quote e1 e2 e3 e4 true e = subst (λ a. Stands (front_of (a ∷ bs)) (a ∷ bs)) (sym (same_test b 34 e)) (string_case (34 ∷ bs) refl (string_or bs))
  by_quote e1 e2 e3 e4 false e = by_slash e1 e2 e3 e4 e (b == 47) refl

  by_apostrophe : (is_blank b ≡ false) → (is_letter b ≡ false) → (is_ascii_digit b ≡ false) → (v : Bool) → (b == 39) ≡ v → Stands (front_of (b ∷ bs)) (b ∷ bs)
  by_apostrophe e1 e2 e3 true e = subst (λ a. Stands (front_of (a ∷ bs)) (a ∷ bs)) (sym (same_test b 39 e)) (character_case (39 ∷ bs) refl (character_or bs))
  by_apostrophe e1 e2 e3 false e = by_quote e1 e2 e3 e (b == 34) refl

  by_digit : (is_blank b ≡ false) → (is_letter b ≡ false) → (v : Bool) → is_ascii_digit b ≡ v → Stands (front_of (b ∷ bs)) (b ∷ bs)
  by_digit e1 e2 true e = number_case (b ∷ bs) e (number_or b bs e)
  by_digit e1 e2 false e = by_apostrophe e1 e2 e (b == 39) refl

  by_letter : (is_blank b ≡ false) → (v : Bool) → is_letter b ≡ v → Stands (front_of (b ∷ bs)) (b ∷ bs)
  by_letter e1 true e = letter_stands b bs e
  by_letter e1 false e = by_digit e1 e (is_ascii_digit b) refl

  by_blank : (v : Bool) → is_blank b ≡ v → Stands (front_of (b ∷ bs)) (b ∷ bs)
  by_blank true e = gap_stands (b ∷ []) bs (blank b e refl)
  by_blank false e = by_letter e (is_letter b) refl
