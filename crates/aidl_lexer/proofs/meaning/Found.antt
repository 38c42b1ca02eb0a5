-- Gaps and tokens by their definition are what stands at the front.
use Rattle.std.proofs.Common.{◌≡◌, ℕ, suc, ◌+◌, ◌≤◌, Bool, true, false, cond, ◌&&◌, ◌||◌, not, ◌==◌, nat_lt, List, [], ◌∷◌, ◌++◌, length, map, Some, None, refl, sym, ap, subst, ◌∙◌, inl, inr, arith, length-append, append_assoc}
use Rattle.std.specs.Char.{is_ascii_digit, is_ascii_hexdigit}
use Rattle.std.specs.List.{prefix_len, list_all}
use Rattle.std.proofs.lemmas.Bool.{and_parts, and_right}
use Rattle.std.proofs.lemmas.Bool.Decides.{nat_tests}
use Rattle.aidl_syntax.specs.declared.token.Symbol.{Symbol}
use Rattle.aidl_syntax.specs.declared.token.Symbol.TheVariants as mark
use Rattle.aidl_syntax.specs.declared.token.TokenKind.{TokenKind}
use Rattle.aidl_syntax.specs.declared.token.TokenKind.TheVariants as kind
use Rattle.aidl_base.specs.Blanks.{is_blank}
use Rattle.aidl_syntax.specs.Bytes.{is_inside, is_no_newline, has_close, is_comment}
use Rattle.aidl_base.specs.Identifiers.{is_letter, is_word_byte, begins}
use Rattle.aidl_syntax.specs.Tables.{double, single, doubles, singles, double_in, single_in, double_at}
use Rattle.aidl_syntax.specs.Numbers.{value_from, IsDecimal, is_suffix, IsNumeral}
use Rattle.aidl_syntax.specs.Forms.{IsGap, IsWord, IsDigitRun, IsSymbol, IsToken}
use Rattle.aidl_syntax.specs.Forms.IsGap.{blank, line, block}
use Rattle.aidl_syntax.specs.Forms.IsSymbol.{of_one, of_two}
use Rattle.aidl_lexer.specs.declared.fronts.Front.TheVariants as front
use Rattle.aidl_lexer.specs.steps.Reading.{word_by, word_at, up_to, long_of, suffix_of, decimal_of, hexadecimal_of, decimal_by, hexadecimal_by, is_hexadecimal, numeral_of, numeral, by_numeral, number_by, number_at, character_at, string_at, close_len, by_double, symbol_at, slash_at, front_of}
use Rattle.aidl_lexer.proofs.Classes.{is_small}
use Rattle.aidl_lexer.proofs.Runs.{run_len, run_is, run_rest, take_front, drop_front}

-- the first byte decides the arm

letter_first : (b : ℕ) → is_letter b ≡ true → is_blank b ≡ false
letter_first b e = grind (arith, nat_tests)

digit_first : (b : ℕ) → is_ascii_digit b ≡ true → (is_blank b ≡ false) × (is_letter b ≡ false)
digit_first b e = (grind (arith, nat_tests), grind (arith, nat_tests))

at_letter : (b : ℕ) (bs : List ℕ) → is_letter b ≡ true → front_of (b ∷ bs) ≡ word_at (b ∷ bs)
unfolding front_of
at_letter b bs e = rw (letter_first b e, e) refl

at_digit : (b : ℕ) (bs : List ℕ) → is_ascii_digit b ≡ true → front_of (b ∷ bs) ≡ number_at (b ∷ bs)
unfolding front_of
at_digit b bs e = let h = digit_first b e in rw (h.0, h.1, e) refl

-- words

pub word_front : (text rest : List ℕ) → IsWord text rest → front_of (text ++ rest) ≡ word_by text
unfolding word_at
word_front [] rest (first, all, stop) = cc
word_front (b ∷ text) rest (first, all, stop) = at_letter b (text ++ rest) first ∙ ap word_by (run_is is_word_byte (b ∷ text) rest all stop)

-- numbers

pub number_front : (text rest : List ℕ) → IsDigitRun text rest → front_of (text ++ rest) ≡ number_by text
unfolding number_at
number_front [] rest (first, all, stop) = cc
number_front (b ∷ text) rest (first, all, stop) = at_digit b (text ++ rest) first ∙ ap number_by (run_is is_word_byte (b ∷ text) rest all stop)

suffix_is : (s : List ℕ) (long : Bool) → is_suffix s long ≡ true → suffix_of s ≡ Some long
suffix_is [] true e = cc
suffix_is [] false e = refl
suffix_is (b ∷ []) true e = rw e refl
suffix_is (b ∷ []) false e = cc
suffix_is (b ∷ c ∷ s) long e = cc

suffix_byte : (b : ℕ) → (b == 76 || b == 108) ≡ true → (is_ascii_digit b ≡ false) × (is_ascii_hexdigit b ≡ false) × ((b == 120 || b == 88) ≡ false)
suffix_byte b e = (grind (arith, nat_tests), grind (arith, nat_tests), grind (arith, nat_tests))

suffix_stops : (s : List ℕ) (long : Bool) → is_suffix s long ≡ true → (begins is_ascii_digit s ≡ false) × (begins is_ascii_hexdigit s ≡ false) × (begins (λ x. x == 120 || x == 88) s ≡ false)
suffix_stops [] long e = (refl, refl, refl)
suffix_stops (b ∷ []) true e = suffix_byte b e
suffix_stops (b ∷ []) false e = cc
suffix_stops (b ∷ c ∷ s) long e = cc

digit_is_no_x : (c : ℕ) → is_ascii_digit c ≡ true → (c == 120 || c == 88) ≡ false
digit_is_no_x c e = grind (arith, nat_tests)

no_hexadecimal : (a x : ℕ) → (x == 120 || x == 88) ≡ false → is_hexadecimal a x ≡ false
no_hexadecimal a x e = rw e (and_right (a == 48) false refl)

plain : (body suffix : List ℕ) → list_all is_ascii_digit body ≡ true → begins is_ascii_digit body ≡ true → begins (λ x. x == 120 || x == 88) suffix ≡ false
    → numeral_of (body ++ suffix) ≡ decimal_by (body ++ suffix)
plain [] suffix all first stop = cc
plain (b ∷ []) [] all first stop = refl
plain (b ∷ []) (c ∷ suffix) all first stop = rw (no_hexadecimal b c stop) refl
plain (b ∷ c ∷ body) suffix all first stop =
    let h = and_parts (is_ascii_digit b) (list_all is_ascii_digit (c ∷ body)) all in
    let g = and_parts (is_ascii_digit c) (list_all is_ascii_digit body) h.1 in
    rw (no_hexadecimal b c (digit_is_no_x c g.0)) refl

pub decimal_parts : (body suffix : List ℕ) → list_all is_ascii_digit body ≡ true → begins is_ascii_digit suffix ≡ false
    → decimal_by (body ++ suffix) ≡ numeral false (decimal_of body) (suffix_of suffix)
unfolding decimal_by
decimal_parts body suffix all stop = rw (run_is is_ascii_digit body suffix all stop, run_rest is_ascii_digit body suffix all stop) refl

pub hexadecimal_parts : (digits suffix : List ℕ) → list_all is_ascii_hexdigit digits ≡ true → begins is_ascii_hexdigit suffix ≡ false
    → hexadecimal_by (digits ++ suffix) ≡ numeral true (hexadecimal_of digits) (suffix_of suffix)
unfolding hexadecimal_by
hexadecimal_parts digits suffix all stop = rw (run_is is_ascii_hexdigit digits suffix all stop, run_rest is_ascii_hexdigit digits suffix all stop) refl

long_is : (n m : ℕ) → n ≡ m → n ≤ 9223372036854775807 → long_of (up_to 18446744073709551615 m) ≡ Some n
long_is n m e le =
    let w : m ≤ 9223372036854775807 = subst (λ k. k ≤ 9223372036854775807) e le in
    let v : m ≤ 18446744073709551615 = omega arith in
    ap long_of (is_small m 18446744073709551615 v) ∙ is_small m 9223372036854775807 w ∙ ap Some (sym e)

decimal_is : (body : List ℕ) (n : ℕ) → IsDecimal body n → decimal_of body ≡ Some n
decimal_is [] n (all, first, lead, is, le) = cc
decimal_is (b ∷ []) n (all, first, lead, is, le) = rw (and_right (b == 48) false refl) (long_is n _ is le)
decimal_is (b ∷ c ∷ body) n (all, first, inl lead, is, le) = cc
decimal_is (b ∷ c ∷ body) n (all, first, inr lead, is, le) = rw lead (long_is n _ is le)

pub some_digit : (b : ℕ) (digits : List ℕ) → nat_lt 0 (length (b ∷ digits)) ≡ true
some_digit b digits = grind (arith, nat_tests)

hexadecimal_is : (digits : List ℕ) (n : ℕ) → begins is_ascii_hexdigit digits ≡ true → n ≡ value_from 16 0 digits → n ≤ 18446744073709551615 → hexadecimal_of digits ≡ Some n
hexadecimal_is [] n first is le = cc
hexadecimal_is (b ∷ digits) n first is le =
    let w : value_from 16 0 (b ∷ digits) ≤ 18446744073709551615 = subst (λ k. k ≤ 18446744073709551615) is le in
    rw (some_digit b digits) (is_small (value_from 16 0 (b ∷ digits)) 18446744073709551615 w ∙ ap Some (sym is))

pub numeral_is : (text : List ℕ) (bits : ℕ) (hexadecimal long : Bool) → IsNumeral text bits hexadecimal long → numeral_of text ≡ Some (kind.Number bits hexadecimal long)
numeral_is text bits false long (body, suffix, is, s, d) =
    let h = suffix_stops suffix long s in
    ap numeral_of is ∙ plain body suffix d.0 d.1 h.2 ∙ decimal_parts body suffix d.0 h.0 ∙ rw (decimal_is body bits d, suffix_is suffix long s) refl
numeral_is text bits true long (body, suffix, is, s, (x, digits, b, isx, all, first, value, le)) =
    let h = suffix_stops suffix long s in
    ap numeral_of is ∙ ap (λ t. numeral_of (t ++ suffix)) b ∙ rw isx (hexadecimal_parts digits suffix all h.1 ∙ rw (hexadecimal_is digits bits first value le, suffix_is suffix long s) refl)

-- literals

character_front : (c : ℕ) (rest : List ℕ) → is_inside 39 c ≡ true → front_of (39 ∷ c ∷ 39 ∷ rest) ≡ front.Token (kind.Character c) 3
unfolding front_of character_at
character_front c rest e = rw e refl

pub string_front : (x rest : List ℕ) → list_all (is_inside 34) x ≡ true → front_of (34 ∷ (x ++ 34 ∷ rest)) ≡ front.Token (kind.Str x) (length x + 2)
unfolding front_of string_at
string_front x rest all = rw (run_len (is_inside 34) x (34 ∷ rest) all refl, drop_front x (34 ∷ rest), take_front x (34 ∷ rest)) refl

-- symbols: a byte that begins one begins nothing else

abbrev is_other : ℕ → Bool
is_other a = not (is_blank a) && not (is_letter a) && not (is_ascii_digit a) && not (a == 39) && not (a == 34)

pub same_test : (a b : ℕ) → (a == b) ≡ true → a ≡ b
same_test a b e = grind (arith, nat_tests)

single_among : (p : ℕ → Bool) (ts : List (ℕ × Symbol)) (a : ℕ) (s : Symbol) → list_all p (map (λ t. t.0) ts) ≡ true → single_in ts a ≡ Some s → p a ≡ true
single_among p [] a s all e = cc
single_among p (t ∷ ts) a s all e = go (a == t.0) refl (and_parts (p t.0) (list_all p (map (λ t. t.0) ts)) all) (single_among p ts a s) e where
  go : (v : Bool) → (a == t.0) ≡ v → (p t.0 ≡ true) × (list_all p (map (λ t. t.0) ts) ≡ true)
      → (list_all p (map (λ t. t.0) ts) ≡ true → single_in ts a ≡ Some s → p a ≡ true) → cond v (Some t.1) (single_in ts a) ≡ Some s → p a ≡ true
  go true v h ih e = ap p (same_test a t.0 v) ∙ h.0
  go false v h ih e = ih h.1 e

double_among : (p : ℕ → Bool) (ts : List (ℕ × ℕ × Symbol)) (a b : ℕ) (s : Symbol) → list_all p (map (λ t. t.0) ts) ≡ true → double_in ts a b ≡ Some s → p a ≡ true
double_among p [] a b s all e = cc
double_among p (t ∷ ts) a b s all e = go (a == t.0 && b == t.1) refl (and_parts (p t.0) (list_all p (map (λ t. t.0) ts)) all) (double_among p ts a b s) e where
  go : (v : Bool) → (a == t.0 && b == t.1) ≡ v → (p t.0 ≡ true) × (list_all p (map (λ t. t.0) ts) ≡ true)
      → (list_all p (map (λ t. t.0) ts) ≡ true → double_in ts a b ≡ Some s → p a ≡ true) → cond v (Some t.2) (double_in ts a b) ≡ Some s → p a ≡ true
  go true v h ih e = ap p (same_test a t.0 (and_parts (a == t.0) (b == t.1) v).0) ∙ h.0
  go false v h ih e = ih h.1 e

single_first : (a : ℕ) (s : Symbol) → single a ≡ Some s → is_other a ≡ true
unfolding single
single_first a s e = single_among is_other singles a s refl e

double_first : (a b : ℕ) (s : Symbol) → double a b ≡ Some s → (is_other a && not (a == 47)) ≡ true
unfolding double
double_first a b s e = double_among (λ a. is_other a && not (a == 47)) doubles a b s refl e

other_parts : (a : ℕ) → is_other a ≡ true → (is_blank a ≡ false) × (is_letter a ≡ false) × (is_ascii_digit a ≡ false) × ((a == 39) ≡ false) × ((a == 34) ≡ false)
other_parts a e = go (is_blank a) (is_letter a) (is_ascii_digit a) (a == 39) (a == 34) e where
  go : (v w x y z : Bool) → (not v && not w && not x && not y && not z) ≡ true → (v ≡ false) × (w ≡ false) × (x ≡ false) × (y ≡ false) × (z ≡ false)
  go false false false false false e = (refl, refl, refl, refl, refl)
  go true w x y z e = cc
  go false true x y z e = cc
  go false false true y z e = cc
  go false false false true z e = cc
  go false false false false true e = cc

front_other : (a : ℕ) (bs : List ℕ) → is_other a ≡ true → (a == 47) ≡ false → front_of (a ∷ bs) ≡ by_double (double_at (a ∷ bs)) a
unfolding front_of symbol_at
front_other a bs other plain = let h = other_parts a other in rw (h.0, h.1, h.2, h.3, h.4, plain) refl

not_true : (v : Bool) → not v ≡ true → v ≡ false
not_true false e = refl
not_true true e = cc

pub or_false : (x y : Bool) → (x || y) ≡ false → (x ≡ false) × (y ≡ false)
or_false false y e = (refl, e)
or_false true y e = cc

-- a slash that begins no comment
pub slash_front : (rest : List ℕ) → is_comment (47 ∷ rest) ≡ false → front_of (47 ∷ rest) ≡ front.Token (kind.Mark mark.Slash) 1
unfolding front_of slash_at
slash_front rest plain =
    let h = or_false (begins (λ c. c == 47) rest) (begins (λ c. c == 42) rest) plain in rw (h.0, h.1) refl

slash_is : (s : Symbol) → single 47 ≡ Some s → s ≡ mark.Slash
unfolding single
slash_is s e = cc

one_front : (a : ℕ) (s : Symbol) (rest : List ℕ) (v : Bool) → (a == 47) ≡ v → single a ≡ Some s → double_at (a ∷ rest) ≡ None → is_comment (a ∷ rest) ≡ false
    → front_of (a ∷ rest) ≡ front.Token (kind.Mark s) 1
one_front a s rest false v e none plain = front_other a rest (single_first a s e) v ∙ rw (none, e) refl
one_front a s rest true v e none plain =
    let is : a ≡ 47 = same_test a 47 v in
    ap (λ b. front_of (b ∷ rest)) is
    ∙ slash_front rest (subst (λ b. is_comment (b ∷ rest) ≡ false) is plain)
    ∙ ap (λ t. front.Token (kind.Mark t) 1) (sym (slash_is s (subst (λ b. single b ≡ Some s) is e)))

symbol_front : (s : Symbol) (piece rest : List ℕ) → IsSymbol s piece rest → front_of (piece ++ rest) ≡ front.Token (kind.Mark s) (length piece)
symbol_front s piece rest (of_two a b e is) =
    let h = and_parts (is_other a) (not (a == 47)) (double_first a b s e) in
    rw is (front_other a (b ∷ rest) h.0 (not_true (a == 47) h.1) ∙ rw e refl)
symbol_front s piece rest (of_one a e none plain is) = rw is (one_front a s rest (a == 47) refl e none plain)

string_whole : (text rest : List ℕ) → list_all (is_inside 34) text ≡ true
    → front_of (34 ∷ ((text ++ 34 ∷ []) ++ rest)) ≡ front.Token (kind.Str text) (suc (length (text ++ 34 ∷ [])))
string_whole text rest inside =
    let l : length (text ++ 34 ∷ []) ≡ length text + 1 = length-append text (34 ∷ []) in
    let n : length text + 2 ≡ suc (length (text ++ 34 ∷ [])) = omega arith in
    ap (λ t. front_of (34 ∷ t)) (append_assoc text (34 ∷ []) rest) ∙ string_front text rest inside ∙ ap (front.Token (kind.Str text)) n

pub token_front : (k : TokenKind) (piece rest : List ℕ) → IsToken k piece rest → front_of (piece ++ rest) ≡ front.Token k (length piece)
token_front (kind.Name text) piece rest (word, free, is) = word_front piece rest word ∙ rw (free, is) refl
token_front (kind.Word r) piece rest (word, is) = word_front piece rest word ∙ rw is refl
token_front (kind.Number bits hexadecimal long) piece rest (digits, is) =
    number_front piece rest digits ∙ ap (λ k. by_numeral k (length piece)) (numeral_is piece bits hexadecimal long is)
token_front (kind.Character c) piece rest (inside, is) = rw is (character_front c rest inside)
token_front (kind.Str text) piece rest (inside, is) = subst (λ p. front_of (p ++ rest) ≡ front.Token (kind.Str text) (length p)) (sym is) (string_whole text rest inside)
token_front (kind.Mark s) piece rest t = symbol_front s piece rest t

-- comments

same_begin : (p : ℕ → Bool) (text xs ys : List ℕ) → begins p (text ++ 42 ∷ xs) ≡ begins p (text ++ 42 ∷ ys)
same_begin p [] xs ys = refl
same_begin p (c ∷ text) xs ys = refl

close_at : (text rest : List ℕ) → has_close (text ++ 42 ∷ []) ≡ false → close_len (text ++ 42 ∷ 47 ∷ rest) ≡ Some (length text + 2)
close_at [] rest e = refl
close_at (b ∷ text) rest e =
    let h = or_false (b == 42 && begins (λ c. c == 47) (text ++ 42 ∷ [])) (has_close (text ++ 42 ∷ [])) e in
    let n : length text + 2 + 1 ≡ suc (length text) + 2 = omega arith in
    rw (same_begin (λ c. c == 47) text (47 ∷ rest) [], h.0, close_at text rest h.1, n) refl

block_front : (text rest : List ℕ) → has_close (text ++ 42 ∷ []) ≡ false → front_of (47 ∷ 42 ∷ (text ++ 42 ∷ 47 ∷ rest)) ≡ front.Gap (length text + 2 + 2)
unfolding front_of slash_at
block_front text rest e = rw (close_at text rest e) refl

block_whole : (text rest : List ℕ) → has_close (text ++ 42 ∷ []) ≡ false → front_of (47 ∷ 42 ∷ ((text ++ 42 ∷ 47 ∷ []) ++ rest)) ≡ front.Gap (suc (suc (length (text ++ 42 ∷ 47 ∷ []))))
block_whole text rest e =
    let l : length (text ++ 42 ∷ 47 ∷ []) ≡ length text + 2 = length-append text (42 ∷ 47 ∷ []) in
    let n : length text + 2 + 2 ≡ suc (suc (length (text ++ 42 ∷ 47 ∷ []))) = omega arith in
    ap (λ t. front_of (47 ∷ 42 ∷ t)) (append_assoc text (42 ∷ 47 ∷ []) rest) ∙ block_front text rest e ∙ ap front.Gap n

pub gap_front : (piece rest : List ℕ) → IsGap piece rest → front_of (piece ++ rest) ≡ front.Gap (length piece)
unfolding front_of slash_at
gap_front piece rest (blank b e is) = rw (is, e) refl
gap_front piece rest (line text all stop is) =
    let l : prefix_len is_no_newline (text ++ rest) ≡ length text = run_len is_no_newline text rest all stop in
    let n : 2 + length text ≡ suc (suc (length text)) = omega arith in
    rw (is, l, n) refl
gap_front piece rest (block text no_close is) = subst (λ p. front_of (p ++ rest) ≡ front.Gap (length p)) (sym is) (block_whole text rest no_close)
