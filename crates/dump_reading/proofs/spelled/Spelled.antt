-- Each token's plain is that token, where nothing that follows runs into it.
use Rattle.std.proofs.Common.{◌≡◌, ℕ, ◌+◌, ◌*◌, ◌<◌, ◌≤◌, ◌/◌, ◌%◌, ◌^◌, Bool, true, false, ◌&&◌, ◌||◌, ◌==◌, List, [], ◌∷◌, ◌++◌, Option, Some, None, refl, sym, ap, subst, ◌∙◌, ◌⊎◌, inl, inr, arith, is_none, nat_le}
use Rattle.std.specs.Char.{is_ascii_digit}
use Rattle.std.specs.List.{list_all}
use Rattle.std.specs.Fmt.{decimal, digits}
use Rattle.std.proofs.lemmas.Bool.{and_parts, and_from}
use Rattle.std.proofs.lemmas.Bool.Decides.{nat_tests}
use Rattle.std.proofs.lemmas.Fmt.{decimal_by_steps}
use Rattle.aidl_base.specs.declared.reserved.Reserved.{Reserved}
use Rattle.aidl_base.specs.declared.reserved.Reserved.TheVariants as word
use Rattle.aidl_syntax.specs.declared.token.Symbol.{Symbol}
use Rattle.aidl_syntax.specs.declared.token.Symbol.TheVariants as mark
use Rattle.aidl_syntax.specs.declared.token.TokenKind.{TokenKind}
use Rattle.aidl_syntax.specs.declared.token.TokenKind.TheVariants as kind
use Rattle.aidl_syntax.specs.Bytes.{is_comment}
use Rattle.aidl_base.specs.Identifiers.{is_letter, is_word_byte, begins}
use Rattle.aidl_base.specs.Reserved.{reserved_of, word_of}
use Rattle.aidl_syntax.specs.Tables.{single, double, double_at}
use Rattle.aidl_syntax.specs.Numbers.{digit_value, value_from, is_suffix}
use Rattle.aidl_base.specs.Identifiers.{is_identifier}
use Rattle.aidl_syntax.specs.Forms.{IsToken, IsSymbol, IsNumber}
use Rattle.aidl_syntax.specs.Forms.IsSymbol.{of_one, of_two}
use Rattle.api_dump.specs.Pieces.{mark_text, number_text, suffix_text}
use Rattle.dump_reading.proofs.spelled.Plain.{plain, is_spelled, is_second, begins_second}

-- what follows runs into no token of the kind
abbrev pub Stops : TokenKind → List ℕ → Type 0
Stops (kind.Name text) rest = begins is_word_byte rest ≡ false
Stops (kind.Word w) rest = begins is_word_byte rest ≡ false
Stops (kind.Number bits hexadecimal long) rest = begins is_word_byte rest ≡ false
Stops (kind.Character c) rest = Unit {0}
Stops (kind.Str text) rest = Unit {0}
Stops (kind.Mark s) rest = begins_second rest ≡ false

-- Symbols.

or_first : (x y : Bool) → (x || y) ≡ false → (x ≡ false) × (y ≡ false)
or_first true y e = cc
or_first false y e = (refl, e)

second : (b : ℕ) → is_second b ≡ false
    → ((b == 60) ≡ false) × ((b == 62) ≡ false) × ((b == 61) ≡ false) × ((b == 38) ≡ false) × ((b == 124) ≡ false) × ((b == 47) ≡ false) × ((b == 42) ≡ false)
second b e =
    let a = or_first (b == 60) _ e in let c = or_first (b == 62) _ a.1 in let d = or_first (b == 61) _ c.1 in let f = or_first (b == 38) _ d.1 in
    let g = or_first (b == 124) _ f.1 in let h = or_first (b == 47) _ g.1 in (a.0, c.0, d.0, f.0, g.0, h.0, h.1)

and_no : (x : Bool) → (x && false) ≡ false
and_no true = refl
and_no false = refl

-- no symbol of two bytes begins so
no_double : (a b : ℕ) → is_second b ≡ false → double a b ≡ None
unfolding double
no_double a b e = let s = second b e in
    rw (s.0, s.1, s.2, s.3, s.4, and_no (a == 60), and_no (a == 62), and_no (a == 61), and_no (a == 33), and_no (a == 38), and_no (a == 124)) refl

no_double_at : (a : ℕ) (rest : List ℕ) → begins_second rest ≡ false → double_at (a ∷ rest) ≡ None
no_double_at a [] e = refl
no_double_at a (b ∷ rest) e = no_double a b e

no_comment : (a : ℕ) (rest : List ℕ) → begins_second rest ≡ false → is_comment (a ∷ rest) ≡ false
no_comment a [] e = and_no (a == 47)
no_comment a (b ∷ rest) e = let s = second b e in rw (s.5, s.6) (and_no (a == 47))

one : (s : Symbol) (a : ℕ) (rest : List ℕ) → single a ≡ Some s → begins_second rest ≡ false → IsSymbol s (a ∷ []) rest
one s a rest e stop = of_one a e (no_double_at a rest stop) (no_comment a rest stop) refl

pub symbol_spelled : (s : Symbol) (rest : List ℕ) → begins_second rest ≡ false → IsSymbol s (mark_text s) rest
unfolding single double
symbol_spelled mark.OpenBrace rest e = one _ 123 rest refl e
symbol_spelled mark.CloseBrace rest e = one _ 125 rest refl e
symbol_spelled mark.OpenParen rest e = one _ 40 rest refl e
symbol_spelled mark.CloseParen rest e = one _ 41 rest refl e
symbol_spelled mark.OpenBracket rest e = one _ 91 rest refl e
symbol_spelled mark.CloseBracket rest e = one _ 93 rest refl e
symbol_spelled mark.Less rest e = one _ 60 rest refl e
symbol_spelled mark.Greater rest e = one _ 62 rest refl e
symbol_spelled mark.Comma rest e = one _ 44 rest refl e
symbol_spelled mark.Semicolon rest e = one _ 59 rest refl e
symbol_spelled mark.Equal rest e = one _ 61 rest refl e
symbol_spelled mark.Dot rest e = one _ 46 rest refl e
symbol_spelled mark.At rest e = one _ 64 rest refl e
symbol_spelled mark.Plus rest e = one _ 43 rest refl e
symbol_spelled mark.Minus rest e = one _ 45 rest refl e
symbol_spelled mark.Star rest e = one _ 42 rest refl e
symbol_spelled mark.Slash rest e = one _ 47 rest refl e
symbol_spelled mark.Percent rest e = one _ 37 rest refl e
symbol_spelled mark.And rest e = one _ 38 rest refl e
symbol_spelled mark.Or rest e = one _ 124 rest refl e
symbol_spelled mark.Caret rest e = one _ 94 rest refl e
symbol_spelled mark.Tilde rest e = one _ 126 rest refl e
symbol_spelled mark.Bang rest e = one _ 33 rest refl e
symbol_spelled mark.ShiftLeft rest e = of_two 60 60 refl refl
symbol_spelled mark.ShiftRight rest e = of_two 62 62 refl refl
symbol_spelled mark.LessEqual rest e = of_two 60 61 refl refl
symbol_spelled mark.GreaterEqual rest e = of_two 62 61 refl refl
symbol_spelled mark.EqualEqual rest e = of_two 61 61 refl refl
symbol_spelled mark.NotEqual rest e = of_two 33 61 refl refl
symbol_spelled mark.AndAnd rest e = of_two 38 38 refl refl
symbol_spelled mark.OrOr rest e = of_two 124 124 refl refl

-- Words.

pub word_spelled : (w : Reserved) → (begins is_letter (word_of w) ≡ true) × (list_all is_word_byte (word_of w) ≡ true) × (reserved_of (word_of w) ≡ Some w)
unfolding reserved_of
word_spelled word.Package = (refl, refl, refl)
word_spelled word.Import = (refl, refl, refl)
word_spelled word.Interface = (refl, refl, refl)
word_spelled word.Parcelable = (refl, refl, refl)
word_spelled word.Union = (refl, refl, refl)
word_spelled word.Enum = (refl, refl, refl)
word_spelled word.Const = (refl, refl, refl)
word_spelled word.Oneway = (refl, refl, refl)
word_spelled word.In = (refl, refl, refl)
word_spelled word.Out = (refl, refl, refl)
word_spelled word.InOut = (refl, refl, refl)
word_spelled word.True = (refl, refl, refl)
word_spelled word.False = (refl, refl, refl)
word_spelled word.Void = (refl, refl, refl)

none_is : (o : Option Reserved) → is_none o ≡ true → o ≡ None
none_is None e = refl
none_is (Some w) e = cc

pub name_spelled : (text : List ℕ) → is_identifier text ≡ true → (begins is_letter text ≡ true) × (list_all is_word_byte text ≡ true) × (reserved_of text ≡ None)
name_spelled text e =
    let a = and_parts (begins is_letter text && list_all is_word_byte text) (is_none (reserved_of text)) e in
    let b = and_parts (begins is_letter text) (list_all is_word_byte text) a.0 in (b.0, b.1, none_is (reserved_of text) a.1)

-- Numbers.

value_append : (n : ℕ) (ds : List ℕ) (d : ℕ) → value_from 10 n (ds ++ (d ∷ [])) ≡ value_from 10 n ds * 10 + digit_value d
value_append n [] d = refl
value_append n (b ∷ ds) d = value_append (n * 10 + digit_value b) ds d

pub record Digits (n : ℕ) (ds : List ℕ) : Type 0 where
  pub all : list_all is_ascii_digit ds ≡ true
  pub some : begins is_ascii_digit ds ≡ true
  pub plain : (ds ≡ 48 ∷ []) ⊎ (begins (λ b. b == 48) ds ≡ false)
  pub positive : 0 < n → begins (λ b. b == 48) ds ≡ false
  pub value : value_from 10 0 ds ≡ n

all_append : (p : ℕ → Bool) (ds : List ℕ) (d : ℕ) → list_all p ds ≡ true → p d ≡ true → list_all p (ds ++ (d ∷ [])) ≡ true
all_append p [] d e f = and_from _ _ f refl
all_append p (b ∷ ds) d e f = let h = and_parts _ _ e in and_from _ _ h.0 (all_append p ds d h.1 f)

begins_append : (p : ℕ → Bool) (ds : List ℕ) (d : ℕ) (q : ℕ → Bool) → begins q ds ≡ true → begins p (ds ++ (d ∷ [])) ≡ begins p ds
begins_append p [] d q e = cc
begins_append p (b ∷ ds) d q e = refl

digit_is : (n : ℕ) → n < 10 → is_ascii_digit (48 + n) ≡ true
digit_is n lt = grind (arith, nat_tests)

digit_is_value : (n : ℕ) → n < 10 → digit_value (48 + n) ≡ n
digit_is_value n lt = grind (arith, nat_tests)

one_digit : (n : ℕ) → n < 10 → (n ≡ 0) ⊎ ((48 + n == 48) ≡ false)
one_digit n lt = grind (arith, nat_tests)

none_before : (n : ℕ) → 0 + n ≡ n
none_before n = omega arith

first_digit : (n : ℕ) → n < 10 → Digits n ((48 + n) ∷ [])
first_digit n lt = record {
  all = and_from _ _ (digit_is n lt) refl;
  some = digit_is n lt;
  plain = plainly (one_digit n lt);
  positive = λ pos. positively pos (one_digit n lt);
  value = none_before (digit_value (48 + n)) ∙ digit_is_value n lt;
} where
  plainly : (n ≡ 0) ⊎ ((48 + n == 48) ≡ false) → ((48 + n) ∷ [] ≡ 48 ∷ []) ⊎ (begins (λ b. b == 48) ((48 + n) ∷ []) ≡ false)
  plainly (inl e) = inl (ap (λ m. (48 + m) ∷ []) e)
  plainly (inr e) = inr e

  positively : 0 < n → (n ≡ 0) ⊎ ((48 + n == 48) ≡ false) → begins (λ b. b == 48) ((48 + n) ∷ []) ≡ false
  positively pos (inl e) = absurd (omega arith)
  positively pos (inr e) = e

tenth : (n : ℕ) → 10 ≤ n → (0 < n / 10) × (n % 10 < 10) × (n / 10 * 10 + n % 10 ≡ n)
tenth n le = (omega arith, omega arith, omega arith)

next_digit : (n : ℕ) (ds : List ℕ) → 10 ≤ n → Digits (n / 10) ds → Digits n (ds ++ ((48 + n % 10) ∷ []))
next_digit n ds le d =
    let t = tenth n le in
    let no_zero : begins (λ b. b == 48) (ds ++ ((48 + n % 10) ∷ [])) ≡ false = begins_append (λ b. b == 48) ds (48 + n % 10) is_ascii_digit d.some ∙ d.positive t.0 in
    record {
      all = all_append is_ascii_digit ds (48 + n % 10) d.all (digit_is (n % 10) t.1);
      some = begins_append is_ascii_digit ds (48 + n % 10) is_ascii_digit d.some ∙ d.some;
      plain = inr no_zero;
      positive = λ pos. no_zero;
      value = value_append 0 ds (48 + n % 10) ∙ rw (d.value, digit_is_value (n % 10) t.1) t.2;
    }

pub decimal_digits : (n : ℕ) → n < 2 ^ 64 → Digits n (decimal n)
decimal_digits n lt = decimal_by_steps Digits first_digit next_digit n lt

digit_word : (b : ℕ) → is_ascii_digit b ≡ true → is_word_byte b ≡ true
digit_word b e = grind (arith, nat_tests)

all_words : (ds : List ℕ) → list_all is_ascii_digit ds ≡ true → list_all is_word_byte ds ≡ true
all_words [] e = refl
all_words (b ∷ ds) e = let h = and_parts _ _ e in and_from _ _ (digit_word b h.0) (all_words ds h.1)

with_suffix : (ds : List ℕ) (long : Bool) → list_all is_word_byte ds ≡ true → list_all is_word_byte (ds ++ suffix_text long) ≡ true
with_suffix [] true e = refl
with_suffix [] false e = refl
with_suffix (b ∷ ds) long e = let h = and_parts _ _ e in and_from _ _ h.0 (with_suffix ds long h.1)

begins_with : (p : ℕ → Bool) (ds rest : List ℕ) → begins p ds ≡ true → begins p (ds ++ rest) ≡ true
begins_with p [] rest e = cc
begins_with p (b ∷ ds) rest e = e

pub is_at_most : (n m : ℕ) → nat_le n m ≡ true → n ≤ m
is_at_most n m e = grind (arith, nat_tests)

pub is_equal : (n m : ℕ) → (n == m) ≡ true → n ≡ m
is_equal n m e = grind (arith, nat_tests)

suffix_is : (long : Bool) → is_suffix (suffix_text long) long ≡ true
suffix_is true = refl
suffix_is false = refl

decimal_spelled : (n : ℕ) (long : Bool) (rest : List ℕ) → n ≤ 9223372036854775807 → begins is_word_byte rest ≡ false → IsNumber n false long (decimal n ++ suffix_text long) rest
decimal_spelled n long rest le stop =
    let d = decimal_digits n (omega arith) in (
      (begins_with is_ascii_digit (decimal n) (suffix_text long) d.some, with_suffix (decimal n) long (all_words (decimal n) d.all), stop),
      (decimal n, suffix_text long, refl, suffix_is long, (d.all, d.some, d.plain, sym d.value, le)),
    )

least_spelled : (long : Bool) (rest : List ℕ) → begins is_word_byte rest ≡ false → IsNumber 9223372036854775808 true long (number_text 9223372036854775808 true ++ suffix_text long) rest
unfolding digits
least_spelled true rest stop = ((refl, refl, stop), (number_text 9223372036854775808 true, suffix_text true, refl, refl, (120, digits 16 false 9223372036854775808, refl, refl, refl, refl, refl, omega arith)))
least_spelled false rest stop = ((refl, refl, stop), (number_text 9223372036854775808 true, suffix_text false, refl, refl, (120, digits 16 false 9223372036854775808, refl, refl, refl, refl, refl, omega arith)))

number_spelled : (n : ℕ) (hexadecimal long : Bool) (rest : List ℕ) → is_spelled (kind.Number n hexadecimal long) ≡ true → begins is_word_byte rest ≡ false
    → IsNumber n hexadecimal long (number_text n hexadecimal ++ suffix_text long) rest
number_spelled n false long rest e stop = decimal_spelled n long rest (is_at_most n _ e) stop
number_spelled n true long rest e stop = subst (λ m. IsNumber m true long (number_text m true ++ suffix_text long) rest) (sym (is_equal n _ e)) (least_spelled long rest stop)

-- Any token.

pub is_token : (k : TokenKind) (rest : List ℕ) → is_spelled k ≡ true → Stops k rest → IsToken k (plain k) rest
unfolding plain
is_token (kind.Name text) rest e stop = let n = name_spelled text e in ((n.0, n.1, stop), n.2, refl)
is_token (kind.Word w) rest e stop = let n = word_spelled w in ((n.0, n.1, stop), n.2)
is_token (kind.Number n hexadecimal long) rest e stop = number_spelled n hexadecimal long rest e stop
is_token (kind.Character c) rest e stop = (e, refl)
is_token (kind.Str text) rest e stop = (e, refl)
is_token (kind.Mark s) rest e stop = symbol_spelled s rest stop
