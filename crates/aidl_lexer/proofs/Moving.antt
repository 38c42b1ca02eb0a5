-- A front has a byte, and lies within the bytes.
use Rattle.std.proofs.Common.{◌≡◌, ℕ, ◌+◌, ◌-◌, ◌<◌, ◌≤◌, Bool, true, false, cond, ◌&&◌, ◌||◌, ◌==◌, List, [], ◌∷◌, length, take, drop, Option, Some, None, length-drop, refl, subst, arith}
use Rattle.std.specs.Char.{is_ascii_digit}
use Rattle.std.specs.List.{prefix_len}
use Rattle.std.proofs.lemmas.Bool.{and_parts, cond_both}
use Rattle.std.proofs.lemmas.List.Folds.{length-prefix_len}
use Rattle.std.proofs.lemmas.List.Sums.{prefix_len-le-length}
use Rattle.aidl_base.specs.declared.reserved.Reserved.{Reserved}
use Rattle.aidl_syntax.specs.declared.token.Symbol.{Symbol}
use Rattle.aidl_lexer.specs.declared.fronts.Front.{Front}
use Rattle.aidl_syntax.specs.declared.token.TokenKind.{TokenKind}
use Rattle.aidl_base.specs.Blanks.{is_blank}
use Rattle.aidl_syntax.specs.Bytes.{is_inside, is_no_newline}
use Rattle.aidl_base.specs.Identifiers.{is_letter, is_word_byte, begins}
use Rattle.aidl_syntax.specs.Tables.{double_at, single}
use Rattle.aidl_lexer.specs.steps.Reading.{by_reserved, word_at, by_numeral, number_at, character_at, string_at, close_len, up_by, by_close, by_single, by_double, slash_at, symbol_at, front_of, Moves}

by_reserved_moves : (r : Option Reserved) (text : List ℕ) (len : ℕ) → 0 < length text → length text ≤ len → Moves (by_reserved r text) len
by_reserved_moves (Some r) text len lt le = (lt, le)
by_reserved_moves None text len lt le = (lt, le)

by_numeral_moves : (k : Option TokenKind) (n len : ℕ) → 0 < n → n ≤ len → Moves (by_numeral k n) len
by_numeral_moves (Some k) n len lt le = (lt, le)
by_numeral_moves None n len lt le = tt

-- a run of a class whose first byte is of the class
run : (p : ℕ → Bool) (b : ℕ) (bs : List ℕ) → p b ≡ true
    → (0 < length (take (prefix_len p (b ∷ bs)) (b ∷ bs))) × (length (take (prefix_len p (b ∷ bs)) (b ∷ bs)) ≤ length (b ∷ bs))
run p b bs e =
    let l : length (take (prefix_len p (b ∷ bs)) (b ∷ bs)) ≡ prefix_len p (b ∷ bs) = length-prefix_len p (b ∷ bs) in
    let h : prefix_len p (b ∷ bs) ≤ length (b ∷ bs) = prefix_len-le-length p (b ∷ bs) in
    let g : prefix_len p (b ∷ bs) ≡ 1 + prefix_len p bs = rw e refl in
    (omega arith, omega arith)

begins_some : (p : ℕ → Bool) (bs : List ℕ) → begins p bs ≡ true → 0 < length bs
begins_some p [] e = cc
begins_some p (b ∷ bs) e = omega arith

or_left : (a b : Bool) → a ≡ true → (a || b) ≡ true
or_left a b e = rw e refl

or_right : (a b : Bool) → b ≡ true → (a || b) ≡ true
or_right true b e = refl
or_right false b e = e

word_moves : (b : ℕ) (bs : List ℕ) → is_letter b ≡ true → Moves (word_at (b ∷ bs)) (length (b ∷ bs))
unfolding word_at
word_moves b bs e = let r = run is_word_byte b bs (or_left (is_letter b) (is_ascii_digit b) e) in by_reserved_moves _ _ _ r.0 r.1

number_moves : (b : ℕ) (bs : List ℕ) → is_ascii_digit b ≡ true → Moves (number_at (b ∷ bs)) (length (b ∷ bs))
unfolding number_at
number_moves b bs e = let r = run is_word_byte b bs (or_right (is_letter b) (is_ascii_digit b) e) in by_numeral_moves _ _ _ r.0 r.1

character_moves : (b : ℕ) (bs : List ℕ) → Moves (character_at bs) (length (b ∷ bs))
unfolding character_at
character_moves b [] = tt
character_moves b (c ∷ bs) = cond_both (is_inside 39 c && begins (λ b. b == 39) bs) _ _ (λ f. Moves f (length (b ∷ c ∷ bs)))
    (λ e. let h = begins_some (λ b. b == 39) bs (and_parts (is_inside 39 c) (begins (λ b. b == 39) bs) e).1 in (omega arith, omega arith))
    (λ e. tt)

string_moves : (b : ℕ) (bs : List ℕ) → Moves (string_at bs) (length (b ∷ bs))
unfolding string_at
string_moves b bs = cond_both (begins (λ b. b == 34) (drop (prefix_len (is_inside 34) bs) bs)) _ _ (λ f. Moves f (length (b ∷ bs)))
    (λ e. let h = begins_some (λ b. b == 34) (drop (prefix_len (is_inside 34) bs) bs) e in
    let g : length (drop (prefix_len (is_inside 34) bs) bs) ≡ length bs - prefix_len (is_inside 34) bs = length-drop (prefix_len (is_inside 34) bs) bs in
    (omega arith, omega arith))
    (λ e. tt)

close_within : (bs : List ℕ) → (n : ℕ) → close_len bs ≡ Some n → (0 < n) × (n ≤ length bs)
close_within [] n e = cc
close_within (b ∷ bs) n e = go (b == 42 && begins (λ c. c == 47) bs) refl (close_len bs) refl (close_within bs) e where
  go : (v : Bool) → (b == 42 && begins (λ c. c == 47) bs) ≡ v → (r : Option ℕ) → close_len bs ≡ r
      → ((m : ℕ) → close_len bs ≡ Some m → (0 < m) × (m ≤ length bs))
      → cond v (Some 2) (up_by 1 r) ≡ Some n → (0 < n) × (n ≤ length (b ∷ bs))
  go true t r s ih e =
      let h = begins_some (λ c. c == 47) bs (and_parts (b == 42) (begins (λ c. c == 47) bs) t).1 in
      let f : 2 ≡ n = cc in (omega arith, omega arith)
  go false t None s ih e = cc
  go false t (Some m) s ih e = let h = ih m s in let f : m + 1 ≡ n = cc in (omega arith, omega arith)

by_close_moves : (r : Option ℕ) (len : ℕ) → ((n : ℕ) → r ≡ Some n → (0 < n) × (n ≤ len)) → Moves (by_close r) (len + 2)
by_close_moves None len h = tt
by_close_moves (Some n) len h = let g = h n refl in (omega arith, omega arith)

by_single_moves : (s : Option Symbol) (len : ℕ) → 0 < len → Moves (by_single s) len
by_single_moves None len lt = tt
by_single_moves (Some s) len lt = (omega arith, omega arith)

by_double_moves : (b : ℕ) (bs : List ℕ) → (s : Option Symbol) → double_at (b ∷ bs) ≡ s → Moves (by_double s b) (length (b ∷ bs))
by_double_moves b bs None e = by_single_moves (single b) _ (omega arith)
by_double_moves b [] (Some s) e = cc
by_double_moves b (c ∷ bs) (Some s) e = (omega arith, omega arith)

-- what is behind `/` and a second byte
after_two : (p : ℕ → Bool) (b : ℕ) (bs : List ℕ) → begins p bs ≡ true → length (drop 1 bs) + 2 ≡ length (b ∷ bs)
after_two p b [] e = cc
after_two p b (c ∷ bs) e = omega arith

slash_moves : (b : ℕ) (bs : List ℕ) → Moves (slash_at bs) (length (b ∷ bs))
unfolding slash_at
slash_moves b bs =
    let P : Front → Type 0 = λ f. Moves f (length (b ∷ bs)) in
    cond_both (begins (λ c. c == 47) bs) _ _ P
    (λ e. let h = after_two (λ c. c == 47) b bs e in let g : prefix_len is_no_newline (drop 1 bs) ≤ length (drop 1 bs) = prefix_len-le-length is_no_newline (drop 1 bs) in (omega arith, omega arith)) (λ e6.
    cond_both (begins (λ c. c == 42) bs) _ _ P
    (λ e. subst (Moves (by_close (close_len (drop 1 bs)))) (after_two (λ c. c == 42) b bs e) (by_close_moves (close_len (drop 1 bs)) (length (drop 1 bs)) (close_within (drop 1 bs)))) (λ e7.
    (omega arith, omega arith)))

symbol_moves : (b : ℕ) (bs : List ℕ) → Moves (symbol_at (b ∷ bs)) (length (b ∷ bs))
unfolding symbol_at
symbol_moves b bs = by_double_moves b bs (double_at (b ∷ bs)) refl

pub moves : (bs : List ℕ) → 0 < length bs → Moves (front_of bs) (length bs)
unfolding front_of
moves [] lt = absurd (omega arith)
moves (b ∷ bs) lt =
    let P : Front → Type 0 = λ f. Moves f (length (b ∷ bs)) in
    cond_both (is_blank b) _ _ P (λ e. (omega arith, omega arith)) (λ e1.
    cond_both (is_letter b) _ _ P (λ e. word_moves b bs e) (λ e2.
    cond_both (is_ascii_digit b) _ _ P (λ e. number_moves b bs e) (λ e3.
    cond_both (b == 39) _ _ P (λ e. character_moves b bs) (λ e4.
    cond_both (b == 34) _ _ P (λ e. string_moves b bs) (λ e5.
    cond_both (b == 47) _ _ P (λ e. slash_moves b bs) (λ e6.
    symbol_moves b bs))))))
