-- The strings that a JSON text spells are texts: what stands between two quotes, with its escapes, is UTF-8 where the whole is.
use Rattle.std.proofs.Common.{◌≡◌, ℕ, suc, ◌+◌, ◌<◌, Bool, true, false, cond, ◌&&◌, ◌==◌, nat_lt, List, [], ◌∷◌, ◌++◌, length, get_or, take, drop, Option, Some, None, IsUtf8, refl, sym, ap, ◌∙◌, subst, arith, add-one, append-nil, append_assoc, length-append}
use Rattle.std.specs.Prelude.{option_and_then, ◌*◌}
use Rattle.std.specs.Char.{IsScalar, digit_value, encode_utf8, is_digit}
use Rattle.std.proofs.lemmas.Bool.{eqb-true}
use Rattle.std.proofs.lemmas.Bool.Decides.{nat_tests}
use Rattle.std.proofs.lemmas.Str.{IsCharBoundary-after_ascii, IsCharBoundary-before_ascii, IsUtf8-append, IsUtf8-drop, IsUtf8-encode, IsUtf8-take, encode_ascii}
use Rattle.json.specs.Text.{after_backslash, after_high, after_u, code_unit, content, is_high_surrogate, is_low_surrogate, plain, prepend, short_escape, surrogate_pair}
use Rattle.aidl_base.proofs.lemmas.Tests.{both}

-- ---- around an ASCII byte

take_front : (front ys : List ℕ) → take (length front) (front ++ ys) ≡ front
take_front [] ys = refl
take_front (x ∷ front) ys = ap (λ l. x ∷ l) (take_front front ys)

drop_front : (front : List ℕ) (x : ℕ) (xs : List ℕ) → drop (suc (length front)) (front ++ x ∷ xs) ≡ xs
drop_front [] x xs = refl
drop_front (y ∷ front) x xs = drop_front front x xs

at_front : (front : List ℕ) (x : ℕ) (xs : List ℕ) → get_or (front ++ x ∷ xs) (length front) 0 ≡ x
at_front [] x xs = refl
at_front (y ∷ front) x xs = at_front front x xs

pub around : (front : List ℕ) (x : ℕ) (xs : List ℕ) → x < 128 → IsUtf8 (front ++ x ∷ xs) → IsUtf8 front × IsUtf8 xs
around front x xs small u =
    let all = front ++ x ∷ xs in
    let here = at_front front x xs in
    let long = length-append front (x ∷ xs) in
    let within : length front < length all = omega (arith, long) in
    let low : get_or all (length front) 0 < 128 = omega (arith, here) in (
      subst IsUtf8 (take_front front (x ∷ xs)) (IsUtf8-take all (length front) u (IsCharBoundary-before_ascii all (length front) within low)),
      subst IsUtf8 (ap (λ n. drop n all) (add-one (length front)) ∙ drop_front front x xs) (IsUtf8-drop all (length front + 1) u (IsCharBoundary-after_ascii all (length front) u within low)),
    )

ascii : (x : ℕ) → x < 128 → IsUtf8 (x ∷ [])
ascii x small = let low : IsScalar x = grind (arith, nat_tests) in subst IsUtf8 (encode_ascii x small) (IsUtf8-encode x low)

-- ---- what is spelled

abbrev pub IfText : Option (List ℕ) → Type 0
IfText None = Unit {0}
IfText (Some s) = IsUtf8 s

-- behind bytes that may end within a character
abbrev Behind : List ℕ → Option (List ℕ) → Type 0
Behind front None = Unit {0}
Behind front (Some s) = IsUtf8 (front ++ s)

behind : (front : List ℕ) (o : Option (List ℕ)) → IsUtf8 front → IfText o → Behind front o
behind front None u t = tt
behind front (Some s) u t = IsUtf8-append front s u t

prepended : (bytes : List ℕ) (o : Option (List ℕ)) → IsUtf8 bytes → IfText o → IfText (prepend bytes o)
prepended bytes None u t = tt
prepended bytes (Some s) u t = IsUtf8-append bytes s u t

moved : (front : List ℕ) (x : ℕ) (o : Option (List ℕ)) → Behind (front ++ x ∷ []) o → Behind front (prepend (x ∷ []) o)
moved front x None t = tt
moved front x (Some s) t = subst IsUtf8 (append_assoc front (x ∷ []) s) t

whole : (o : Option (List ℕ)) → Behind [] o → IfText o
whole None t = tt
whole (Some s) t = t

-- ---- escapes

some_same : (v c : ℕ) → Some v ≡ Some c → v ≡ c
some_same v c e = cc

short_case : (t : Bool) (v c : ℕ) (rest : Option ℕ) → v < 128 → cond t (Some v) rest ≡ Some c → (rest ≡ Some c → c < 128) → c < 128
short_case true v c rest small e later = let same = some_same v c e in omega (arith, same)
short_case false v c rest small e later = later e

-- where a test is false the rest is asked; an escape that is known stands for an ASCII byte, and is one
short_ascii : (x c : ℕ) → short_escape x ≡ Some c → (x < 128) × (c < 128)
unfolding short_escape
short_ascii x c e = grind (arith, nat_tests)

unit_case : (t : Bool) (v u : ℕ) → cond t (Some v) None ≡ Some u → (t ≡ true) × (v ≡ u)
unit_case true v u e = (refl, some_same v u e)
unit_case false v u e = cc

digit_ascii : (d : ℕ) → is_digit d 16 ≡ true → d < 128
digit_ascii d e = grind (arith, nat_tests)

digit_small : (d : ℕ) → is_digit d 16 ≡ true → digit_value d < 16
digit_small d e = grind (arith, nat_tests)

unit_known : (a b c d u : ℕ) → code_unit a b c d ≡ Some u → (d < 128) × (u < 65536)
unfolding code_unit
unit_known a b c d u e =
    let is = unit_case (is_digit a 16 && is_digit b 16 && is_digit c 16 && is_digit d 16) (digit_value a * 4096 + digit_value b * 256 + digit_value c * 16 + digit_value d) u e in
    let last = both (is_digit a 16 && is_digit b 16 && is_digit c 16) (is_digit d 16) is.0 in
    let third = both (is_digit a 16 && is_digit b 16) (is_digit c 16) last.0 in
    let two = both (is_digit a 16) (is_digit b 16) third.0 in
    (digit_ascii d last.1, omega (arith, is.1, digit_small a two.0, digit_small b two.1, digit_small c third.1, digit_small d last.1))

unit_scalar : (u : ℕ) → u < 65536 → is_high_surrogate u ≡ false → is_low_surrogate u ≡ false → IsScalar u
unit_scalar u small high low = grind (arith, nat_tests)

pair_scalar : (h l : ℕ) → is_high_surrogate h ≡ true → is_low_surrogate l ≡ true → IsScalar (surrogate_pair h l)
pair_scalar h l high low = grind (arith, nat_tests)

-- ---- the content of a string

module _ (xs : List ℕ) where
  plain_case : (q b c : Bool) (x : ℕ) (front : List ℕ) → (x == 34) ≡ q → (x == 92) ≡ b → IsUtf8 (front ++ x ∷ xs) → (IsUtf8 xs → IfText (content after_backslash xs))
      → ((more : List ℕ) → IsUtf8 (more ++ xs) → Behind more (content plain xs))
      → Behind front (cond q (Some []) (cond b (content after_backslash xs) (cond c None (prepend (x ∷ []) (content plain xs)))))
  plain_case true b c x front is slash u after later =
      let same = eqb-true x 34 is in
      subst IsUtf8 (sym (append-nil front)) (around front x xs (omega (arith, same)) u).0
  plain_case false true c x front is slash u after later =
      let same = eqb-true x 92 slash in
      let parts = around front x xs (omega (arith, same)) u in
      behind front (content after_backslash xs) parts.0 (after parts.1)
  plain_case false false true x front is slash u after later = tt
  plain_case false false false x front is slash u after later =
      moved front x (content plain xs) (later (front ++ x ∷ []) (subst IsUtf8 (sym (append_assoc front (x ∷ []) xs)) u))

  slash_case : (b : Bool) (o : Option ℕ) (x : ℕ) → (x == 117) ≡ b → short_escape x ≡ o → IsUtf8 (x ∷ xs) → (IsUtf8 xs → IfText (content after_u xs)) → (IsUtf8 xs → IfText (content plain xs))
      → IfText (cond b (content after_u xs) (option_and_then (λ c. prepend (c ∷ []) (content plain xs)) o))
  slash_case true o x is short u unit later = let same = eqb-true x 117 is in unit (around [] x xs (omega (arith, same)) u).1
  slash_case false None x is short u unit later = tt
  slash_case false (Some c) x is short u unit later =
      let low = short_ascii x c short in
      prepended (c ∷ []) (content plain xs) (ascii c low.1) (later (around [] x xs low.0 u).1)

  unit_way : (h l : Bool) (u : ℕ) → is_high_surrogate u ≡ h → is_low_surrogate u ≡ l → u < 65536 → (is_high_surrogate u ≡ true → IfText (content (after_high u) xs)) → IfText (content plain xs)
      → IfText (cond h (content (after_high u) xs) (cond l None (prepend (encode_utf8 u) (content plain xs))))
  unit_way true l u high low small pair later = pair high
  unit_way false true u high low small pair later = tt
  unit_way false false u high low small pair later = prepended (encode_utf8 u) (content plain xs) (IsUtf8-encode u (unit_scalar u small high low)) later

  unit_next : (o : Option ℕ) (a b c d : ℕ) → code_unit a b c d ≡ o → IsUtf8 (a ∷ b ∷ c ∷ d ∷ xs) → ((u : ℕ) → is_high_surrogate u ≡ true → IsUtf8 xs → IfText (content (after_high u) xs))
      → (IsUtf8 xs → IfText (content plain xs))
      → IfText (option_and_then (λ u. cond (is_high_surrogate u) (content (after_high u) xs) (cond (is_low_surrogate u) None (prepend (encode_utf8 u) (content plain xs)))) o)
  unit_next None a b c d is u pair later = tt
  unit_next (Some n) a b c d is u pair later =
      let known = unit_known a b c d n is in
      let rest = (around (a ∷ b ∷ c ∷ []) d xs known.0 u).1 in
      unit_way (is_high_surrogate n) (is_low_surrogate n) n refl refl known.1 (λ high. pair n high rest) (later rest)

  low_way : (l : Bool) (h n : ℕ) → is_high_surrogate h ≡ true → is_low_surrogate n ≡ l → IfText (content plain xs) → IfText (cond l (prepend (encode_utf8 (surrogate_pair h n)) (content plain xs)) None)
  low_way true h n high low later = prepended (encode_utf8 (surrogate_pair h n)) (content plain xs) (IsUtf8-encode (surrogate_pair h n) (pair_scalar h n high low)) later
  low_way false h n high low later = tt

  low_next : (t : Bool) (o : Option ℕ) (h s v a b c d : ℕ) → is_high_surrogate h ≡ true → code_unit a b c d ≡ o → IsUtf8 (s ∷ v ∷ a ∷ b ∷ c ∷ d ∷ xs) → (IsUtf8 xs → IfText (content plain xs))
      → IfText (cond t (option_and_then (λ l. cond (is_low_surrogate l) (prepend (encode_utf8 (surrogate_pair h l)) (content plain xs)) None) o) None)
  low_next false o h s v a b c d high is u later = tt
  low_next true None h s v a b c d high is u later = tt
  low_next true (Some n) h s v a b c d high is u later =
      let known = unit_known a b c d n is in
      low_way (is_low_surrogate n) h n high refl (later (around (s ∷ v ∷ a ∷ b ∷ c ∷ []) d xs known.0 u).1)

mutual
  unfolding content

  plain_text : (xs front : List ℕ) → IsUtf8 (front ++ xs) → Behind front (content plain xs)
  plain_text [] front u = tt
  plain_text (x ∷ xs) front u = plain_case xs (x == 34) (x == 92) (nat_lt x 32) x front refl refl u (slash_text xs) (plain_text xs)

  slash_text : (xs : List ℕ) → IsUtf8 xs → IfText (content after_backslash xs)
  slash_text [] u = tt
  slash_text (x ∷ xs) u = slash_case xs (x == 117) (short_escape x) x refl refl u (unit_text xs) (λ t. whole (content plain xs) (plain_text xs [] t))

  unit_text : (xs : List ℕ) → IsUtf8 xs → IfText (content after_u xs)
  unit_text [] u = tt
  unit_text (a ∷ []) u = tt
  unit_text (a ∷ b ∷ []) u = tt
  unit_text (a ∷ b ∷ c ∷ []) u = tt
  unit_text (a ∷ b ∷ c ∷ d ∷ xs) u = unit_next xs (code_unit a b c d) a b c d refl u (λ h high t. pair_text xs h high t) (λ t. whole (content plain xs) (plain_text xs [] t))

  pair_text : (xs : List ℕ) (h : ℕ) → is_high_surrogate h ≡ true → IsUtf8 xs → IfText (content (after_high h) xs)
  pair_text [] h high u = tt
  pair_text (s ∷ []) h high u = tt
  pair_text (s ∷ v ∷ []) h high u = tt
  pair_text (s ∷ v ∷ a ∷ []) h high u = tt
  pair_text (s ∷ v ∷ a ∷ b ∷ []) h high u = tt
  pair_text (s ∷ v ∷ a ∷ b ∷ c ∷ []) h high u = tt
  pair_text (s ∷ v ∷ a ∷ b ∷ c ∷ d ∷ xs) h high u =
      low_next xs ((s == 92) && (v == 117)) (code_unit a b c d) h s v a b c d high refl u (λ t. whole (content plain xs) (plain_text xs [] t))

pub content_text : (xs : List ℕ) → IsUtf8 xs → IfText (content plain xs)
content_text xs u = whole (content plain xs) (plain_text xs [] u)
