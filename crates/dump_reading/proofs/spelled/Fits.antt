-- Rows of pieces that are laid before any row that passes a test.
use Rattle.std.proofs.Common.{◌≡◌, ℕ, zero, suc, Bool, true, false, not, ◌&&◌, ◌||◌, List, [], ◌∷◌, ◌++◌, Some, slice_get, refl, sym, ap, ◌∙◌, append_assoc}
use Rattle.std.specs.List.{flat_map, list_all}
use Rattle.std.proofs.lemmas.Bool.{and_parts, and_from}
use Rattle.aidl_syntax.specs.declared.token.Symbol.{Symbol}
use Rattle.aidl_syntax.specs.declared.token.Symbol.TheVariants as mark
use Rattle.aidl_syntax.specs.declared.token.TokenKind.{TokenKind}
use Rattle.aidl_syntax.specs.declared.token.TokenKind.TheVariants.{Mark}
use Rattle.api_dump.specs.Pieces.{Piece, joined, sign}
use Rattle.api_dump.specs.Pieces.Piece.{space, newline, token}
use Rattle.dump_reading.proofs.spelled.Plain.{is_spelled, is_wordy, is_mark, is_tail, joins, can_stand, laid}

abbrev pub Test : Type 0
Test = List Piece → Bool

-- any row
abbrev pub any : Test
any ps = true

-- no word begins the row
abbrev pub no_word : Test
no_word [] = true
no_word (q ∷ qs) = not (is_wordy q)

-- no word and no second half begins the row
abbrev pub loose : Test
loose [] = true
loose (q ∷ qs) = not (is_wordy q) && not (is_tail q)

pub record Fits (t : Test) (ps : List Piece) : Type 0 where
  pub at : (rest : List Piece) → t rest ≡ true → laid rest ≡ true → laid (ps ++ rest) ≡ true

pub none : {t : Test} → Fits t []
none = record { at = λ rest e r. r }

pub and_then : {t u : Test} {ps qs : List Piece} → Fits t ps → ((rest : List Piece) → u rest ≡ true → t (qs ++ rest) ≡ true) → Fits u qs → Fits u (ps ++ qs)
and_then {ps = ps} {qs = qs} m h n = record { at = λ rest e r. ap laid (append_assoc ps qs rest) ∙ m.at (qs ++ rest) (h rest e) (n.at rest e r) }

-- of a row that fits before any other
pub free_then : {u : Test} {ps qs : List Piece} → Fits any ps → Fits u qs → Fits u (ps ++ qs)
free_then m n = and_then m (λ rest e. refl) n

pub weaker : {t u : Test} {ps : List Piece} → Fits t ps → ((rest : List Piece) → u rest ≡ true → t rest ≡ true) → Fits u ps
weaker m h = record { at = λ rest e r. m.at rest (h rest e) r }

loose_words : (rest : List Piece) → loose rest ≡ true → no_word rest ≡ true
loose_words [] e = refl
loose_words (q ∷ qs) e = (and_parts (not (is_wordy q)) (not (is_tail q)) e).0

pub words_loose : {ps : List Piece} → Fits no_word ps → Fits loose ps
words_loose m = weaker m loose_words

-- it holds of each item
abbrev pub Each : {X : Type 0} → (X → Type 0) → List X → Type 0
Each {X} P xs = (k : ℕ) (x : X) → slice_get xs k ≡ Some x → P x

-- what begins many rows, one behind another
begins_all : {X : Type 0} (t : Test) (g : X → List Piece) → ((x : X) (rest : List Piece) → t (g x ++ rest) ≡ true) → (xs : List X) (rest : List Piece) → t rest ≡ true → t (flat_map g xs ++ rest) ≡ true
begins_all t g h [] rest e = e
begins_all t g h (x ∷ xs) rest e = ap t (append_assoc (g x) (flat_map g xs) rest) ∙ h x (flat_map g xs ++ rest)

-- many rows, one behind another
pub all_fit : {X : Type 0} (t : Test) (g : X → List Piece) → ((x : X) (rest : List Piece) → t (g x ++ rest) ≡ true) → (xs : List X) → Each (λ x. Fits t (g x)) xs → Fits t (flat_map g xs)
all_fit t g h [] each = none
all_fit t g h (x ∷ xs) each = and_then (each zero x refl) (λ rest e. begins_all t g h xs rest e) (all_fit t g h xs (λ k y e. each (suc k) y e))

pub lines_fit : {X : Type 0} (g : X → List Piece) (xs : List X) → Each (λ x. Fits any (g x)) xs → Fits any (flat_map g xs)
lines_fit g xs each = all_fit any g (λ x rest. refl) xs each

seam_is : (p : Piece) (q : Piece) (ps : List Piece) → can_stand p ≡ true → joins p q ≡ false → laid (q ∷ ps) ≡ true → laid (p ∷ q ∷ ps) ≡ true
seam_is p q ps c s r = and_from (can_stand p) (not (joins p q) && laid (q ∷ ps)) c (and_from (not (joins p q)) (laid (q ∷ ps)) (ap not s) r)

no_join : (a b c d : Bool) → not b ≡ true → not d ≡ true → ((a && b) || (c && d)) ≡ false
no_join true true c d e f = cc
no_join false true c d e f = cc
no_join true false true true e f = cc
no_join true false false true e f = cc
no_join false false true true e f = cc
no_join false false false true e f = cc
no_join true false true false e f = refl
no_join true false false false e f = refl
no_join false false true false e f = refl
no_join false false false false e f = refl

-- a token before a row that neither a word nor a second half begins
pub one : (k : TokenKind) → is_spelled k ≡ true → Fits loose (token k ∷ [])
one k e = record { at = λ rest l r. go rest l r } where
  go : (rest : List Piece) → loose rest ≡ true → laid rest ≡ true → laid (token k ∷ rest) ≡ true
  go [] l r = e
  go (q ∷ ps) l r =
      let h = and_parts (not (is_wordy q)) (not (is_tail q)) l in
      seam_is (token k) q ps e (no_join (is_wordy (token k)) (is_wordy q) (is_mark (token k)) (is_tail q) h.0 h.1) r

word_join : (b d : Bool) → not b ≡ true → ((true && b) || (false && d)) ≡ false
word_join true d e = cc
word_join false true e = refl
word_join false false e = refl

-- a word before a row that no word begins
pub one_word : (k : TokenKind) → is_spelled k ≡ true → is_wordy (token k) ≡ true → is_mark (token k) ≡ false → Fits no_word (token k ∷ [])
one_word k e w m = record { at = λ rest l r. go rest l r } where
  go : (rest : List Piece) → no_word rest ≡ true → laid rest ≡ true → laid (token k ∷ rest) ≡ true
  go [] l r = e
  go (q ∷ ps) l r =
      seam_is (token k) q ps e (ap (λ x. (x && is_wordy q) || (is_mark (token k) && is_tail q)) w ∙ ap (λ x. (true && is_wordy q) || (x && is_tail q)) m ∙ word_join (is_wordy q) (is_tail q) l) r

pub blank : Fits any (space ∷ [])
blank = record { at = λ rest e r. go rest r } where
  go : (rest : List Piece) → laid rest ≡ true → laid (space ∷ rest) ≡ true
  go [] r = refl
  go (q ∷ ps) r = r

pub line_end : Fits any (newline ∷ [])
line_end = record { at = λ rest e r. go rest r } where
  go : (rest : List Piece) → laid rest ≡ true → laid (newline ∷ rest) ≡ true
  go [] r = refl
  go (q ∷ ps) r = r

-- a symbol before a blank
pub mark_blank : (k : TokenKind) → is_spelled k ≡ true → Fits any (token k ∷ space ∷ [])
mark_blank k e = and_then (one k e) (λ rest u. refl) blank

pub mark_end : (k : TokenKind) → is_spelled k ≡ true → Fits any (token k ∷ newline ∷ [])
mark_end k e = and_then (one k e) (λ rest u. refl) line_end

-- items joined by commas
pub joined_fit : {X : Type 0} (g : X → List Piece) (xs : List X) → Each (λ x. Fits loose (g x)) xs → Fits loose (joined g xs)
joined_fit {X = X} g [] each = none
joined_fit {X = X} g (x ∷ xs) each =
    and_then (each zero x refl) (λ rest e. begins_all loose behind (λ y more. refl) xs rest e)
    (all_fit loose behind (λ y more. refl) xs (λ k y e. free_then (mark_blank (Mark mark.Comma) refl) (each (suc k) y e))) where
      behind : X → List Piece
      behind y = sign mark.Comma ∷ space ∷ g y

-- what a test of a list says of each item
pub each_passes : {X : Type 0} (test : X → Bool) (xs : List X) → list_all test xs ≡ true → Each (λ x. test x ≡ true) xs
each_passes test [] h k x e = cc
each_passes test (y ∷ ys) h zero x e = let s : y ≡ x = cc in ap test (sym s) ∙ (and_parts (test y) (list_all test ys) h).0
each_passes test (y ∷ ys) h (suc k) x e = each_passes test ys (and_parts (test y) (list_all test ys) h).1 k x e

-- no second half begins the row
abbrev pub no_tail : Test
no_tail [] = true
no_tail (q ∷ qs) = not (is_tail q)

-- a symbol before a row that no second half begins
pub mark_fits : (s : Symbol) → Fits no_tail (sign s ∷ [])
mark_fits s = record { at = λ rest l r. go rest l r } where
  go : (rest : List Piece) → no_tail rest ≡ true → laid rest ≡ true → laid (sign s ∷ rest) ≡ true
  go [] l r = refl
  go (q ∷ ps) l r = and_from (not (is_tail q)) (laid (q ∷ ps)) l r
