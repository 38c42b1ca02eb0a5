-- A JSON value that is parsed from a text has texts for strings.
use Rattle.std.proofs.Common.{◌≡◌, ℕ, ◌<◌, Bool, true, false, cond, ◌==◌, List, [], ◌∷◌, ◌++◌, Option, Some, None, option_map, IsUtf8, Ordering, Less, Equal, Greater, nat_cmp, refl, sym, subst, arith, append_assoc}
use Rattle.std.specs.Prelude.{◌&&◌, ◌-◌, drop, length, nat_eq, option_and_then, take}
use Rattle.std.specs.List.{starts_with}
use Rattle.std.specs.Cmp.Lexicographic.{slice_cmp}
use Rattle.std.specs.Ordering.{match_ordering}
use Rattle.std.specs.Str.{is_utf8}
use Rattle.std.proofs.lemmas.Bool.{eqb-true}
use Rattle.std.proofs.lemmas.Str.{IsUtf8-from_is_utf8, scalars-chars}
use Rattle.json.specs.Ascii as ascii
use Rattle.json.specs.Json as text
use Rattle.json.specs.Lex.{Class, Lexeme, Mode, Place, begins_colon, class, if_allowed, lex, lex_byte, may_begin, may_close, operator_lexeme, place_token, punctuate, string_token, tokens}
use Rattle.json.specs.Text.{content, plain}
use Rattle.json.specs.Token.{Token}
use Rattle.json.specs.Tree.{items_tokens, json_tokens, members_tokens}
use Rattle.json.specs.Word.{after_number, ends_word, head, is_operator, is_space, literal, number_before, word}
use Rattle.json.proofs.Unique.Spelling.{value-json_tokens_back}
use Rattle.serde_json.specs.Data as json
use Rattle.serde_json.specs.Read.{max_depth, number_of, of_items, of_json, of_members, read as read_text}
use Rattle.json_values.specs.JsonText.{parsed_json}
use Rattle.json_values.proofs.Contents.{IfText, around, content_text}
use Rattle.json_values.proofs.Texts.{HasTexts, HaveTexts, MembersHaveTexts}

-- ---- tokens

abbrev IsTextToken : Token → Type 0
IsTextToken (Token.string s) = IsUtf8 s
IsTextToken others = Unit {0}

abbrev AreTextTokens : List Token → Type 0
AreTextTokens [] = Unit {0}
AreTextTokens (t ∷ ts) = IsTextToken t × AreTextTokens ts

abbrev IsTextLexeme : Lexeme → Type 0
IsTextLexeme (Lexeme.token t) = IsTextToken t
IsTextLexeme Lexeme.comma = Unit {0}
IsTextLexeme Lexeme.colon = Unit {0}

abbrev AreTextLexemes : List Lexeme → Type 0
AreTextLexemes [] = Unit {0}
AreTextLexemes (l ∷ ls) = IsTextLexeme l × AreTextLexemes ls

-- behind each ASCII byte a text begins
abbrev Restarts : List ℕ → Type 0
Restarts [] = Unit {0}
Restarts (x ∷ xs) = (x < 128 → IsUtf8 xs) × Restarts xs

restarts : (xs front : List ℕ) → IsUtf8 (front ++ xs) → Restarts xs
restarts [] front u = tt
restarts (x ∷ xs) front u = (λ small. (around front x xs small u).1, restarts xs (front ++ x ∷ []) (subst IsUtf8 (sym (append_assoc front (x ∷ []) xs)) u))

string_text : (o : Option (List ℕ)) → IfText o → IsTextToken (string_token o)
string_text None t = tt
string_text (Some s) t = t

either_token : (b : Bool) (t u : Token) → IsTextToken t → IsTextToken u → IsTextToken (cond b t u)
either_token true t u x y = x
either_token false t u x y = y

operator_by : (a b c d e : Bool) → IsTextLexeme (cond a (Lexeme.token Token.begin_object) (cond b (Lexeme.token Token.end_object)
    (cond c (Lexeme.token Token.begin_array) (cond d (Lexeme.token Token.end_array) (cond e Lexeme.comma Lexeme.colon)))))
operator_by true b c d e = tt
operator_by false true c d e = tt
operator_by false false true d e = tt
operator_by false false false true e = tt
operator_by false false false false true = tt
operator_by false false false false false = tt

operator_text : (x : ℕ) → IsTextLexeme (operator_lexeme x)
operator_text x = operator_by (x == ascii.open_brace) (x == ascii.close_brace) (x == ascii.open_bracket) (x == ascii.close_bracket) (x == ascii.comma)

number_text : (t : List ℕ) (o : Option (List ℕ)) → IsTextToken (number_before t o)
number_text t None = tt
number_text t (Some rest) = either_token (ends_word rest) (Token.number (take (length t - length rest) t)) Token.bad tt tt

literal_text : (name : List ℕ) (u : Token) (t : List ℕ) → IsTextToken u → IsTextToken (literal name u t)
literal_text name u t is = either_token (starts_with nat_eq t name && ends_word (drop (length name) t)) u Token.bad is tt

either_word : (a b c : Bool) (x y z w : Token) → IsTextToken x → IsTextToken y → IsTextToken z → IsTextToken w → IsTextToken (cond a x (cond b y (cond c z w)))
either_word true b c x y z w p q r s = p
either_word false true c x y z w p q r s = q
either_word false false true x y z w p q r s = r
either_word false false false x y z w p q r s = s

word_text : (t : List ℕ) → IsTextToken (word t)
unfolding word
word_text t =
    either_word (head t == ascii.lower_t) (head t == ascii.lower_f) (head t == ascii.lower_n) (literal ascii.true_text (Token.boolean true) t) (literal ascii.false_text (Token.boolean false) t)
    (literal ascii.null_text Token.null t) (number_before t (after_number t)) (literal_text ascii.true_text (Token.boolean true) t tt) (literal_text ascii.false_text (Token.boolean false) t tt)
    (literal_text ascii.null_text Token.null t tt) (number_text t (after_number t))

is_quote : (a b c d : Bool) → cond a Class.quote (cond b Class.backslash (cond c Class.operator (cond d Class.space Class.other))) ≡ Class.quote → a ≡ true
is_quote true b c d e = refl
is_quote false true c d e = cc
is_quote false false true d e = cc
is_quote false false false true e = cc
is_quote false false false false e = cc

quote_low : (x : ℕ) → class x ≡ Class.quote → x < 128
quote_low x e = let same = eqb-true x 34 (is_quote (x == 34) (x == 92) (is_operator x) (is_space x) e) in omega (arith, same)

lexed_byte : (m : Mode) (c : Class) (x : ℕ) (xs : List ℕ) → class x ≡ c → (x < 128 → IsUtf8 xs) → ((next : Mode) → AreTextLexemes (lex next xs))
    → AreTextLexemes (lex_byte m c x xs (λ next. lex next xs))
lexed_byte Mode.between Class.quote x xs is u later = (string_text (content plain xs) (content_text xs (u (quote_low x is))), later Mode.in_string)
lexed_byte Mode.between Class.backslash x xs is u later = (tt, later Mode.in_word)
lexed_byte Mode.between Class.operator x xs is u later = (operator_text x, later Mode.between)
lexed_byte Mode.between Class.space x xs is u later = later Mode.between
lexed_byte Mode.between Class.other x xs is u later = (word_text (x ∷ xs), later Mode.in_word)
lexed_byte Mode.in_word Class.quote x xs is u later = later Mode.in_word
lexed_byte Mode.in_word Class.backslash x xs is u later = later Mode.in_word
lexed_byte Mode.in_word Class.operator x xs is u later = (operator_text x, later Mode.between)
lexed_byte Mode.in_word Class.space x xs is u later = later Mode.between
lexed_byte Mode.in_word Class.other x xs is u later = later Mode.in_word
lexed_byte Mode.in_string Class.quote x xs is u later = later Mode.between
lexed_byte Mode.in_string Class.backslash x xs is u later = later Mode.in_escape
lexed_byte Mode.in_string Class.operator x xs is u later = later Mode.in_string
lexed_byte Mode.in_string Class.space x xs is u later = later Mode.in_string
lexed_byte Mode.in_string Class.other x xs is u later = later Mode.in_string
lexed_byte Mode.in_escape c x xs is u later = later Mode.in_string

lexed : (m : Mode) (xs : List ℕ) → Restarts xs → AreTextLexemes (lex m xs)
unfolding lex
lexed m [] r = tt
lexed m (x ∷ xs) r = lexed_byte m (class x) x xs refl r.0 (λ next. lexed next xs r.1)

-- ---- commas and colons

allowed : (b : Bool) (t : Token) (k : Place → List Token) (next : Place) → IsTextToken t → AreTextTokens (k next) → AreTextTokens (if_allowed b t k next)
allowed true t k next is later = (is, later)
allowed false t k next is later = (tt, tt)

placed : (p : Place) (t : Token) (b : Bool) (k : Place → List Token) → IsTextToken t → ((next : Place) → AreTextTokens (k next)) → AreTextTokens (place_token p t b k)
placed p Token.begin_object b k is later = allowed (may_begin p) Token.begin_object k Place.fresh tt (later Place.fresh)
placed p Token.end_object b k is later = allowed (may_close p) Token.end_object k Place.after_value tt (later Place.after_value)
placed p Token.begin_array b k is later = allowed (may_begin p) Token.begin_array k Place.fresh tt (later Place.fresh)
placed p Token.end_array b k is later = allowed (may_close p) Token.end_array k Place.after_value tt (later Place.after_value)
placed p (Token.key s) b k is later = (tt, tt)
placed p (Token.string s) true k is later = allowed (may_begin p) (Token.key s) k Place.after_key tt (later Place.after_key)
placed p (Token.string s) false k is later = allowed (may_begin p) (Token.string s) k Place.after_value is (later Place.after_value)
placed p (Token.number s) b k is later = allowed (may_begin p) (Token.number s) k Place.after_value tt (later Place.after_value)
placed p (Token.boolean v) b k is later = allowed (may_begin p) (Token.boolean v) k Place.after_value tt (later Place.after_value)
placed p Token.null b k is later = allowed (may_begin p) Token.null k Place.after_value tt (later Place.after_value)
placed p Token.bad b k is later = (tt, tt)

punctuated : (p : Place) (ls : List Lexeme) → AreTextLexemes ls → AreTextTokens (punctuate p ls)
unfolding punctuate
punctuated Place.fresh [] t = tt
punctuated Place.after_value [] t = tt
punctuated Place.after_comma [] t = (tt, tt)
punctuated Place.after_key [] t = (tt, tt)
punctuated Place.fresh (Lexeme.token u ∷ ls) t = placed Place.fresh u (begins_colon ls) (λ next. punctuate next ls) t.0 (λ next. punctuated next ls t.1)
punctuated Place.after_value (Lexeme.token u ∷ ls) t = placed Place.after_value u (begins_colon ls) (λ next. punctuate next ls) t.0 (λ next. punctuated next ls t.1)
punctuated Place.after_comma (Lexeme.token u ∷ ls) t = placed Place.after_comma u (begins_colon ls) (λ next. punctuate next ls) t.0 (λ next. punctuated next ls t.1)
punctuated Place.after_key (Lexeme.token u ∷ ls) t = placed Place.after_key u (begins_colon ls) (λ next. punctuate next ls) t.0 (λ next. punctuated next ls t.1)
punctuated Place.fresh (Lexeme.comma ∷ ls) t = (tt, tt)
punctuated Place.after_value (Lexeme.comma ∷ ls) t = punctuated Place.after_comma ls t.1
punctuated Place.after_comma (Lexeme.comma ∷ ls) t = (tt, tt)
punctuated Place.after_key (Lexeme.comma ∷ ls) t = (tt, tt)
punctuated Place.fresh (Lexeme.colon ∷ ls) t = (tt, tt)
punctuated Place.after_value (Lexeme.colon ∷ ls) t = (tt, tt)
punctuated Place.after_comma (Lexeme.colon ∷ ls) t = (tt, tt)
punctuated Place.after_key (Lexeme.colon ∷ ls) t = punctuated Place.fresh ls t.1

-- ---- the value

abbrev mutual
  Spells : text.Json → Type 0
  Spells text.null = Unit {0}
  Spells (text.boolean b) = Unit {0}
  Spells (text.number s) = Unit {0}
  Spells (text.string s) = IsUtf8 s
  Spells (text.array js) = ItemsSpell js
  Spells (text.object ms) = MembersSpell ms

  ItemsSpell : text.Items → Type 0
  ItemsSpell text.no_items = Unit {0}
  ItemsSpell (text.item j js) = Spells j × ItemsSpell js

  MembersSpell : text.Members → Type 0
  MembersSpell text.no_members = Unit {0}
  MembersSpell (text.member k j ms) = Spells j × MembersSpell ms

mutual
  spelled : (j : text.Json) (rest : List Token) → AreTextTokens (json_tokens j ++ rest) → Spells j × AreTextTokens rest
  spelled text.null rest t = t
  spelled (text.boolean b) rest t = t
  spelled (text.number s) rest t = t
  spelled (text.string s) rest t = t
  spelled (text.array js) rest t = items_spelled js rest t.1
  spelled (text.object ms) rest t = members_spelled ms rest t.1

  items_spelled : (js : text.Items) (rest : List Token) → AreTextTokens (items_tokens js ++ rest) → ItemsSpell js × AreTextTokens rest
  items_spelled text.no_items rest t = t
  items_spelled (text.item j js) rest t =
      let first = spelled j (items_tokens js ++ rest) (subst AreTextTokens (append_assoc (json_tokens j) (items_tokens js) rest) t) in
      let others = items_spelled js rest first.1 in
      ((first.0, others.0), others.1)

  members_spelled : (ms : text.Members) (rest : List Token) → AreTextTokens (members_tokens ms ++ rest) → MembersSpell ms × AreTextTokens rest
  members_spelled text.no_members rest t = t
  members_spelled (text.member k j ms) rest t =
      let first = spelled j (members_tokens ms ++ rest) (subst AreTextTokens (append_assoc (json_tokens j) (members_tokens ms) rest) t.1) in
      let others = members_spelled ms rest first.1 in
      ((first.0, others.0), others.1)

put_case : (o : Ordering) (k l : List ℕ) (d e : json.Data) (ms : json.Members) → HasTexts d → HasTexts e → MembersHaveTexts ms → MembersHaveTexts (json.put k d ms)
    → MembersHaveTexts (match_ordering o (json.member k d (json.member l e ms)) (json.member l d ms) (json.member l e (json.put k d ms)))
put_case Less k l d e ms x y z later = (x, (y, z))
put_case Equal k l d e ms x y z later = (x, z)
put_case Greater k l d e ms x y z later = (y, later)

put_texts : (k : List ℕ) (d : json.Data) (ms : json.Members) → HasTexts d → MembersHaveTexts ms → MembersHaveTexts (json.put k d ms)
put_texts k d json.no_members x t = (x, tt)
put_texts k d (json.member l e ms) x t = put_case (slice_cmp nat_cmp k l) k l d e ms x t.0 t.1 (put_texts k d ms x t.1)

abbrev IfData : Option json.Data → Type 0
IfData None = Unit {0}
IfData (Some d) = HasTexts d

abbrev IfItems : Option json.Items → Type 0
IfItems None = Unit {0}
IfItems (Some ds) = HaveTexts ds

abbrev IfMembers : Option json.Members → Type 0
IfMembers None = Unit {0}
IfMembers (Some ms) = MembersHaveTexts ms

of_number : (o : Option json.Num) → IfData (option_map json.number o)
of_number None = tt
of_number (Some n) = tt

of_array : (o : Option json.Items) → IfItems o → IfData (option_map json.array o)
of_array None t = tt
of_array (Some ds) t = t

of_object : (o : Option json.Members) → IfMembers o → IfData (option_map json.object o)
of_object None t = tt
of_object (Some ms) t = t

next_item : (o : Option json.Data) (r : Option json.Items) → IfData o → IfItems r → IfItems (option_and_then (λ d. option_map (json.item d) r) o)
next_item None r t u = tt
next_item (Some d) None t u = tt
next_item (Some d) (Some ds) t u = (t, u)

next_member : (o : Option json.Data) (next : json.Data → Option json.Members) → IfData o → ((d : json.Data) → HasTexts d → IfMembers (next d)) → IfMembers (option_and_then next o)
next_member None next t later = tt
next_member (Some d) next t later = later d t

mutual
  of_texts : (j : text.Json) → Spells j → IfData (of_json j)
  of_texts text.null t = tt
  of_texts (text.boolean b) t = tt
  of_texts (text.number s) t = of_number (number_of s)
  of_texts (text.string s) t = scalars-chars s t
  of_texts (text.array js) t = of_array (of_items js) (items_texts js t)
  of_texts (text.object ms) t = of_object (of_members ms json.no_members) (members_texts ms json.no_members t tt)

  items_texts : (js : text.Items) → ItemsSpell js → IfItems (of_items js)
  items_texts text.no_items t = tt
  items_texts (text.item j js) t = next_item (of_json j) (of_items js) (of_texts j t.0) (items_texts js t.1)

  members_texts : (ms : text.Members) (found : json.Members) → MembersSpell ms → MembersHaveTexts found → IfMembers (of_members ms found)
  members_texts text.no_members found t before = before
  members_texts (text.member k j ms) found t before =
      next_member (of_json j) (λ d. of_members ms (json.put k d found)) (of_texts j t.0) (λ d x. members_texts ms (json.put k d found) t.1 (put_texts k d found x before))

last_texts : (j : text.Json) (rest : List Token) → Spells j → IfData (option_and_then of_json (text.if_last j rest))
last_texts j [] t = of_texts j t
last_texts j (u ∷ rest) t = tt

read_by : (ts : List Token) (o : Option (text.Json × List Token)) → text.value max_depth ts ≡ o → AreTextTokens ts → IfData (option_and_then of_json (option_and_then (λ p. text.if_last p.0 p.1) o))
read_by ts None is t = tt
read_by ts (Some p) is t =
    let spells = spelled p.0 p.1 (subst AreTextTokens (value-json_tokens_back max_depth ts p.1 p.0 is) t) in
    last_texts p.0 p.1 spells.0

read_texts : (bytes : List ℕ) → IsUtf8 bytes → IfData (read_text bytes)
read_texts bytes u = read_by (tokens bytes) (text.value max_depth (tokens bytes)) refl (punctuated Place.fresh (lex Mode.between bytes) (lexed Mode.between bytes (restarts bytes [] u)))

by_test : (b : Bool) (bytes : List ℕ) → is_utf8 bytes ≡ b → IfData (cond b (read_text bytes) None)
by_test true bytes is = read_texts bytes (IsUtf8-from_is_utf8 bytes is)
by_test false bytes is = tt

pub parsed_texts : (bytes : List ℕ) (j : json.Data) → parsed_json bytes ≡ Some j → HasTexts j
unfolding parsed_json
parsed_texts bytes j is = subst IfData is (by_test (is_utf8 bytes) bytes refl)
