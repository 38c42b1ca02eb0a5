-- What is laid is written as it is without UTF-8.
use Rattle.std.proofs.Common.{◌≡◌, ℕ, ◌<◌, Bool, true, not, ◌&&◌, ◌==◌, nat_le, List, [], ◌∷◌, ◌++◌, refl, ap, ◌∙◌, arith}
use Rattle.std.specs.List.{list_all}
use Rattle.std.specs.Str.{encode_utf8_all}
use Rattle.std.proofs.lemmas.Bool.{and_parts}
use Rattle.std.proofs.lemmas.Bool.Decides.{nat_tests}
use Rattle.std.proofs.lemmas.Str.{encode_ascii}
use Rattle.aidl_base.specs.Identifiers.{is_word_byte}
use Rattle.aidl_syntax.specs.declared.token.TokenKind.{TokenKind}
use Rattle.aidl_syntax.specs.declared.token.TokenKind.TheVariants as kind
use Rattle.aidl_syntax.specs.Bytes.{is_inside}
use Rattle.api_dump.specs.Pieces.{Piece, spelling, text_of}
use Rattle.api_dump.specs.Pieces.Piece.{space, newline, token}
use Rattle.dump_reading.proofs.spelled.Plain.{plain, plain_text, is_spelled, laid}
use Rattle.dump_reading.proofs.spelled.Spelled.{name_spelled}
use Rattle.dump_reading.proofs.spelled.Laid.{laid_rest, first_stands}

pub word_ascii : (b : ℕ) → is_word_byte b ≡ true → b < 128
word_ascii b h = grind (arith, nat_tests)

inside_ascii : (q b : ℕ) → is_inside q b ≡ true → b < 128
inside_ascii q b h =
    let at_most = (and_parts (nat_le 32 b) (nat_le b 126) (and_parts (nat_le 32 b && nat_le b 126) (not (b == q)) (and_parts (nat_le 32 b && nat_le b 126 && not (b == q)) (not (b == 92)) h).0).0).1 in
    grind (arith, nat_tests)

-- ASCII is its own UTF-8
pub ascii_same : (test : ℕ → Bool) → ((b : ℕ) → test b ≡ true → b < 128) → (text : List ℕ) → list_all test text ≡ true → encode_utf8_all text ≡ text
ascii_same test small [] h = refl
ascii_same test small (b ∷ text) h =
    let two = and_parts (test b) (list_all test text) h in
    ap (λ bs. bs ++ encode_utf8_all text) (encode_ascii b (small b two.0)) ∙ ap (λ bs. b ∷ bs) (ascii_same test small text two.1)

plain_spelling : (k : TokenKind) → is_spelled k ≡ true → spelling k ≡ plain k
unfolding spelling plain
plain_spelling (kind.Name text) h = ascii_same is_word_byte word_ascii text (name_spelled text h).1
plain_spelling (kind.Word w) h = refl
plain_spelling (kind.Number n hexadecimal long) h = refl
plain_spelling (kind.Character c) h = ap (λ bs. 39 ∷ (bs ++ []) ++ 39 ∷ []) (encode_ascii c (inside_ascii 39 c h))
plain_spelling (kind.Str text) h = ap (λ bs. 34 ∷ bs ++ 34 ∷ []) (ascii_same (is_inside 34) (inside_ascii 34) text h)
plain_spelling (kind.Mark s) h = refl

pub text_plain : (ps : List Piece) → laid ps ≡ true → text_of ps ≡ plain_text ps
text_plain [] h = refl
text_plain (space ∷ ps) h = ap (λ t. 32 ∷ t) (text_plain ps (laid_rest space ps h))
text_plain (newline ∷ ps) h = ap (λ t. 10 ∷ t) (text_plain ps (laid_rest newline ps h))
text_plain (token k ∷ ps) h = ap (λ t. t ++ text_of ps) (plain_spelling k (first_stands (token k) ps h)) ∙ ap (λ t. plain k ++ t) (text_plain ps (laid_rest (token k) ps h))
