-- A place is cut at its last dot and at its first slash by its bytes as by its characters.
use Rattle.std.proofs.Common.{◌≡◌, ◌≢◌, ℕ, suc, ◌<◌, ◌==◌, Bool, true, false, List, [], ◌∷◌, ◌++◌, length, get_or, Option, Some, None, option_map, Bor, refl, sym, ap, ◌∙◌, arith, append-nil, encode_utf8}
use Rattle.std.specs.Prelude.{MatchOption, if◌then◌else◌}
use Rattle.std.specs.Str.{encode_utf8_all}
use Rattle.std.proofs.lemmas.Bool.{ne_eqb}
use Rattle.std.proofs.lemmas.Bool.Decides.{nat_tests}
use Rattle.std.proofs.lemmas.Str.{encode_ascii, inside_one}
use Rattle.std.proofs.lemmas.Str.Pattern.{IsSplitOnceResult, split_parts}
use Rattle.compat_witness.specs.Places.{at_last_dot, at_slash, behind, or_else}

-- by bytes: the clause of `split_once`

no_slash : (s : List ℕ) → ((i : ℕ) → i < length s → get_or s i 0 ≢ 47) → at_slash s ≡ None
no_slash [] h = refl
no_slash (c ∷ s) h =
    let later = no_slash s (λ i lt. h (suc i) (omega arith)) in
    let test : (c == 47) ≡ false = ne_eqb c 47 (h 0 (omega arith)) in
    rw (later, test) refl

first_slash : (front back : List ℕ) → ((i : ℕ) → i < length front → get_or front i 0 ≢ 47) → at_slash (front ++ 47 ∷ back) ≡ Some (front, back)
first_slash [] back h = refl
first_slash (c ∷ front) back h =
    let later = first_slash front back (λ i lt. h (suc i) (omega arith)) in
    let test : (c == 47) ≡ false = ne_eqb c 47 (h 0 (omega arith)) in
    rw (later, test) refl

pub cut_at_slash : (s : List ℕ) (r : Option (Bor (List ℕ) × Bor (List ℕ))) → IsSplitOnceResult 47 s r → option_map {U = List ℕ × List ℕ} (λ p. (p.0.now, p.1.now)) r ≡ at_slash s
cut_at_slash s r h = by r (split_parts 47 s r h (omega arith))
  where
    by : (r : Option (Bor (List ℕ) × Bor (List ℕ))) → MatchOption r ((i : ℕ) → i < length s → get_or s i 0 ≢ 47) (λ x. (s ≡ x.0.now ++ (47 ∷ x.1.now)) × ((i : ℕ) → i < length x.0.now → get_or x.0.now i 0 ≢ 47))
        → option_map {U = List ℕ × List ℕ} (λ p. (p.0.now, p.1.now)) r ≡ at_slash s
    by None h = sym (no_slash s h)
    by (Some x) h = sym (ap at_slash h.0 ∙ first_slash x.0.now x.1.now h.1)

-- by characters

abbrev pub halves : Option (List ℕ × List ℕ) → Option (List ℕ × List ℕ)
halves None = None
halves (Some q) = Some (encode_utf8_all q.0, encode_utf8_all q.1)

-- the same with bytes before
abbrev after_bytes : List ℕ → Option (List ℕ × List ℕ) → Option (List ℕ × List ℕ)
after_bytes bs None = None
after_bytes bs (Some q) = Some (bs ++ q.0, q.1)

past_dotless : (bs rest : List ℕ) → ((i : ℕ) → i < length bs → get_or bs i 0 ≢ 46) → at_last_dot (bs ++ rest) ≡ after_bytes bs (at_last_dot rest)
past_dotless [] rest h = by (at_last_dot rest)
  where
    by : (o : Option (List ℕ × List ℕ)) → o ≡ after_bytes [] o
    by None = refl
    by (Some q) = refl
past_dotless (c ∷ bs) rest h = by (at_last_dot rest) (at_last_dot (bs ++ rest)) (past_dotless bs rest (λ i lt. h (suc i) (omega arith))) (ne_eqb c 46 (h 0 (omega arith)))
  where
    by : (o later : Option (List ℕ × List ℕ)) → later ≡ after_bytes bs o → (c == 46) ≡ false → or_else (behind c later) (if c == 46 then Some ([], bs ++ rest) else None) ≡ after_bytes (c ∷ bs) o
    by None later e test = rw (e, test) refl
    by (Some q) later e test = rw e refl

past_slashless : (bs rest : List ℕ) → ((i : ℕ) → i < length bs → get_or bs i 0 ≢ 47) → at_slash (bs ++ rest) ≡ after_bytes bs (at_slash rest)
past_slashless [] rest h = by (at_slash rest)
  where
    by : (o : Option (List ℕ × List ℕ)) → o ≡ after_bytes [] o
    by None = refl
    by (Some q) = refl
past_slashless (c ∷ bs) rest h = by (at_slash rest) (at_slash (bs ++ rest)) (past_slashless bs rest (λ i lt. h (suc i) (omega arith))) (ne_eqb c 47 (h 0 (omega arith)))
  where
    by : (o later : Option (List ℕ × List ℕ)) → later ≡ after_bytes bs o → (c == 47) ≡ false → (if c == 47 then Some ([], bs ++ rest) else behind c later) ≡ after_bytes (c ∷ bs) o
    by None later e test = rw (e, test) refl
    by (Some q) later e test = rw (e, test) refl

-- no byte of another character is this ASCII character
no_byte : (c d : ℕ) → (c ≢ d) → d < 128 → (i : ℕ) → i < length (encode_utf8 c) → get_or (encode_utf8 c) i 0 ≢ d
no_byte c d differs small i lt e =
    let below : get_or (encode_utf8 c) i 0 < 128 = omega arith in
    differs (inside_one c [] (encode_utf8 c) i (sym (append-nil (encode_utf8 c))) lt below ∙ e)

differs_by : (c d : ℕ) → (c == d) ≡ false → c ≢ d
differs_by c d test e = grind (arith, nat_tests)

as_byte : (d : ℕ) → d < 128 → encode_utf8 d ≡ d ∷ []
as_byte d small = encode_ascii d small

dot_byte : encode_utf8 46 ≡ 46 ∷ []
dot_byte = as_byte 46 (omega arith)

slash_byte : encode_utf8 47 ≡ 47 ∷ []
slash_byte = as_byte 47 (omega arith)

pub dots_by_bytes : (t : List ℕ) → at_last_dot (encode_utf8_all t) ≡ halves (at_last_dot t)
dots_by_bytes [] = refl
dots_by_bytes (c ∷ t) = by (c == 46) refl (at_last_dot t) (dots_by_bytes t)
  where
    same : (o later : Option (List ℕ × List ℕ)) → later ≡ halves o → or_else (behind 46 later) (Some ([], encode_utf8_all t)) ≡ halves (or_else (behind 46 o) (Some ([], t)))
    same None later e = rw e refl
    same (Some q) later e = rw (e, dot_byte) refl

    other : (o later : Option (List ℕ × List ℕ)) → later ≡ halves o → after_bytes (encode_utf8 c) later ≡ halves (or_else (behind c o) None)
    other None later e = rw e refl
    other (Some q) later e = rw e refl

    by : (b : Bool) → (c == 46) ≡ b → (o : Option (List ℕ × List ℕ)) → at_last_dot (encode_utf8_all t) ≡ halves o
        → at_last_dot (encode_utf8 c ++ encode_utf8_all t) ≡ halves (or_else (behind c o) (if c == 46 then Some ([], t) else None))
    by true test o e =
        let is : c ≡ 46 = grind (arith, nat_tests) in
        rw is (ap (λ bs. at_last_dot (bs ++ encode_utf8_all t)) dot_byte ∙ same o (at_last_dot (encode_utf8_all t)) e)
    by false test o e = past_dotless (encode_utf8 c) (encode_utf8_all t) (no_byte c 46 (differs_by c 46 test) (omega arith))
        ∙ rw test (other o (at_last_dot (encode_utf8_all t)) e)

pub slashes_by_bytes : (t : List ℕ) → at_slash (encode_utf8_all t) ≡ halves (at_slash t)
slashes_by_bytes [] = refl
slashes_by_bytes (c ∷ t) = by (c == 47) refl (at_slash t) (slashes_by_bytes t)
  where
    other : (o later : Option (List ℕ × List ℕ)) → later ≡ halves o → after_bytes (encode_utf8 c) later ≡ halves (behind c o)
    other None later e = rw e refl
    other (Some q) later e = rw e refl

    by : (b : Bool) → (c == 47) ≡ b → (o : Option (List ℕ × List ℕ)) → at_slash (encode_utf8_all t) ≡ halves o
        → at_slash (encode_utf8 c ++ encode_utf8_all t) ≡ halves (if c == 47 then Some ([], t) else behind c o)
    by true test o e =
        let is : c ≡ 47 = grind (arith, nat_tests) in
        rw is (ap (λ bs. at_slash (bs ++ encode_utf8_all t)) slash_byte)
    by false test o e = past_slashless (encode_utf8 c) (encode_utf8_all t) (no_byte c 47 (differs_by c 47 test) (omega arith))
        ∙ rw test (other o (at_slash (encode_utf8_all t)) e)
