-- A text is cut at its last dot.
use Rattle.std.proofs.Common.{◌≡◌, ◌≢◌, ℕ, suc, ◌<◌, ◌==◌, false, List, [], ◌∷◌, ◌++◌, length, get_or, take, drop, Option, Some, None, option_map, Bor, refl, sym, ap, ◌∙◌, arith, take-append-drop}
use Rattle.std.specs.Prelude.{MatchOption}
use Rattle.std.specs.Str.Pattern.{RFindsChar, SplitsAroundMatch}
use Rattle.std.proofs.lemmas.Bool.{ne_eqb}
use Rattle.std.proofs.lemmas.Str.Pattern.{NoCharPasses-char, drop_at_char}
use Rattle.wire_model.specs.Dots.{at_last_dot}

no_dot : (s : List ℕ) → ((i : ℕ) → i < length s → get_or s i 0 ≢ 46) → at_last_dot s ≡ None
no_dot [] h = refl
no_dot (c ∷ s) h =
    let later = no_dot s (λ i lt. h (suc i) (omega arith)) in
    let test : (c == 46) ≡ false = ne_eqb c 46 (h 0 (omega arith)) in
    rw (later, test) refl

at_dot : (front back : List ℕ) → at_last_dot back ≡ None → at_last_dot (front ++ 46 ∷ back) ≡ Some (front, back)
at_dot [] back h = rw h refl
at_dot (c ∷ front) back h = let later = at_dot front back h in rw later refl

-- the clause of `rsplit_once`
pub cut : (s : List ℕ) (r : Option (Bor (List ℕ) × Bor (List ℕ))) → MatchOption r (RFindsChar 46 s None) (λ x. SplitsAroundMatch (RFindsChar 46) s x.0.now x.1.now)
    → option_map {U = List ℕ × List ℕ} (λ p. (p.0.now, p.1.now)) r ≡ at_last_dot s
cut s None h = sym (no_dot s (λ i lt. NoCharPasses-char 46 s i h (omega arith) lt))
cut s (Some x) h =
    let i = h.0 in
    let j = h.1 in
    let found = h.2 in
    let back : drop i s ≡ 46 ∷ drop j s = drop_at_char 46 s i j found.1 (omega arith) in
    let free = no_dot (drop j s) (λ k lt. NoCharPasses-char 46 (drop j s) k found.0 (omega arith) lt) in
    let whole : s ≡ take i s ++ 46 ∷ drop j s = sym (take-append-drop i s) ∙ ap (λ l. take i s ++ l) back in
    let there : Some (take i s, drop j s) ≡ at_last_dot s = sym (ap at_last_dot whole ∙ at_dot (take i s) (drop j s) free) in
    let front = h.3 in
    let rest = h.4 in
    ap (λ f. Some (f, x.1.now)) front ∙ ap (λ b. Some (take i s, b)) rest ∙ there
