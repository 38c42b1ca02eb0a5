-- The numbers of a range that starts at 0, one after another.
use Rattle.std.proofs.Common.{◌≡◌, ℕ, zero, suc, ◌+◌, List, [], ◌∷◌, ◌++◌, sym, ap, ◌∙◌, append-nil, arith, add-one}
use Rattle.std.proofs.lemmas.Grind.{flat_map-append}
use Rattle.std.specs.List.{flat_map, range_with_len}
use Rattle.tree_make.specs.Made.{calls_of}

range_more : (a n : ℕ) → range_with_len a (suc n) ≡ range_with_len a n ++ (a + n) ∷ []
range_more a zero = let k : a ≡ a + 0 = omega arith in ap (λ j. j ∷ []) k
range_more a (suc n) = let k : a + 1 + n ≡ a + suc n = omega arith in ap (λ js. a ∷ js) (range_more (a + 1) n ∙ ap (λ j. range_with_len (a + 1) n ++ j ∷ []) k)

-- the next number
pub range_next : (k : ℕ) → range_with_len 0 (k + 1) ≡ range_with_len 0 k ++ k ∷ []
range_next k =
    let same : 0 + k ≡ k = omega arith in
    rw add-one (range_more 0 k ∙ ap (λ j. range_with_len 0 k ++ j ∷ []) same)

-- the calls of the next number
pub one_more : (k : ℕ) {text : List ℕ} → text ≡ flat_map calls_of (range_with_len 0 k) → text ++ calls_of k ≡ flat_map calls_of (range_with_len 0 (k + 1))
one_more k e =
    ap (λ t. t ++ calls_of k) e ∙ ap (λ t. flat_map calls_of (range_with_len 0 k) ++ t) (sym (append-nil (calls_of k)))
    ∙ sym (flat_map-append calls_of (range_with_len 0 k) (k ∷ [])) ∙ ap (flat_map calls_of) (sym (range_next k))
