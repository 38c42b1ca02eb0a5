-- The bytes of pieces, one row behind another.
use Rattle.std.proofs.Common.{◌≡◌, ℕ, zero, suc, ◌+◌, List, [], ◌∷◌, ◌++◌, add-one, refl, sym, ap, ◌∙◌, append_assoc, append-nil, length-drop}
use Rattle.std.proofs.lemmas.Grind.{flat_map-append, take_at_read}
use Rattle.std.proofs.lemmas.List.{take_all}
use Rattle.std.proofs.lemmas.Str.{encode_ascii}
use Rattle.api_dump.specs.Pieces.{Piece, spell, text_of}
use Rattle.api_dump.specs.Declarations.{indent}

pub text_append : (ps qs : List Piece) → text_of (ps ++ qs) ≡ text_of ps ++ text_of qs
text_append [] qs = refl
text_append (p ∷ ps) qs = ap (λ t. spell p ++ t) (text_append ps qs) ∙ sym (append_assoc (spell p) (text_of ps) (text_of qs))

-- one more level
pub indent_more : (n : ℕ) → text_of (indent (n + 1)) ≡ text_of (indent n) ++ 32 ∷ 32 ∷ []
indent_more n = ap (λ (k : ℕ). text_of (indent k)) (add-one n) ∙ more n
  where
    more : (n : ℕ) → text_of (indent (suc n)) ≡ text_of (indent n) ++ 32 ∷ 32 ∷ []
    more zero = refl
    more (suc n) = ap (λ t. 32 ∷ 32 ∷ t) (more n)

-- what adds pieces behind others, for `grind`
pub ruleset behind = (text_append, indent_more, append_assoc, append-nil, flat_map-append, take_at_read, take_all, length-drop, add-one, encode_ascii)
