-- A text cut at each place where a byte stands (own).
use Rattle.std.specs.Prelude.{ℕ, ◌==◌, if◌then◌else◌, List, [], ◌∷◌, Option, Some, None}

-- a byte in front of the first piece
abbrev pub onto_first : ℕ → List (List ℕ) → List (List ℕ)
onto_first b [] = (b ∷ []) ∷ []
onto_first b (piece ∷ pieces) = (b ∷ piece) ∷ pieces

-- the pieces between the marks: one more than there are marks
abbrev pub cut_at : ℕ → List ℕ → List (List ℕ)
cut_at mark [] = [] ∷ []
cut_at mark (b ∷ text) = if b == mark then [] ∷ cut_at mark text else onto_first b (cut_at mark text)

-- those of what stands after a mark, where one stands
abbrev pub pieces_left : ℕ → Option (List ℕ) → List (List ℕ)
pieces_left mark None = []
pieces_left mark (Some text) = cut_at mark text
