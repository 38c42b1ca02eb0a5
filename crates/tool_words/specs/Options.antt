-- Options among the words: each may stand where the table shows it, and there alone (own).
use Rattle.std.specs.Prelude.{ℕ, Bool, false, ◌&&◌, if◌then◌else◌, List, [], ◌∷◌, Option, Some, None, codes, bytes_eq}
use Rattle.tool_words.specs.Paths.{is_path}

-- a flag stands first
abbrev pub has_flag : List ℕ → List (List ℕ) → Bool
has_flag flag [] = false
has_flag flag (word ∷ words) = bytes_eq word flag

-- the words after a flag, where it stands first
abbrev pub after_flag : List ℕ → List (List ℕ) → List (List ℕ)
after_flag flag [] = []
after_flag flag (word ∷ words) = if bytes_eq word flag then words else word ∷ words

abbrev pub is_tree : List ℕ → List ℕ → Bool
is_tree word tree = bytes_eq word (codes "--tree") && is_path tree

-- TREE, where `--tree TREE` stands first
abbrev pub tree_of : List (List ℕ) → Option (List ℕ)
tree_of [] = None
tree_of (word ∷ []) = None
tree_of (word ∷ tree ∷ words) = if is_tree word tree then Some tree else None

-- the words after it
abbrev pub after_tree : List (List ℕ) → List (List ℕ)
after_tree [] = []
after_tree (word ∷ []) = word ∷ []
after_tree (word ∷ tree ∷ words) = if is_tree word tree then words else word ∷ tree ∷ words
