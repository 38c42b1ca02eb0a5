-- Token lists that a tree can still stand for once more tokens come, and where that ends (own).
use Rattle.std.specs.Prelude.{◌≡◌, ◌+◌, ◌<◌, ◌⊎◌, ℕ, List, ◌++◌, length, take}
use Rattle.aidl_syntax.specs.declared.token.Token.{Token}
use Rattle.aidl_syntax.specs.Trees.{File}
use Rattle.aidl_syntax.specs.Productions.{IsFile}

-- A tree stands for the tokens.
abbrev pub HasTree : List Token → Type 0
HasTree tokens = (tree : File) × IsFile tokens tree

-- The tokens are viable: they are a prefix of some token list for which a tree stands. No limit is asked of that list.
abbrev pub Viable : List Token → Type 0
Viable tokens = (more : List Token) × HasTree (tokens ++ more)

-- The first k tokens are viable, and either they are all or the first k + 1 aren't.
abbrev pub IsFaultPlace : List Token → ℕ → Type 0
IsFaultPlace tokens k = Viable (take k tokens)
    × ((k ≡ length tokens) ⊎ ((k < length tokens) × (Viable (take (k + 1) tokens) → ⊥)))
