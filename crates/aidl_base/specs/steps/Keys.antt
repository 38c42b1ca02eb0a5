-- A reserved word is looked up by its length and its first byte: no two have both alike.
use Rattle.std.specs.Prelude.{ℕ, Bool, ◌&&◌, ◌==◌, List, [], ◌∷◌, length, Option, Some, None}
use Rattle.std.specs.List.{filter}
use Rattle.aidl_base.specs.declared.reserved.Reserved.{Reserved}
use Rattle.aidl_base.specs.Identifiers.{begins}
use Rattle.aidl_base.specs.Reserved.{word_of, all_reserved}

-- the word is of this length and begins with this byte
abbrev pub has_key : ℕ → ℕ → Reserved → Bool
has_key len first word = len == length (word_of word) && begins (λ b. first == b) (word_of word)

-- all reserved words with this key
abbrev pub of_key : ℕ → ℕ → List Reserved
of_key len first = filter (has_key len first) all_reserved

abbrev pub those_of : Option Reserved → List Reserved
those_of None = []
those_of (Some word) = word ∷ []
