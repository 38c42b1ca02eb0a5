-- The places of a tree of at most 262,144 bytes lie below that number.
use Rattle.std.specs.Prelude.{ℕ, ◌<◌, List}
use Rattle.std.specs.List.{All}
use Rattle.aidl_syntax.specs.Walks.{places_of}
use Rattle.aidl_syntax.specs.Sources.{Source}

abbrev pub Small : List ℕ → Type 0
Small = All (λ o. o < 262144)

abbrev pub HasSmall : Source → Type 0
HasSmall s = Small (places_of s.tree)
