-- What a tree keeps: its places ascend, and each literal holds what its kind may hold.
use Rattle.std.specs.List.{All}
use Rattle.std.specs.List.Sorted.{IsStrictlyIncreasing}
use Rattle.aidl_syntax.specs.declared.token.Token.{Token}
use Rattle.aidl_syntax.specs.Parses.{Holds}
use Rattle.aidl_syntax.specs.Sources.{Source}
use Rattle.aidl_syntax.specs.Walks.{literals_of, places_of}

abbrev pub ArePlaced : Source → Type 0
ArePlaced s = IsStrictlyIncreasing (places_of s.tree)

abbrev pub AreHeld : Source → Type 0
AreHeld s = All (λ (t : Token). Holds t.kind) (literals_of s.tree)
