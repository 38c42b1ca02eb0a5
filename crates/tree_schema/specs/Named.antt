-- The names in a tree are identifiers (AOSP, "AIDL language").
use Rattle.std.specs.Prelude.{◌≡◌, true}
use Rattle.std.specs.List.{All}
use Rattle.aidl_base.specs.Identifiers.{is_identifier}
use Rattle.aidl_syntax.specs.Walks.{names_of}
use Rattle.aidl_syntax.specs.Sources.{Source}

-- each name, and each part of a dotted name
abbrev pub HasIdentifiers : Source → Type 0
HasIdentifiers s = All (λ i. is_identifier i.0 ≡ true) (names_of s.tree)
