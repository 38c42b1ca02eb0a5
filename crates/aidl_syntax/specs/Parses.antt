-- Bytes and the tree that they stand for, and what a token may hold.
use Rattle.std.specs.Prelude.{◌≡◌, ◌≤◌, ℕ, Bool, true, false, List}
use Rattle.std.specs.List.{list_all}
use Rattle.aidl_base.specs.Identifiers.{is_identifier}
use Rattle.aidl_syntax.specs.declared.token.Token.{Token}
use Rattle.aidl_syntax.specs.declared.token.TokenKind.{TokenKind}
use Rattle.aidl_syntax.specs.declared.token.TokenKind.TheVariants as kind
use Rattle.aidl_syntax.specs.declared.tree.FileTree.{FileTree}
use Rattle.aidl_syntax.specs.Bytes.{is_inside}
use Rattle.aidl_syntax.specs.Productions.{Tree}
use Rattle.aidl_syntax.specs.Tokens.{Tokens}

-- the greatest value of a number of one of the two forms, decimal and hexadecimal
abbrev pub most_bits : Bool → ℕ
most_bits false = 9223372036854775807
most_bits true = 18446744073709551615

-- what a token of each kind holds
abbrev pub Holds : TokenKind → Type 0
Holds (kind.Name text) = is_identifier text ≡ true
Holds (kind.Word word) = Unit {0}
Holds (kind.Number bits hexadecimal long) = bits ≤ most_bits hexadecimal
Holds (kind.Character c) = is_inside 39 c ≡ true
Holds (kind.Str text) = list_all (is_inside 34) text ≡ true
Holds (kind.Mark symbol) = Unit {0}

-- the tree of a file, by the tokens of its bytes
abbrev pub FileParse : List ℕ → FileTree → Type 0
FileParse bytes tree = (tokens : List Token) × Tokens bytes tokens × Tree tokens tree
