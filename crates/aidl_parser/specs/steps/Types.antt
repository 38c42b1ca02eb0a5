-- Readers of types.
use Rattle.std.specs.Prelude.{ℕ, Bool, true, false, if◌then◌else◌, List, [], ◌∷◌, Option, Some, None}
use Rattle.aidl_base.specs.declared.name.Ident.{Ident}
use Rattle.aidl_syntax.specs.declared.token.Symbol.TheVariants as mark
use Rattle.aidl_syntax.specs.declared.token.Token.{Token}
use Rattle.aidl_syntax.specs.declared.tree.NameTree.{NameTree}
use Rattle.aidl_syntax.specs.declared.tree.DottedTree.{DottedTree}
use Rattle.aidl_syntax.specs.declared.tree.TypeTree.{TypeTree}
use Rattle.expr_parser.specs.Reading.{Read, name_of, dotted}
use Rattle.aidl_parser.specs.steps.Parts.{begins, quoted, both, alter, behind, upto, placed, maybe}

abbrev pub ident_by : Option Ident → Token → List Token → Read NameTree
ident_by None t ts = None
ident_by (Some i) t ts = let n : NameTree = record { offset = t.offset; name = i } in Some (n, ts)

abbrev pub ident : List Token → Read NameTree
ident [] = None
ident (t ∷ ts) = ident_by (name_of t.kind) t ts

-- "<" dotted ">"
unfoldable pub element : List Token → Read DottedTree
element = behind mark.Less (upto dotted mark.Greater)

abbrev pub as_true : {A : Type 0} → A → Bool
as_true x = true

-- ["[" "]"]
unfoldable pub array : List Token → Read Bool
array ts = if begins mark.OpenBracket ts
    then alter as_true (both (quoted mark.OpenBracket) (quoted mark.CloseBracket)) ts else Some (false, ts)

abbrev pub typed : ℕ → DottedTree × (Option DottedTree × Bool) → TypeTree
typed o x = record { offset = o; name = x.0; element = x.1.0; array = x.1.1 }

unfoldable pub type_at : List Token → Read TypeTree
type_at = placed typed (both dotted (both (maybe (begins mark.Less) element) array))
