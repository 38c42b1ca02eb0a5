-- Readers of what stands in lists and of numbers: enumerators, arguments, and the number of a method.
use Rattle.std.specs.Prelude.{ℕ, Bool, true, false, if◌then◌else◌, List, [], ◌∷◌, Option, Some, None}
use Rattle.aidl_base.specs.declared.reserved.Reserved.TheVariants as word
use Rattle.aidl_syntax.specs.declared.token.Symbol.TheVariants as mark
use Rattle.aidl_syntax.specs.declared.token.TokenKind.{TokenKind}
use Rattle.aidl_syntax.specs.declared.token.TokenKind.TheVariants as kind
use Rattle.aidl_syntax.specs.declared.token.Token.{Token}
use Rattle.aidl_syntax.specs.declared.tree.NameTree.{NameTree}
use Rattle.aidl_syntax.specs.declared.tree.TypeTree.{TypeTree}
use Rattle.aidl_syntax.specs.declared.tree.WayTree.{WayTree}
use Rattle.aidl_syntax.specs.declared.tree.WayTree.TheVariants as way
use Rattle.aidl_syntax.specs.Parts.{first}
use Rattle.aidl_syntax.specs.Trees.{Expr, Annot, Enumerator, Arg}
use Rattle.expr_parser.specs.Reading.{Read, ◌>>=◌}
use Rattle.aidl_parser.specs.steps.Parts.{begins, both, alter, behind, placed, maybe, with_items}
use Rattle.aidl_parser.specs.steps.Types.{ident, type_at}
use Rattle.aidl_parser.specs.steps.Inits.{expr_at, annots_at}

-- "=" expr
unfoldable pub given_at : ℕ → List Token → Read Expr
given_at n = behind mark.Equal (expr_at n)

abbrev pub enumerator_made : ℕ → NameTree × Option Expr → Enumerator
enumerator_made o x = record { offset = o; name = x.0; value = x.1 }

unfoldable pub enumerator_at : ℕ → List Token → Read Enumerator
enumerator_at n = placed enumerator_made (both ident (maybe (begins mark.Equal) (given_at n)))

-- the direction that a token is
abbrev pub way_of : TokenKind → Option WayTree
way_of (kind.Word word.In) = Some way.In
way_of (kind.Word word.Out) = Some way.Out
way_of (kind.Word word.InOut) = Some way.InOut
way_of _ = None

abbrev pub way_by : Option WayTree → Token → List Token → Read (Option WayTree)
way_by None t ts = Some (None, t ∷ ts)
way_by (Some w) t ts = Some (Some w, ts)

-- ["in" | "out" | "inout"]
abbrev pub way_at : List Token → Read (Option WayTree)
way_at [] = Some (None, [])
way_at (t ∷ ts) = way_by (way_of t.kind) t ts

abbrev pub arg_made : ℕ → List Annot → Option WayTree → TypeTree × NameTree → Arg
arg_made o annots w x = record { offset = o; annots = annots; way = w; ty = x.0; name = x.1 }

abbrev pub arg_ends : ℕ → Option WayTree → List Annot × List Token → Read Arg
arg_ends o w a = alter (arg_made o a.0 w) (both type_at ident) a.1

abbrev pub arg_goes_on : ℕ → ℕ → List Annot → Option WayTree × List Token → Read Arg
arg_goes_on n o annots w = with_items annots (annots_at n w.1) >>= arg_ends o w.0

abbrev pub arg_begins : ℕ → ℕ → List Annot × List Token → Read Arg
arg_begins n o a = way_at a.1 >>= arg_goes_on n o a.0

-- the annotations behind a direction are read behind those before it
unfoldable pub arg_at : ℕ → List Token → Read Arg
arg_at n ts = annots_at n ts >>= arg_begins n (first ts)

abbrev pub is_number : TokenKind → Bool
is_number (kind.Number bits hexadecimal long) = true
is_number _ = false

abbrev pub number_at : List Token → Read Token
number_at [] = None
number_at (t ∷ ts) = if is_number t.kind then Some (t, ts) else None
