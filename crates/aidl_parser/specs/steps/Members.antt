-- Readers of what stands in a declaration, of a member what follows its annotations.
use Rattle.std.specs.Prelude.{ℕ, Bool, false, if◌then◌else◌, List, Option, Some, None}
use Rattle.aidl_base.specs.declared.reserved.Reserved.TheVariants as word
use Rattle.aidl_syntax.specs.declared.token.Symbol.TheVariants as mark
use Rattle.aidl_syntax.specs.declared.token.Token.{Token}
use Rattle.aidl_syntax.specs.declared.tree.NameTree.{NameTree}
use Rattle.aidl_syntax.specs.declared.tree.TypeTree.{TypeTree}
use Rattle.aidl_syntax.specs.Trees.{Expr, Init, Arg}
use Rattle.expr_parser.specs.Reading.{Read}
use Rattle.aidl_parser.specs.steps.Parts.{begins, begins_word, worded, both, alter, second, behind, upto, maybe}
use Rattle.aidl_parser.specs.steps.Parts.{as_some}
use Rattle.aidl_parser.specs.steps.Types.{ident, as_true, type_at}
use Rattle.aidl_parser.specs.steps.Inits.{expr_at, init_at, maybe_listed}
use Rattle.aidl_parser.specs.steps.Items.{arg_at, number_at}

-- "=" init
unfoldable pub initial_at : ℕ → List Token → Read Init
initial_at n = behind mark.Equal (init_at n)

-- type ident ["=" init] ";"
unfoldable pub field_at : ℕ → List Token → Read (TypeTree × (NameTree × Option Init))
field_at n = both type_at (both ident (upto (maybe (begins mark.Equal) (initial_at n)) mark.Semicolon))

-- "=" expr ";"
unfoldable pub value_at : ℕ → List Token → Read Expr
value_at n = behind mark.Equal (upto (expr_at n) mark.Semicolon)

-- "const" type ident "=" expr ";"
unfoldable pub constant_at : ℕ → List Token → Read (TypeTree × (NameTree × Expr))
constant_at n = alter second (both (worded word.Const) (both type_at (both ident (value_at n))))

-- "(" [arg {"," arg}] ")"
unfoldable pub args_at : ℕ → List Token → Read (List Arg)
args_at n = behind mark.OpenParen (upto (maybe_listed n (arg_at n)) mark.CloseParen)

-- ["oneway"]
unfoldable pub oneway_at : List Token → Read Bool
oneway_at ts = if begins_word word.Oneway ts then alter as_true (worded word.Oneway) ts else Some (false, ts)

abbrev pub as_none : {A B : Type 0} → A → Option B
as_none x = None

-- type | "void"
unfoldable pub returned_at : List Token → Read (Option TypeTree)
returned_at ts = if begins_word word.Void ts then alter as_none (worded word.Void) ts else alter as_some type_at ts

-- "=" number
unfoldable pub id_at : List Token → Read Token
id_at = behind mark.Equal number_at

-- ["oneway"] (type | "void") ident "(" [arg {"," arg}] ")" ["=" number] ";"
unfoldable pub method_at : ℕ → List Token → Read (Bool × (Option TypeTree × (NameTree × (List Arg × Option Token))))
method_at n = both oneway_at
    (both returned_at (both ident (both (args_at n) (upto (maybe (begins mark.Equal) id_at) mark.Semicolon))))
