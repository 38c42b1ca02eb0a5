-- Readers of initializers and annotations.
use Rattle.std.specs.Prelude.{ℕ, Bool, false, not, ◌&&◌, if◌then◌else◌, List, [], ◌∷◌, Option, Some, is_some}
use Rattle.aidl_syntax.specs.declared.token.Symbol.TheVariants as mark
use Rattle.aidl_syntax.specs.declared.token.Token.{Token}
use Rattle.aidl_syntax.specs.declared.tree.NameTree.{NameTree}
use Rattle.aidl_syntax.specs.Trees.{Expr, Init, Param, Annot}
use Rattle.aidl_syntax.specs.Trees.Init.{single, braces}
use Rattle.aidl_syntax.specs.Productions as form
use Rattle.expr_parser.specs.Reading.{Read, mark_of, name_of, expr}
use Rattle.aidl_parser.specs.steps.Parts.{is_symbol, begins, quoted, both, alter, fore, behind, upto, placed, maybe}
use Rattle.aidl_parser.specs.steps.Parts.{many, listed}
use Rattle.aidl_parser.specs.steps.Types.{ident}

abbrev pub expr_at : ℕ → List Token → Read Expr
expr_at n ts = expr n 1 ts

-- a comma, and not the closing brace behind it
abbrev pub goes_inside : List Token → Bool
goes_inside [] = false
goes_inside (t ∷ ts) = is_symbol mark.Comma (mark_of t.kind) && not (begins mark.CloseBrace ts)

-- x {"," x} [","], before "}"
unfoldable pub trailing : {A : Type 0} → ℕ → (List Token → Read A) → List Token → Read (List A)
trailing n r = alter fore (both (listed n goes_inside r) (maybe (begins mark.Comma) (quoted mark.Comma)))

-- [x {"," x} [","]], before "}"
unfoldable pub maybe_trailing : {A : Type 0} → ℕ → (List Token → Read A) → List Token → Read (List A)
maybe_trailing n r ts = if begins mark.CloseBrace ts then Some ([], ts) else trailing n r ts

-- [x {"," x}], before ")"
unfoldable pub maybe_listed : {A : Type 0} → ℕ → (List Token → Read A) → List Token → Read (List A)
maybe_listed n r ts = if begins mark.CloseParen ts then Some ([], ts) else listed n (begins mark.Comma) r ts

unfoldable pub braces_at : ℕ → List Token → Read Init
braces_at n = placed braces (behind mark.OpenBrace (upto (maybe_trailing n (expr_at n)) mark.CloseBrace))

unfoldable pub init_at : ℕ → List Token → Read Init
init_at n ts = if begins mark.OpenBrace ts then braces_at n ts else alter single (expr_at n) ts

-- ident "="
abbrev pub begins_named : List Token → Bool
begins_named [] = false
begins_named (t ∷ ts) = is_some (name_of t.kind) && begins mark.Equal ts

abbrev pub param_made : ℕ → Option NameTree × Init → Param
param_made o x = record { offset = o; name = x.0; value = x.1 }

unfoldable pub param_at : ℕ → List Token → Read Param
param_at n = placed param_made (both (maybe begins_named (upto ident mark.Equal)) (init_at n))

unfoldable pub params_at : ℕ → List Token → Read (List Param)
params_at n = behind mark.OpenParen (upto (maybe_listed n (param_at n)) mark.CloseParen)

abbrev pub annot_made : ℕ → NameTree × Option (List Param) → Annot
annot_made o x = record { offset = o; name = x.0; params = form.listed x.1 }

unfoldable pub annot_at : ℕ → List Token → Read Annot
annot_at n = placed annot_made (behind mark.At (both ident (maybe (begins mark.OpenParen) (params_at n))))

unfoldable pub annots_at : ℕ → List Token → Read (List Annot)
annots_at n = many n (begins mark.At) (annot_at n)
