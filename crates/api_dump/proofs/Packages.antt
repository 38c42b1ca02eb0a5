-- The last part of a name, and those before it, which are its package.
use Rattle.std.proofs.Common.{◌≡◌, ◌<◌, ◌≤◌, ◌-◌, arith, List, [], ◌∷◌, ◌++◌, length, get_or, take, refl, sym, ap}
use native.Mathlib.Numerals.{unary_clauses}
use Rattle.aidl_base.specs.declared.name.Ident.{Ident}
use Rattle.aidl_base.specs.declared.reserved.Reserved.TheVariants as word
use Rattle.aidl_schema.specs.Names.{last_part, without_last}
use Rattle.aidl_syntax.specs.declared.token.Symbol.TheVariants as mark
use Rattle.api_dump.specs.Pieces.{dotted, reserved, sign}
use Rattle.api_dump.specs.Pieces.Piece.{space, newline}
use Rattle.api_dump.specs.Dump.{package_line}

pub last_is : (xs : List Ident) (x : Ident) → 0 < length xs → x ≡ get_or xs (length xs - 1) x → last_part xs ≡ x.0
last_is [] x lt e = absurd (omega arith)
last_is (i ∷ []) x lt e = ap (λ y. y.0) (sym e)
last_is (i ∷ j ∷ is) x lt e = last_is (j ∷ is) x (omega arith) (simp unary_clauses (simp unary_clauses at e))

before_last : (xs : List Ident) → without_last xs ≡ take (length xs - 1) xs
before_last [] = refl
before_last (i ∷ []) = refl
before_last (i ∷ j ∷ is) = simp unary_clauses (ap (λ js. i ∷ js) (simp unary_clauses at (before_last (j ∷ is))))

pub package_none : (is : List Ident) → length is < 2 → package_line (without_last is) ≡ []
package_none [] lt = refl
package_none (i ∷ []) lt = refl
package_none (i ∷ j ∷ is) lt = absurd (omega arith)

pub package_some : (is : List Ident) → 2 ≤ length is
    → package_line (without_last is) ≡ (reserved word.Package ∷ space ∷ []) ++ (dotted (take (length is - 1) is) ++ (sign mark.Semicolon ∷ newline ∷ []))
package_some [] le = absurd (omega arith)
package_some (i ∷ []) le = absurd (omega arith)
package_some (i ∷ j ∷ is) le = ap (λ js. (reserved word.Package ∷ space ∷ []) ++ (dotted js ++ (sign mark.Semicolon ∷ newline ∷ []))) (before_last (i ∷ j ∷ is))
