-- The law of whole files.
use Rattle.std.proofs.Common.{ℕ, List, [], ◌∷◌, Option, refl}
use Rattle.aidl_base.specs.declared.reserved.Reserved.TheVariants as word
use Rattle.aidl_syntax.specs.declared.token.Symbol.TheVariants as mark
use Rattle.aidl_syntax.specs.declared.tree.DottedTree.{DottedTree}
use Rattle.aidl_syntax.specs.Parts.{Then, Maybe, Many, Before}
use Rattle.parse_places.specs.declared.terminal.Terminal.TheVariants as terminal
use Rattle.parse_places.specs.declared.expected.Part.TheVariants as part
use Rattle.parse_places.specs.declared.expected.Expected.{Expected}
use Rattle.parse_places.specs.declared.expected.Expected.TheVariants as expected
use Rattle.parse_places.specs.declared.expected.Expected.TheVariants.{Token, Once}
use Rattle.parse_places.specs.steps.Rows.{row}
use Rattle.parse_places.proofs.Tokens.{kind_of, is_one}
use Rattle.aidl_syntax.specs.Trees.{Decl, File}
use Rattle.aidl_syntax.specs.Productions.{IsDotted, IsDecl, Named, IsFile}
use Rattle.parse_places.proofs.productions.Laws.{Law, both_law, behind_law, before_law, placed_law, Only, part_law, maybe_law}
use Rattle.parse_places.proofs.productions.Lists.{many_law}
use Rattle.parse_places.proofs.productions.TypeLaws.{dotted_stack, dotted_law}
use Rattle.parse_places.proofs.productions.DeclLaws.{declared, decl_law}

-- file = ["package" dotted ";"] {"import" dotted ";"} decl

abbrev named_stack : List Expected
named_stack = Token terminal.Name ∷ expected.Many part.DotName ∷ Token terminal.Semicolon ∷ []

package_only : Only part.Package terminal.Package named_stack
unfolding row
package_only terminal.Package es e = (refl, cc)
package_only _ es e = cc

import_only : Only part.Import terminal.Import named_stack
unfolding row
import_only terminal.Import es e = (refl, cc)
import_only _ es e = cc

package_law : (n : ℕ) → Law n (Once part.Package ∷ []) (Named word.Package)
unfolding row kind_of is_one
package_law n =
    part_law n part.Package terminal.Package named_stack (Named word.Package) refl package_only
    (behind_law n terminal.Package named_stack (Before IsDotted mark.Semicolon) refl (before_law n terminal.Semicolon dotted_stack IsDotted refl (dotted_law n)))

import_law : (n : ℕ) → Law n (Once part.Import ∷ []) (Named word.Import)
unfolding row kind_of is_one
import_law n =
    part_law n part.Import terminal.Import named_stack (Named word.Import) refl import_only
    (behind_law n terminal.Import named_stack (Before IsDotted mark.Semicolon) refl (before_law n terminal.Semicolon dotted_stack IsDotted refl (dotted_law n)))

file_made : ℕ → Option DottedTree × (List DottedTree × Decl) → File
file_made o x = record { offset = o; «package» = x.0; imports = x.1.0; declared = x.1.1 }

pub file_law : (n : ℕ) → Law n (expected.Maybe part.Package ∷ expected.Many part.Import ∷ expected.Many part.Annotation ∷ Once part.Body ∷ []) IsFile
unfolding file_made
file_law n =
    placed_law n (expected.Maybe part.Package ∷ expected.Many part.Import ∷ declared) (Then (Maybe (Named word.Package)) (Then (Many (Named word.Import)) IsDecl)) file_made
    (λ f. (f.package, (f.imports, f.declared))) (λ f. f.offset) (λ o x. refl) (λ o x. refl)
    (both_law n (expected.Maybe part.Package ∷ []) (expected.Many part.Import ∷ declared) (Maybe (Named word.Package)) (Then (Many (Named word.Import)) IsDecl) (maybe_law n part.Package (Named word.Package) (package_law n))
    (both_law n (expected.Many part.Import ∷ []) declared (Many (Named word.Import)) IsDecl (many_law n part.Import (Named word.Import) (import_law n)) (decl_law n)))
