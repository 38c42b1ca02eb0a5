-- Enums use no types.
use Rattle.std.proofs.Common.{◌≡◌, List, [], ◌∷◌, map, refl}
use Rattle.aidl_syntax.specs.declared.tree.TypeTree.{TypeTree}
use Rattle.aidl_syntax.specs.Trees.{Enumerator}
use Rattle.aidl_syntax.specs.Members.Member.{enumerator}
use Rattle.type_shapes.specs.declared.shape.Shape.{Shape}
use Rattle.type_uses.specs.TypeUses.{of_members}

pub no_uses : (shape : TypeTree → Shape) (es : List Enumerator) → [] ≡ of_members shape (map enumerator es)
no_uses shape [] = refl
no_uses shape (e ∷ es) = no_uses shape es
