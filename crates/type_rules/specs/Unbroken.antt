-- What it says of a tree that none of these rules is broken.
use Rattle.std.specs.Prelude.{◌≡◌, ℕ, List, [], Some}
use Rattle.std.specs.List.{slice_get}
use Rattle.aidl_syntax.specs.Sources.{Source}
use Rattle.declared_names.specs.Declarations.{Entry, declarations}
use Rattle.type_uses.specs.TypeUses.{TypeUse, type_uses}
use Rattle.type_rules.specs.AnnotationRules.{BadAnnotation, BadBacking}
use Rattle.type_rules.specs.TypeRules.{BadNullable, BadShape, BadDirection}
use Rattle.type_rules.specs.IdRules.{BadId}
use Rattle.type_rules.specs.MethodRules.{BadOneway}
use Rattle.type_rules.specs.FieldRules.{BadField, NotFixed}
use Rattle.type_rules.specs.TypeRules.{BadConstant}

-- no place in the declaration, which uses these types, breaks a rule
pub record IsUnbroken (entries : List Entry) (e : Entry) (uses : List TypeUse) : Type 0 where
  pub annotations : BadAnnotation entries e uses ≡ []
  pub nullables : BadNullable entries e uses ≡ []
  pub backing : BadBacking entries e uses ≡ []
  pub shapes : BadShape entries e uses ≡ []
  pub directions : BadDirection entries e uses ≡ []
  pub oneways : BadOneway entries e uses ≡ []
  pub ids : BadId entries e uses ≡ []
  pub constants : BadConstant entries e uses ≡ []
  pub fields : BadField entries e uses ≡ []
  pub fixed : NotFixed entries e uses ≡ []

-- so it is in each declaration of the tree
abbrev pub AreUnbroken : List Source → Type 0
AreUnbroken files = (n : ℕ) (e : Entry) → slice_get (declarations files) n ≡ Some e
    → IsUnbroken (declarations files) e (type_uses files n e)
