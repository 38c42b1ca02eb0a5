-- The parts of a name, wherever they are kept.
use Rattle.std.specs.Prelude.{List, [], ◌∷◌}
use Rattle.aidl_base.specs.declared.name.Ident.{Ident}
use Rattle.aidl_base.specs.declared.parts.KeptParts.{KeptParts}
use Rattle.aidl_base.specs.declared.parts.KeptParts.TheVariants.{One, Many}

abbrev pub kept_parts : KeptParts → List Ident
kept_parts (One part) = part ∷ []
kept_parts (Many parts) = parts
