-- The defaults of the fields that are not there.
use Rattle.std.proofs.Common.{List, [], ◌∷◌}
use Rattle.aidl_schema.specs.declared.schema.Decl.{Decl}
use Rattle.aidl_schema.specs.declared.schema.Field.{Field}
use Rattle.aidl_values.specs.Data.{Items, none, item}
use Rattle.aidl_values.specs.Default.{AreInitial}
use Rattle.aidl_values.specs.HasType.{FieldsHaveType}
use Rattle.aidl_values.specs.Sound.{initial_in, HaveDefaults}

abbrev pub initials_in : List Decl → List Field → Items
initials_in S [] = none
initials_in S (g ∷ gs) = item (initial_in S g) (initials_in S gs)

pub are_initial : (S : List Decl) (gs : List Field) → HaveDefaults S gs → AreInitial S gs (initials_in S gs)
are_initial S [] h = tt
are_initial S (g ∷ gs) h = (h.0.0, are_initial S gs h.1)

pub initials_typed : (S : List Decl) (gs : List Field) → HaveDefaults S gs → FieldsHaveType S gs (initials_in S gs)
initials_typed S [] h = tt
initials_typed S (g ∷ gs) h = (h.0.1, initials_typed S gs h.1)
