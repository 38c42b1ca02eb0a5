use Rattle.std.proofs.Common.{List, subst}
use Rattle.aidl_schema.specs.declared.schema.Decl.{Decl}
use Rattle.aidl_schema.specs.Holds.{AllHold}
use Rattle.json_values.proofs.reader.Reader.law_schema.Goals as goal

pub returns-clause-valid : goal.returns-clause-valid
returns-clause-valid c = subst (λ (S : List Decl). AllHold S) c.self.view_is c.law_valid.ensures.declarations
