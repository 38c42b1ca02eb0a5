use Rattle.std.proofs.Common.{sym, ◌∙◌}
use Rattle.aidl_values.specs.View.{view}
use Rattle.aidl_values.proofs.TypeTests.{tested, passes}
use Rattle.aidl_values.proofs.typing.has_type.Goals as goal

pub returns : goal.returns
returns c =
    (λ h. tested c.args.schema.now.decls c.args.ty.now (view c.args.value.now) (sym c.is_of.ensures ∙ h), λ h. c.is_of.ensures ∙ passes c.args.schema.now.decls c.args.ty.now (view c.args.value.now) h)
