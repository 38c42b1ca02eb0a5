use Rattle.aidl_values.specs.View.{view}
use Rattle.wire_model.proofs.Lenient.{strict_is_lenient}
use Rattle.wire_model.proofs.laws.law_strict_is_lenient.Goals as goal

pub returns : goal.returns
returns c = strict_is_lenient c.args.schema.now.decls c.args.levels c.args.ty.now c.args.b.now (view c.args.value.now) c.requires
