use Rattle.std.proofs.Common.{ap, ◌∙◌}
use Rattle.aidl_schema.specs.Find.{number_of_name}
use Rattle.wire_model.proofs.lemmas.NamedTexts.{number_declared}
use Rattle.witness_calls.proofs.version.declared.Goals as goal

pub returns : goal.returns
returns c =
    c.find.ensures ∙ ap (number_of_name c.args.schema.now.decls) c.as_str.ensures.bytes ∙ number_declared c.args.schema.now.decls c.args.name.now
