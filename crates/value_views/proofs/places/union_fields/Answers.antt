use Rattle.std.proofs.Common.{sym}
use Rattle.wire_model.proofs.lemmas.Sound.{is_whole}
use Rattle.value_views.proofs.places.union_fields.Goals as goal

pub returns-in-Union-clause-few : goal.returns-in-Union-clause-few
returns-in-Union-clause-few c = ((is_whole c.schema-schema.result.now.decls c.law_sound.ensures).tags c.args.base c.in-Union.fields.now (sym (c.in-Union.ensures))).1
