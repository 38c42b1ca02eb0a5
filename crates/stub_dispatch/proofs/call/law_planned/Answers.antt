use Rattle.stub_dispatch.proofs.Planned.{planned_arguments, planned_result}
use Rattle.stub_dispatch.proofs.call.law_planned.Goals as goal

pub returns : goal.returns
returns c = record {
  arguments = planned_arguments c.args.schema.now.decls c.args.plans.now c.requires.plans c.law_valid.ensures.declarations c.args.interface c.args.method c.requires.there;
  result = planned_result c.args.schema.now.decls c.args.plans.now c.requires.plans c.args.interface c.args.method c.requires.there;
}
