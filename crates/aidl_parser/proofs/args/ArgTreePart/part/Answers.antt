use Rattle.std.proofs.Common.{rules}
use Rattle.aidl_parser.specs.steps.Inits.{annot_at, annots_at}
use Rattle.aidl_parser.specs.steps.Items.{arg_at}
use Rattle.aidl_parser.specs.steps.Types.{type_at}
use Rattle.aidl_parser.proofs.args.ArgTreePart.part.Goals as goal

pub returns-in_err-ty-clause-gives : goal.returns-in_err-ty-clause-gives
unfolding arg_at annots_at annot_at type_at
returns-in_err-ty-clause-gives c = search rules
