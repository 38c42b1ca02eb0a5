use Rattle.std.proofs.Common.{subst}
use Rattle.api_freeze.specs.steps.Following.{Numbers}
use Rattle.api_freeze.proofs.Files.{prepared, refused_whole}
use Rattle.api_freeze.proofs.following.prepare_whole.Goals as goal

pub returns-in-Err-clause-answer : goal.returns-in-Err-clause-answer
returns-in-Err-clause-answer c = refused_whole c.args.versions c.args.schema.now.decls c.in-Err.fault c.requires c.in-Err.ensures.answer

pub returns-in-Ok-clause-answer : goal.returns-in-Ok-clause-answer
returns-in-Ok-clause-answer c =
    prepared c.args.versions c.args.schema.now.decls c.in_ok-files.files c.numbered.result c.requires c.in-Ok.ensures.answer c.in-Ok.ensures.each c.in_ok-files.ensures
    (subst (λ n. Numbers c.args.schema.now.decls n c.in_ok-files.files c.numbered.result) c.len-count.ensures c.numbered.ensures.answer)
