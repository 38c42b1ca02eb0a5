use Rattle.std.proofs.Common.{sym}
use Rattle.aidl_schema.specs.Broken.{same_const}
use Rattle.compat_judge.proofs.Compared.{pass_each-lengths}
use Rattle.compat_judge.proofs.consts.+constant.Goals as goal

pub same_consts-returns-then-olds-news : goal.same_consts-returns-then-olds-news
same_consts-returns-then-olds-news t c = sym (pass_each-lengths same_const c.args.olds.now c.args.news.now c.if-olds-news.true)
