use Rattle.memchr.specs.Find.{is_byte}
use Rattle.run_command.proofs.Newlines.{first_is, first_within}
use Rattle.run_command.proofs.cutting.newline_at.Goals as goal

pub returns-clause-first : goal.returns-clause-first
returns-clause-first c = first_is (is_byte 10) c.args.text.now c.memchr.result c.memchr.ensures

pub returns-clause-within : goal.returns-clause-within
returns-clause-within c = first_within (is_byte 10) c.args.text.now c.memchr.result c.memchr.ensures
