use Rattle.std.proofs.Common.{refl}
use Rattle.version_commands.specs.Acting.{DumpActs}
use Rattle.tool_frame.proofs.lemmas.Writings.{ended_wrote}
use Rattle.tool_frame.specs.Exit.{number_of}
use Rattle.version_commands.proofs.dumping.dump.Goals as goal

pub returns : goal.returns
returns g c = λ others.
    let answered = c.dump_root-answered.ensures in
    ended_wrote _ (DumpActs c.args.tree.now c.args.out.now) _ _ refl refl refl (number_of c.end.result) _ answered.cause answered.acts c.end.ensures
