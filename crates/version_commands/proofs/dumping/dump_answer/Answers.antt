use Rattle.std.proofs.Common.{map, ap, ◌∙◌}
use Rattle.api_versions.specs.Seen.{write_seen}
use Rattle.version_commands.specs.Dumped.{file_write}
use Rattle.version_commands.proofs.ReadBack.{are_dumped}
use Rattle.version_commands.proofs.dumping.dump_answer.Goals as goal

pub returns-clause-reads_back : goal.returns-clause-reads_back
returns-clause-reads_back c =
    let S = c.args.schema.now.decls in
    let out = c.args.out.now in
    λ files trees e parsed. c.law_dump_back.ensures.schema files trees (are_dumped out S (map write_seen c.in_ok-writes.writes.items) files (c.in_ok-writes.ensures ∙ ap (map (file_write out)) c.in_ok-files.ensures) e) parsed
