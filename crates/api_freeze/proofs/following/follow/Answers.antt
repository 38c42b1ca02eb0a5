use Rattle.std.proofs.Common.{◌∙◌, sym}
use Rattle.api_freeze.proofs.Chains.{each_by_latest}
use Rattle.api_freeze.proofs.Files.{follows_latest, latest_popped}
use Rattle.api_freeze.proofs.following.follow.Goals as goal

pub returns-in-Some-clause-answer : goal.returns-in-Some-clause-answer
returns-in-Some-clause-answer c =
    follows_latest c.args.versions c.in-Some.latest c.args.schema.now.decls c.follow_latest.result
    (latest_popped c.args.versions c.pop.new.self.items c.pop.result (sym c.into_vec-versions.ensures ∙ c.pop.ensures.items) c.in-Some.latest c.in-Some.is)
    c.follow_latest.ensures.answer

pub returns-in-Some-clause-each : goal.returns-in-Some-clause-each
returns-in-Some-clause-each c =
    each_by_latest c.args.schema.now.decls c.args.schema.now.valid c.args.versions c.in-Some.latest c.follow_latest.result
    (latest_popped c.args.versions c.pop.new.self.items c.pop.result (sym c.into_vec-versions.ensures ∙ c.pop.ensures.items) c.in-Some.latest c.in-Some.is)
    c.follow_latest.ensures.one
