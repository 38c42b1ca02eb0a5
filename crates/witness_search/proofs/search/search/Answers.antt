use Rattle.witness_search.proofs.FirstShown.{at_rule}
use Rattle.witness_search.proofs.search.search.Goals as goal

pub returns-in-2-clause-exact : goal.returns-in-2-clause-exact
returns-in-2-clause-exact c = at_rule c.args.pair.now.old c.args.pair.now.new c.args.entry.now.place c.args.entry.now.rule 2 c.among.result c.in-2.is (c.among.ensures.exact _ c.asked_c2.ensures)

pub returns-in-3-clause-exact : goal.returns-in-3-clause-exact
returns-in-3-clause-exact c = at_rule c.args.pair.now.old c.args.pair.now.new c.args.entry.now.place c.args.entry.now.rule 3 c.among-in-3.result c.in-3.is (c.among-in-3.ensures.exact _ c.asked_c3.ensures)

pub returns-in-4-clause-exact : goal.returns-in-4-clause-exact
returns-in-4-clause-exact c = at_rule c.args.pair.now.old c.args.pair.now.new c.args.entry.now.place c.args.entry.now.rule 4 c.among-in-4.result c.in-4.is (c.among-in-4.ensures.exact _ c.asked_c4.ensures)

pub returns-in-5-clause-exact : goal.returns-in-5-clause-exact
returns-in-5-clause-exact c = at_rule c.args.pair.now.old c.args.pair.now.new c.args.entry.now.place c.args.entry.now.rule 5 c.among-in-5.result c.in-5.is (c.among-in-5.ensures.exact _ c.asked_c5.ensures)

pub returns-in-6-clause-exact : goal.returns-in-6-clause-exact
returns-in-6-clause-exact c = at_rule c.args.pair.now.old c.args.pair.now.new c.args.entry.now.place c.args.entry.now.rule 6 c.among-in-6.result c.in-6.is (c.among-in-6.ensures.exact _ c.asked_c6.ensures)

pub returns-in-7-clause-exact : goal.returns-in-7-clause-exact
returns-in-7-clause-exact c = at_rule c.args.pair.now.old c.args.pair.now.new c.args.entry.now.place c.args.entry.now.rule 7 c.among-in-7.result c.in-7.is (c.among-in-7.ensures.exact _ c.asked_c7.ensures)

pub returns-in-8-clause-exact : goal.returns-in-8-clause-exact
returns-in-8-clause-exact c = at_rule c.args.pair.now.old c.args.pair.now.new c.args.entry.now.place c.args.entry.now.rule 8 c.among-in-8.result c.in-8.is (c.among-in-8.ensures.exact _ c.asked_c8.ensures)

pub returns-in-10-clause-exact : goal.returns-in-10-clause-exact
returns-in-10-clause-exact c = at_rule c.args.pair.now.old c.args.pair.now.new c.args.entry.now.place c.args.entry.now.rule 10 c.among-in-10.result c.in-10.is (c.among-in-10.ensures.exact _ c.asked_c10.ensures)

pub returns-in-11-clause-exact : goal.returns-in-11-clause-exact
returns-in-11-clause-exact c = at_rule c.args.pair.now.old c.args.pair.now.new c.args.entry.now.place c.args.entry.now.rule 11 c.among-in-11.result c.in-11.is (c.among-in-11.ensures.exact _ c.asked_c11.ensures)

pub returns-in-15-clause-exact : goal.returns-in-15-clause-exact
returns-in-15-clause-exact c = at_rule c.args.pair.now.old c.args.pair.now.new c.args.entry.now.place c.args.entry.now.rule 15 c.among-in-15.result c.in-15.is (c.among-in-15.ensures.exact _ c.asked_c15.ensures)

pub returns-in-16-clause-exact : goal.returns-in-16-clause-exact
returns-in-16-clause-exact c = at_rule c.args.pair.now.old c.args.pair.now.new c.args.entry.now.place c.args.entry.now.rule 16 c.among-in-16.result c.in-16.is (c.among-in-16.ensures.exact _ c.asked_c16.ensures)
