use Rattle.dump_reading.proofs.lemmas.ReadBack.{never_cut, never_stopped}
use Rattle.dump_reading.proofs.laws.law_dump_parses.Goals as goal

pub returns : goal.returns
returns c = let S = c.args.schema.now.decls in let v = c.args.schema.now.valid in record { tokens = never_cut S v; trees = never_stopped S v }
