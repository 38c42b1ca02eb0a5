use Rattle.std.proofs.Common.{lit<}
use Rattle.tool_words.proofs.Cuts.{cut_first, cut_none}
use Rattle.tool_words.proofs.entry.first_entry.Goals as goal

pub returns-in-Some-clause-entries : goal.returns-in-Some-clause-entries
returns-in-Some-clause-entries c =
    let cut = c.in-Some.ensures.byte (lit< tt) (λ w o h. h) in
    rw (cut.0, cut.1) (cut_first 44 c.args.types.now cut.2)

pub returns-in-None-clause-entries : goal.returns-in-None-clause-entries
returns-in-None-clause-entries c = cut_none 44 c.args.types.now (c.in-None.ensures.byte (lit< tt) (λ w o h. h))
