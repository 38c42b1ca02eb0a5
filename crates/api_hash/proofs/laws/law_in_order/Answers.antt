use Rattle.api_hash.proofs.Sorting.{is_same, is_sorted}
use Rattle.api_hash.proofs.laws.law_in_order.Goals as goal

pub returns : goal.returns
returns c = record { sorted = is_sorted c.args.files.now; same = is_same c.args.files.now }
