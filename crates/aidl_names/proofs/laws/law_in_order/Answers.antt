use Rattle.aidl_names.proofs.lemmas.Sorting.{is_sorted, same_members}
use Rattle.aidl_names.proofs.laws.law_in_order.Goals as goal

pub returns : goal.returns
returns c = record { sorted = is_sorted c.args.rows.now; same = λ b. same_members b c.args.rows.now }
