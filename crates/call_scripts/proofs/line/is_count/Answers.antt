use Rattle.std.proofs.Common.{◌==◌, sym, ap}
use Rattle.serde_json.proofs.Views.{items_len-items_view}
use Rattle.call_scripts.proofs.line.is_count.Goals as goal

pub returns-clause-json : goal.returns-clause-json
returns-clause-json c = ap (λ n. n == c.args.count) (sym (items_len-items_view c.args.items.now))
