use Rattle.std.proofs.Common.{Ok, ap, arith}
use Rattle.serde_json.specs.View.{members_view}
use Rattle.serde_json.proofs.Views.{members_len-members_view}
use Rattle.aidl_values.specs.View.{view}
use Rattle.json_values.specs.FromJson.{known_from}
use Rattle.json_values.specs.Refusal.{◌>>=◌}
use Rattle.json_values.proofs.Counted.{all_known}
use Rattle.json_values.proofs.keys.known_record.Goals as goal

pub returns-then-found-len-clause-gives : goal.returns-then-found-len-clause-gives
returns-then-found-len-clause-gives c =
    let es = c.args.members.now.entries in
    let keys = members_len-members_view es in
    ap (λ o. known_from o >>= λ known. Ok (view c.args.read.0)) (all_known c.args.fields.now c.requires.apart (members_view es) (omega (arith, keys, c.requires.found, c.if-found-len.true, c.len.ensures.len)))
