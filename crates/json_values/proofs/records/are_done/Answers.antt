use Rattle.std.proofs.Common.{sym, ◌∙◌, arith}
use Rattle.serde_json.proofs.Views.{members_len-members_view}
use Rattle.aidl_values.specs.Data.{depth_of, rec}
use Rattle.aidl_values.specs.View.{items_of}
use Rattle.json_values.specs.steps.Defaults.{datas_of}
use Rattle.json_values.proofs.Behind.{le_true}
use Rattle.json_values.proofs.records.are_done.Goals as goal

pub returns-then-len : goal.returns-then-len
returns-then-len c = λ done.
    let keys = members_len-members_view c.args.members.now.entries in
    (omega (arith, keys, c.if-len.true, c.len.ensures, c.len-2.ensures.len), le_true (depth_of (rec (items_of (datas_of c.args.defaults.now)))) c.args.levels (sym (c.fit.ensures c.requires.whole) ∙ done))
