use Rattle.std.proofs.Common.{◌==◌, sym, ap, ◌∙◌}
use Rattle.serde_json.proofs.Views.{members_len-members_view}
use Rattle.call_scripts.proofs.answers.is_one.Goals as goal

pub returns : goal.returns
returns c = ap (λ n. n == 1) (c.len.ensures.len ∙ sym (members_len-members_view c.args.members.now.entries))
