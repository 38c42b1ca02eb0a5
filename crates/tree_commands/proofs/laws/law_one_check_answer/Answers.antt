use Rattle.std.proofs.Common.{◌≡◌, sym, ◌∙◌}
use Rattle.tool_frame.specs.Answer.{Answer, AsAnswer}
use Rattle.tree_commands.specs.Checked.{accepted}
use Rattle.tree_commands.proofs.lemmas.OneByTree.{by_files}
use Rattle.tree_commands.proofs.laws.law_one_check_answer.Goals as goal

pub returns : goal.returns
returns c =
    by_files (λ (a b : Answer). a ≡ b) AsAnswer AsAnswer (λ r a b h k. h ∙ sym k) (λ S a. a ≡ accepted S) (λ S a. a ≡ accepted S) (λ S a b h k. h ∙ sym k)
    c.args.root.now c.args.files.now
