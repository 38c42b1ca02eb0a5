use Rattle.std.proofs.Common.{◌++◌, ◌∙◌, append_assoc, ap, refl, string_bytes}
use Rattle.make_command.proofs.printing.push_counts.Goals as goal

pub returns : goal.returns
returns c = λ whole.
    let grown = c.writeln.ensures whole in
    (grown.0, grown.1 ∙ ap (λ more. string_bytes c.args.text.now.text ++ more) (simp append_assoc refl))
