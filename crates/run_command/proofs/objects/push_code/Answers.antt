use Rattle.std.proofs.Common.{◌++◌, codes, subst, w32}
use Rattle.std.proofs.lemmas.Int.{to_z-of_z}
use Rattle.std.specs.Fmt.{signed_decimal}
use Rattle.growing.specs.Grows.{Grows}
use Rattle.growing.proofs.lemmas.Chains.{both_grow}
use Rattle.run_command.specs.LineText.{code_text, opening_text}
use Rattle.run_command.proofs.objects.push_code.Goals as goal

pub returns : goal.returns
unfolding code_text opening_text
returns c =
    both_grow c.args.out.now c.push_str.new.self c.write.new.self opening_text (signed_decimal c.args.code ++ codes ",") c.push_str.ensures
    (subst (λ code. Grows c.push_str.new.self c.write.new.self (signed_decimal code ++ codes ",")) (to_z-of_z w32 c.args.code c.ranges.code) c.write.ensures)
