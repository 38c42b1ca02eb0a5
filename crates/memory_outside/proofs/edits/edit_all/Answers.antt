use Rattle.std.proofs.Common.{◌≡◌, ◌==◌, ◌+◌, true, false, drop, ap, ◌∙◌, arith}
use Rattle.std.proofs.lemmas.Bool.Decides.{nat_tests}
use Rattle.memory_outside.specs.Edits.{delivered}
use Rattle.memory_outside.proofs.Edited.{applied, passed}
use Rattle.memory_outside.proofs.edits.edit_all.Goals.{then-edit-carry+in_ok-apply, else-edit-carry}
use Rattle.memory_outside.proofs.edits.edit_all.Goals as goal

pub loop-edit-preserved : goal.loop-edit-preserved
loop-edit-preserved c = elim c.if-edit-carry.branch [
  | then-edit-carry+in_ok-apply w ↦
      let same : (c.edit-item.result.carry == c.args.carry) ≡ true = grind (arith, nat_tests, w.if-edit-carry.true) in
      ap (λ bytes. delivered (drop (c.loop-edit.edit-index + 1) c.args.edits.now) c.args.carry bytes.items) w.bytes-is
      ∙ ap (delivered (drop (c.loop-edit.edit-index + 1) c.args.edits.now) c.args.carry) w.in_ok-apply.ensures
      ∙ applied c.args.edits.now c.loop-edit.edit-index c.edit-item.result c.args.carry c.loop-edit.bytes.items c.loop-edit-test.true c.edit-item.is same
      ∙ c.loop-edit.invariant
  | else-edit-carry w ↦
      let other : (c.edit-item.result.carry == c.args.carry) ≡ false = grind (arith, nat_tests, w.if-edit-carry.false) in
      ap (λ bytes. delivered (drop (c.loop-edit.edit-index + 1) c.args.edits.now) c.args.carry bytes.items) w.bytes-is
      ∙ passed c.args.edits.now c.loop-edit.edit-index c.edit-item.result c.args.carry c.loop-edit.bytes.items c.loop-edit-test.true c.edit-item.is other
      ∙ c.loop-edit.invariant
]
