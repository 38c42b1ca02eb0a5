use Rattle.std.proofs.Common.{sym, ap, ◌∙◌, arith}
use Rattle.aidl_schema.specs.Same.{same_text}
use Rattle.aidl_schema.specs.Names.{bytes_of}
use Rattle.name_tables.proofs.Found.{found_here, found_none}
use Rattle.name_tables.proofs.walking.first_place.Goals as goal

pub returns-then-is_called : goal.returns-then-is_called
returns-then-is_called g c =
    found_here g.M.Called.called c.args.members.now c.args.name.now c.loop-i.i c.index-members-i.result (omega arith) c.index-members-i.is
    (ap (λ n. same_text (bytes_of n) c.args.name.now) (sym c.name.ensures) ∙ sym c.is_called.ensures ∙ c.if-is_called.true) c.loop-i.invariant

pub returns : goal.returns
returns g c = found_none g.M.Called.called c.args.members.now c.args.name.now c.loop-i.i (omega arith) c.loop-i.invariant
