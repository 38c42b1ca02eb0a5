use Rattle.std.proofs.Common.{◌∷◌, take}
use Rattle.std.specs.Prelude.{string_bytes}
use Rattle.aidl_base.specs.Names.{dotted}
use Rattle.aidl_base.proofs.lemmas.Joined.{Spells}
use Rattle.aidl_base.proofs.name.joined.Given as goal

abbrev pub invariant-loop-part : goal.invariant-loop-part
invariant-loop-part l = Spells (string_bytes l.text) (dotted (l.first ∷ take l.part-index l.others))
