use Rattle.std.proofs.Common.{◌≡◌, map, drop}
use Rattle.std.specs.List.{find}
use Rattle.aidl_syntax.specs.Trees.{annot_of}
use Rattle.type_shapes.specs.Backing.{is_backing}
use Rattle.type_shapes.proofs.backing.backing_annot.Given as goal

-- what is left decides
abbrev pub invariant-loop-annot : goal.invariant-loop-annot
invariant-loop-annot l = find is_backing (map annot_of (drop l.annot-index l.annots)) ≡ find is_backing (map annot_of l.annots)
