use Rattle.std.proofs.Common.{◌≡◌, map, drop}
use Rattle.std.specs.List.{list_any}
use Rattle.aidl_syntax.specs.Trees.{annot_of}
use Rattle.type_uses.specs.Kept.{is_called}
use Rattle.type_uses.proofs.kept.has_called.Given as goal

-- what is left decides
abbrev pub invariant-loop-annot : goal.invariant-loop-annot
invariant-loop-annot l = list_any (is_called l.name) (map annot_of (drop l.annot-index l.annots)) ≡ list_any (is_called l.name) (map annot_of l.annots)
