use Rattle.std.proofs.Common.{◌≡◌, map, drop}
use Rattle.std.specs.List.{list_any}
use Rattle.aidl_syntax.specs.Trees.{annot_of}
use Rattle.type_uses.specs.Kept.{is_heap_annot}
use Rattle.type_uses.proofs.kept.is_heap.Given as goal

-- what is left decides
abbrev pub invariant-loop-annot : goal.invariant-loop-annot
invariant-loop-annot l = list_any is_heap_annot (map annot_of (drop l.annot-index l.annots)) ≡ list_any is_heap_annot (map annot_of l.annots)
