use Rattle.std.proofs.Common.{take}
use Rattle.std.specs.List.{All}
use Rattle.aidl_syntax.specs.Sources.{source_of}
use Rattle.tree_schema.specs.Named.{HasIdentifiers}
use Rattle.tree_schema.proofs.Trees.{AreHeld, ArePlaced}
use Rattle.tree_schema.proofs.laws.law_trees.Given as goal

-- those of the files so far
abbrev pub invariant-loop-file : goal.invariant-loop-file
invariant-loop-file l = record {
  names : All (λ f. HasIdentifiers (source_of f)) (take l.file-index l.files);
  places : All (λ f. ArePlaced (source_of f)) (take l.file-index l.files);
  literals : All (λ f. AreHeld (source_of f)) (take l.file-index l.files);
}
