use Rattle.std.proofs.Common.{◌≡◌, length}
use Rattle.std.specs.List.{All}
use Rattle.aidl_syntax.specs.Sources.{IsOfBytes}
use Rattle.case_sources.proofs.tree.parsed.Given as goal

-- a tree of each file so far, each of some bytes
abbrev pub invariant-loop-file : goal.invariant-loop-file
invariant-loop-file l = record {
  count : length l.trees.items ≡ l.file-index;
  each : All IsOfBytes l.trees.items;
}
