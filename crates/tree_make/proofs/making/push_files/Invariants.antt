use Rattle.std.specs.Prelude.{◌≡◌, ◌++◌, map, drop}
use Rattle.tree_make.specs.Made.{file_of, file_seen}
use Rattle.tree_make.proofs.making.push_files.Given as goal

abbrev pub invariant-loop-k : goal.invariant-loop-k
invariant-loop-k l = map file_seen l.files ++ map (file_of l.part) (drop l.k-index l.numbers) ≡ map file_seen l.initial.files ++ map (file_of l.part) l.numbers
