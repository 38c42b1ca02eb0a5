use Rattle.std.proofs.Common.{take}
use Rattle.std.specs.List.{All}
use Rattle.aidl_syntax.specs.Sources.{source_of}
use Rattle.const_items.specs.SmallPlaces.{HasSmall}
use Rattle.const_items.proofs.counted.law_places.Given as goal

-- those of the files so far
abbrev pub invariant-loop-file : goal.invariant-loop-file
invariant-loop-file l = All (λ f. HasSmall (source_of f)) (take l.file-index l.files)
