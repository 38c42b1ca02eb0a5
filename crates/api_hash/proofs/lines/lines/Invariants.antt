use Rattle.std.proofs.Common.{◌≡◌, map, take}
use Rattle.std.specs.Prelude.{string_bytes}
use Rattle.std.specs.List.{flat_map}
use Rattle.api_hash.specs.HashText.{line}
use Rattle.api_hash.proofs.lines.lines.Given as goal

abbrev pub invariant-loop-file : goal.invariant-loop-file
invariant-loop-file l = string_bytes l.text ≡ flat_map line (map (λ f. f.now) (take l.file-index l.files))
