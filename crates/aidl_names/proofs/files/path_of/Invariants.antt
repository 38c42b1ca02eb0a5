use Rattle.std.proofs.Common.{◌≡◌, ◌++◌, codes, take, string_bytes}
use Rattle.std.specs.List.{flat_map}
use Rattle.declared_names.specs.Names.{text}
use Rattle.aidl_names.proofs.files.path_of.Given as goal

abbrev pub invariant-loop-part : goal.invariant-loop-part
invariant-loop-part l = string_bytes l.path ≡ flat_map (λ part. text part ++ codes "/") (take l.part-index l.front)
