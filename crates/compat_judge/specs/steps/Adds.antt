-- What a step of the walk adds to the findings.
use Rattle.std.specs.Prelude.{◌≡◌, List, ◌++◌, map, true}
use Rattle.std.specs.Str.{chars}
use Rattle.std.specs.String.{string_bytes}
use Rattle.aidl_schema.specs.Broken.{Break}
use Rattle.compat_judge.specs.declared.findings.Finding.{Finding}
use Rattle.compat_judge.specs.declared.findings.Findings.{Findings}

-- a finding as the number of its rule beside its place
abbrev pub finding : Finding → Break
finding f = (f.rule, chars (string_bytes f.place))

abbrev pub found_so_far : Findings → List Break
found_so_far found = map finding found.list.items.items

-- if the findings are whole they were so before, and these are more
pub record Adds (old new : Findings) (more : List Break) : Type 0 where
  pub if_whole : new.list.is_whole ≡ true → (old.list.is_whole ≡ true) × (found_so_far new ≡ found_so_far old ++ more)
