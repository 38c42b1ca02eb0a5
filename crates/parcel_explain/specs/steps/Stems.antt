-- What the paths of elements begin with.
use Rattle.std.specs.Prelude.{◌≡◌, ℕ, List, ◌++◌, codes}
use Rattle.std.specs.Str.{chars}

-- the bytes of a path and a slash
abbrev pub IsStem : List ℕ → List ℕ → Type 0
IsStem path bytes = chars bytes ≡ path ++ codes "/"
