-- The parts of a name behind its first one.
use Rattle.std.specs.Prelude.{ℕ, List, [], ◌∷◌, ◌++◌}
use Rattle.aidl_base.specs.declared.name.Ident.{Ident}

-- with a dot before each
abbrev pub dots : List Ident → List ℕ
dots [] = []
dots (part ∷ others) = 46 ∷ part.0 ++ dots others
