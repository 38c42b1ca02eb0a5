-- Which calls are made of a store for a tree: its root is listed, and then its sources are read in the order of
-- their paths, each up to the limit `file-bytes` and one byte more, and one only where there aren't too many of them
-- and none before it is too long (own).
use Rattle.std.specs.Prelude.{◌≡◌, ℕ, ◌⊎◌, true, List, map, All, Option, Some, None, Ok}
use Rattle.aidl_base.specs.declared.limit.LimitName.TheVariants.{FileBytes}
use Rattle.aidl_outside.specs.Asks.{Asks, AsksInOrder, AsksNothing}
use Rattle.aidl_outside.specs.Faults.{listing as lists}
use Rattle.aidl_outside.specs.Files.{path_below}
use Rattle.aidl_outside.specs.Told.{Tells}
use Rattle.tool_frame.specs.Trees.{few, is_source, sources_below}

-- a root is listed, and the sources below it, of which there aren't too many, are read in order
abbrev pub AsksTree : List ℕ → Asks
AsksTree root kept call = (call ≡ lists root)
    ⊎ ((paths : List (List ℕ)) × AsksInOrder FileBytes (map (path_below root) paths) kept call
    × All (λ path. is_source path ≡ true) paths
    × Tells kept (λ files. few (sources_below root files) ≡ Ok paths))

-- the same of a root that may be given
abbrev pub AsksOptional : Option (List ℕ) → Asks
AsksOptional None = AsksNothing
AsksOptional (Some root) = AsksTree root
