-- Which calls to read a store are due: a later one only where what was read before has left the answer open (own).
use Rattle.std.specs.Prelude.{◌≡◌, ◌≢◌, ℕ, List, None, Ok}
use Rattle.std.specs.FinMap.{get}
use Rattle.aidl_base.specs.declared.limit.LimitName.TheVariants.{TextBytes}
use Rattle.aidl_base.specs.declared.source_file.SourceFile.{SourceFile}
use Rattle.aidl_outside.specs.Asks.{Asks, AsksFile, ◌also◌}
use Rattle.aidl_outside.specs.Files.{Files}
use Rattle.aidl_outside.specs.Told.{Tells}
use Rattle.tool_frame.specs.Asks.{AsksTree}
use Rattle.tool_frame.specs.Trees.{tree_at}

-- these calls, where this holds of the files that are told
abbrev pub AsksWhere : (Files → Type 0) → Asks → Asks
AsksWhere Holds asked kept call = asked kept call × Tells kept Holds

-- a file stands at a path
abbrev pub IsThere : List ℕ → Files → Type 0
IsThere path files = get files path ≢ None

-- the files of the tree below a root pass no limit
abbrev pub PassesNone : List ℕ → Files → Type 0
PassesNone root files = (found : List SourceFile) × (tree_at files root ≡ Ok found)

-- the file at a path is read, up to the limit `text-bytes` and one byte more, and then, where it is there, these
abbrev pub AsksFileThen : List ℕ → Asks → Asks
AsksFileThen path next = AsksFile TextBytes path also AsksWhere (IsThere path) next

-- a tree is read, and then, where its files pass no limit, these
abbrev pub AsksTreeThen : List ℕ → Asks → Asks
AsksTreeThen root next = AsksTree root also AsksWhere (PassesNone root) next
