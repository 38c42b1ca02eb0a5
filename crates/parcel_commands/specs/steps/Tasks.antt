-- What a step of `explain` gives.
use Rattle.std.specs.Prelude.{ℕ, ◌≤◌, List, length}
use Rattle.parcel_commands.specs.declared.tasks.Task.{Task}
use Rattle.parcel_commands.specs.declared.tasks.Task.TheVariants.{Decode, Encode, Explain}

-- which bytes the step that explains takes
abbrev pub IsFit : Task → List ℕ → Type 0
IsFit (Decode p) bytes = Unit {0}
IsFit Encode bytes = Unit {0}
IsFit Explain bytes = length bytes ≤ 1048576
