-- Why the names of a tree are refused (own).
use Rattle.std.specs.Prelude.{◌≡◌, ◌≢◌, ℕ, List, [], Some, None}
use Rattle.std.specs.List.{slice_get}
use Rattle.aidl_names.specs.declared.fault.NameFault.{NameFault}
use Rattle.aidl_names.specs.declared.fault.NameFault.TheVariants as fault
use Rattle.aidl_syntax.specs.Sources.{Source}
use Rattle.declared_names.specs.Declarations.{Entry, declarations}
use Rattle.aidl_names.specs.Limits.{passed}
use Rattle.aidl_names.specs.Breaches.{breaches}

-- a limit is passed; or none is, and these are the breaches, of which there are some
abbrev pub IsRefusal : List Source → NameFault → Type 0
IsRefusal files (fault.Limit l) = passed (declarations files) ≡ Some l.which
IsRefusal files (fault.Breaches rows) = (passed (declarations files) ≡ None) × (rows ≡ breaches files) × (rows ≢ [])
IsRefusal files fault.OutOfMemory = Unit {0}

-- no limit is passed, and no rule is broken
abbrev pub IsAccepted : List Source → Type 0
IsAccepted files = (passed (declarations files) ≡ None) × (breaches files ≡ [])

-- the number is that of a declaration of the file
abbrev pub IsScope : List Source → ℕ → ℕ → Type 0
IsScope files file scope = (e : Entry) × (slice_get (declarations files) scope ≡ Some e) × (e.file ≡ file)
