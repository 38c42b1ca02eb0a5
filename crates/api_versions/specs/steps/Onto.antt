-- What was found so far, and then what a step finds.
use Rattle.std.specs.Prelude.{List, ◌++◌, Result, Ok, Err}
use Rattle.api_versions.specs.declared.fault.VersionsFault.{VersionsFault}

abbrev pub onto : {A : Type 0} → List A → Result (List A) VersionsFault → Result (List A) VersionsFault
onto found (Ok more) = Ok (found ++ more)
onto found (Err e) = Err e
