-- A file that was found is there.
use Rattle.std.proofs.Common.{◌≡◌, ℕ, List, Option, None, Ok, subst, ap, option_map}
use Rattle.aidl_base.specs.declared.limit.LimitName.{LimitName}
use Rattle.aidl_outside.specs.Files.{Files}
use Rattle.tool_frame.specs.Due.{IsThere}
use Rattle.tool_frame.specs.Answer.{Found}
use Rattle.tool_frame.specs.Refusals.{file_at, there, within}

pub found_there : (which : LimitName) (path : List ℕ) (files : Files) (found : Found (List ℕ)) → there path (file_at which files path) ≡ Ok found → IsThere path files
found_there which path files found is none =
    let gone : there path None ≡ Ok found = subst (λ (x : Option (Found (List ℕ))). there path x ≡ Ok found) (ap (option_map (within which)) none) is in absurd (cc)
