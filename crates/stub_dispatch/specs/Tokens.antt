-- What stands after the token of a request (own).
use Rattle.std.specs.Prelude.{◌≡◌, ℕ, ℤ, List, Option, Some, None, Result, Ok, Err}
use Rattle.std.specs.Borrow.{Bor}
use Rattle.wire_model.specs.Status.{bad_type}

-- the bytes after it, or none where the bytes don't begin with it
abbrev pub IsRest : Option (Bor (List ℕ)) → Result (List ℕ) ℤ → Type 0
IsRest (Some rest) reading = reading ≡ Ok rest.now
IsRest None reading = reading ≡ Err bad_type
