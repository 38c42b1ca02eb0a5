-- Whether the bytes of a request begin with the token.
use Rattle.std.specs.Prelude.{◌≡◌, ℕ, ℤ, Bool, true, false, List, Result, Ok, Err}
use Rattle.stub_dispatch.specs.steps.Unread.{Unread}
use Rattle.wire_model.specs.Status.{bad_type}

-- The bytes that are left are those after the token, or no token stands there.
abbrev pub Begins : Bool → Result (List ℕ) ℤ → Unread → Unread → Type 0
Begins true reading old new = (reading ≡ Ok new.bytes) × (new.profile ≡ old.profile)
Begins false reading old new = reading ≡ Err bad_type
