-- What is read of a file, up to a limit.
use Rattle.std.proofs.Common.{◌≡◌, ℕ, List, length, nat_lt, Option, Some, None, Vec, Global, refl, ap, ◌∙◌, Ok, Err}
use Rattle.std.specs.Option.{option_map}
use Rattle.aidl_base.specs.declared.limit.LimitName.{LimitName}
use Rattle.aidl_base.specs.Limits.{limit_number}
use Rattle.aidl_outside.specs.Files.{IsRead}
use Rattle.aidl_outside.proofs.lemmas.Fronts.{same_front}
use Rattle.tool_frame.specs.Answer.{Found, limit_passed}
use Rattle.tool_frame.specs.Refusals.{within}

-- what is read of a file is the file, up to the limit
pub within_read : (which : LimitName) (o : Option (List ℕ)) (r : Option (Vec ℕ Global)) → IsRead (limit_number which) o r
    → option_map {U = Found (List ℕ)} (λ bytes. within which bytes.items) r ≡ option_map {U = Found (List ℕ)} (within which) o
within_read which None None h = refl
within_read which None (Some v) h = absurd h
within_read which (Some file) None h = absurd h
within_read which (Some file) (Some v) h =
    ap (λ f. Some (within which f)) h
    ∙ ap Some (same_front (limit_number which) file {A = Found (List ℕ)} (Err (limit_passed which)) (λ f. Ok f) (nat_lt (limit_number which) (length file)) refl)
