-- What is said where a file of JSON gives no values.
use Rattle.std.specs.Prelude.{◌≡◌, IfErr, IfSome, Result, Err}
use Rattle.json_values.specs.Refusal.{Answer}
use Rattle.parcel_commands.specs.declared.json_file.Unread.{Unread}
use Rattle.parcel_commands.specs.JsonFile.{unread_refusal}

-- a refusal is that of the answer; of a want of memory nothing is said
abbrev pub RefusesAs : {T U : Type 0} → Result T Unread → Answer U → Type 0
RefusesAs result answer = IfErr result (λ u. IfSome (unread_refusal u) (λ r. answer ≡ Err r))
