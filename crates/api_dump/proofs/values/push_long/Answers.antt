use Rattle.std.proofs.Common.{◌≡◌, negsuc, true, rules}
use Rattle.std.specs.Fmt.{digits}
use Rattle.std.specs.Ordering.{int_eq}
use Rattle.api_dump.specs.Pieces.{spelling}
use Rattle.api_dump.proofs.values.push_long.Goals as goal

pub returns-then-number : goal.returns-then-number
unfolding spelling digits
returns-then-number c =
    let least : int_eq c.args.number (negsuc 9223372036854775807) ≡ true = search rules in
    rw least c.push_str.ensures
