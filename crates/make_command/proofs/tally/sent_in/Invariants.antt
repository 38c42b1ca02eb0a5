use Rattle.std.proofs.Common.{◌≡◌, ◌≤◌, ◌*◌, take}
use Rattle.make_command.specs.Tally.{sent_in}
use Rattle.make_command.proofs.tally.sent_in.Given as goal

-- the bytes of the parcels so far, each of which has fewer than 2 ^ 64
abbrev pub invariant-loop-entry : goal.invariant-loop-entry
invariant-loop-entry l = record {
  number : l.sent ≡ sent_in (take l.entry-index l.carried);
  most : l.sent ≤ 18446744073709551615 * l.entry-index;
}
