use Rattle.std.proofs.Common.{◌≡◌, ◌+◌, ◌*◌, ◌<◌, ◌≤◌, length, map}
use Rattle.aidl_syntax.specs.Trees.{ahead_of, member_of}
use Rattle.aidl_parser.specs.steps.Decls.{members_at, with_members}
use Rattle.aidl_parser.proofs.decls.+decl.Given as goal

abbrev pub decreases-decl : goal.decreases-decl
decreases-decl l = 8 * l.fuel + 7

abbrev pub decreases-decl_by : goal.decreases-decl_by
decreases-decl_by l = 8 * l.fuel + 6

abbrev pub decreases-body : goal.decreases-body
decreases-body l = 8 * l.fuel + 5

abbrev pub decreases-braced : goal.decreases-braced
decreases-braced l = 8 * l.fuel + 4

abbrev pub decreases-members : goal.decreases-members
decreases-members l = 8 * l.fuel + 3

abbrev pub decreases-member : goal.decreases-member
decreases-member l = 8 * l.fuel + 2

abbrev pub decreases-member_by : goal.decreases-member_by
decreases-member_by l = 8 * l.fuel + 1

-- what was read, and then what is still read, is all
abbrev pub invariant-members-rounds : goal.invariant-members-rounds
invariant-members-rounds l = record {
  read : with_members (ahead_of (map member_of l.all)) (members_at l.fuel l.rounds l.inside l.rest) ≡ members_at l.fuel l.fuel l.inside l.tokens;
  enough : length l.rest < l.rounds;
  left : length l.rest ≤ length l.tokens;
}

abbrev pub decreases-members-rounds : goal.decreases-members-rounds
decreases-members-rounds l = l.rounds
