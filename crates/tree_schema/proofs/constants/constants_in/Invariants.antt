use Rattle.std.proofs.Common.{◌≡◌, [], drop}
use Rattle.std.specs.Prelude.{string_bytes}
use Rattle.std.specs.List.{fold}
use Rattle.aidl_syntax.specs.Trees.{members_of}
use Rattle.aidl_syntax.specs.Members.{listed}
use Rattle.tree_schema.specs.Keyed.{IsKeyed, values_at}
use Rattle.tree_schema.specs.Parts.{bytes_of, put, listed_constants}
use Rattle.tree_schema.specs.steps.Scopes.{files_of, outcomes_of}
use Rattle.tree_schema.proofs.constants.constants_in.Given as goal

-- each constant so far stands at its name, and these are in order
abbrev pub invariant-loop-member : goal.invariant-loop-member
invariant-loop-member l =
    IsKeyed (λ t. string_bytes t) bytes_of l.by_name.entries
    × (fold put (values_at l.by_name.entries) (listed_constants (files_of l.scope) (outcomes_of l.scope) l.scope.file l.scope.number (listed (members_of (drop l.member-index l.members))))
    ≡ fold put [] (listed_constants (files_of l.scope) (outcomes_of l.scope) l.scope.file l.scope.number (listed (members_of l.members))))
