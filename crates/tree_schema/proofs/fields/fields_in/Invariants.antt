use Rattle.std.proofs.Common.{◌≡◌, ◌++◌, false, drop}
use Rattle.aidl_syntax.specs.Trees.{members_of}
use Rattle.aidl_syntax.specs.Members.{listed}
use Rattle.tree_schema.specs.Parts.{fields_in}
use Rattle.tree_schema.specs.steps.Scopes.{files_of, outcomes_of}
use Rattle.tree_schema.proofs.fields.fields_in.Given as goal

-- the fields so far and those that are left are all
abbrev pub invariant-loop-member : goal.invariant-loop-member
invariant-loop-member l =
    l.fields.items ++ fields_in (files_of l.scope) (outcomes_of l.scope) l.scope.file l.scope.number l.in_union l.later (listed (members_of (drop l.member-index l.members)))
    ≡ fields_in (files_of l.scope) (outcomes_of l.scope) l.scope.file l.scope.number l.in_union false (listed (members_of l.members))
