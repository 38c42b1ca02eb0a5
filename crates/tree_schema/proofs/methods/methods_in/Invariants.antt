use Rattle.std.proofs.Common.{◌≡◌, ◌≤◌, ◌++◌, drop}
use Rattle.aidl_syntax.specs.Trees.{members_of}
use Rattle.aidl_syntax.specs.Members.{listed}
use Rattle.tree_schema.specs.Parts.{methods_in}
use Rattle.tree_schema.specs.steps.Scopes.{files_of}
use Rattle.tree_schema.proofs.methods.methods_in.Given as goal

-- the methods so far and those that are left are all
abbrev pub invariant-loop-member : goal.invariant-loop-member
invariant-loop-member l =
    (l.methods.items ++ methods_in (files_of l.scope) l.scope.file l.scope.number l.oneway l.before (listed (members_of (drop l.member-index l.members)))
    ≡ methods_in (files_of l.scope) l.scope.file l.scope.number l.oneway 0 (listed (members_of l.members)))
    × (l.before ≤ l.member-index)
