use Rattle.std.proofs.Common.{◌≡◌, ℕ, List, map, drop}
use Rattle.std.specs.List.{find}
use Rattle.std.specs.Str.{bytes_eq}
use Rattle.indexmap.specs.IndexMap.{get_by}
use Rattle.aidl_syntax.specs.Trees.{map_option}
use Rattle.declared_names.specs.Called.{is_called}
use Rattle.declared_names.specs.MemberViews.{seen_member}
use Rattle.declared_names.proofs.members_named.by_name.Given as goal

-- the members from i on
abbrev pub invariant-loop-i : goal.invariant-loop-i
invariant-loop-i l = (bytes : List ℕ) → map_option seen_member (get_by (λ k. bytes_eq bytes k.now) l.table) ≡ find (is_called bytes) (map seen_member (drop l.i l.members))
