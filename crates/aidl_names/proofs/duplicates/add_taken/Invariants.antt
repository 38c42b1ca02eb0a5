use Rattle.std.proofs.Common.{◌≡◌, ◌++◌, map, take, drop}
use Rattle.aidl_syntax.specs.Members.{declared_name}
use Rattle.aidl_names.specs.Rules.{breaches_at, is_taken, taken}
use Rattle.declared_names.specs.Numbered.{after_earlier}
use Rattle.declared_names.specs.Entries.{entry_of}
use Rattle.aidl_names.proofs.duplicates.add_taken.Given as goal

-- the breaches so far and those that are left are all
abbrev pub invariant-loop-i : goal.invariant-loop-i
invariant-loop-i l =
    l.rows.items ++ breaches_at 2 (map (λ e. (e.file, (declared_name e.tree).offset)) (after_earlier is_taken (take l.i (map entry_of l.declarations)) (drop l.i (map entry_of l.declarations))))
    ≡ l.fn.rows.items ++ breaches_at 2 (taken (map entry_of l.declarations))
