use Rattle.std.proofs.Common.{◌≡◌, ◌++◌, map, take, drop}
use Rattle.aidl_names.specs.Rules.{breaches_at, is_named_again, repeated}
use Rattle.declared_names.specs.Numbered.{after_earlier}
use Rattle.aidl_names.proofs.lemmas.Taken.{AreSeen}
use Rattle.aidl_names.proofs.duplicates.add_repeated_names.Given as goal

-- the breaches so far and those that are left are all; the names so far were seen
abbrev pub invariant-loop-n : goal.invariant-loop-n
invariant-loop-n l = record {
  all : l.rows.items ++ breaches_at 2 (map (λ n. (l.file, n.offset)) (after_earlier is_named_again (take l.n-index (map (λ n. n.now) l.names)) (drop l.n-index (map (λ n. n.now) l.names))))
      ≡ l.fn.rows.items ++ breaches_at 2 (repeated l.file (map (λ n. n.now) l.names));
  seen : AreSeen l.seen.keys (take l.n-index (map (λ n. n.now) l.names));
}
