use Rattle.std.proofs.Common.{◌≡◌, ◌++◌, ℕ, nat_eq, map, take, drop}
use Rattle.indexmap.specs.IndexSet.{contains}
use Rattle.aidl_syntax.specs.Trees.{method_of}
use Rattle.declared_names.specs.Numbered.{after_earlier}
use Rattle.type_rules.specs.IdRules.{bad_ids, is_bad_id, is_taken}
use Rattle.type_rules.specs.Filters.{breaches_at}
use Rattle.type_rules.proofs.ids.add_in_list.Given as goal

-- the breaches so far and those that are left are all; the ids so far are taken
abbrev pub invariant-loop-method : goal.invariant-loop-method
invariant-loop-method l = record {
  all : l.rows.items ++ breaches_at 19 l.file (map (λ m. m.name.offset) (after_earlier (is_bad_id l.some) (take l.method-index (map (λ m. method_of m.now) l.methods)) (drop l.method-index (map (λ m. method_of m.now) l.methods))))
      ≡ l.fn.rows.items ++ breaches_at 19 l.file (bad_ids (map (λ m. method_of m.now) l.methods));
  taken : (n : ℕ) → contains nat_eq l.taken n ≡ is_taken (take l.method-index (map (λ m. method_of m.now) l.methods)) n;
}
