use Rattle.std.proofs.Common.{◌≡◌, map}
use Rattle.aidl_values.specs.View.{view}
use Rattle.call_scripts.specs.Answers.{default_outs}
use Rattle.call_scripts.proofs.Outs.{EachSoFar, defaults_at}
use Rattle.call_scripts.proofs.answers.default_outs.Given as goal

-- with those that are left they are all
abbrev pub invariant-loop-k : goal.invariant-loop-k
invariant-loop-k l = record {
  all : defaults_at l.schema.decls l.types (map view l.values.items) l.k ≡ default_outs l.schema.decls l.types;
  fit : EachSoFar l.schema.decls l.types (map view l.values.items) l.k;
}
