use Rattle.std.proofs.Common.{◌≡◌, ◌++◌, map, take, drop}
use Rattle.aidl_syntax.specs.Sources.{source_of}
use Rattle.aidl_names.specs.Rules.{breaches_at, is_other_import, other_imports}
use Rattle.declared_names.specs.Numbered.{after_earlier}
use Rattle.aidl_names.proofs.Alike.{HasMemo}
use Rattle.aidl_names.proofs.imports.add_others.Given as goal

-- the breaches so far and those that are left are all
abbrev pub invariant-loop-i : goal.invariant-loop-i
invariant-loop-i l = record {
  all : l.rows.items ++ breaches_at 2 (map (λ i. (l.number, i.offset)) (after_earlier is_other_import (take l.i l.imports) (drop l.i l.imports)))
      ≡ l.fn.rows.items ++ breaches_at 2 (other_imports l.number (source_of l.file));
  memo : HasMemo l.imports l.differ.items l.i;
}
