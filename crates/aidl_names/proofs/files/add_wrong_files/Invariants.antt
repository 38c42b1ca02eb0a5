use Rattle.std.proofs.Common.{◌≡◌, ◌++◌, map, drop}
use Rattle.aidl_syntax.specs.Sources.{source_of}
use Rattle.aidl_names.specs.Rules.{WrongFile, breaches_at, wrong_file}
use Rattle.declared_names.specs.Numbered.{in_each}
use Rattle.aidl_names.proofs.files.add_wrong_files.Given as goal

-- the breaches so far and those that are left are all
abbrev pub invariant-loop-i : goal.invariant-loop-i
invariant-loop-i l =
    l.rows.items ++ breaches_at 1 (in_each wrong_file l.i (map source_of (drop l.i l.files))) ≡ l.fn.rows.items ++ breaches_at 1 (WrongFile (map source_of l.files))
