use Rattle.std.proofs.Common.{rules, ◌≡◌, ◌++◌, List, map, OnOk, subst}
use Rattle.aidl_syntax.specs.declared.tree.ParsedFile.{ParsedFile}
use Rattle.aidl_syntax.specs.Sources.{source_of}
use Rattle.aidl_names.specs.Rules.{UnknownType, LeftOutType, breaches_at}
use Rattle.aidl_names.proofs.types.add_types.Goals as goal

-- what is added for the files that the questions are of, these files
pub returns : goal.returns
returns c =
    let Added : List ParsedFile → Type 0 = λ files. OnOk c.add_types_by-2.result (c.add_types_by-2.new.rows.items ≡ c.args.rows.now.items ++ breaches_at 4 (UnknownType (map source_of files)) ++ breaches_at 5 (LeftOutType (map source_of files))) in
    subst Added c.in_ok-asking.ensures (search rules)
