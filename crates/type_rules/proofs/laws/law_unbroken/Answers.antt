use Rattle.std.proofs.Common.{◌++◌, map}
use Rattle.aidl_syntax.specs.Sources.{source_of}
use Rattle.type_rules.specs.Breaches.{unsorted}
use Rattle.type_rules.proofs.lemmas.Nothing.{back_nil, front_nil, none_in_order, unbroken}
use Rattle.type_rules.proofs.laws.law_unbroken.Goals as goal

pub returns : goal.returns
returns c =
    let found = unsorted (map source_of c.args.files.now) in
    record {
      further = λ more e. back_nil found more (none_in_order (found ++ more) e);
      declarations = λ more e. unbroken (map source_of c.args.files.now) (front_nil found more (none_in_order (found ++ more) e));
    }
