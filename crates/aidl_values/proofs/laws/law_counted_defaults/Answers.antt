use Rattle.aidl_values.proofs.Counted.{counted, small_counted}
use Rattle.aidl_values.proofs.laws.law_counted_defaults.Goals as goal

pub returns : goal.returns
returns c =
    let S = c.args.decls.now in
    record {
      depth = λ t v zero_of. (counted S 33 t v zero_of).depths;
      nodes = λ t v zero_of. (counted S 513 t v zero_of).counts;
      small = λ t v zero_of. small_counted S t v zero_of;
    }
