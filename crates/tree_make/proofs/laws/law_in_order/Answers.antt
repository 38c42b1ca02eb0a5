use Rattle.std.proofs.Common.{◌^◌, arith}
use Rattle.std.proofs.lemmas.Fmt.{decimal_injective}
use Rattle.tree_make.proofs.Sorting.{is_sorted, same_members}
use Rattle.tree_make.proofs.laws.law_in_order.Goals as goal

pub returns : goal.returns
returns c =
    record {
      sorted = is_sorted c.args.count;
      same = λ k. same_members (2 ^ 64) c.args.count k (λ j less small. decimal_injective j k less small) (omega (arith, c.ranges.count));
    }
