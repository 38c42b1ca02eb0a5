use Rattle.aidl_schema.specs.Broken.{breaks}
use Rattle.compat_judge.proofs.SortedOnce.{is_sorted_once, once_has, once_only}
use Rattle.compat_judge.proofs.laws.law_broken_in_order.Goals as goal

pub returns : goal.returns
returns c =
    let found = breaks c.args.old.now c.args.new.now in
    record { sorted = is_sorted_once found; same = λ b. (λ h. once_only found b h, λ h. once_has found b h) }
