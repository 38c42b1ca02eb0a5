use Rattle.std.proofs.Common.{length, ap, arith}
use Rattle.aidl_base.specs.Words.{units}
use Rattle.stub_dispatch.proofs.Names.{name_count}
use Rattle.stub_dispatch.proofs.token.joined_units.Goals as goal

pub returns : goal.returns
returns c =
    omega (arith, c.unit_count.ensures.count, ap (λ x. length (units x)) c.as_str.ensures.value, c.dots_units.ensures, c.saturating_add.ensures, name_count c.args.first.now c.args.others.now)
