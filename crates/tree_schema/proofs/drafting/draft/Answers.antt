use Rattle.std.proofs.Common.{length, map, ap, arith}
use Rattle.aidl_syntax.specs.Sources.{source_of}
use Rattle.tree_schema.proofs.Few.{few_of}
use Rattle.tree_schema.proofs.drafting.draft.Goals as goal

-- no limit is passed
pub numbers_of-requires : goal.numbers_of-requires
numbers_of-requires c =
    let few = few_of c.in_ok-order.order.items c.decls.result.now (map source_of c.args.names.now) c.in_ok-order.ensures c.decls.ensures c.law_accepted.ensures.accepted.0 in
    let same = ap length c.as_slice.ensures.value in
    record { few = omega arith }
