use Rattle.std.proofs.Common.{◌≤◌, length, subst, sym}
use Rattle.aidl_schema.specs.Containment.{fields_of}
use Rattle.aidl_schema.specs.Holds.{OfEach}
use Rattle.marshal_plans.proofs.entries.firsts_of.Goals as goal

pub sums-requires-clause-short : goal.sums-requires-clause-short
sums-requires-clause-short c =
    subst (λ ds. OfEach ds (λ d. length (fields_of d.kind) ≤ 4096)) (sym c.as_slice.ensures) (λ n d at. (c.law_valid.ensures.declarations n d at).few_fields)
