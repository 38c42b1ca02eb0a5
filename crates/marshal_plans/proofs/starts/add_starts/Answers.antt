use Rattle.std.proofs.Common.{◌≡◌, ◌≤◌, Some, length, slice_get, subst, sym, refl}
use Rattle.std.proofs.lemmas.Option.{slice_get_read}
use Rattle.aidl_schema.specs.Holds.{OfEach}
use Rattle.marshal_plans.proofs.starts.add_starts.Goals as goal

pub add_methods-requires-clause-few : goal.add_methods-requires-clause-few
add_methods-requires-clause-few c =
    let ds = c.as_slice-decl-items.result.now in
    let n = c.loop-n.n in
    let d = c.decl-item.result in
    let at = subst (λ es. slice_get es n ≡ Some d) c.as_slice-decl-items.ensures (slice_get_read ds (length ds) n d refl c.loop-n-test.true c.decl-item.is) in
    subst (λ ms. length ms ≤ 4096) (sym c.methods_of.ensures) (c.law_valid.ensures.declarations n d at).few_methods

pub add_methods-requires-clause-short : goal.add_methods-requires-clause-short
add_methods-requires-clause-short c =
    let ds = c.as_slice-decl-items.result.now in
    let n = c.loop-n.n in
    let d = c.decl-item.result in
    let at = subst (λ es. slice_get es n ≡ Some d) c.as_slice-decl-items.ensures (slice_get_read ds (length ds) n d refl c.loop-n-test.true c.decl-item.is) in
    subst (λ ms. OfEach ms (λ m. length m.args ≤ 255)) (sym c.methods_of.ensures) (c.law_valid.ensures.declarations n d at).few_arguments
