use Rattle.std.proofs.Common.{◌≡◌, ◌+◌, ◌≤◌, [], ◌∷◌, ◌++◌, Some, length, slice_get, drop, sym, ap, refl, ◌∙◌, suc, add-one, append_assoc, drop-cons, arith}
use Rattle.std.proofs.lemmas.Option.{slice_get_read}
use Rattle.aidl_schema.specs.Containment.{fields_of}
use Rattle.marshal_plans.specs.steps.Compiled.{firsts_from}
use Rattle.marshal_plans.proofs.entries.sums.Goals as goal

pub loop-decl-preserved : goal.loop-decl-preserved
loop-decl-preserved c =
    let ds = c.args.decls.now in
    let i = c.loop-decl.decl-index in
    let d = c.decl-item.result in
    let sum = c.loop-decl.sum in
    let at : slice_get ds i ≡ Some d = slice_get_read ds (length ds) i d refl c.loop-decl-test.true c.decl-item.is in
    let short : length (fields_of d.kind) ≤ 4096 = c.requires.short i d at in
    let is : c.fields_of.result.now ≡ fields_of d.kind = c.fields_of.ensures in
    let left : drop i ds ≡ d ∷ drop (i + 1) ds = rw add-one (drop-cons ds i d c.loop-decl-test.true ∙ ap (λ e. e ∷ drop (suc i) ds) (sym c.decl-item.is)) in
    let one : c.push.new.self.items ++ firsts_from (sum + length (fields_of d.kind)) (drop (i + 1) ds) ≡ c.loop-decl.firsts.items ++ firsts_from sum (drop i ds) =
    rw (c.in_ok-push.ensures.items, left) (append_assoc c.loop-decl.firsts.items (sum ∷ []) _) in
    rw is (record { small = omega (arith, short, c.loop-decl.invariant.small); all = one ∙ c.loop-decl.invariant.all })
