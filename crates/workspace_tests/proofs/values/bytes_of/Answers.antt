use Rattle.std.proofs.Common.{List, [], ◌∷◌, get_or, sym, subst, IfOk}
use Rattle.aidl_schema.specs.declared.schema.AidlType.{AidlType}
use Rattle.marshal_plans.specs.Standing.{OneForOne, StandFor, StandsFor}
use Rattle.marshal_plans.specs.declared.plans.PlanId.{PlanId}
use Rattle.workspace_tests.proofs.values.bytes_of.Goals as goal

-- the first id is that of the only type
first_is : (types : List AidlType) (t : AidlType) (ids : List PlanId) (id : PlanId) → OneForOne (λ u i. StandsFor types i u) (t ∷ []) ids → StandsFor types (get_or ids 0 id) t
first_is types t [] id h = elim h [ ]
first_is types t (i ∷ ids) id h = h.0

pub write-requires : goal.write-requires
write-requires g c =
    let S = c.args.schema.now.decls in
    let t = c.args.ty in
    let made : (types : List AidlType) × StandFor S (t ∷ []) types c.expect-plans.result =
    subst (λ r. IfOk r (λ plans. (types : List AidlType) × StandFor S (t ∷ []) types plans)) c.expect-plans.ensures c.compile.ensures in
    let first = subst (λ ids. StandsFor made.0 (get_or ids 0 (record { 0 = 0 })) t) (sym c.as_slice.ensures) (first_is made.0 t c.expect-plans.result.extras (record { 0 = 0 }) made.1.extras) in
    (S, t, (t ∷ [], made.0, made.1, first), c.requires.fits)
