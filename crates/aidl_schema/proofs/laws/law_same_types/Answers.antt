use Rattle.aidl_schema.proofs.lemmas.Sames.{same_refl, same_sym}
use Rattle.aidl_schema.proofs.laws.law_same_types.Goals as goal

pub returns : goal.returns
returns c =
    let A = c.args.a.now.decls in
    let B = c.args.b.now.decls in
    record { itself = same_refl A; back = λ t u h. same_sym A t B u h }
