use Rattle.std.proofs.Common.{inl}
use Rattle.aidl_values.specs.View.{view}
use Rattle.wire_model.proofs.viewed.Same.{view_same}
use Rattle.wire_model.proofs.laws.law_view_same.Goals as goal

pub returns : goal.returns
returns c =
    let S = c.args.schema.now.decls in
    let t = c.args.ty.now in
    view_same S (c.law_meets.ensures (inl c.law_chain.ensures.itself)) t (view c.args.value.now) (c.law_same_types.ensures.itself t c.requires.known) c.requires.typed
