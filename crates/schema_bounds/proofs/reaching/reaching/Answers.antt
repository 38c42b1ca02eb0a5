use Rattle.std.proofs.Common.{◌∙◌, subst}
use Rattle.graph_cycles.specs.Paths.{TellsCycles, targets}
use Rattle.schema_bounds.proofs.Graphs.{on_cycle}
use Rattle.schema_bounds.proofs.reaching.reaching.Goals as goal

pub returns : goal.returns
returns c n lt =
    let tells = subst (λ rows. TellsCycles (targets rows) c.in_ok-found.found.on.items) (c.deref.ensures.value ∙ c.in_ok-rows.ensures) c.in_ok-found.ensures.exact in
    let both = on_cycle c.args.edges.now c.args.on.now c.requires.inside c.requires.exact n lt in
    (λ h. both.0 ((tells n).0 h), λ h. (tells n).1 (both.1 h))
