use Rattle.std.proofs.Common.{◌≤◌, ◌∙◌, length, sym, ap, subst}
use Rattle.aidl_schema.proofs.lemmas.Counts.{few_methods}
use Rattle.aidl_schema.specs.Find.{methods_at}
use Rattle.aidl_schema.specs.Holds.{AllHold}
use Rattle.witness_calls.proofs.version.Version.methods.Goals as goal

pub returns-clause-few : goal.returns-clause-few
returns-clause-few c =
    let self = c.args.self.now in
    let few = few_methods self (subst AllHold c.schema.ensures c.law_valid.ensures.declarations) c.args.interface in
    subst (λ ms. length ms ≤ 4096) (sym (c.methods_at.ensures ∙ ap (λ S. methods_at S c.args.interface) c.schema-2.ensures)) few
