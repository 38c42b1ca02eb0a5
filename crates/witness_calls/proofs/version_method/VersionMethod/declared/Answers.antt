use Rattle.std.proofs.Common.{◌≡◌, Some, subst}
use Rattle.aidl_schema.specs.Holds.{AllHold}
use Rattle.wire_model.specs.Calls.{method_at}
use Rattle.wire_model.specs.MethodOf.{MethodOf}
use Rattle.witness_calls.proofs.Types.{typed}
use Rattle.witness_calls.proofs.version_method.VersionMethod.declared.Goals as goal

pub returns-clause-passed : goal.returns-clause-passed
returns-clause-passed c =
    let self = c.args.self.now in
    let at = subst (λ (s : MethodOf). method_at s ≡ Some c.declared.result.now) c.self.view_is c.declared.ensures in
    (typed self.declarations (subst AllHold c.schema.ensures c.law_valid.ensures.declarations) self.interface self.method c.declared.result.now at).passed

pub returns-clause-returned : goal.returns-clause-returned
returns-clause-returned c =
    let self = c.args.self.now in
    let at = subst (λ (s : MethodOf). method_at s ≡ Some c.declared.result.now) c.self.view_is c.declared.ensures in
    (typed self.declarations (subst AllHold c.schema.ensures c.law_valid.ensures.declarations) self.interface self.method c.declared.result.now at).returned
