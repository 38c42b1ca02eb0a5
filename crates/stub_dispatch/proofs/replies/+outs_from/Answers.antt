use Rattle.std.proofs.Common.{sym, ◌∙◌}
use Rattle.aidl_values.specs.View.{views}
use Rattle.stub_dispatch.proofs.Outs.{outs_end, outs_go}
use Rattle.stub_dispatch.proofs.replies.+outs_from.Goals as goal

pub returns-in-None : goal.returns-in-None
returns-in-None t c = outs_end c.args.from.now.profile c.args.args.now.decls c.args.args.now.args c.args.from.now.bytes (views c.args.outs.now.items) c.in-None.ensures

pub returns-in_ok-push-in-Some : goal.returns-in_ok-push-in-Some
returns-in_ok-push-in-Some t c =
    outs_go c.args.from.now.profile c.value_from.new.from.profile c.args.args.now c.in-Some.arg c.in-Some.others c.ty.result c.declared.result.now c.args.from.now.bytes c.args.outs.now.items c.push.new.self.items
    c.outs_from-in-Some.new.outs.items c.in_ok-value-in-Some.value c.outs_from-in-Some.result c.value_from.new.from.bytes c.outs_from-in-Some.new.from.bytes
    c.in-Some.ensures c.ty.ensures c.declared.ensures (sym c.comes_back.ensures ∙ c.if-not-comes_back.false)
    c.in_ok-value-in-Some.ensures.taken c.in_ok-value-in-Some.ensures.same c.in_ok-push-in-Some.ensures.items c.outs_from-in-Some.ensures
