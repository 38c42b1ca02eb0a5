use Rattle.aidl_values.specs.View.{views}
use Rattle.stub_dispatch.proofs.Openeds.{arguments_end, arguments_few, arguments_go}
use Rattle.stub_dispatch.proofs.arguments.+arguments_from.Goals as goal

pub sum_with-sum-requires : goal.sum_with-sum-requires
sum_with-sum-requires t c =
    arguments_few c.args.from.now.profile c.in-Some.arg c.declared.result.now c.args.sum c.args.from.now.bytes c.in_ok-value-in-Some.value c.argument_from.new.from.bytes
    c.declared.ensures c.requires c.in_ok-value-in-Some.ensures.taken

pub returns-in-None : goal.returns-in-None
returns-in-None t c = arguments_end c.args.from.now.profile c.args.args.now.decls c.args.sum c.args.args.now.args c.args.from.now.bytes (views c.args.saw.now.items) c.in-None.ensures

pub returns-in_ok-push-in-Some : goal.returns-in_ok-push-in-Some
returns-in_ok-push-in-Some t c =
    arguments_go c.args.from.now.profile c.argument_from.new.from.profile c.args.args.now c.in-Some.arg c.in-Some.others c.declared.result.now c.args.sum c.sum_with-sum.result c.args.from.now.bytes c.args.saw.now.items c.push.new.self.items
    c.arguments_from.new.saw.items c.in_ok-value-in-Some.value c.arguments_from.result c.argument_from.new.from.bytes c.arguments_from.new.from.bytes
    c.in-Some.ensures c.declared.ensures c.in_ok-value-in-Some.ensures.taken c.in_ok-value-in-Some.ensures.same c.sum_with-sum.ensures.sum c.in_ok-push-in-Some.ensures.items c.arguments_from.ensures
