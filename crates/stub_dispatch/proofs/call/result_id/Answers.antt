use Rattle.stub_dispatch.proofs.call.result_id.Goals as goal

pub result-requires : goal.result-requires
result-requires c = c.law_planned.ensures.result.there

pub returns : goal.returns
returns c = c.law_planned.ensures.result.stands c.result.result c.result.ensures.stands
