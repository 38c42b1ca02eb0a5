use Rattle.std.proofs.Common.{◌≡◌, Ok, ap, sym, subst}
use Rattle.aidl_values.specs.View.{views}
use Rattle.wire_model.specs.Calls.{answer_of}
use Rattle.call_runner.specs.Runs.{projected, within_one}
use Rattle.call_runner.proofs.Outcomes.{line_within}
use Rattle.call_scripts.specs.Calls.{CallFits, call_of}
use Rattle.call_runner.proofs.meaning.law_within_by.Goals as goal

pub returns : goal.returns
returns c =
    let A = c.args.client.now.decls in
    let call = call_of c.args.call.now in
    let e = c.law_outcome_within.ensures in
    λ same. subst (λ B. projected A B (Ok call) ≡ within_one A (Ok call)) (sym same)
    (line_within A call (subst (λ B. CallFits A B call) same c.requires.fits) e.declared e.like
    (views c.as_slice-args.result.now) (ap views c.as_slice-args.ensures) (answer_of c.args.answer.now) c.requires.answer e.comes)
