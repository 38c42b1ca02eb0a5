use Rattle.std.proofs.Common.{ap}
use Rattle.aidl_values.specs.View.{views}
use Rattle.wire_model.specs.Calls.{answer_of}
use Rattle.call_runner.proofs.Outcomes.{line_by, names_at}
use Rattle.call_scripts.specs.Calls.{call_of}
use Rattle.call_runner.proofs.meaning.law_projected_at.Goals as goal

pub returns : goal.returns
returns c =
    let p = c.args.profile in
    let A = c.args.client.now.decls in
    let B = c.args.server.now.decls in
    let call = call_of c.args.call.now in
    let j = c.args.other in
    let is = c.requires.server in
    let declared = c.requires.fits.server.declared j is in
    let e = c.law_outcome.ensures in
    record {
      outcome = λ follows. line_by p A B call c.requires.fits c.args.sent.now c.args.reply.now j is (e.never_left follows declared) (e.common follows declared)
          (views c.as_slice-args.result.now) (ap views c.as_slice-args.ensures) (answer_of c.args.answer.now) c.requires.answer
          (e.refused follows declared) (e.oneway follows declared) (e.done follows declared);
      named = λ follows. names_at p A B call c.requires.fits c.args.sent.now c.args.reply.now j is (e.never_left follows declared) (e.common follows declared);
    }
