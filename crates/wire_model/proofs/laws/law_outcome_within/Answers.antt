use Rattle.std.proofs.Common.{ℤ, cond, inl, Result, Ok, ap, ◌∙◌}
use Rattle.aidl_values.specs.View.{views}
use Rattle.wire_model.specs.Calls.{AnswerData, answer_of, arguments, is_oneway}
use Rattle.wire_model.specs.MethodOf.{method_of}
use Rattle.wire_model.specs.Outcome.{Done, oneway, done}
use Rattle.wire_model.specs.Receiver.{opened_arguments}
use Rattle.wire_model.proofs.lemmas.calls.Itself.{method_there, declared_itself, like_itself, called_itself, got_itself}
use Rattle.wire_model.proofs.lemmas.calls.Outcomes.{outcome_is}
use Rattle.wire_model.proofs.laws.law_outcome_within.Goals as goal

pub returns : goal.returns
returns c =
    let S = c.args.schema.now.decls in
    let i = c.args.interface in
    let m = c.args.method in
    let args = views c.args.args.now in
    let answer = answer_of c.args.answer.now in
    let meets = c.law_meets.ensures (inl c.law_chain.ensures.itself) in
    let calls = c.law_calls_meet.ensures (inl c.law_chain.ensures.itself) in
    let itself = c.law_same_types.ensures.itself in
    let holds = c.law_valid.ensures.declarations in
    let apart = c.law_valid.ensures.apart in
    let x = method_there S i m c.requires.there in
    let saw = opened_arguments S (arguments (method_of S i m)) args in
    record {
      declared = declared_itself S meets calls itself holds apart i m x.0 x.1 x.2 x.3;
      like = like_itself S meets calls itself holds apart i m x.0 x.1 x.2 x.3;
      comes = λ fits. outcome_is S i m S args answer i (declared_itself S meets calls itself holds apart i m x.0 x.1 x.2 x.3) m saw
          (called_itself S meets calls itself holds apart i m x.0 x.1 x.2 x.3 args c.requires.fits.each)
          ∙ ap (λ (a : Result AnswerData ℤ). let y : Result Done ℤ = Ok (cond (is_oneway (method_of S i m)) (oneway saw) (done saw a)) in y)
          (got_itself S meets calls itself holds apart i m x.0 x.1 x.2 x.3 answer fits.answer);
    }
