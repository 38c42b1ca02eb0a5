use Rattle.std.proofs.Common.{◌||◌, ap, ◌∙◌}
use Rattle.std.specs.Prelude.{is_none}
use Rattle.wire_model.proofs.calls.Unknown.{arguments_none, meeting, result_none, values_none}
use Rattle.wire_model.proofs.lemmas.calls.Outcomes.{turned}
use Rattle.wire_model.specs.Calls.{arguments, out_types, result_type}
use Rattle.wire_model.specs.MethodOf.{method_of}
use Rattle.wire_model.specs.Outcome.{view_values}
use Rattle.wire_model.specs.Unknown.{result_has_unknown_tag}
use Rattle.wire_model.proofs.laws.law_call_none.Goals as goal

pub returns-clause-sent : goal.returns-clause-sent
returns-clause-sent c = λ follows i m j n args reaches fits.
    let A = c.args.a.now.decls in
    let B = c.args.b.now.decls in
    let meet = meeting A B (c.law_calls_meet.ensures follows) (c.law_calls_meet-2.ensures (turned A B follows)) c.law_valid.ensures.declarations i m j n reaches.0 reaches.1 in
    arguments_none A B (c.law_meets.ensures follows) (arguments (method_of A i m)) (arguments (method_of B j n)) args meet.sent fits

pub returns-clause-answered : goal.returns-clause-answered
returns-clause-answered c = λ follows i m j n result outs reaches fits.
    let A = c.args.a.now.decls in
    let B = c.args.b.now.decls in
    let back = c.law_meets-2.ensures (turned A B follows) in
    let meet = meeting A B (c.law_calls_meet.ensures follows) (c.law_calls_meet-2.ensures (turned A B follows)) c.law_valid.ensures.declarations i m j n reaches.0 reaches.1 in
    ap (λ b. b || is_none (view_values B (out_types (method_of B j n)) A (out_types (method_of A i m)) outs)) (result_none B A back (result_type (method_of B j n)) (result_type (method_of A i m)) result meet.result fits.0)
    ∙ ap (λ b. result_has_unknown_tag B (result_type (method_of B j n)) A (result_type (method_of A i m)) result || b) (values_none B A back (out_types (method_of B j n)) (out_types (method_of A i m)) outs meet.outs fits.1)
