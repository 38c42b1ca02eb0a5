-- The phrases of the headline, of one call of a run that has put what its lines are projected to.
use Rattle.std.proofs.Common.{◌≡◌, ℕ, Bool, List, Option, Some, Ok, Err, option_map, sym, ap, ◌∙◌, subst}
use Rattle.aidl_base.specs.declared.profile.Profile.{Profile}
use Rattle.aidl_outside.specs.Told.{Adds}
use Rattle.aidl_schema.specs.declared.schema.Decl.{Decl}
use Rattle.aidl_values.specs.Data.{Data, Items}
use Rattle.aidl_tool.proofs.Lacking.{both_there, has_seen, known_answered, nothing, one_missing, something, unknown_answered, unknown_method, unviewed}
use Rattle.aidl_tool.proofs.LineAt.{puts_at}
use Rattle.aidl_tool.specs.Between.{AnswerSeen, Answered, ArgumentsSeen, HasSeen, IsCallAt, IsKnownAnswered, IsKnownSent, IsUnknownAnswered, IsUnknownSent, LacksMethod, PutsAt}
use Rattle.run_command.specs.Tags.{SchemasGive}
use Rattle.call_runner.specs.Lines.{LineData, done, transport}
use Rattle.call_runner.specs.Runs.{answer_by, projected}
use Rattle.call_scripts.specs.Calls.{CallData, CallFits, TargetData, TargetFits, method_of_server, callee}
use Rattle.run_command.specs.CallLines.{lines_of}
use Rattle.run_command.specs.Projected.{projected_text}
use Rattle.tool_frame.specs.Seen.{Seen}
use Rattle.wire_model.proofs.lemmas.Seen.{arguments_seen_as, outs_seen_as, result_seen_as}
use Rattle.wire_model.specs.Calls.{returned, arguments, out_types, result_type}
use Rattle.wire_model.specs.MethodOf.{method_of}
use Rattle.wire_model.specs.Outcome.{Reaches, view_arguments, view_result, view_values}
use Rattle.wire_model.specs.Requests.{IsAnswer}
use Rattle.wire_model.specs.Status.{bad_value, unknown_transaction}

module _ (p : Profile) (trace : Bool) (A B : List Decl) (text : List ℕ) (k : ℕ) (c : CallData) (call : IsCallAt A B text k c) (before now : Seen)
    (adds : Adds before.told now.told (projected_text p A B trace 1 (lines_of text))) (given : SchemasGive A B) where
  fits : CallFits A B c
  fits = given.fits call.line c call.meant

  abbrev Puts : LineData → Type 0
  Puts out = PutsAt p trace A B text k c before now out

  pub each : Puts (projected A B (Ok c))
  each = puts_at p trace A B text k c call before now adds

  by_out : (out : LineData) → projected A B (Ok c) ≡ out → Puts out
  by_out out is = subst Puts is each

  pub lacking : LacksMethod A B c → Puts (transport unknown_transaction)
  lacking lacks = by_out (transport unknown_transaction) (unknown_method A B c lacks)

  module _ (j n : ℕ) (there : Reaches (callee A c) (method_of B j n)) where
    pub sent_unknown : IsUnknownSent A B c j n → Puts (transport bad_value)
    sent_unknown unknown =
        by_out (transport bad_value) (unviewed A B c j n there (nothing (view_arguments A (arguments (callee A c)) B (arguments (method_of B j n)) c.args)
        (given.sent c.interface c.method j n c.args there fits.args.each ∙ unknown)))

    views : IsKnownSent A B c j n → (saw : Items) × (view_arguments A (arguments (callee A c)) B (arguments (method_of B j n)) c.args ≡ Some saw)
    views known = something (view_arguments A (arguments (callee A c)) B (arguments (method_of B j n)) c.args) (given.sent c.interface c.method j n c.args there fits.args.each ∙ known)

    pub sent_known : IsKnownSent A B c j n → (saw : Items) × ArgumentsSeen A B c j n saw × HasSeen (projected A B (Ok c)) saw
    sent_known known =
        let v = views known in
        (v.0, arguments_seen_as A B (arguments (callee A c)) (arguments (method_of B j n)) c.args v.0 v.1, has_seen A B c j n there v.0 v.1)

  module _ (j n : ℕ) (result : Option Data) (outs : Items) (answers : Answered B c j n result outs) where
    abbrev target : TargetData
    target = record { method = n; answer = returned result outs }

    reaches : Reaches (callee A c) (method_of B j n)
    reaches =
        let like : option_map (λ (t : TargetData). t.method) (Some target) ≡ method_of_server (callee A c) B (Some j) =
        sym (ap (λ o. option_map (λ (t : TargetData). t.method) o) answers.target) ∙ fits.target ∙ ap (method_of_server (callee A c) B) answers.server in
        (fits.server.declared j answers.server, sym like)

    answered : answer_by c.target ≡ returned result outs
    answered = ap answer_by answers.target

    is_answer : IsAnswer (method_of B j n) (returned result outs)
    is_answer =
        let target_fits : TargetFits B (Some j) (Some target) = subst (λ o. TargetFits B (Some j) o) answers.target (subst (λ s. TargetFits B s c.target) answers.server fits.answer) in
        target_fits.answer

    pub answered_unknown : IsKnownSent A B c j n → IsUnknownAnswered A B c j n result outs
        → (saw : Items) × ArgumentsSeen A B c j n saw × (projected A B (Ok c) ≡ done (Some saw) (Err bad_value))
    answered_unknown known unknown =
        let v = views j n reaches known in
        let missing = one_missing (view_result B (result_type (method_of B j n)) A (result_type (callee A c)) result) (view_values B (out_types (method_of B j n)) A (out_types (callee A c)) outs)
        (given.answered c.interface c.method j n result outs reaches is_answer ∙ unknown) in (
          v.0,
          arguments_seen_as A B (arguments (callee A c)) (arguments (method_of B j n)) c.args v.0 v.1,
          unknown_answered A B c j n reaches v.0 v.1 answers.two_way result outs answered missing,
        )

    pub answered_known : IsKnownSent A B c j n → IsKnownAnswered A B c j n result outs
        → (saw : Items) × (r : Option Data) × (vs : Items) × AnswerSeen A B c j n result outs r vs × (projected A B (Ok c) ≡ done (Some saw) (Ok (returned r vs)))
    answered_known known known_answer =
        let v = views j n reaches known in
        let got = both_there (view_result B (result_type (method_of B j n)) A (result_type (callee A c)) result) (view_values B (out_types (method_of B j n)) A (out_types (callee A c)) outs)
        (given.answered c.interface c.method j n result outs reaches is_answer ∙ known_answer) in (
          v.0,
          got.0,
          got.1,
          (result_seen_as B A (result_type (method_of B j n)) (result_type (callee A c)) result got.0 got.2, outs_seen_as B A (out_types (method_of B j n)) (out_types (callee A c)) outs got.1 got.3),
          known_answered A B c j n reaches v.0 v.1 answers.two_way result outs answered got.0 got.1 got.2 got.3,
        )
