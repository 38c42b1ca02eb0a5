use Rattle.std.proofs.Common.{◌≡◌, ℕ, List, Err, ◌∙◌, subst, Vec, Global}
use Rattle.std.proofs.lemmas.Result.{err_from_is_err_and}
use Rattle.ask_command.specs.steps.Asking.{all_of}
use Rattle.ask_command.specs.Asked.{words_seen, AsksParcel, AsksVersion}
use Rattle.ask_command.proofs.AskSteps.{by_parcel, by_versions}
use Rattle.api_versions.specs.declared.version.Version.{Version}
use Rattle.parcel_commands.specs.Refusals.{parcel_of}
use Rattle.tool_frame.specs.Results.{GivesOne, held}
use Rattle.tool_frame.proofs.lemmas.EarlyEnds.{then_ends}
use Rattle.ask_command.proofs.asking.ask_versions.Goals as goal

pub returns-in_err-parcel : goal.returns-in_err-parcel
returns-in_err-parcel c =
    let q = err_from_is_err_and c.from_residual.result c.from_residual.ensures.1 in
    rw (q.1, q.2) (then_ends {T = Vec ℕ Global} (λ (v : Vec ℕ Global). v.items) c.in_err-parcel.field-0.0 (parcel_of (held c.args.file)) (AsksParcel (words_seen c.args.asked) (all_of c.args.versions)) c.in_err-parcel.ensures.bytes)

pub returns-in_err-versions : goal.returns-in_err-versions
returns-in_err-versions c =
    let w = words_seen c.args.asked in let file = held c.args.file in let versions = all_of c.args.versions in
    let q = err_from_is_err_and c.from_residual-in_err-versions.result c.from_residual-in_err-versions.ensures.1 in
    rw (q.1, q.2) (by_parcel w file versions (Err c.in_err-versions.field-0.0) c.in_ok-parcel.parcel.items c.in_ok-parcel.ensures.bytes (then_ends {T = List Version} (λ vs. vs) c.in_err-versions.field-0.0 versions (AsksVersion w c.in_ok-parcel.parcel.items) c.in_err-versions.ensures))

pub returns : goal.returns
returns c =
    let w = words_seen c.args.asked in
    by_versions w (held c.args.file) (all_of c.args.versions) c.ask_version.result c.in_ok-parcel.parcel.items c.in_ok-parcel.ensures.bytes c.in_ok-versions.versions c.in_ok-versions.ensures
    (subst (λ b. GivesOne c.ask_version.result (AsksVersion w b c.in_ok-versions.versions)) c.as_slice.ensures.value c.ask_version.ensures)
