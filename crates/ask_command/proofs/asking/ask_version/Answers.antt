use Rattle.std.proofs.Common.{◌≡◌, ℕ, List, Err, ◌∙◌, subst}
use Rattle.std.proofs.lemmas.Result.{err_from_is_err_and}
use Rattle.ask_command.specs.Asked.{words_seen, AsksHash, ask_answer}
use Rattle.ask_command.specs.Versions.{version_found, whole_found}
use Rattle.ask_command.proofs.AskSteps.{by_hash, by_version, checked_ends, checked_goes}
use Rattle.api_versions.specs.declared.version.Version.{Version}
use Rattle.api_versions.specs.Versions.{version_folder}
use Rattle.tool_frame.specs.Answer.{Then}
use Rattle.tool_frame.proofs.lemmas.EarlyEnds.{then_ends}
use Rattle.tree_commands.specs.Faults.{IsFaultAnswer}
use Rattle.tree_commands.specs.Results.{EndsBy}
use Rattle.ask_command.proofs.asking.ask_version.Goals as goal

pub returns-in_err-version : goal.returns-in_err-version
returns-in_err-version c =
    let w = words_seen c.args.asked in
    let q = err_from_is_err_and c.from_residual.result c.from_residual.ensures.1 in
    rw (q.1, q.2) (then_ends {T = Version} (λ v. v) c.in_err-version.field-0.0 (version_found w.version c.args.versions) (λ v. Then (whole_found v) (AsksHash w c.args.parcel.now v)) c.in_err-version.ensures.found)

pub returns-in_err-hash : goal.returns-in_err-hash
returns-in_err-hash c =
    let w = words_seen c.args.asked in
    let q = err_from_is_err_and c.from_residual-in_err-hash.result c.from_residual-in_err-hash.ensures.1 in
    rw (q.1, q.2) (by_version w c.args.parcel.now c.args.versions (Err c.in_err-hash.field-0.0) c.in_ok-version.version c.in_ok-version.ensures.found
    (then_ends {T = List ℕ} (λ hash. hash) c.in_err-hash.field-0.0 (whole_found c.in_ok-version.version) (AsksHash w c.args.parcel.now c.in_ok-version.version) c.in_err-hash.ensures.found))

pub returns-in_err-root : goal.returns-in_err-root
returns-in_err-root c =
    let q = err_from_is_err_and c.from_residual-in_err-root.result c.from_residual-in_err-root.ensures.1 in
    rw (q.1, q.2) tt

pub returns-in_err-schema : goal.returns-in_err-schema
returns-in_err-schema c =
    let w = words_seen c.args.asked in
    let q = err_from_is_err_and c.from_residual-in_err-schema.result c.from_residual-in_err-schema.ensures.1 in
    rw (q.1, q.2) (by_hash w c.args.parcel.now c.args.versions (Err c.in_err-schema.field-0.0) c.in_ok-version.version c.in_ok-version.ensures.found c.in_ok-hash.hash c.in_ok-hash.ensures.found
    (checked_ends (version_folder w.api w.version) c.in_ok-version.version.files (λ S answer. answer ≡ ask_answer S w.version c.in_ok-hash.hash w.interface w.code c.args.parcel.now) c.in_err-schema.field-0.0
    (subst (λ r. EndsBy (IsFaultAnswer r c.in_ok-version.version.files) c.in_err-schema.field-0.0) (c.as_str.ensures.value ∙ c.in_ok-root.ensures) c.in_err-schema.ensures.err)))

pub returns : goal.returns
returns c =
    let w = words_seen c.args.asked in
    by_hash w c.args.parcel.now c.args.versions c.ask_answer.result c.in_ok-version.version c.in_ok-version.ensures.found c.in_ok-hash.hash c.in_ok-hash.ensures.found
    (checked_goes (version_folder w.api w.version) c.in_ok-version.version.files c.ask_answer.result c.in_ok-schema.schema.decls (λ S. ask_answer S w.version c.in_ok-hash.hash w.interface w.code c.args.parcel.now) c.in_ok-schema.ensures.ok c.ask_answer.ensures)
