use Rattle.std.proofs.Common.{subst, ◌≡◌}
use Rattle.std.proofs.lemmas.Result.{err_from_is_err_and}
use Rattle.parcel_commands.specs.Tasks.{answer_for, bytes_for}
use Rattle.tree_commands.proofs.lemmas.OfFile.{no_bytes, no_schema, not_loaded, of_schema}
use Rattle.tree_commands.proofs.lemmas.Reading.{early_by, early_bytes}
use Rattle.tool_frame.specs.Results.{printed}
use Rattle.tool_frame.proofs.lemmas.Halts.{early_as, known_early, known_halts, known_last, knows, knows_none}
use Rattle.tool_words.specs.Seen.{tree_seen}
use Rattle.parcel_commands.proofs.tasks.answer_task.Goals as goal

pub returns-in_err-file : goal.returns-in_err-file
returns-in_err-file g c =
    let asked = c.args.asked in
    let q = err_from_is_err_and c.from_residual.result c.from_residual.ensures.1 in
    rw (q.1, q.2) (known_halts _ _ _ _ _ _ _ _ _ _ (knows_none _) c.in_err-file.field-0.0 (λ call told is. is)
    (λ files a none is. not_loaded (bytes_for c.args.task) (tree_seen asked.tree) asked.path.now (λ bytes S answer. answer ≡ answer_for c.args.task S asked.types.now bytes) files a is) c.in_err-file.ensures)

pub returns-in_err-bytes : goal.returns-in_err-bytes
returns-in_err-bytes g c =
    let asked = c.args.asked in
    let q = err_from_is_err_and c.from_residual-in_err-bytes.result c.from_residual-in_err-bytes.ensures.1 in
    rw (q.1, q.2) (known_early _ _ _ _ _ _ c.in_err-bytes.field-0.0
    (λ files both. early_bytes c.in_err-bytes.field-0.0 _ _
    (λ a refused. no_bytes (bytes_for c.args.task) (tree_seen asked.tree) asked.path.now (λ bytes S answer. answer ≡ answer_for c.args.task S asked.types.now bytes) files a _ _ both refused) c.in_err-bytes.ensures.bytes)
    (knows _ _ _ _ _ _ c.in_ok-file.ensures))

pub returns-in_err-schema : goal.returns-in_err-schema
returns-in_err-schema g c =
    let asked = c.args.asked in
    let q = err_from_is_err_and c.from_residual-in_err-schema.result c.from_residual-in_err-schema.ensures.1 in
    rw (q.1, q.2) (known_early _ _ _ _ _ _ c.in_err-schema.field-0.0
    (λ files both. early_by c.in_err-schema.field-0.0 _ _
    (λ a is. no_schema (bytes_for c.args.task) (tree_seen asked.tree) asked.path.now (λ bytes S answer. answer ≡ answer_for c.args.task S asked.types.now bytes) files a _ _ both c.in_ok-bytes.bytes.items c.in_ok-bytes.ensures.bytes is) c.in_err-schema.ensures.err)
    (knows _ _ _ _ _ _ c.in_ok-file.ensures))

pub returns-in_err-printed : goal.returns-in_err-printed
returns-in_err-printed g c =
    let asked = c.args.asked in
    let q = err_from_is_err_and c.from_residual-in_err-printed.result c.from_residual-in_err-printed.ensures.1 in
    rw (q.1, q.2) (known_early _ _ _ _ _ _ c.in_err-printed.field-0.0
    (λ files both. early_as c.in_err-printed.field-0.0 _ _
    (λ a is. of_schema (bytes_for c.args.task) (tree_seen asked.tree) asked.path.now (λ bytes S answer. answer ≡ answer_for c.args.task S asked.types.now bytes) files a _ _ both c.in_ok-bytes.bytes.items c.in_ok-bytes.ensures.bytes c.in_ok-schema.schema.decls c.in_ok-schema.ensures.ok
    (subst (λ b. a ≡ answer_for c.args.task c.in_ok-schema.schema.decls asked.types.now b) c.as_slice.ensures.value is)) c.in_err-printed.ensures)
    (knows _ _ _ _ _ _ c.in_ok-file.ensures))

pub returns : goal.returns
returns g c =
    let asked = c.args.asked in
    known_last _ _ _ _ _ _ c.in_ok-printed.printed
    (λ files both. of_schema (bytes_for c.args.task) (tree_seen asked.tree) asked.path.now (λ bytes S answer. answer ≡ answer_for c.args.task S asked.types.now bytes) files (printed c.in_ok-printed.printed) _ _ both c.in_ok-bytes.bytes.items c.in_ok-bytes.ensures.bytes
    c.in_ok-schema.schema.decls c.in_ok-schema.ensures.ok (subst (λ b. printed c.in_ok-printed.printed ≡ answer_for c.args.task c.in_ok-schema.schema.decls asked.types.now b) c.as_slice.ensures.value c.in_ok-printed.ensures))
    (knows _ _ _ _ _ _ c.in_ok-file.ensures)
