use Rattle.std.proofs.Common.{◌≡◌, ℕ, Some, ap, subst, sym, refl}
use Rattle.aidl_base.specs.declared.profile.Profile.{Profile}
use Rattle.aidl_base.specs.declared.profile.Profile.TheVariants.{Strict, Lenient}
use Rattle.aidl_outside.specs.Told.{Tells}
use Rattle.aidl_tool.specs.Headline.{Headline}
use Rattle.aidl_tool.specs.Meant.{meaning}
use Rattle.aidl_tool.proofs.schemas.JudgesOne.{judges_told}
use Rattle.aidl_tool.proofs.schemas.RunsKept.{runs_told}
use Rattle.parcel_commands.specs.Decode.{profile_of}
use Rattle.parcel_commands.specs.Tasks.{TaskAnswers}
use Rattle.parcel_commands.specs.declared.tasks.Task.TheVariants.{Decode}
use Rattle.run_command.specs.Running.{RunTakes}
use Rattle.tool_frame.specs.Asks.{AsksOptional, AsksTree}
use Rattle.tool_frame.specs.Due.{AsksFileThen, AsksTreeThen}
use Rattle.tool_frame.specs.Ended.{Ended, Ran}
use Rattle.tool_frame.specs.Exit.{number_of}
use Rattle.tool_frame.specs.Meaning.{carries_by, reads_by}
use Rattle.tool_frame.specs.Outside.{link_seen, seen_of}
use Rattle.tool_frame.specs.Seen.{Seen}
use Rattle.tool_words.specs.Command.{Command, ask, check, decode, dump, encode, explain, freeze, judge, rehash, replay, run, verify, witness}
use Rattle.tool_words.specs.declared.command.Command.{Command as Code}
use Rattle.tool_words.specs.Seen.{command_seen, is_lenient, tree_seen}
use Rattle.aidl_tool.proofs.top.carry_out.Goals as goal

profile_same : (p : Profile) → profile_of (is_lenient p) ≡ p
profile_same Strict = refl
profile_same Lenient = refl

-- by the words that a command is
by_words : (command : Code) (words : Command) (before now : Seen) (exit : ℕ) → command_seen command ≡ words → Ran (meaning words) before now exit → Ran (meaning (command_seen command)) before now exit
by_words command words before now exit is h = subst (λ (w : Command). Ran (meaning w) before now exit) (sym is) h

pub returns-in-Decode-clause-ran : goal.returns-in-Decode-clause-ran
returns-in-Decode-clause-ran g c =
    let p = c.in-Decode.profile in
    let f = c.in-Decode.file in
    let asks = AsksFileThen f.path.now (AsksOptional (tree_seen f.tree)) in
    let seen = seen_of g.S.Store g.K.Sink g.L.Link in
    let before = seen c.args.store.now c.args.sink.now c.args.link.now in
    let now = seen c.run_task.new.store c.run_task.new.sink c.args.link.now in
    by_words c.args.command (decode (is_lenient p) (tree_seen f.tree) f.types.now f.path.now) before now (number_of c.run_task.result) (ap command_seen c.in-Decode.is)
    (subst (λ (p : Profile). Ended (reads_by asks (TaskAnswers (Decode p) (tree_seen f.tree) f.types.now f.path.now)) before now (number_of c.run_task.result)) (sym (profile_same p))
    (c.run_task.ensures (link_seen g.L.Link c.args.link.now)))

pub returns-in-Encode-clause-ran : goal.returns-in-Encode-clause-ran
returns-in-Encode-clause-ran g c =
    by_words c.args.command (encode (tree_seen c.in-Encode.file.tree) c.in-Encode.file.types.now c.in-Encode.file.path.now) _ _ (number_of c.run_task-in-Encode.result) (ap command_seen c.in-Encode.is) (c.run_task-in-Encode.ensures (link_seen g.L.Link c.args.link.now))

pub returns-in-Check-clause-ran : goal.returns-in-Check-clause-ran
returns-in-Check-clause-ran g c =
    by_words c.args.command (check c.in-Check.tree.now) _ _ (number_of c.check.result) (ap command_seen c.in-Check.is) (c.check.ensures (link_seen g.L.Link c.args.link.now))

pub returns-in-Dump-clause-ran : goal.returns-in-Dump-clause-ran
returns-in-Dump-clause-ran g c =
    by_words c.args.command (dump c.in-Dump.tree.now c.in-Dump.out.now) _ _ (number_of c.dump.result) (ap command_seen c.in-Dump.is) (c.dump.ensures (link_seen g.L.Link c.args.link.now))

pub returns-in-Freeze-clause-ran : goal.returns-in-Freeze-clause-ran
returns-in-Freeze-clause-ran g c =
    by_words c.args.command (freeze c.in-Freeze.tree.now c.in-Freeze.api.now) _ _ (number_of c.freeze.result) (ap command_seen c.in-Freeze.is) (c.freeze.ensures (link_seen g.L.Link c.args.link.now))

pub returns-in-Judge-clause-ran : goal.returns-in-Judge-clause-ran
returns-in-Judge-clause-ran g c =
    by_words c.args.command (judge c.in-Judge.old.now c.in-Judge.new.now) _ _ (number_of c.judge.result) (ap command_seen c.in-Judge.is) (c.judge.ensures (link_seen g.L.Link c.args.link.now))

pub returns-in-Judge-clause-headline : goal.returns-in-Judge-clause-headline
returns-in-Judge-clause-headline g c =
    let old = c.in-Judge.old.now in
    let new = c.in-Judge.new.now in
    let words : Command = judge old new in
    let is : command_seen c.args.command ≡ words = ap command_seen c.in-Judge.is in
    let seen = seen_of g.S.Store g.K.Sink g.L.Link in
    let before = seen c.args.store.now c.args.sink.now c.args.link.now in
    let now = seen c.judge.new.store c.judge.new.sink c.args.link.now in
    subst (λ (words : Command). Tells (g.S.Store.kept c.args.store.now) (Headline (Some words) before now (number_of c.judge.result))) (sym is)
    (judges_told (AsksTreeThen old (AsksTree new)) old new before now (number_of c.judge.result) (c.judge.ensures (link_seen g.L.Link c.args.link.now)))

pub returns-in-Run-clause-ran : goal.returns-in-Run-clause-ran
returns-in-Run-clause-ran g c =
    let w = c.in-Run.words in
    let asks = AsksFileThen w.calls.now (AsksTreeThen w.client.now (AsksTree w.server.now)) in
    let seen = seen_of g.S.Store g.K.Sink g.L.Link in
    let before = seen c.args.store.now c.args.sink.now c.args.link.now in
    let now = seen c.run.new.store c.run.new.sink c.run.new.link in
    by_words c.args.command (run w.trace (is_lenient w.profile) w.client.now w.server.now w.calls.now) before now (number_of c.run.result) (ap command_seen c.in-Run.is)
    (subst (λ (p : Profile). Ended (carries_by asks (RunTakes p w.trace w.client.now w.server.now w.calls.now)) before now (number_of c.run.result)) (sym (profile_same w.profile)) c.run.ensures.ends)

pub returns-in-Run-clause-headline : goal.returns-in-Run-clause-headline
returns-in-Run-clause-headline g c =
    let w = c.in-Run.words in
    let words : Command = run w.trace (is_lenient w.profile) w.client.now w.server.now w.calls.now in
    let is : command_seen c.args.command ≡ words = ap command_seen c.in-Run.is in
    let asks = AsksFileThen w.calls.now (AsksTreeThen w.client.now (AsksTree w.server.now)) in
    let seen = seen_of g.S.Store g.K.Sink g.L.Link in
    let before = seen c.args.store.now c.args.sink.now c.args.link.now in
    let now = seen c.run.new.store c.run.new.sink c.run.new.link in
    subst (λ (words : Command). Tells (g.S.Store.kept c.args.store.now) (Headline (Some words) before now (number_of c.run.result))) (sym is)
    (runs_told w.profile w.trace w.client.now w.server.now w.calls.now asks before now (number_of c.run.result) (is_lenient w.profile) (sym (profile_same w.profile)) c.run.ensures.ends c.run.ensures.projected)

pub returns-in-Witness-clause-ran : goal.returns-in-Witness-clause-ran
returns-in-Witness-clause-ran g c =
    by_words c.args.command (witness c.in-Witness.old.now c.in-Witness.new.now) _ _ (number_of c.witness.result) (ap command_seen c.in-Witness.is) (c.witness.ensures (link_seen g.L.Link c.args.link.now))

pub returns-in-Verify-clause-ran : goal.returns-in-Verify-clause-ran
returns-in-Verify-clause-ran g c =
    by_words c.args.command (verify c.in-Verify.api.now) _ _ (number_of c.verify.result) (ap command_seen c.in-Verify.is) (c.verify.ensures (link_seen g.L.Link c.args.link.now))

pub returns-in-Ask-clause-ran : goal.returns-in-Ask-clause-ran
returns-in-Ask-clause-ran g c =
    by_words c.args.command (ask c.in-Ask.words.api.now c.in-Ask.words.version c.in-Ask.words.interface.now c.in-Ask.words.code c.in-Ask.words.path.now) _ _ (number_of c.ask.result) (ap command_seen c.in-Ask.is) (c.ask.ensures (link_seen g.L.Link c.args.link.now))

pub returns-in-Rehash-clause-ran : goal.returns-in-Rehash-clause-ran
returns-in-Rehash-clause-ran g c =
    by_words c.args.command (rehash c.in-Rehash.api.now) _ _ (number_of c.rehash.result) (ap command_seen c.in-Rehash.is) (c.rehash.ensures (link_seen g.L.Link c.args.link.now))

pub returns-in-Explain-clause-ran : goal.returns-in-Explain-clause-ran
returns-in-Explain-clause-ran g c =
    by_words c.args.command (explain (tree_seen c.in-Explain.file.tree) c.in-Explain.file.types.now c.in-Explain.file.path.now) _ _ (number_of c.run_task-in-Explain.result) (ap command_seen c.in-Explain.is) (c.run_task-in-Explain.ensures (link_seen g.L.Link c.args.link.now))

pub returns-in-Replay-clause-ran : goal.returns-in-Replay-clause-ran
returns-in-Replay-clause-ran g c =
    by_words c.args.command (replay c.in-Replay.words.server.now c.in-Replay.words.interface.now c.in-Replay.words.trace.now) _ _ (number_of c.replay.result) (ap command_seen c.in-Replay.is) (c.replay.ensures (link_seen g.L.Link c.args.link.now))
