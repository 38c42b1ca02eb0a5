-- `run` runs the one course of the schemas that both trees have.
use Rattle.std.proofs.Common.{◌≡◌, ℕ, Bool, List, [], ◌∷◌, Some, refl, ap, ◌∙◌, subst}
use Rattle.std.specs.Prelude.{◌≢◌}
use Rattle.std.proofs.lemmas.List.{append-nil}
use Rattle.aidl_base.specs.declared.profile.Profile.{Profile}
use Rattle.aidl_outside.specs.declared.link.Carried.{Carried}
use Rattle.aidl_outside.specs.Asks.{Asks}
use Rattle.aidl_outside.specs.Files.{Files}
use Rattle.aidl_outside.specs.Told.{Adds, Tells}
use Rattle.aidl_outside.proofs.lemmas.Telling.{tells_both}
use Rattle.aidl_schema.specs.Broken.{Break, broken}
use Rattle.aidl_tool.specs.Headline.{Headline}
use Rattle.aidl_tool.proofs.Kept.{RunKeeps, run_headline}
use Rattle.aidl_tool.proofs.ones.Meanings.{one_run}
use Rattle.aidl_tool.proofs.schemas.JudgesOne.{tells_if}
use Rattle.parcel_commands.specs.Decode.{profile_of}
use Rattle.run_command.specs.Running.{RunTakes, judged_course, lines_course, neither, run_course}
use Rattle.run_command.specs.CallLines.{lines_of}
use Rattle.run_command.specs.Tags.{ProjectsChecked}
use Rattle.run_command.proofs.lemmas.RunsOne.{checked_takes}
use Rattle.tool_frame.specs.Answer.{Answer}
use Rattle.tool_frame.specs.Course.{Course, answer_after}
use Rattle.tool_frame.specs.Ended.{Ended, EndsAsMeant}
use Rattle.tool_frame.specs.Meaning.{carries_by}
use Rattle.tool_frame.specs.Seen.{Seen}
use Rattle.tool_frame.specs.Verdict.{IsVerdict, exit_of}
use Rattle.tool_words.specs.Command.{run}

-- neither tree may follow the other
refused_both : (there back : List Break) (lines course : Course) (entries : List Carried) (answer : Answer) (before now : Seen) (exit : ℕ)
    → course ≡ judged_course there back lines → there ≢ [] → back ≢ [] → answer ≡ answer_after course entries → exit ≡ exit_of answer.verdict → Adds before.told now.told answer.text
    → (exit ≡ 1) × Adds before.told now.told (neither there back).text
refused_both [] back lines course entries answer before now exit e some others is exits adds = absurd (some refl)
refused_both (b ∷ there) [] lines course entries answer before now exit e some others is exits adds = absurd (others refl)
refused_both (b ∷ there) (c ∷ back) lines course entries answer before now exit e some others is exits adds =
    let same : answer ≡ answer_after (judged_course (b ∷ there) (c ∷ back) lines) entries = is ∙ ap (λ x. answer_after x entries) e in (
      exits ∙ ap (λ (x : Answer). exit_of x.verdict) same,
      subst (Adds before.told now.told) (append-nil (neither (b ∷ there) (c ∷ back)).text) (subst (λ (x : Answer). Adds before.told now.told x.text) same adds),
    )

-- how `run` ends
module _ (p : Profile) (trace : Bool) (client server calls : List ℕ) (asks : Asks) (before now : Seen) (exit : ℕ) where
  abbrev Ends : Files → Type 0
  Ends files = IsVerdict exit → EndsAsMeant (carries_by asks (RunTakes p trace client server calls)) before now exit files

  runs : (files : Files) → Ends files → ProjectsChecked p trace client server calls before now exit files → RunKeeps before now exit files p trace client server calls
  runs files ends projects = record {
    prints = λ text A B a b t faithful one. projects A B text a b t one faithful;
    refuses_both = λ text A B a b t some others verdict.
        let e = ends verdict in
        refused_both (broken A B) (broken B A) (lines_course p A B trace 1 (lines_of text)) e.4.0 e.0 e.3 before now exit
        (one_run p trace client server calls files e.4.0 (run_course p A B trace text) e.4.1 (checked_takes p trace client server calls files A B text a b t)) some others e.4.2 e.5 e.6;
  }

  pub runs_told : (lenient : Bool) → p ≡ profile_of lenient → Ended (carries_by asks (RunTakes p trace client server calls)) before now exit
      → Tells before.kept (ProjectsChecked p trace client server calls before now exit) → Tells before.kept (Headline (Some (run trace lenient client server calls)) before now exit)
  runs_told lenient same ended projects =
      tells_both before.kept Ends (ProjectsChecked p trace client server calls before now exit) (Headline (Some (run trace lenient client server calls)) before now exit)
      (λ files ends h. run_headline before now exit files p trace client server calls (runs files ends h) lenient same)
      (tells_if before.kept (IsVerdict exit) (EndsAsMeant (carries_by asks (RunTakes p trace client server calls)) before now exit) ended.answer) projects
