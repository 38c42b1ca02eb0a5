-- The headline, by what holds for the words of one command.
use Rattle.std.proofs.Common.{◌≡◌, ℕ, Bool, true, List, [], Option, None, Some, subst}
use Rattle.std.specs.Prelude.{◌≢◌}
use Rattle.aidl_base.specs.declared.profile.Profile.{Profile}
use Rattle.aidl_outside.specs.Files.{Files}
use Rattle.aidl_outside.specs.Told.{Adds, Tells}
use Rattle.aidl_schema.specs.Broken.{broken}
use Rattle.aidl_schema.specs.declared.schema.Decl.{Decl}
use Rattle.aidl_tool.specs.Between.{CallRun}
use Rattle.aidl_tool.specs.Headline.{Headline}
use Rattle.run_command.specs.Running.{IsCallsText, neither}
use Rattle.tree_commands.specs.Opens.{IsChecked}
use Rattle.run_command.specs.Tags.{SchemasGive}
use Rattle.aidl_tool.proofs.Phrases.{answered_known, answered_unknown, each, lacking, sent_known, sent_unknown}
use Rattle.parcel_commands.specs.Decode.{profile_of}
use Rattle.run_command.specs.CallLines.{lines_of}
use Rattle.run_command.specs.Projected.{projected_text}
use Rattle.tool_frame.specs.Seen.{Seen}
use Rattle.tool_frame.specs.Verdict.{IsVerdict}
use Rattle.tool_words.specs.Command.{Command, judge, run}
use Rattle.tree_commands.specs.Judged.{judged}
use Rattle.wire_model.specs.Outcome.{OneFollows}

module _ (before now : Seen) (exit : ℕ) (files : Files) where
  pub record RunKeeps (p : Profile) (trace : Bool) (client server calls : List ℕ) : Type 0 where
    pub prints : (text : List ℕ) (A B : List Decl) → IsChecked files client A → IsChecked files server B → IsCallsText files calls text → before.is_faithful ≡ true
        → OneFollows A B → IsVerdict exit → (exit ≡ 0) × Adds before.told now.told (projected_text p A B trace 1 (lines_of text)) × SchemasGive A B
    pub refuses_both : (text : List ℕ) (A B : List Decl) → IsChecked files client A → IsChecked files server B → IsCallsText files calls text → broken A B ≢ [] → broken B A ≢ []
        → IsVerdict exit → (exit ≡ 1) × Adds before.told now.told (neither (broken A B) (broken B A)).text

  pub record JudgeKeeps (old new : List ℕ) : Type 0 where
    pub accepts : (A B : List Decl) → IsChecked files old A → IsChecked files new B → broken A B ≡ [] → IsVerdict exit → (exit ≡ 0) × Adds before.told now.told (judged []).text
    pub refuses : (A B : List Decl) → IsChecked files old A → IsChecked files new B → broken A B ≢ [] → IsVerdict exit
        → (exit ≡ 1) × Adds before.told now.told (judged (broken A B)).text

  -- what holds for a command's words
  abbrev pub Keeps : Option Command → Type 0
  Keeps (Some (run trace lenient client server calls)) = RunKeeps (profile_of lenient) trace client server calls
  Keeps (Some (judge old new)) = JudgeKeeps old new
  Keeps others = Unit {0}

  pub headline : (words : Option Command) → Keeps words → Headline words before now exit files
  headline words keeps = record {
    accepts = λ old new A B is. (judges old new is).accepts A B;
    prints = λ trace lenient client server calls text A B is a b t faithful one verdict.
        let h = (runs trace lenient client server calls is).prints text A B a b t faithful one verdict in (h.0, h.1);
    prints_each = λ x. each (profile_of x.lenient) x.trace x.client x.server x.text x.k x.call x.at before now (kept x).1 (kept x).2;
    seen_sent = λ x. sent_known (profile_of x.lenient) x.trace x.client x.server x.text x.k x.call x.at before now (kept x).1 (kept x).2;
    seen_answered = λ x. answered_known (profile_of x.lenient) x.trace x.client x.server x.text x.k x.call x.at before now (kept x).1 (kept x).2;
    unknown_transaction = λ x. lacking (profile_of x.lenient) x.trace x.client x.server x.text x.k x.call x.at before now (kept x).1 (kept x).2;
    bad_value_sent = λ x. sent_unknown (profile_of x.lenient) x.trace x.client x.server x.text x.k x.call x.at before now (kept x).1 (kept x).2;
    bad_value_answered = λ x. answered_unknown (profile_of x.lenient) x.trace x.client x.server x.text x.k x.call x.at before now (kept x).1 (kept x).2;
    refuses = λ old new A B is. (judges old new is).refuses A B;
    refuses_both = λ trace lenient client server calls text A B is. (runs trace lenient client server calls is).refuses_both text A B;
  }
    where
      judges : (old new : List ℕ) → words ≡ Some (judge old new) → JudgeKeeps old new
      judges old new is = subst Keeps is keeps

      runs : (trace lenient : Bool) (client server calls : List ℕ) → words ≡ Some (run trace lenient client server calls) → RunKeeps (profile_of lenient) trace client server calls
      runs trace lenient client server calls is = subst Keeps is keeps

      -- what is known of the run of a call
      kept : (x : CallRun words before exit files) → (exit ≡ 0) × Adds before.told now.told (projected_text (profile_of x.lenient) x.client x.server x.trace 1 (lines_of x.text)) × SchemasGive x.client x.server
      kept x =
          let r = x.between in
          (runs x.trace x.lenient r.client r.server r.calls r.words_are).prints x.text x.client x.server r.client_checked r.server_checked r.calls_are r.unaltered r.one_follows r.verdict

  -- of a run by a profile
  pub run_headline : (p : Profile) (trace : Bool) (client server calls : List ℕ) → RunKeeps p trace client server calls → (lenient : Bool) → p ≡ profile_of lenient
      → Headline (Some (run trace lenient client server calls)) before now exit files
  run_headline p trace client server calls keeps lenient same =
      headline (Some (run trace lenient client server calls)) (subst (λ q. RunKeeps q trace client server calls) same keeps)

-- what holds of all that is told
pub tells_any : {T : Type 0} (told : Option T) (P : T → Type 0) → ((x : T) → P x) → Tells told P
tells_any None P h = tt
tells_any (Some x) P h = h x

-- of words of which nothing has to hold
pub told_anyway : (told : Option Files) (words : Option Command) (before now : Seen) (exit : ℕ) → ((files : Files) → Keeps before now exit files words)
    → Tells told (Headline words before now exit)
told_anyway told words before now exit keeps = tells_any told (Headline words before now exit) (λ files. headline before now exit files words (keeps files))
