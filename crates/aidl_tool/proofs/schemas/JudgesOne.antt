-- `judge` answers by the one schema that each tree has.
use Rattle.std.proofs.Common.{◌≡◌, ℕ, List, [], ◌∷◌, Option, Some, None, Ok, Err, refl, ap, ◌∙◌, subst, inr}
use Rattle.std.specs.Prelude.{◌≢◌}
use Rattle.aidl_base.specs.declared.source_file.SourceFile.{SourceFile}
use Rattle.aidl_outside.specs.Asks.{Asks}
use Rattle.aidl_outside.specs.Files.{Files}
use Rattle.aidl_outside.specs.Told.{Adds, Tells}
use Rattle.aidl_outside.proofs.lemmas.Telling.{tells}
use Rattle.aidl_schema.specs.Broken.{Break, broken}
use Rattle.aidl_schema.specs.declared.schema.Decl.{Decl}
use Rattle.aidl_tool.specs.Headline.{Headline}
use Rattle.tree_commands.specs.Opens.{IsChecked}
use Rattle.tree_commands.specs.Judged.{JudgeAnswers}
use Rattle.aidl_tool.proofs.Kept.{JudgeKeeps, headline}
use Rattle.aidl_tool.proofs.ones.Answers.{one_judge}
use Rattle.tool_frame.specs.Answer.{Answer}
use Rattle.tool_frame.specs.Ended.{Ended, EndsAsMeant}
use Rattle.tool_frame.specs.Meaning.{reads_by}
use Rattle.tool_frame.specs.Seen.{Seen}
use Rattle.tree_commands.proofs.lemmas.Reading.{in_both_checked}
use Rattle.tool_frame.specs.Verdict.{IsVerdict, exit_of}
use Rattle.tool_words.specs.Command.{judge}
use Rattle.tree_commands.specs.Judged.{judged}

broken_exit : (bs : List Break) → bs ≢ [] → exit_of (judged bs).verdict ≡ 1
broken_exit [] some = absurd (some refl)
broken_exit (b ∷ bs) some = refl

pub tells_if : (kept : Option Files) (V : Type 0) (P : Files → Type 0) → (V → Tells kept P) → Tells kept (λ files. V → P files)
tells_if None V P h = tt
tells_if (Some files) V P h = h

-- how `judge` ends
module _ (asks : Asks) (old new : List ℕ) (before now : Seen) (exit : ℕ) where
  abbrev pub Ends : Files → Type 0
  Ends files = IsVerdict exit → EndsAsMeant (reads_by asks (JudgeAnswers old new)) before now exit files

  judges : (files : Files) → Ends files → JudgeKeeps before now exit files old new
  judges files ends = record {
    accepts = λ A B a b none verdict.
        (exits A B a b verdict ∙ ap (λ bs. exit_of (judged bs).verdict) none, subst (λ bs. Adds before.told now.told (judged bs).text) none (lists A B a b verdict));
    refuses = λ A B a b some verdict. (exits A B a b verdict ∙ broken_exit (broken A B) some, lists A B a b verdict);
  }
    where
      one : (A B : List Decl) → IsChecked files old A → IsChecked files new B → (answer : Answer) → JudgeAnswers old new files answer → answer ≡ judged (broken A B)
      one A B a b answer is = one_judge old new files answer (judged (broken A B)) is (in_both_checked old new files (λ A B answer. answer ≡ judged (broken A B)) (judged (broken A B)) A B a b refl)

      exits : (A B : List Decl) → IsChecked files old A → IsChecked files new B → IsVerdict exit → exit ≡ exit_of (judged (broken A B)).verdict
      exits A B a b verdict = let e = ends verdict in e.5 ∙ ap (λ (x : Answer). exit_of x.verdict) (one A B a b e.3 e.4)

      lists : (A B : List Decl) → IsChecked files old A → IsChecked files new B → IsVerdict exit → Adds before.told now.told (judged (broken A B)).text
      lists A B a b verdict = let e = ends verdict in subst (λ (x : Answer). Adds before.told now.told x.text) (one A B a b e.3 e.4) e.6

  pub judges_told : Ended (reads_by asks (JudgeAnswers old new)) before now exit → Tells before.kept (Headline (Some (judge old new)) before now exit)
  judges_told ended =
      tells before.kept Ends (Headline (Some (judge old new)) before now exit) (λ files ends. headline before now exit files (Some (judge old new)) (judges files ends))
      (tells_if before.kept (IsVerdict exit) (EndsAsMeant (reads_by asks (JudgeAnswers old new)) before now exit) ended.answer)
