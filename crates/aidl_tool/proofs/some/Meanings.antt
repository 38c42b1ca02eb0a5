-- What a command that reads or carries means is one thing at the least.
use Rattle.std.proofs.Common.{◌≡◌, ℕ, Bool, List, [], Option, Some, None, refl}
use Rattle.aidl_base.specs.declared.limit.LimitName.TheVariants.{TextBytes}
use Rattle.aidl_base.specs.declared.profile.Profile.{Profile}
use Rattle.aidl_base.specs.declared.source_file.SourceFile.{SourceFile}
use Rattle.aidl_outside.specs.Asks.{Asks}
use Rattle.aidl_outside.specs.Files.{Files}
use Rattle.aidl_schema.specs.Broken.{broken}
use Rattle.aidl_schema.specs.declared.schema.Decl.{Decl}
use Rattle.tree_commands.specs.InTree.{BySchema, Checked, InTree, OfFile}
use Rattle.tree_commands.specs.ByTree.{ByBoth, OverBoth}
use Rattle.tree_commands.specs.Checked.{CheckAnswers, IsCheckAnswer, accepted}
use Rattle.tree_commands.specs.Judged.{JudgeAnswers, judged}
use Rattle.aidl_tool.specs.Meant.{meaning}
use Rattle.replay_command.specs.Replaying.{ReplayAnswers, replay_answer}
use Rattle.run_command.specs.Running.{RunTakes, RunsLoaded, run_course}
use Rattle.aidl_tool.specs.SomeMeaning.{IsSome, MeansSome}
use Rattle.parcel_commands.specs.Tasks.{TaskAnswers, answer_for, bytes_for}
use Rattle.parcel_commands.specs.declared.tasks.Task.{Task}
use Rattle.aidl_tool.proofs.some.ByTree.{by_both, by_files, by_found, by_over_both}
use Rattle.parcel_commands.specs.Decode.{profile_of}
use Rattle.run_command.specs.CallLines.{lines_held}
use Rattle.tool_frame.specs.Answer.{Answer, AsAnswer, Found, Then}
use Rattle.tool_frame.specs.Course.{AtOnce, Course, answer_after, at_once, due_after}
use Rattle.tool_frame.specs.Meaning.{carries_by, reads_by}
use Rattle.tool_frame.specs.Refusals.{file_at, there}
use Rattle.tool_frame.specs.Trees.{tree_at}
use Rattle.tool_words.specs.Command.{check, judge, run, replay}

-- of a command that reads
pub some_reading : (asks : Asks) (answers : Files → Answer → Type 0) → ((files : Files) → (a : Answer) × answers files a) → IsSome (reads_by asks answers)
some_reading asks answers some = record {
  writes = λ files. ([], refl);
  due = λ files entries. (None, refl);
  answers = λ files entries. some files;
}

-- of a command that carries
pub some_carrying : (asks : Asks) (takes : Files → Course → Type 0) → ((files : Files) → (c : Course) × takes files c) → IsSome (carries_by asks takes)
some_carrying asks takes some = record {
  writes = λ files. ([], refl);
  due = λ files entries. let c = some files in (due_after c.0 entries, (c.0, c.1, refl));
  answers = λ files entries. let c = some files in (answer_after c.0 entries, (c.0, c.1, refl));
}

pub answered : (r : Answer) → (a : Answer) × AsAnswer r a
answered r = (r, refl)

pub taken : (r : Answer) → (c : Course) × AtOnce r c
taken r = (at_once r, refl)

module _ (files : Files) where
  some_then : {X : Type 0} (found : Found X) (next : X → Answer → Type 0) → ((x : X) → (a : Answer) × next x a) → (a : Answer) × Then found next a
  some_then found next goes = by_found AsAnswer answered found next goes

  pub some_over : (root : List ℕ) (next : List SourceFile → Answer → Type 0) → ((fs : List SourceFile) → (a : Answer) × next fs a) → (a : Answer) × Then (tree_at files root) next a
  some_over root next goes = by_found AsAnswer answered (tree_at files root) next goes

  some_checked : (root : List ℕ) (fs : List SourceFile) (next : BySchema) → ((S : List Decl) → (a : Answer) × next S a) → (a : Answer) × Checked root fs next a
  some_checked root fs next goes = by_files root AsAnswer answered fs next goes

  some_check : (root : List ℕ) → (a : Answer) × CheckAnswers root files a
  some_check root = some_over root (IsCheckAnswer root) (λ fs. some_checked root fs (λ S a. a ≡ accepted S) (λ S. (accepted S, refl)))

  -- by the schemas of two trees
  pub some_over_both : (old new : List ℕ) (next : List SourceFile → List SourceFile → Answer → Type 0) → ((olds news : List SourceFile) → (a : Answer) × next olds news a)
      → (a : Answer) × OverBoth AsAnswer (tree_at files old) (tree_at files new) next a
  some_over_both old new = by_over_both AsAnswer answered (tree_at files old) (tree_at files new)

  some_judge : (old new : List ℕ) → (a : Answer) × JudgeAnswers old new files a
  some_judge old new =
      some_over_both old new (λ olds news. ByBoth AsAnswer old olds new news (λ A B a. a ≡ judged (broken A B)))
      (λ olds news. by_both AsAnswer answered old new olds news (λ A B a. a ≡ judged (broken A B)) (λ A B. (judged (broken A B), refl)))

  -- where a tree is read that the words name, or none
  in_tree : (tree : Option (List ℕ)) (next : (BySchema → Answer → Type 0) → Answer → Type 0)
      → ((by : BySchema → Answer → Type 0) → ((by_schema : BySchema) → ((S : List Decl) → (a : Answer) × by_schema S a) → (a : Answer) × by by_schema a) → (a : Answer) × next by a)
      → (a : Answer) × InTree tree files next a
  in_tree None next goes = goes (λ by_schema. by_schema []) (λ by_schema all. all [])
  in_tree (Some root) next goes = some_over root (λ fs. next (Checked root fs)) (λ fs. goes (Checked root fs) (λ by_schema all. some_checked root fs by_schema all))

  of_file : (bytes_of : Found (List ℕ) → Found (List ℕ)) (tree : Option (List ℕ)) (path : List ℕ) (by : List ℕ → List Decl → Answer)
      → (a : Answer) × OfFile bytes_of tree path (λ bytes S answer. answer ≡ by bytes S) files a
  of_file bytes_of tree path by =
      some_then (there path (file_at TextBytes files path)) (λ file. InTree tree files (λ schema. Then (bytes_of file) (λ bytes. schema (λ S answer. answer ≡ by bytes S)))) (λ file.
      in_tree tree (λ schema. Then (bytes_of file) (λ bytes. schema (λ S answer. answer ≡ by bytes S))) (λ schema total.
      some_then (bytes_of file) (λ bytes. schema (λ S answer. answer ≡ by bytes S)) (λ bytes.
      total (λ S answer. answer ≡ by bytes S) (λ S. (by bytes S, refl)))))

  some_task : (task : Task) (tree : Option (List ℕ)) (types path : List ℕ) → (a : Answer) × TaskAnswers task tree types path files a
  some_task task tree types path = of_file (bytes_for task) tree path (λ bytes S. answer_for task S types bytes)

  some_replay : (server interface trace : List ℕ) → (a : Answer) × ReplayAnswers server interface trace files a
  some_replay server interface trace = of_file lines_held (Some server) trace (λ text S. replay_answer S interface text)

  some_run : (p : Profile) (trace : Bool) (client server calls : List ℕ) → (c : Course) × RunTakes p trace client server calls files c
  some_run p trace client server calls =
      by_found AtOnce taken (there calls (file_at TextBytes files calls)) (λ held. OverBoth AtOnce (tree_at files client) (tree_at files server) (λ olds news. RunsLoaded p trace client olds server news held)) (λ held.
      by_over_both AtOnce taken (tree_at files client) (tree_at files server) (λ olds news. RunsLoaded p trace client olds server news held) (λ olds news.
      by_found AtOnce taken (lines_held held) (λ text. ByBoth AtOnce client olds server news (λ A B course. course ≡ run_course p A B trace text)) (λ text.
      by_both AtOnce taken client server olds news (λ A B course. course ≡ run_course p A B trace text) (λ A B. (run_course p A B trace text, refl)))))

pub means_task : (task : Task) (asks : Asks) (tree : Option (List ℕ)) (types path : List ℕ) → IsSome (reads_by asks (TaskAnswers task tree types path))
means_task task asks tree types path = some_reading _ _ (λ files. some_task files task tree types path)

pub means_check : (root : List ℕ) → MeansSome (meaning (check root))
means_check root = some_reading _ _ (λ files. some_check files root)

pub means_judge : (old new : List ℕ) → MeansSome (meaning (judge old new))
means_judge old new = some_reading _ _ (λ files. some_judge files old new)

pub means_replay : (server interface trace : List ℕ) → MeansSome (meaning (replay server interface trace))
means_replay server interface trace = some_reading _ _ (λ files. some_replay files server interface trace)

pub means_run : (trace lenient : Bool) (client server calls : List ℕ) → MeansSome (meaning (run trace lenient client server calls))
means_run trace lenient client server calls = some_carrying _ _ (λ files. some_run files (profile_of lenient) trace client server calls)
