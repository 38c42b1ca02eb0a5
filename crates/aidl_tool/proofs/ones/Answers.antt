-- What a command that reads answers is one thing at the most.
use Rattle.std.proofs.Common.{◌≡◌, ℕ, List, [], Option, Some, None, Ok, Err, sym, ◌∙◌}
use Rattle.std.specs.Prelude.{Result}
use Rattle.aidl_base.specs.declared.limit.LimitName.TheVariants.{TextBytes}
use Rattle.aidl_base.specs.declared.source_file.SourceFile.{SourceFile}
use Rattle.aidl_outside.specs.Files.{Files}
use Rattle.aidl_schema.specs.Broken.{broken}
use Rattle.aidl_schema.specs.declared.schema.Decl.{Decl}
use Rattle.ask_command.specs.Asked.{AskAnswers, AsksFile, AsksHash, AsksOver, AsksParcel, AsksVersion, Words, ask_answer}
use Rattle.tree_commands.specs.InTree.{Checked, InTree, OfFile}
use Rattle.tree_commands.specs.Both.{InBoth}
use Rattle.tree_commands.specs.Checked.{CheckAnswers, IsCheckAnswer, accepted}
use Rattle.tree_commands.specs.Judged.{JudgeAnswers, judged}
use Rattle.version_commands.specs.Verified.{VerifyAnswers, IsVerified}
use Rattle.parcel_commands.specs.Tasks.{TaskAnswers, answer_for, bytes_for}
use Rattle.parcel_commands.specs.declared.tasks.Task.{Task}
use Rattle.replay_command.specs.Replaying.{ReplayAnswers, replay_answer}
use Rattle.api_versions.specs.Versions.{version_folder, versions_at}
use Rattle.api_versions.specs.declared.fault.VersionsFault.{VersionsFault}
use Rattle.api_versions.specs.declared.fault.VersionsFault.TheVariants as fault
use Rattle.api_versions.specs.declared.version.Version.{Version}
use Rattle.ask_command.specs.Versions.{version_found, whole_found}
use Rattle.parcel_commands.specs.Refusals.{parcel_of}
use Rattle.run_command.specs.CallLines.{lines_held}
use Rattle.tool_frame.specs.Answer.{Answer, AsAnswer, Found, Then}
use Rattle.tool_frame.specs.Refusals.{file_at, there}
use Rattle.tool_frame.specs.Trees.{tree_at}
use Rattle.tree_commands.proofs.lemmas.OneByTree.{by_both, by_files, by_found}
use Rattle.version_lines.specs.Lines.{bad_versions}
use Rattle.aidl_tool.proofs.ones.Unread.{one_unread}

abbrev Same : Answer → Answer → Type 0
Same a b = a ≡ b

one_refusal : (r a b : Answer) → a ≡ r → b ≡ r → a ≡ b
one_refusal r a b h k = h ∙ sym k

-- one step after another
then_one : {X : Type 0} (next : X → Answer → Type 0) → ((x : X) (a b : Answer) → next x a → next x b → a ≡ b)
    → (found : Found X) (a b : Answer) → Then found next a → Then found next b → a ≡ b
then_one next one found = by_found Same AsAnswer AsAnswer one_refusal next next one found

-- by the schema of files
checked_one : (next : List Decl → Answer → Type 0) → ((S : List Decl) (a b : Answer) → next S a → next S b → a ≡ b)
    → (root : List ℕ) (files : List SourceFile) (a b : Answer) → Checked root files next a → Checked root files next b → a ≡ b
checked_one next one root files = by_files Same AsAnswer AsAnswer one_refusal next next one root files

-- by the schemas of two trees
pub in_both_one : (next : List Decl → List Decl → Answer → Type 0) → ((A B : List Decl) (a b : Answer) → next A B a → next A B b → a ≡ b)
    → (old new : List ℕ) (files : Files) (a b : Answer) → InBoth old new files next a → InBoth old new files next b → a ≡ b
in_both_one next one old new files =
    by_both Same AsAnswer AsAnswer one_refusal next next one old new (tree_at files old) (tree_at files new)

-- by the schema of the tree that the words name
in_tree_one : {X : Type 0} (found : Found X) (by : X → List Decl → Answer) (tree : Option (List ℕ)) (files : Files) (a b : Answer)
    → InTree tree files (λ schema. Then found (λ x. schema (λ S answer. answer ≡ by x S))) a
    → InTree tree files (λ schema. Then found (λ x. schema (λ S answer. answer ≡ by x S))) b → a ≡ b
in_tree_one found by None files =
    then_one (λ x answer. answer ≡ by x []) (λ x a b h k. h ∙ sym k) found
in_tree_one found by (Some root) files =
    then_one (λ sources. Then found (λ x. Checked root sources (λ S answer. answer ≡ by x S)))
    (λ sources. then_one (λ x. Checked root sources (λ S answer. answer ≡ by x S))
    (λ x. checked_one (λ S answer. answer ≡ by x S) (λ S a b h k. h ∙ sym k) root sources) found)
    (tree_at files root)

-- of a file, by it
of_file_one : (bytes_of : Found (List ℕ) → Found (List ℕ)) (by : List ℕ → List Decl → Answer) (tree : Option (List ℕ)) (path : List ℕ) (files : Files) (a b : Answer)
    → OfFile bytes_of tree path (λ bytes S answer. answer ≡ by bytes S) files a → OfFile bytes_of tree path (λ bytes S answer. answer ≡ by bytes S) files b → a ≡ b
of_file_one bytes_of by tree path files =
    then_one (λ file. InTree tree files (λ schema. Then (bytes_of file) (λ bytes. schema (λ S answer. answer ≡ by bytes S))))
    (λ file. in_tree_one (bytes_of file) by tree files) (there path (file_at TextBytes files path))

-- `decode`, `encode` and `explain`
pub one_task : (task : Task) (tree : Option (List ℕ)) (types path : List ℕ) (files : Files) (a b : Answer)
    → TaskAnswers task tree types path files a → TaskAnswers task tree types path files b → a ≡ b
one_task task tree types path = of_file_one (bytes_for task) (λ bytes S. answer_for task S types bytes) tree path

-- `check TREE`
pub one_check : (root : List ℕ) (files : Files) (a b : Answer) → CheckAnswers root files a → CheckAnswers root files b → a ≡ b
one_check root files =
    then_one (IsCheckAnswer root) (λ sources. checked_one (λ S a. a ≡ accepted S) (λ S a b h k. h ∙ sym k) root sources) (tree_at files root)

-- `judge OLD NEW`
pub one_judge : (old new : List ℕ) (files : Files) (a b : Answer) → JudgeAnswers old new files a → JudgeAnswers old new files b → a ≡ b
one_judge old new = in_both_one (λ A B answer. answer ≡ judged (broken A B)) (λ A B a b h k. h ∙ sym k) old new

one_verified : (versions : Result (List Version) VersionsFault) (a b : Answer) → IsVerified versions a → IsVerified versions b → a ≡ b
one_verified (Ok vs) a b h k = h ∙ sym k
one_verified (Err e) a b h k = one_unread e a b h k

-- `verify API`
pub one_verify : (api : List ℕ) (files : Files) (a b : Answer) → VerifyAnswers api files a → VerifyAnswers api files b → a ≡ b
one_verify api files = one_verified (versions_at files api)

-- `replay SERVER INTERFACE TRACE`
pub one_replay : (server interface trace : List ℕ) (files : Files) (a b : Answer)
    → ReplayAnswers server interface trace files a → ReplayAnswers server interface trace files b → a ≡ b
one_replay server interface trace = of_file_one lines_held (λ text S. replay_answer S interface text) (Some server) trace

module _ (w : Words) where
  one_asked_hash : (parcel : List ℕ) (v : Version) (hash : List ℕ) (a b : Answer) → AsksHash w parcel v hash a → AsksHash w parcel v hash b → a ≡ b
  one_asked_hash parcel v hash =
      checked_one (λ S answer. answer ≡ ask_answer S w.version hash w.interface w.code parcel) (λ S a b h k. h ∙ sym k) (version_folder w.api w.version) v.files

  one_asked_version : (parcel : List ℕ) (versions : List Version) (a b : Answer) → AsksVersion w parcel versions a → AsksVersion w parcel versions b → a ≡ b
  one_asked_version parcel versions =
      then_one (λ v. Then (whole_found v) (AsksHash w parcel v)) (λ v. then_one (AsksHash w parcel v) (one_asked_hash parcel v) (whole_found v))
      (version_found w.version versions)

  one_asked_file : (file : Found (List ℕ)) (versions : Found (List Version)) (a b : Answer) → AsksFile w file versions a → AsksFile w file versions b → a ≡ b
  one_asked_file file versions =
      then_one (AsksParcel w versions) (λ parcel. then_one (AsksVersion w parcel) (one_asked_version parcel) versions) (parcel_of file)

  one_asked_over : (file : Found (List ℕ)) (versions : Result (List Version) VersionsFault) (a b : Answer)
      → AsksOver w file versions a → AsksOver w file versions b → a ≡ b
  one_asked_over file (Ok versions) a b h k = one_asked_file file (Ok versions) a b h k
  one_asked_over file (Err (fault.BadVersions missing)) a b h k = one_asked_file file (Err (bad_versions missing)) a b h k
  one_asked_over file (Err (fault.Limit limit)) a b h k = h ∙ sym k
  one_asked_over file (Err fault.ReadFault) a b h k = absurd h
  one_asked_over file (Err fault.OutOfMemory) a b h k = absurd h

  -- `ask API N INTERFACE CODE FILE`
  pub one_ask : (path : List ℕ) (files : Files) (a b : Answer) → AskAnswers w path files a → AskAnswers w path files b → a ≡ b
  one_ask path files =
      then_one (λ file. AsksOver w file (versions_at files w.api)) (λ file. one_asked_over file (versions_at files w.api)) (there path (file_at TextBytes files path))
