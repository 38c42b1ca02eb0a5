-- What the words mean is one thing at the most.
use Rattle.std.proofs.Common.{◌≡◌, ℕ, Bool, List, [], Option, Some, None, sym, ap, ◌∙◌, subst}
use Rattle.aidl_base.specs.declared.source_file.SourceFile.{SourceFile}
use Rattle.aidl_base.specs.declared.profile.Profile.{Profile}
use Rattle.aidl_outside.specs.Asks.{Asks}
use Rattle.aidl_outside.specs.Files.{Files}
use Rattle.aidl_outside.specs.Writes.{Write}
use Rattle.aidl_schema.specs.declared.schema.Decl.{Decl}
use Rattle.aidl_base.specs.declared.limit.LimitName.TheVariants.{TextBytes}
use Rattle.aidl_tool.specs.Meant.{meaning, meant_by}
use Rattle.make_command.specs.Making.{AreMade, MakeTakes, new_root, old_root, make_course}
use Rattle.aidl_tool.specs.OneMeaning.{IsOne, IsOneAct, MeansOne}
use Rattle.run_command.specs.Running.{RunTakes, RunsLoaded, TakesThen, run_course}
use Rattle.parcel_commands.specs.declared.tasks.Task.TheVariants.{Decode, Encode, Explain}
use Rattle.aidl_tool.proofs.ones.Acting.{one_dump, one_freeze, one_rehash}
use Rattle.aidl_tool.proofs.ones.Answers.{one_ask, one_check, one_judge, one_replay, one_task, one_verify}
use Rattle.aidl_tool.proofs.ones.Witnessing.{one_witness}
use Rattle.parcel_commands.specs.Decode.{profile_of}
use Rattle.run_command.specs.CallLines.{lines_held}
use Rattle.tool_frame.specs.Acts.{Acts, acts_by}
use Rattle.tool_frame.specs.Answer.{Answer, Found}
use Rattle.tool_frame.specs.Course.{AtOnce, Course, answer_after, due_after}
use Rattle.tool_frame.specs.Meaning.{carries_by, does_by, reads_by}
use Rattle.tool_frame.specs.Refusals.{file_at, there}
use Rattle.tool_frame.specs.Trees.{tree_at}
use Rattle.tool_words.specs.Command.{Command, decode, encode, check, dump, freeze, verify, rehash, judge, witness, run, make, ask, explain, replay}
use Rattle.tree_make.specs.Made.{File, calls_text, file_seen, new_files, old_files}
use Rattle.tree_commands.proofs.lemmas.OneByTree.{by_both_files, by_found, by_over_both, same_files}
use Rattle.tree_commands.specs.ByTree.{ByBoth, OverBoth}

-- of a command that reads
one_reading : (asks : Asks) (answers : Files → Answer → Type 0) → ((files : Files) (a b : Answer) → answers files a → answers files b → a ≡ b) → IsOne (reads_by asks answers)
one_reading asks answers one = record {
  writes = λ files v w h k. h ∙ sym k;
  due = λ files entries p q h k. h ∙ sym k;
  answers = λ files entries a b h k. one files a b h k;
}

-- of a command that writes
one_acting : (asks : Asks) (acts : Files → Acts) → IsOneAct acts → IsOne (acts_by asks acts)
one_acting asks acts one = record {
  writes = λ files v w h k. (one files v w h.0 k.0 h.1 k.1).0;
  due = λ files entries p q h k. h ∙ sym k;
  answers = λ files entries a b h k. (one files h.0 k.0 a b h.1 k.1).1;
}

-- of a command that may write and carries
one_doing : (asks : Asks) (writes : Files → List Write → Type 0) (takes : Files → Course → Type 0)
    → ((files : Files) (v w : List Write) → writes files v → writes files w → v ≡ w)
    → ((files : Files) (c d : Course) → takes files c → takes files d → c ≡ d) → IsOne (does_by asks writes takes)
one_doing asks writes takes wrote one = record {
  writes = wrote;
  due = λ files entries p q h k. h.2 ∙ ap (λ c. due_after c entries) (one files h.0 k.0 h.1 k.1) ∙ sym k.2;
  answers = λ files entries a b h k. h.2 ∙ ap (λ c. answer_after c entries) (one files h.0 k.0 h.1 k.1) ∙ sym k.2;
}

-- of a command that carries and writes nothing
one_carrying : (asks : Asks) (takes : Files → Course → Type 0) → ((files : Files) (c d : Course) → takes files c → takes files d → c ≡ d) → IsOne (carries_by asks takes)
one_carrying asks takes one =
    let all = one_doing asks (λ files made. made ≡ []) takes (λ files v w h k. h ∙ sym k) one in
    record { writes = all.writes; due = all.due; answers = all.answers }

abbrev Same : Course → Course → Type 0
Same c d = c ≡ d

at_once_one : (r : Answer) (c d : Course) → AtOnce r c → AtOnce r d → c ≡ d
at_once_one r c d h k = h ∙ sym k

-- one step after another
takes_then : {X : Type 0} (next : X → Course → Type 0) → ((x : X) (c d : Course) → next x c → next x d → c ≡ d)
    → (found : Found X) (c d : Course) → TakesThen found next c → TakesThen found next d → c ≡ d
takes_then next one found = by_found Same AtOnce AtOnce at_once_one next next one found

-- by the schemas of two trees, of which there is one course
takes_both : (course : List Decl → List Decl → Course) (first second : List ℕ) (olds news : List SourceFile) (c d : Course)
    → ByBoth AtOnce first olds second news (λ A B x. x ≡ course A B) c → ByBoth AtOnce first olds second news (λ A B x. x ≡ course A B) d → c ≡ d
takes_both course = by_both_files Same AtOnce AtOnce at_once_one (λ A B x. x ≡ course A B) (λ A B x. x ≡ course A B) (λ A B c d h k. h ∙ sym k)

-- `run [--trace] [--lenient] CLIENT SERVER CALLS`
pub one_run : (p : Profile) (trace : Bool) (client server calls : List ℕ) (files : Files) (c d : Course)
    → RunTakes p trace client server calls files c → RunTakes p trace client server calls files d → c ≡ d
one_run p trace client server calls files =
    takes_then (λ held. OverBoth AtOnce (tree_at files client) (tree_at files server) (λ olds news. RunsLoaded p trace client olds server news held))
    (λ held. by_over_both Same AtOnce AtOnce at_once_one (λ olds news. RunsLoaded p trace client olds server news held) (λ olds news. RunsLoaded p trace client olds server news held)
    (λ olds news. takes_then (λ text. ByBoth AtOnce client olds server news (λ A B c. c ≡ run_course p A B trace text))
    (λ text. takes_both (λ A B. run_course p A B trace text) client server olds news)
    (lines_held held))
    (tree_at files client) (tree_at files server))
    (there calls (file_at TextBytes files calls))

-- files with the same paths and bytes
one_made : (made : List File) (fs gs : List SourceFile) → AreMade fs made → AreMade gs made → fs ≡ gs
one_made made fs gs h k = same_files file_seen (λ f g e. (ap (λ (m : File). m.path) e, ap (λ (m : File). m.bytes) e)) fs gs (h ∙ sym k)

-- `make N OUT`
one_make : (n : ℕ) (out : List ℕ) (c d : Course) → MakeTakes n out c → MakeTakes n out d → c ≡ d
one_make n out c d (news, olds, new, old, h) (others, older, newer, oldest, k) =
    takes_both (λ B A. make_course A B (calls_text n)) (new_root out) (old_root out) others older c d
    (subst (λ (fs : List SourceFile). ByBoth AtOnce (new_root out) fs (old_root out) older (λ B A c. c ≡ make_course A B (calls_text n)) c)
    (one_made (new_files n) news others new newer)
    (subst (λ (fs : List SourceFile). ByBoth AtOnce (new_root out) news (old_root out) fs (λ B A c. c ≡ make_course A B (calls_text n)) c)
    (one_made (old_files n) olds older old oldest) h))
    k

one_meaning : (command : Command) → MeansOne (meaning command)
one_meaning (decode lenient tree types path) = one_reading _ _ (one_task (Decode (profile_of lenient)) tree types path)
one_meaning (encode tree types path) = one_reading _ _ (one_task Encode tree types path)
one_meaning (check tree) = one_reading _ _ (one_check tree)
one_meaning (judge old new) = one_reading _ _ (one_judge old new)
one_meaning (verify api) = one_reading _ _ (one_verify api)
one_meaning (dump tree out) = one_acting _ _ (one_dump tree out)
one_meaning (freeze tree api) = one_acting _ _ (one_freeze tree api)
one_meaning (rehash api) = one_acting _ _ (one_rehash api)
one_meaning (run trace lenient client server calls) =
    one_carrying _ _ (one_run (profile_of lenient) trace client server calls)
one_meaning (witness old new) = one_reading _ _ (one_witness old new)
one_meaning (make count out) = one_doing _ _ _ (λ files v w h k. h ∙ sym k) (λ files. one_make count out)
one_meaning (ask api version interface code file) = one_reading _ _ (one_ask (record { api = api; version = version; interface = interface; code = code }) file)
one_meaning (explain tree types file) = one_reading _ _ (one_task Explain tree types file)
one_meaning (replay server interface trace) = one_reading _ _ (one_replay server interface trace)

pub means_one : (command : Option Command) → MeansOne (meant_by command)
means_one None = tt
means_one (Some command) = one_meaning command
