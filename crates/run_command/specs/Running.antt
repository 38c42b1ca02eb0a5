-- What `run` does over two trees: the judge on both orders, and then the lines of a calls file; and what it does over
-- the files of a store, in the order of its refusals (own). p is the profile of reading, A is CLIENT's declarations
-- and B SERVER's; k is the number of a line, from 1 on.
use Rattle.std.specs.Prelude.{ℕ, ◌+◌, Bool, List, [], ◌∷◌, ◌++◌, Option, Some, None, Ok, Err, codes, ◌≡◌}
use Rattle.std.specs.List.{flat_map}
use Rattle.aidl_base.specs.declared.profile.Profile.{Profile}
use Rattle.aidl_outside.specs.declared.link.Carried.{Carried}
use Rattle.aidl_outside.specs.declared.link.Way.TheVariants.{Reply}
use Rattle.aidl_schema.specs.Broken.{Break, broken}
use Rattle.aidl_schema.specs.declared.schema.Decl.{Decl}
use Rattle.call_scripts.specs.Refusal.{Judged}
use Rattle.call_runner.specs.Lines.{LineData, refused, call_code, entries, line_of, received, reply_sent, request_entry}
use Rattle.call_runner.specs.Runs.{methods_by}
use Rattle.call_runner.specs.declared.line.Methods.{Methods}
use Rattle.call_scripts.specs.Calls.{CallData}
use Rattle.call_scripts.specs.Script.{script}
use Rattle.run_command.specs.CallLines.{lines_of, lines_held, within_lines}
use Rattle.run_command.specs.LineText.{line_text}
use Rattle.run_command.specs.Trace.{trace_text}
use Rattle.tool_frame.specs.Answer.{Answer, Found, FoundThen}
use Rattle.tool_frame.specs.Course.{Course, ends, prints, sends, at_once, AtOnce}
use Rattle.aidl_outside.specs.Parcel.{Parcel, parcel_of}
use Rattle.tool_frame.specs.declared.verdict.Verdict.TheVariants.{Done, Negative}
use Rattle.tree_commands.specs.Judged.{break_line}
use Rattle.aidl_base.specs.declared.limit.LimitName.TheVariants.{TextBytes}
use Rattle.aidl_base.specs.declared.source_file.SourceFile.{SourceFile}
use Rattle.aidl_outside.specs.Files.{Files}
use Rattle.tool_frame.specs.Refusals.{file_at, there}
use Rattle.tool_frame.specs.Trees.{tree_at}
use Rattle.tree_commands.specs.ByTree.{ByBoth, OverBoth}

-- what is put of a line in one piece: the trace lines of what was carried, where they are asked for, and then its own
abbrev pub piece : List Decl → List Decl → Bool → ℕ → List Carried → Option Methods → LineData → List ℕ
piece A B trace k carried ms out = trace_text trace carried ++ line_text A B ms k out

-- What is done once a line is at its end: by what was carried, the methods of its values, and what it comes to.
abbrev pub After : Type 0
After = List Carried → Option Methods → LineData → Course

-- of a call, by the bytes that were delivered
abbrev pub call_after : Profile → List Decl → List Decl → After → CallData → List ℕ → List ℕ → Course
call_after p A B after c b r =
    after (entries p A B c b r) (methods_by c c.server (received p A B c b)) (line_of p A B c b r)

-- the reply, where SERVER sends one
abbrev pub reply_parcel : List Decl → CallData → List ℕ → Parcel
reply_parcel A c sent = record { way = Reply; code = call_code A c; sent = sent }

-- after the request was delivered as b: the reply is sent, where there is one
abbrev pub reply_course : Profile → List Decl → List Decl → After → CallData → List ℕ → Option (List ℕ) → Course
reply_course p A B after c b None = call_after p A B after c b []
reply_course p A B after c b (Some sent) = sends (reply_parcel A c sent) (λ r. call_after p A B after c b r)

-- a line that is refused is at its end at once; of a call the request is sent first
abbrev pub line_course : Profile → List Decl → List Decl → After → Judged CallData → Course
line_course p A B after (Err why) = after [] None (refused why)
line_course p A B after (Ok c) =
    sends (parcel_of (request_entry A c [])) (λ b. reply_course p A B after c b (reply_sent p A B c b))

-- a line's text is put, and then the next one is run
abbrev pub puts : List Decl → List Decl → Bool → ℕ → Course → After
puts A B trace k next carried ms out = prints (piece A B trace k carried ms out) next

-- the lines in order
abbrev pub lines_course : Profile → List Decl → List Decl → Bool → ℕ → List (List ℕ) → Course
lines_course p A B trace k [] = ends Done
lines_course p A B trace k (line ∷ lines) =
    line_course p A B (puts A B trace k (lines_course p A B trace (k + 1) lines)) (script A B line)

-- the lines of the judge, each behind a mark
abbrev pub marked : List ℕ → List Break → List ℕ
marked mark breaks = flat_map (λ b. mark ++ break_line b) breaks

-- where neither tree may follow the other: what each order breaks
abbrev pub neither : List Break → List Break → Answer
neither there back = record { text = marked (codes "> ") there ++ marked (codes "< ") back; verdict = Negative }

-- by what is broken from CLIENT to SERVER, and what the other way round
abbrev pub judged_course : List Break → List Break → Course → Course
judged_course [] back lines = lines
judged_course (b ∷ there) [] lines = lines
judged_course (b ∷ there) (c ∷ back) lines = at_once (neither (b ∷ there) (c ∷ back))

-- `run` over checked trees and a calls file
abbrev pub run_course : Profile → List Decl → List Decl → Bool → List ℕ → Course
run_course p A B trace calls = judged_course (broken A B) (broken B A) (lines_course p A B trace 1 (lines_of calls))

-- what a command does that carries
abbrev pub Takes : Type 1
Takes = Course → Type 0

-- what a step finds, or the refusal, which is printed at once
abbrev pub TakesThen : {A : Type 0} → Found A → (A → Takes) → Takes
TakesThen found next course = FoundThen AtOnce found next course

-- the text of a calls file that is there and passes no limit
abbrev pub IsCallsText : Files → List ℕ → List ℕ → Type 0
IsCallsText files calls text = (file_at TextBytes files calls ≡ Some (Ok text)) × (within_lines text ≡ Ok text)

-- once all is loaded: the limits of CALLS; all else of CLIENT, and of SERVER; then the judge and the lines
abbrev pub RunsLoaded : Profile → Bool → List ℕ → List SourceFile → List ℕ → List SourceFile → Found (List ℕ) → Takes
RunsLoaded p trace client olds server news held =
    TakesThen (lines_held held)
    (λ text. ByBoth AtOnce client olds server news (λ A B course. course ≡ run_course p A B trace text))

-- `run [--trace] [--lenient] CLIENT SERVER CALLS`: `no file`; the limits of CLIENT's files, and of SERVER's; then
-- all else
abbrev pub RunTakes : Profile → Bool → List ℕ → List ℕ → List ℕ → Files → Takes
RunTakes p trace client server calls files =
    TakesThen (there calls (file_at TextBytes files calls))
    (λ held. OverBoth AtOnce (tree_at files client) (tree_at files server)
    (λ olds news. RunsLoaded p trace client olds server news held))
