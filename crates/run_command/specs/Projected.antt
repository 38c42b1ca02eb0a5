-- What is put over a link that delivers what was sent, between two trees of which one may follow the other (own). p
-- is the profile of reading, A is CLIENT's declarations and B SERVER's; k is the number of a line.
use Rattle.std.specs.Prelude.{◌≡◌, ℕ, ◌+◌, Bool, true, List, [], ◌∷◌, ◌++◌, Option, Some, None, Ok, Err}
use Rattle.aidl_base.specs.declared.profile.Profile.{Profile}
use Rattle.aidl_outside.specs.declared.link.Carried.{Carried}
use Rattle.aidl_outside.specs.Told.{Adds}
use Rattle.aidl_schema.specs.declared.schema.Decl.{Decl}
use Rattle.call_scripts.specs.Refusal.{Judged}
use Rattle.call_runner.specs.Lines.{entries, reply_sent}
use Rattle.call_runner.specs.Runs.{projected}
use Rattle.call_runner.specs.declared.line.Methods.{Methods}
use Rattle.call_scripts.specs.Calls.{CallData, TargetData, callee}
use Rattle.call_scripts.specs.Script.{script}
use Rattle.run_command.specs.LineText.{line_text}
use Rattle.run_command.specs.Trace.{trace_text}
use Rattle.tool_frame.specs.Seen.{Seen}
use Rattle.tool_frame.specs.declared.exit.Exit.TheVariants.{Done}
use Rattle.tool_frame.specs.Exit.{number_of}
use Rattle.tool_frame.specs.Verdict.{IsVerdict}
use Rattle.wire_model.specs.Outcome.{OneFollows}
use Rattle.wire_model.specs.Requests.{request}

-- the methods of a call's names
abbrev pub methods_of : CallData → Option ℕ → Option TargetData → Option Methods
methods_of c (Some j) (Some t) =
    Some (record { interface = c.interface; method = c.method; server = j; called = t.method })
methods_of c (Some j) None = None
methods_of c None target = None

abbrev pub named_methods : Judged CallData → Option Methods
named_methods (Err why) = None
named_methods (Ok c) = methods_of c c.server c.target

-- the line of what a line is projected to: no byte occurs in it
abbrev pub projected_line : List Decl → List Decl → ℕ → Judged CallData → List ℕ
projected_line A B k meant = line_text A B (named_methods meant) k (projected A B meant)

-- what is delivered of a reply, where one is sent
abbrev pub reply_bytes : Option (List ℕ) → List ℕ
reply_bytes None = []
reply_bytes (Some sent) = sent

-- what is carried of a call whose request is b
abbrev pub call_carried : Profile → List Decl → List Decl → CallData → List ℕ → List Carried
call_carried p A B c b = entries p A B c b (reply_bytes (reply_sent p A B c b))

-- what is carried of a line: nothing of one that is refused
abbrev pub line_carried : Profile → List Decl → List Decl → Judged CallData → List Carried
line_carried p A B (Err why) = []
line_carried p A B (Ok c) = call_carried p A B c (request (callee A c) c.args)

-- what is put of a line: the trace lines of what is carried, where they are asked for, and then its own
abbrev pub projected_piece : Profile → List Decl → List Decl → Bool → ℕ → Judged CallData → List ℕ
projected_piece p A B trace k meant = trace_text trace (line_carried p A B meant) ++ projected_line A B k meant

-- of all lines; without a trace it is their own lines alone
abbrev pub projected_text : Profile → List Decl → List Decl → Bool → ℕ → List (List ℕ) → List ℕ
projected_text p A B trace k [] = []
projected_text p A B trace k (line ∷ lines) = projected_piece p A B trace k (script A B line)
    ++ projected_text p A B trace (k + 1) lines

-- Where one of two trees may follow the other, and the link delivers what was sent, a run that ends with a verdict
-- is done and has put this text.
abbrev pub Projects : List Decl → List Decl → List ℕ → Seen → Seen → ℕ → Type 0
Projects A B text before now exit = OneFollows A B → before.is_faithful ≡ true → IsVerdict exit
    → (exit ≡ number_of Done) × Adds before.told now.told text
