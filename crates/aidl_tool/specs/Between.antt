-- A run between two checked trees: its premises, its calls, and the line that each of them prints (own).
-- A is the schema of CLIENT, B that of SERVER; lines are counted from 0, and the line of a calls file at k prints
-- the number k + 1.
use Rattle.std.specs.Prelude.{◌≡◌, ℕ, ◌+◌, Bool, true, false, ◌⊎◌, List, ◌++◌, Option, Some, None, Ok, slice_get, take}
use Rattle.aidl_base.specs.declared.profile.Profile.{Profile}
use Rattle.aidl_outside.specs.Files.{Files}
use Rattle.aidl_outside.specs.Told.{Adds}
use Rattle.aidl_schema.specs.Find.{methods_at}
use Rattle.aidl_schema.specs.declared.schema.Decl.{Decl}
use Rattle.aidl_values.specs.Data.{Data, Items}
use Rattle.call_runner.specs.Lines.{LineData, refused, transport, oneway, done}
use Rattle.call_scripts.specs.Calls.{CallData, callee}
use Rattle.call_scripts.specs.Script.{script}
use Rattle.parcel_commands.specs.Decode.{profile_of}
use Rattle.run_command.specs.CallLines.{lines_of}
use Rattle.run_command.specs.LineText.{line_text}
use Rattle.run_command.specs.Projected.{line_carried, named_methods, projected_text}
use Rattle.run_command.specs.Running.{IsCallsText}
use Rattle.run_command.specs.Trace.{trace_text}
use Rattle.tool_frame.specs.Seen.{Seen}
use Rattle.tool_frame.specs.Verdict.{IsVerdict}
use Rattle.tool_words.specs.Command.{Command, run}
use Rattle.tree_commands.specs.Opens.{IsChecked}
use Rattle.wire_model.specs.Calls.{returned, arguments, descriptor, is_oneway, method_at, out_types, result_type}
use Rattle.wire_model.specs.MethodOf.{method_of}
use Rattle.wire_model.specs.Outcome.{OneFollows, declared_as, method_like}
use Rattle.wire_model.specs.SeenAs.{ArgumentsSeenAs, OutsSeenAs, ResultSeenAs}
use Rattle.wire_model.specs.Unknown.{is_unknown_answered, is_unknown_sent}

-- The words are those of `run` over two checked trees, of which one may follow the other, and a calls file; the
-- link delivers what was sent; and the run came to a verdict.
pub record RunsBetween (words : Option Command) (before : Seen) (exit : ℕ) (files : Files) (trace lenient : Bool)
    (A B : List Decl) (text : List ℕ) : Type 0 where
  pub client : List ℕ
  pub server : List ℕ
  pub calls : List ℕ
  pub words_are : words ≡ Some (run trace lenient client server calls)
  pub client_checked : IsChecked files client A
  pub server_checked : IsChecked files server B
  pub calls_are : IsCallsText files calls text
  pub unaltered : before.is_faithful ≡ true
  pub one_follows : OneFollows A B
  pub verdict : IsVerdict exit

-- The line at k is a well-typed call: what `script` takes for one fits (`law_script_fits` of `call_scripts`).
pub record IsCallAt (A B : List Decl) (text : List ℕ) (k : ℕ) (c : CallData) : Type 0 where
  pub line : List ℕ
  pub there : slice_get (lines_of text) k ≡ Some line
  pub meant : script A B line ≡ Ok c

-- a call of such a run, by the schemas of CLIENT and of SERVER
pub record CallRun (words : Option Command) (before : Seen) (exit : ℕ) (files : Files) : Type 0 where
  pub trace : Bool
  pub lenient : Bool
  pub client : List Decl
  pub server : List Decl
  pub text : List ℕ
  pub k : ℕ
  pub call : CallData
  pub between : RunsBetween words before exit files trace lenient client server text
  pub at : IsCallAt client server text k call

-- what is put before the line that the call at k prints: all of the lines before it, and the trace lines of what it
-- carries
abbrev pub text_before : Profile → Bool → List Decl → List Decl → List ℕ → ℕ → CallData → List ℕ
text_before p trace A B text k c = projected_text p A B trace 1 (take k (lines_of text))
    ++ trace_text trace (line_carried p A B (Ok c))

-- The line of `out` is put behind that, and then the rest.
abbrev pub PutsAt : Profile → Bool → List Decl → List Decl → List ℕ → ℕ → CallData → Seen → Seen → LineData → Type 0
PutsAt p trace A B text k c before now out =
    (rest : List ℕ) × Adds before.told now.told (text_before p trace A B text k c
    ++ (line_text A B (named_methods (Ok c)) (k + 1) out ++ rest))

-- the call prints the line of `out`
abbrev pub Prints : {words : Option Command} {before : Seen} {exit : ℕ} {files : Files}
    → CallRun words before exit files → Seen → LineData → Type 0
Prints {before = before} x now out =
    PutsAt (profile_of x.lenient) x.trace x.client x.server x.text x.k x.call before now out

-- a line on which the handler saw these values
abbrev pub HasSeen : LineData → Items → Type 0
HasSeen (refused why) saw = ⊥
HasSeen (transport status) saw = ⊥
HasSeen (oneway seen) saw = seen ≡ Some saw
HasSeen (done seen client) saw = seen ≡ Some saw

-- SERVER has no interface, or no method, of the name that a call says
abbrev pub LacksMethod : List Decl → List Decl → CallData → Type 0
LacksMethod A B c =
    (declared_as B (descriptor A c.interface) ≡ None)
    ⊎ ((j : ℕ) × (declared_as B (descriptor A c.interface) ≡ Some j)
    × (method_like (method_at (callee A c)) (methods_at B j) ≡ None))

-- Outside dropped fields a union tag in an argument is unknown to SERVER, whose method is n of its interface j; or
-- none is.
abbrev pub IsUnknownSent : List Decl → List Decl → CallData → ℕ → ℕ → Type 0
IsUnknownSent A B c j n = is_unknown_sent (callee A c) (method_of B j n) c.args ≡ true

abbrev pub IsKnownSent : List Decl → List Decl → CallData → ℕ → ℕ → Type 0
IsKnownSent A B c j n = is_unknown_sent (callee A c) (method_of B j n) c.args ≡ false

-- a result and outs that the line says SERVER's method n of its interface j answers; the method isn't oneway
pub record Answered (B : List Decl) (c : CallData) (j n : ℕ) (result : Option Data) (outs : Items) : Type 0 where
  pub server : c.server ≡ Some j
  pub target : c.target ≡ Some (record { method = n; answer = returned result outs })
  pub two_way : is_oneway (method_of B j n) ≡ false

-- Outside dropped fields a union tag in the result, or in an out, is unknown to CLIENT; or none is.
abbrev pub IsUnknownAnswered : List Decl → List Decl → CallData → ℕ → ℕ → Option Data → Items → Type 0
IsUnknownAnswered A B c j n result outs =
    is_unknown_answered (callee A c) (method_of B j n) result outs ≡ true

abbrev pub IsKnownAnswered : List Decl → List Decl → CallData → ℕ → ℕ → Option Data → Items → Type 0
IsKnownAnswered A B c j n result outs =
    is_unknown_answered (callee A c) (method_of B j n) result outs ≡ false

-- what the handler saw of the arguments that were sent, and what the client has of the result and the outs
abbrev pub ArgumentsSeen : List Decl → List Decl → CallData → ℕ → ℕ → Items → Type 0
ArgumentsSeen A B c j n saw =
    ArgumentsSeenAs A (arguments (callee A c)) B (arguments (method_of B j n)) c.args saw

abbrev pub AnswerSeen : List Decl → List Decl → CallData → ℕ → ℕ → Option Data → Items → Option Data → Items → Type 0
AnswerSeen A B c j n result outs r vs =
    ResultSeenAs B (result_type (method_of B j n)) A (result_type (callee A c)) result r
    × OutsSeenAs B (out_types (method_of B j n)) A (out_types (callee A c)) outs vs
