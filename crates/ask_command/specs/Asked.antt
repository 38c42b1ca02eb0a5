-- What `ask` prints of a request to one version of an interface, and what it answers over the files of a store, in
-- the order of its refusals (own). S is the declarations of the version, i the number of an interface, b the bytes of
-- the request.
use Rattle.std.specs.Prelude.{ℕ, ℤ, pos, List, [], ◌++◌, Option, Some, None, Result, Ok, Err, codes, ◌≡◌}
use Rattle.std.specs.Fmt.{signed_decimal}
use Rattle.aidl_schema.specs.declared.schema.Decl.{Decl}
use Rattle.ask_command.specs.Interfaces.{interface_found}
use Rattle.run_command.specs.LineText.{values_text}
use Rattle.stub_dispatch.specs.Sent.{sent_reply, unread}
use Rattle.stub_dispatch.specs.Unscripted.{not_scripted}
use Rattle.tool_frame.specs.declared.verdict.Verdict.TheVariants.{Done}
use Rattle.tool_frame.specs.Answer.{Answer, ◌>>=◌, Found, Then, limit_passed}
use Rattle.tool_frame.specs.Shown.{shown}
use Rattle.wire_model.specs.Calls.{arguments}
use Rattle.wire_model.specs.MetaStub.{MetaReceived, inner, meta_stub, own}
use Rattle.wire_model.specs.MethodOf.{method_of}
use Rattle.wire_model.specs.Receiver.{Received, left, called}
use Rattle.wire_model.specs.Typed.{types_of}
use Rattle.aidl_base.specs.declared.limit.LimitName.TheVariants.{TextBytes}
use Rattle.aidl_outside.specs.Files.{Files}
use Rattle.tree_commands.specs.InTree.{Checked}
use Rattle.api_versions.specs.declared.fault.VersionsFault.{VersionsFault}
use Rattle.api_versions.specs.declared.fault.VersionsFault.TheVariants as fault
use Rattle.api_versions.specs.declared.version.Version.{Version}
use Rattle.api_versions.specs.Versions.{version_folder, versions_at}
use Rattle.ask_command.specs.Versions.{version_found, whole_found}
use Rattle.parcel_commands.specs.Refusals.{parcel_of}
use Rattle.tool_frame.specs.Refusals.{file_at, there}
use Rattle.tool_words.specs.declared.command.AskWords.{AskWords}
use Rattle.version_lines.specs.Lines.{bad_versions}

-- the bytes of a reply, `-` where there is none
abbrev pub reply_text : Option (List ℕ) → List ℕ
reply_text None = shown []
reply_text (Some bytes) = shown bytes

-- `transport STATUS`, `saw SAW` and `reply HEX`
abbrev pub lines : ℤ → List ℕ → Option (List ℕ) → List ℕ
lines transport saw reply = codes "transport " ++ signed_decimal transport ++ codes "\nsaw " ++ saw
    ++ codes "\nreply " ++ reply_text reply ++ codes "\n"

-- of what a stub received: the handler sees nothing, or the values of its arguments, and answers `not scripted`
abbrev pub received_text : List Decl → ℕ → Received → List ℕ
received_text S i (left m) = lines (pos 0) (codes "null") (sent_reply (method_of S i m) unread)
received_text S i (called m saw) =
    lines (pos 0) (values_text S (types_of (arguments (method_of S i m))) saw)
    (sent_reply (method_of S i m) not_scripted)

-- of what a service received that answers for the version and the hash too: of a refusal the status alone, of a
-- reply of its own no handler's arguments
abbrev pub meta_text : List Decl → ℕ → Result MetaReceived ℤ → List ℕ
meta_text S i (Err status) = lines status (codes "null") None
meta_text S i (Ok (own sent)) = lines (pos 0) (codes "null") (Some sent)
meta_text S i (Ok (inner received)) = received_text S i received

-- by *MetaStub*, of a version with a hash
abbrev pub asked_text : List Decl → ℕ → ℕ → List ℕ → ℕ → List ℕ → List ℕ
asked_text S i version hash code b = meta_text S i (meta_stub S i version hash code b)

-- The interface is looked up by its name, and then asked; an answer is exit 0, whatever the transport is.
abbrev pub ask_answer : List Decl → ℕ → List ℕ → List ℕ → ℕ → List ℕ → Answer
ask_answer S version hash interface code b = do
  i ← interface_found S interface
  record { text = asked_text S i version hash code b; verdict = Done }

-- the words of `ask API N INTERFACE CODE FILE` but for FILE
pub record Words : Type 0 where
  pub api : List ℕ
  pub version : ℕ
  pub interface : List ℕ
  pub code : ℕ

-- as the code has them
abbrev pub words_seen : AskWords → Words
words_seen w = record { api = w.api.now; version = w.version; interface = w.interface.now; code = w.code }

-- of a version of this hash: the faults of its tree, and then what is asked of its schema
abbrev pub AsksHash : Words → List ℕ → Version → List ℕ → Answer → Type 0
AsksHash w parcel v hash = Checked (version_folder w.api w.version) v.files
    (λ S answer. answer ≡ ask_answer S w.version hash w.interface w.code parcel)

-- of the versions: `no version N`, `torn`, and then all else of version N alone
abbrev pub AsksVersion : Words → List ℕ → List Version → Answer → Type 0
AsksVersion w parcel versions =
    Then (version_found w.version versions) (λ v. Then (whole_found v) (AsksHash w parcel v))

-- once the parcel is known: `bad versions`, and then all else
abbrev pub AsksParcel : Words → Found (List Version) → List ℕ → Answer → Type 0
AsksParcel w versions parcel = Then versions (AsksVersion w parcel)

-- what refuses the file's bytes stands between the limits of API and a missing number
abbrev pub AsksFile : Words → Found (List ℕ) → Found (List Version) → Answer → Type 0
AsksFile w file versions = Then (parcel_of file) (AsksParcel w versions)

-- a limit of API comes at once, and a missing number is answered later; there is no other reason
abbrev pub AsksOver : Words → Found (List ℕ) → Result (List Version) VersionsFault → Answer → Type 0
AsksOver w file (Ok versions) answer = AsksFile w file (Ok versions) answer
AsksOver w file (Err (fault.BadVersions missing)) answer = AsksFile w file (Err (bad_versions missing)) answer
AsksOver w file (Err (fault.Limit limit)) answer = answer ≡ limit_passed limit.which
AsksOver w file (Err fault.ReadFault) answer = ⊥
AsksOver w file (Err fault.OutOfMemory) answer = ⊥

-- `ask API N INTERFACE CODE FILE`: `no file`; the limits of API; those of FILE, with `not hexadecimal` between
-- them; and then the rest
abbrev pub AskAnswers : Words → List ℕ → Files → Answer → Type 0
AskAnswers w path files =
    Then (there path (file_at TextBytes files path)) (λ file. AsksOver w file (versions_at files w.api))
