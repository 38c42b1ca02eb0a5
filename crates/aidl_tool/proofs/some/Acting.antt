-- What the commands that write or read versions do is one thing at the least.
use Rattle.std.proofs.Common.{◌≡◌, ◌≢◌, ℕ, ◌⊎◌, List, [], length, Option, Some, None, Result, Ok, Err, inl, inr, refl, sym, subst}
use Rattle.aidl_base.specs.declared.limit.LimitName.TheVariants.{TextBytes}
use Rattle.aidl_base.specs.declared.source_file.SourceFile.{SourceFile}
use Rattle.aidl_outside.specs.Asks.{Asks}
use Rattle.aidl_outside.specs.Files.{Files}
use Rattle.aidl_outside.specs.Writes.{Write}
use Rattle.aidl_schema.specs.declared.schema.Decl.{Decl}
use Rattle.version_commands.specs.Acting.{BySchema, DumpActs}
use Rattle.ask_command.specs.Asked.{AskAnswers, AsksFile, AsksHash, AsksOver, AsksParcel, AsksVersion, Words, ask_answer}
use Rattle.version_commands.specs.Verified.{VerifyAnswers, IsVerified, verified}
use Rattle.aidl_tool.specs.Meant.{meaning}
use Rattle.aidl_tool.specs.SomeMeaning.{IsSome, MeansSome}
use Rattle.aidl_tool.proofs.some.ByTree.{by_files, by_found, fault_answered}
use Rattle.aidl_tool.proofs.some.Meanings.{answered, some_reading}
use Rattle.aidl_tool.proofs.some.Versions.{IsReading, Reads, all_read}
use Rattle.api_freeze.specs.Rehash.{numbers_or, rehash_at, rehash_by, rehash_writes, stale_numbers}
use Rattle.api_freeze.specs.declared.fault.RehashFault.{RehashFault}
use Rattle.api_versions.specs.Versions.{version_folder, versions_at}
use Rattle.api_versions.specs.Whole.{first_torn}
use Rattle.api_versions.specs.declared.whole.Torn.{Torn}
use Rattle.api_versions.specs.declared.fault.VersionsFault.{VersionsFault}
use Rattle.api_versions.specs.declared.version.Version.{Version}
use Rattle.ask_command.specs.Versions.{version_found, whole_found}
use Rattle.parcel_commands.specs.Refusals.{parcel_of}
use Rattle.tool_frame.specs.Acts.{Acts, acts_by}
use Rattle.tool_frame.specs.Answer.{Answer, AsAnswer, Found, Then, limit_passed}
use Rattle.tool_frame.specs.Refusals.{file_at, there}
use Rattle.tool_frame.specs.Trees.{tree_at}
use Rattle.tool_words.specs.Command.{ask, dump, rehash, verify}
use Rattle.type_check.specs.declared.fault.CheckFault.{CheckFault}
use Rattle.type_check.specs.declared.fault.CheckFault.TheVariants as check_fault
use Rattle.type_check.specs.Checked.{IsSchemaOf}
use Rattle.type_check.specs.Refusals.{IsRefusal}
use Rattle.type_check.proofs.lemmas.SomeAnswer.{checked-or-refused}
use Rattle.version_lines.specs.Lines.{IsUnread, bad_versions, torn}
use Rattle.version_commands.specs.Dumped.{dump_writes}
use Rattle.version_commands.specs.Rehashed.{IsUnhashed, Rehashes, rehashed}

abbrev pub Act : Acts → Type 0
Act acts = (made : List Write) × (answer : Answer) × acts made answer

-- of a command that writes
pub some_acting : (asks : Asks) (acts : Files → Acts) → ((files : Files) → Act (acts files)) → IsSome (acts_by asks acts)
some_acting asks acts some = record {
  writes = λ files. let x = some files in (x.0, (x.1, x.2));
  due = λ files entries. (None, refl);
  answers = λ files entries. let x = some files in (x.1, (x.0, x.2));
}

module _ (root : List ℕ) (next : List Decl → Acts) (goes : (S : List Decl) (sources : List SourceFile) → IsSchemaOf sources S → Act (next S)) where
  by_answer : (sources : List SourceFile)
      → ((schema : List Decl) × IsSchemaOf sources schema) ⊎ ((e : CheckFault) × (e ≢ check_fault.OutOfMemory) × IsRefusal sources e) → Act (BySchema root (Ok sources) next)
  by_answer sources (inl s) = let x = goes s.0 sources s.1 in (x.0, x.1, inr (s.0, s.1, x.2))
  by_answer sources (inr r) = let a = fault_answered root sources r.0 r.1 r.2 in ([], a.0, inl (a.0, (r.0, r.2, a.1), (refl, refl)))

  pub by_schema : (tree : Found (List SourceFile)) → Act (BySchema root tree next)
  by_schema (Ok sources) = by_answer sources (checked-or-refused sources)
  by_schema (Err passed) = ([], passed, (refl, refl))

some_dump : (root out : List ℕ) (files : Files) → Act (DumpActs root out files)
some_dump root out files = by_schema root _ (λ S sources is. (dump_writes out S, _, (refl, refl))) (tree_at files root)

-- `verify API`
pub unread : (e : VersionsFault) → IsReading e → (a : Answer) × IsUnread e a
unread e (inl h) = (limit_passed h.0.which, subst (λ d. IsUnread d (limit_passed h.0.which)) (sym h.1) refl)
unread e (inr h) = (bad_versions h.0, subst (λ d. IsUnread d (bad_versions h.0)) (sym h.1) refl)

verify_by : (r : Result (List Version) VersionsFault) → Reads r → (a : Answer) × IsVerified r a
verify_by (Ok versions) h = (verified versions, refl)
verify_by (Err e) h = unread e h

some_verify : (api : List ℕ) (files : Files) → (a : Answer) × VerifyAnswers api files a
some_verify api files = verify_by (versions_at files api) (all_read files api)

-- `ask API N INTERFACE CODE FILE`
module _ (w : Words) where
  some_then : {X : Type 0} (found : Found X) (next : X → Answer → Type 0) → ((x : X) → (a : Answer) × next x a) → (a : Answer) × Then found next a
  some_then found next goes = by_found AsAnswer answered found next goes

  asks_file : (file : Found (List ℕ)) (versions : Found (List Version)) → (a : Answer) × AsksFile w file versions a
  asks_file file versions =
      some_then (parcel_of file) (AsksParcel w versions) (λ parcel.
      some_then versions (AsksVersion w parcel) (λ vs.
      some_then (version_found w.version vs) (λ v. Then (whole_found v) (AsksHash w parcel v)) (λ v.
      some_then (whole_found v) (AsksHash w parcel v) (λ hash.
      by_files (version_folder w.api w.version) AsAnswer answered v.files (λ S answer. answer ≡ ask_answer S w.version hash w.interface w.code parcel)
      (λ S. (ask_answer S w.version hash w.interface w.code parcel, refl))))))

  asks_unread : (file : Found (List ℕ)) (e : VersionsFault) → IsReading e → (a : Answer) × AsksOver w file (Err e) a
  asks_unread file e (inl h) = (limit_passed h.0.which, subst (λ d. AsksOver w file (Err d) (limit_passed h.0.which)) (sym h.1) refl)
  asks_unread file e (inr h) = let a = asks_file file (Err (bad_versions h.0)) in (a.0, subst (λ d. AsksOver w file (Err d) a.0) (sym h.1) a.1)

  asks_over : (file : Found (List ℕ)) (r : Result (List Version) VersionsFault) → Reads r → (a : Answer) × AsksOver w file r a
  asks_over file (Ok versions) h = asks_file file (Ok versions)
  asks_over file (Err e) h = asks_unread file e h

  some_ask : (path : List ℕ) (files : Files) → (a : Answer) × AskAnswers w path files a
  some_ask path files = some_then (there path (file_at TextBytes files path)) (λ file. AsksOver w file (versions_at files w.api)) (λ file. asks_over file (versions_at files w.api) (all_read files w.api))

-- `rehash API`
abbrev Hashes : Result (List ℕ) RehashFault → Type 0
Hashes (Ok numbers) = Unit {0}
Hashes (Err e) = (a : Answer) × IsUnhashed e a

hashed_by : (o : Option Torn) (numbers : List ℕ) → Hashes (numbers_or o numbers)
hashed_by None numbers = tt
hashed_by (Some stale) numbers = (torn stale.version stale.kept stale.text, refl)

hashed : (r : Result (List Version) VersionsFault) → Reads r → Hashes (rehash_by r)
hashed (Ok vs) h = hashed_by (first_torn vs) (stale_numbers vs)
hashed (Err e) h = unread e h

some_rehash : (writes : List Write) (r : Result (List ℕ) RehashFault) → Hashes r → Act (Rehashes writes r)
some_rehash writes (Ok numbers) h = (writes, rehashed (length numbers), (refl, refl))
some_rehash writes (Err e) h = ([], h.0, (refl, h.1))

pub means_rehash : (api : List ℕ) → MeansSome (meaning (rehash api))
means_rehash api = some_acting _ _ (λ files. some_rehash (rehash_writes files api) (rehash_at files api) (hashed (versions_at files api) (all_read files api)))

pub means_verify : (api : List ℕ) → MeansSome (meaning (verify api))
means_verify api = some_reading _ _ (λ files. some_verify api files)

pub means_dump : (tree out : List ℕ) → MeansSome (meaning (dump tree out))
means_dump tree out = some_acting _ _ (some_dump tree out)

pub means_ask : (api : List ℕ) (version : ℕ) (interface : List ℕ) (code : ℕ) (path : List ℕ) → MeansSome (meaning (ask api version interface code path))
means_ask api version interface code path =
    some_reading _ _ (λ files. some_ask (record { api = api; version = version; interface = interface; code = code }) path files)
