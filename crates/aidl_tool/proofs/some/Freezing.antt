-- What `freeze` does is one thing at the least.
use Rattle.std.proofs.Common.{◌≢◌, ℕ, ◌⊎◌, List, [], Option, Some, None, Result, Ok, Err, inl, inr, refl, subst, sym}
use Rattle.aidl_base.specs.declared.source_file.SourceFile.{SourceFile}
use Rattle.aidl_schema.specs.declared.schema.Decl.{Decl}
use Rattle.aidl_schema.specs.Valid.{IsValid}
use Rattle.aidl_tool.specs.Meant.{meaning}
use Rattle.aidl_tool.specs.SomeMeaning.{MeansSome}
use Rattle.aidl_tool.proofs.some.Acting.{Act, by_schema, some_acting, unread}
use Rattle.aidl_tool.proofs.some.ByTree.{fault_answered}
use Rattle.aidl_tool.proofs.some.Versions.{Reads, all_read}
use Rattle.api_freeze.specs.Freeze.{Forbids, Ready, RefusedAs, hash_digits, latest, next, version_writes}
use Rattle.api_freeze.specs.declared.fault.FreezeFault.{FreezeFault}
use Rattle.api_freeze.specs.declared.fault.FreezeFault.TheVariants as fault
use Rattle.api_freeze.proofs.lemmas.ReadyOrRefused.{ready_or_refused}
use Rattle.api_versions.specs.Versions.{version_folder, versions_at}
use Rattle.api_versions.specs.declared.fault.VersionsFault.{VersionsFault}
use Rattle.api_versions.specs.declared.version.Version.{Version}
use Rattle.compat_judge.specs.Seen.{seen as break_of}
use Rattle.std.specs.Fmt.{decimal}
use Rattle.std.specs.List.{flat_map}
use Rattle.std.specs.Prelude.{codes, map, ◌++◌}
use Rattle.tool_frame.specs.Answer.{Answer, after_text, limit_passed, line, negative}
use Rattle.tool_frame.specs.Trees.{tree_at}
use Rattle.tool_words.specs.Command.{freeze}
use Rattle.tree_commands.specs.Faults.{refused}
use Rattle.tree_commands.specs.Judged.{break_line}
use Rattle.type_check.specs.declared.fault.CheckFault.{CheckFault}
use Rattle.type_check.specs.declared.fault.CheckFault.TheVariants as check
use Rattle.type_check.specs.Refusals.{IsRefusal}
use Rattle.type_check.proofs.lemmas.ValidOf.{schema_valid}
use Rattle.version_lines.specs.Lines.{torn}
use Rattle.version_commands.specs.Frozen.{Freezes, IsUnfrozen, IsUnreadable, frozen}

-- what is printed of a refusal
module _ (api : List ℕ) (S : List Decl) where
  unreadable : (version : ℕ) (files : List SourceFile) (cause : CheckFault) → cause ≢ check.OutOfMemory → IsRefusal files cause → (a : Answer) × IsUnreadable api version files a
  unreadable version files cause differs h =
      let faults = fault_answered (version_folder api version) files cause differs h in
      (after_text (line (codes "unreadable " ++ decimal version)) faults.0, (faults.0, (cause, h, faults.1), refl))

  forbidden : (o : Option Version) (version : ℕ) (files : List SourceFile) (cause : CheckFault)
      → Forbids o S (fault.Unreadable version files cause) → (a : Answer) × IsUnreadable api version files a
  forbidden None version files cause h = absurd (cc)
  forbidden (Some v) version files (check.Limit l) h = absurd h
  forbidden (Some v) version files (check.Lex rows) h = unreadable version files (check.Lex rows) (λ e. cc) (subst (λ fs. IsRefusal fs (check.Lex rows)) (sym h.1) h.2)
  forbidden (Some v) version files (check.Syntax rows) h = unreadable version files (check.Syntax rows) (λ e. cc) (subst (λ fs. IsRefusal fs (check.Syntax rows)) (sym h.1) h.2)
  forbidden (Some v) version files (check.Breaches rows) h = unreadable version files (check.Breaches rows) (λ e. cc) (subst (λ fs. IsRefusal fs (check.Breaches rows)) (sym h.1) h.2)
  forbidden (Some v) version files check.OutOfMemory h = absurd h

  unfrozen : (vs : List Version) (e : FreezeFault) → e ≢ fault.OutOfMemory → RefusedAs vs S e → (a : Answer) × IsUnfrozen api e a
  unfrozen vs (fault.Versions e) differs h = absurd h
  unfrozen vs (fault.Torn stale) differs h = (torn stale.version stale.kept stale.text, refl)
  unfrozen vs (fault.Unreadable version files cause) differs h = forbidden (latest vs) version files cause h.1
  unfrozen vs (fault.Unchanged version) differs h = (negative (codes "unchanged " ++ decimal version), refl)
  unfrozen vs (fault.Incompatible rows) differs h = (refused (flat_map break_line (map break_of rows)), refl)
  unfrozen vs (fault.Limit l) differs h = (limit_passed l.which, refl)
  unfrozen vs (fault.Write e) differs h = absurd h
  unfrozen vs fault.OutOfMemory differs h = absurd (differs refl)

  freezes_or : (vs : List Version) → ((files : List SourceFile) × Ready vs S files) ⊎ ((e : FreezeFault) × (e ≢ fault.OutOfMemory) × RefusedAs vs S e) → Act (Freezes api (Ok vs) S)
  freezes_or vs (inl h) = (version_writes api (next vs) h.0, frozen (next vs) (hash_digits h.0 (next vs)), inl (h.0, h.1, refl, refl))
  freezes_or vs (inr h) = let a = unfrozen vs h.0 h.1 h.2 in ([], a.0, inr (refl, (h.0, h.2, a.1)))

  freezes : IsValid S → (r : Result (List Version) VersionsFault) → Reads r → Act (Freezes api r S)
  freezes valid (Ok vs) h = freezes_or vs (ready_or_refused S valid vs)
  freezes valid (Err e) h = let a = unread e h in ([], a.0, (refl, a.1))

pub means_freeze : (tree api : List ℕ) → MeansSome (meaning (freeze tree api))
means_freeze tree api =
    some_acting _ _ (λ files.
    by_schema tree _ (λ S sources is. freezes api S (schema_valid sources S is) (versions_at files api) (all_read files api)) (tree_at files tree))
