-- What `verify` answers, by what was read of the versions of an API.
use Rattle.std.proofs.Common.{◌≡◌, ℕ, List, Option, Ok, Err, sym, subst}
use Rattle.aidl_outside.specs.Files.{Files}
use Rattle.aidl_outside.specs.Told.{Tells}
use Rattle.aidl_outside.proofs.lemmas.Telling.{tells}
use Rattle.api_versions.specs.declared.fault.VersionsFault.{VersionsFault}
use Rattle.api_versions.specs.declared.fault.VersionsFault.TheVariants as fault
use Rattle.api_versions.specs.declared.version.Version.{Version}
use Rattle.api_versions.specs.Answers.{ReadFaultCause, Refuses}
use Rattle.api_versions.specs.Asks.{AsksVersions, FaultCall}
use Rattle.api_versions.specs.Versions.{versions_at}
use Rattle.tool_frame.specs.declared.halt.Halt.{Halt}
use Rattle.tool_frame.specs.declared.halt.Halt.TheVariants.{Answered, StoreFailed, OutOfMemory}
use Rattle.tool_frame.specs.Answer.{Answer}
use Rattle.tool_frame.specs.Halts.{Prints}
use Rattle.tool_frame.specs.Results.{printed}
use Rattle.tool_frame.specs.Seen.{StoreSeen}
use Rattle.tool_frame.proofs.lemmas.Halts.{told_always}
use Rattle.version_lines.specs.Lines.{IsUnread}
use Rattle.version_commands.specs.Ends.{EndsIn, UnreadEnds}
use Rattle.version_commands.specs.Verified.{IsVerified, VerifyAnswers, verified}

module _ (api : List ℕ) where
  -- of versions that were read
  pub verified_by : (files : Files) (vs : List Version) (a : Answer) → versions_at files api ≡ Ok vs → a ≡ verified vs → VerifyAnswers api files a
  verified_by files vs a same is = subst (λ given. IsVerified given a) (sym same) is

  -- of what refuses them
  refused_so : (kept : Option Files) (e : VersionsFault) → Tells kept (λ files. Refuses (versions_at files api) e) → Tells kept (λ files. (a : Answer) → IsUnread e a → VerifyAnswers api files a)
  refused_so kept (fault.BadVersions missing) told = tells kept _ _ (λ files same a is. subst (λ vs. IsVerified vs a) (sym same) is) told
  refused_so kept (fault.Limit limit) told = tells kept _ _ (λ files same a is. subst (λ vs. IsVerified vs a) (sym same) is) told
  refused_so kept fault.ReadFault told = told_always kept (λ files a never. absurd never)
  refused_so kept fault.OutOfMemory told = told_always kept (λ files a never. absurd never)

  module _ (before now : StoreSeen) (unchanged : now.kept ≡ before.kept) where
    -- a refusal that is printed
    prints_answer : (Said : Answer → Type 0) (halt : Halt) → now.faults ≡ before.faults → EndsIn Said halt → Tells before.kept (λ files. (a : Answer) → Said a → VerifyAnswers api files a)
        → Prints (AsksVersions api) (VerifyAnswers api) before now (Err halt)
    prints_answer Said (Answered p) good ends meant = record { said = tells before.kept _ _ (λ files h. h (printed p) ends) meant; unchanged = unchanged; cause = good; failed = tt }
    prints_answer Said StoreFailed good ends meant = absurd ends
    prints_answer Said OutOfMemory good ends meant = record { said = told_always before.kept (λ files. tt); unchanged = unchanged; cause = good; failed = tt }

    pub prints_unread : (e : VersionsFault) (halt : Halt) → Tells before.kept (λ files. Refuses (versions_at files api) e) → ReadFaultCause before.faults now.faults e → FaultCall (AsksVersions api before.kept) now.faults e
        → UnreadEnds (IsUnread e) e halt → Prints (AsksVersions api) (VerifyAnswers api) before now (Err halt)
    prints_unread (fault.BadVersions missing) halt told cause call ends = prints_answer (IsUnread (fault.BadVersions missing)) halt cause ends (refused_so before.kept (fault.BadVersions missing) told)
    prints_unread (fault.Limit limit) halt told cause call ends = prints_answer (IsUnread (fault.Limit limit)) halt cause ends (refused_so before.kept (fault.Limit limit) told)
    prints_unread fault.ReadFault halt told cause call ends =
        subst (λ h. Prints (AsksVersions api) (VerifyAnswers api) before now (Err h)) (sym ends) (record { said = told_always before.kept (λ files. tt); unchanged = unchanged; cause = cause; failed = call })
    prints_unread fault.OutOfMemory halt told cause call ends =
        subst (λ h. Prints (AsksVersions api) (VerifyAnswers api) before now (Err h)) (sym ends) (record { said = told_always before.kept (λ files. tt); unchanged = unchanged; cause = cause; failed = tt })
