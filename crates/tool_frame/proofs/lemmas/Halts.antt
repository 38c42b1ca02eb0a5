-- What a command has got of the store, step by step.
use Rattle.std.proofs.Common.{◌≡◌, Option, Some, None, Ok, Err, refl, subst, ◌∙◌}
use Rattle.aidl_outside.specs.declared.store.StoreFault.{StoreFault}
use Rattle.aidl_outside.specs.declared.store.StoreFault.TheVariants as store
use Rattle.aidl_outside.specs.Asks.{Asks}
use Rattle.aidl_outside.specs.Causes.{StoreCause}
use Rattle.aidl_outside.specs.Faults.{FailedIn, StoreCall, WhereStoreFailed}
use Rattle.aidl_outside.specs.Files.{Files}
use Rattle.aidl_outside.specs.Told.{Tells}
use Rattle.aidl_outside.proofs.lemmas.Failing.{failed_as}
use Rattle.aidl_outside.proofs.lemmas.Telling.{tells, tells_both}
use Rattle.tool_frame.specs.declared.halt.Halt.{Halt}
use Rattle.tool_frame.specs.declared.halt.Halt.TheVariants.{Answered, StoreFailed, OutOfMemory}
use Rattle.tool_frame.specs.declared.printed.Early.{Early}
use Rattle.tool_frame.specs.declared.printed.Early.TheVariants as early
use Rattle.tool_frame.specs.Answer.{Answer, Found}
use Rattle.tool_frame.specs.Halts.{Gets, HaltCause, halt_by, halt_of}
use Rattle.tool_frame.specs.Results.{EndsAs, Finds, GivesOne, printed}
use Rattle.tool_frame.specs.Seen.{StoreSeen}

-- what holds of each answer holds of what is told of an end
pub told_always : {A : Type 0} {P : A → Type 0} (told : Option A) → ((a : A) → P a) → Tells told P
told_always None h = tt
told_always (Some a) h = h a

-- So far no call failed, no file changed, and this holds of the files that are told.
pub record Knows (before now : StoreSeen) (Holds : Files → Type 0) : Type 0 where
  pub told : Tells before.kept Holds
  pub unchanged : now.kept ≡ before.kept
  pub good : now.faults ≡ before.faults

-- a step that went well
pub knows : {T : Type 0} (asks : Asks) (Is : Files → T → Type 0) (Ends : Files → Answer → Type 0) (before now : StoreSeen) (x : T) → Gets asks Is Ends before now (Ok x)
    → Knows before now (λ files. Is files x)
knows asks Is Ends before now x gets = record { told = gets.said; unchanged = gets.unchanged; good = gets.cause }

-- and another after it
pub knows_both : (before middle now : StoreSeen) (P Q : Files → Type 0) → Knows before middle P → Knows middle now Q → Knows before now (λ files. P files × Q files)
knows_both before middle now P Q first second = record {
  told = tells_both before.kept P Q _ (λ files p q. (p, q)) first.told (subst (λ kept. Tells kept Q) first.unchanged second.told);
  unchanged = second.unchanged ∙ first.unchanged;
  good = second.good ∙ first.good;
}

-- what is said where a step that reads nothing ends early
abbrev pub IfAnswered : Early → (Answer → Type 0) → Type 0
IfAnswered (early.Answered p) Said = Said (printed p)
IfAnswered early.OutOfMemory Said = Unit {0}

pub early_finds : {T A : Type 0} (view : T → A) (end : Early) (found : Found A) (Said : Answer → Type 0) → ((a : Answer) → found ≡ Err a → Said a) → Finds view (Err end) found → IfAnswered end Said
early_finds view (early.Answered p) found Said more h = more (printed p) h
early_finds view early.OutOfMemory found Said more h = tt

pub early_gives : (end : Early) (Is Said : Answer → Type 0) → ((a : Answer) → Is a → Said a) → GivesOne (Err end) Is → IfAnswered end Said
early_gives (early.Answered p) Is Said more h = more (printed p) h
early_gives early.OutOfMemory Is Said more h = tt

pub early_as : (end : Early) (answer : Answer) (Said : Answer → Type 0) → ((a : Answer) → a ≡ answer → Said a) → EndsAs end answer → IfAnswered end Said
early_as (early.Answered p) answer Said more h = more (printed p) h
early_as early.OutOfMemory answer Said more h = tt

module _ {T : Type 0} (asks : Asks) (Is : Files → T → Type 0) (Ends : Files → Answer → Type 0) (before now : StoreSeen) where
  -- the last step went well
  pub known_last : (P : Files → Type 0) (x : T) → ((files : Files) → P files → Is files x) → Knows before now P → Gets asks Is Ends before now (Ok x)
  known_last P x is known = record { said = tells before.kept P _ is known.told; unchanged = known.unchanged; cause = known.good; failed = tt }

  -- a step that reads nothing ended early
  pub known_early : (P : Files → Type 0) (end : Early) → ((files : Files) → P files → IfAnswered end (Ends files)) → Knows before now P → Gets asks Is Ends before now (Err (halt_of end))
  known_early P (early.Answered p) ends known = record { said = tells before.kept P _ ends known.told; unchanged = known.unchanged; cause = known.good; failed = tt }
  known_early P early.OutOfMemory ends known = record { said = told_always before.kept (λ files. tt); unchanged = known.unchanged; cause = known.good; failed = tt }

  -- a call of the store failed, or wanted memory
  pub gets_fault : (U : Type 0) (fault : StoreFault) → now.kept ≡ before.kept → StoreCause {T = U} before.faults now.faults (Err fault) → WhereStoreFailed fault (FailedIn now.faults (asks before.kept))
      → Gets asks Is Ends before now (Err (halt_by fault))
  gets_fault U store.Failed unchanged cause failed = record { said = told_always before.kept (λ files. tt); unchanged = unchanged; cause = cause; failed = failed }
  gets_fault U store.OutOfMemory unchanged cause failed = record { said = told_always before.kept (λ files. tt); unchanged = unchanged; cause = cause; failed = tt }

-- A step that reads after others: what it has got, or why it ended, is told by more.
module _ {T U : Type 0} (asks wide : Asks) (Is : Files → T → Type 0) (More : Files → U → Type 0) (Ends Wider : Files → Answer → Type 0) (before middle now : StoreSeen) (P : Files → Type 0) (known : Knows before middle P) where
  -- what is asked for is asked for by the whole
  abbrev pub AreAsked : Type 0
  AreAsked = (call : StoreCall) → Tells before.kept P → asks before.kept call → wide before.kept call

  abbrev pub AreMeant : Type 0
  AreMeant = (files : Files) (answer : Answer) → P files → Ends files answer → Wider files answer

  told_so : {Q R : Files → Type 0} → ((files : Files) → P files → Q files → R files) → Tells middle.kept Q → Tells before.kept R
  told_so {Q} h q = tells_both before.kept P Q _ h known.told (subst (λ kept. Tells kept Q) known.unchanged q)

  -- it ended
  pub known_halts : (halt : Halt) → AreAsked → AreMeant → Gets asks Is Ends middle now (Err halt) → Gets wide More Wider before now (Err halt)
  known_halts (Answered p) asked meant gets =
      record { said = told_so (λ files h e. meant files (printed p) h e) gets.said; unchanged = gets.unchanged ∙ known.unchanged; cause = gets.cause ∙ known.good; failed = tt }
  known_halts StoreFailed asked meant gets = record {
    said = told_always before.kept (λ files. tt);
    unchanged = gets.unchanged ∙ known.unchanged;
    cause = subst (λ faults. HaltCause {T = U} faults now.faults (Err StoreFailed)) known.good gets.cause;
    failed = failed_as now.faults _ _ (λ call is. asked call known.told (subst (λ kept. asks kept call) known.unchanged is)) gets.failed;
  }
  known_halts OutOfMemory asked meant gets =
      record { said = told_always before.kept (λ files. tt); unchanged = gets.unchanged ∙ known.unchanged; cause = gets.cause ∙ known.good; failed = tt }

-- nothing is known yet
pub knows_none : (seen : StoreSeen) → Knows seen seen (λ files. Unit {0})
knows_none seen = record { told = told_always seen.kept (λ files. tt); unchanged = refl; good = refl }
