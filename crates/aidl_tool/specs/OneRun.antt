-- Two runs of the same words over the same files that both end by a verdict leave the same (own).
use Rattle.std.specs.Prelude.{◌≡◌, ℕ, ◌⊎◌, List, ◌++◌, map, true, Some}
use Rattle.aidl_outside.specs.declared.link.Carried.{Carried}
use Rattle.aidl_outside.specs.Files.{Files}
use Rattle.aidl_outside.specs.Told.{Adds}
use Rattle.tool_frame.specs.Ended.{Ended}
use Rattle.tool_frame.specs.Meaning.{Meaning, Meant}
use Rattle.tool_frame.specs.Meaning.Meant.{unknown, means}
use Rattle.tool_frame.specs.Seen.{Seen}
use Rattle.tool_frame.specs.Verdict.{IsVerdict}

-- a run: what was seen of the outside before and after it, and its exit
pub record Run : Type 0 where
  pub before : Seen
  pub now : Seen
  pub exit : ℕ

-- a run of a command over files that the store told, that ended by a verdict
pub record EndedOver (m : Meaning) (files : Files) (run : Run) : Type 0 where
  pub over : run.before.kept ≡ Some files
  pub ended : Ended m run.before run.now run.exit
  pub verdict : IsVerdict run.exit

-- both links tell their parcels, and delivered the same bytes one by one
pub record DeliveredAlike (a b : Run) : Type 0 where
  pub first : List Carried
  pub second : List Carried
  pub first_gained : List Carried
  pub second_gained : List Carried
  pub first_before : a.before.log ≡ Some first
  pub first_now : a.now.log ≡ Some (first ++ first_gained)
  pub second_before : b.before.log ≡ Some second
  pub second_now : b.now.log ≡ Some (second ++ second_gained)
  pub alike : map (λ (entry : Carried). entry.delivered) first_gained
      ≡ map (λ (entry : Carried). entry.delivered) second_gained

-- both links are faithful, or they delivered the same
abbrev pub DeliverAlike : Run → Run → Type 0
DeliverAlike a b = ((a.before.is_faithful ≡ true) × (b.before.is_faithful ≡ true)) ⊎ DeliveredAlike a b

-- the same exit, the same text, the same files, and the same parcels with what was delivered
pub record Agree (a b : Run) : Type 0 where
  pub exit : a.exit ≡ b.exit
  pub text : (added : List ℕ) × Adds a.before.told a.now.told added × Adds b.before.told b.now.told added
  pub files : a.now.kept ≡ b.now.kept
  pub parcels : (entries : List Carried) × Adds a.before.log a.now.log entries × Adds b.before.log b.now.log entries

-- two such runs agree
abbrev pub RunsAgree : Meant → Type 0
RunsAgree unknown = Unit {0}
RunsAgree (means m) = (files : Files) (a b : Run) → EndedOver m files a → EndedOver m files b
    → DeliverAlike a b → Agree a b
