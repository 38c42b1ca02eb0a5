-- The exits of the verdicts.
use Rattle.std.specs.Prelude.{◌≡◌, ℕ}
use Rattle.tool_frame.specs.declared.exit.Exit.{Exit}
use Rattle.tool_frame.specs.declared.exit.Exit.TheVariants as exit
use Rattle.tool_frame.specs.declared.verdict.Verdict.{Verdict}
use Rattle.tool_frame.specs.declared.verdict.Verdict.TheVariants.{Done, Negative, LimitPassed}
use Rattle.tool_frame.specs.Exit.{number_of}

abbrev pub as_exit : Verdict → Exit
as_exit Done = exit.Done
as_exit Negative = exit.Negative
as_exit LimitPassed = exit.LimitPassed

-- its number
abbrev pub exit_of : Verdict → ℕ
exit_of verdict = number_of (as_exit verdict)

-- the exit of a verdict: nothing failed, and memory was there
abbrev pub IsVerdict : ℕ → Type 0
IsVerdict exit = (verdict : Verdict) × (exit ≡ exit_of verdict)
