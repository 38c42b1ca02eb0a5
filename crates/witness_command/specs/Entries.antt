-- The lines of a broken evolution rule: the judge's line, and a call that shows it or the reason why none is shown
-- (own).
use Rattle.std.specs.Prelude.{◌≡◌, ℕ, List, [], ◌∷◌, ◌++◌, Result, Ok, Err, codes}
use Rattle.aidl_schema.specs.Broken.{Break}
use Rattle.aidl_schema.specs.declared.schema.Decl.{Decl}
use Rattle.compat_witness.specs.Candidates.{Candidate}
use Rattle.tool_frame.specs.Answer.{line}
use Rattle.tree_commands.specs.Judged.{break_line}
use Rattle.witness_search.specs.IsWitness.{IsAllowed, IsWitness}
use Rattle.witness_search.specs.declared.shown.NoCall.{NoCall}
use Rattle.witness_search.specs.declared.shown.NoCall.TheVariants.{OutsideWire, NoCandidate}
use Rattle.witness_command.specs.CallLines.{call_lines}

-- why no call is shown
abbrev pub reason_text : NoCall → List ℕ
reason_text OutsideWire = codes "none outside the wire"
reason_text NoCandidate = codes "none no candidate"

-- the three lines of a call, or the line of the reason
abbrev pub shown_lines : List Decl → List Decl → Result Candidate NoCall → List ℕ
shown_lines old new (Ok c) = call_lines old new c
shown_lines old new (Err why) = line (reason_text why)

-- The lines of one entry. A reason is printed only where one is allowed.
abbrev pub IsEntry : List Decl → List Decl → Break → List ℕ → Type 0
IsEntry old new b text = (found : Result Candidate NoCall) × IsWitness old new b found × IsAllowed old new b found
    × (text ≡ break_line b ++ shown_lines old new found)

-- of several, one after another
abbrev pub AreEntries : List Decl → List Decl → List Break → List ℕ → Type 0
AreEntries old new [] text = text ≡ []
AreEntries old new (b ∷ bs) text = (first rest : List ℕ) × IsEntry old new b first × AreEntries old new bs rest
    × (text ≡ first ++ rest)
