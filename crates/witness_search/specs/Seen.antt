-- What the code's answers stand for.
use Rattle.std.specs.Prelude.{List, Result, Ok, Err}
use Rattle.aidl_schema.specs.declared.schema.Decl.{Decl}
use Rattle.compat_witness.specs.Candidates.{Candidate}
use Rattle.witness_calls.specs.Seen.{call_seen}
use Rattle.witness_calls.specs.Showing.{ShowsIt}
use Rattle.witness_search.specs.declared.shown.NoCall.{NoCall}
use Rattle.witness_search.specs.declared.shown.Shown.{Shown}
use Rattle.witness_search.specs.declared.shown.Shown.TheVariants.{Found, Reason}

-- a candidate, or the reason why there is none
abbrev pub shown_seen : Shown → Result Candidate NoCall
shown_seen (Found w) = Ok (call_seen w.call)
shown_seen (Reason why) = Err why

-- A call shows what stands beside it.
abbrev pub ShowsAny : List Decl → List Decl → Shown → Type 0
ShowsAny old new (Found w) = ShowsIt old new (call_seen w.call) w.showing
ShowsAny old new (Reason why) = Unit {0}
