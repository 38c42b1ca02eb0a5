-- What a put comes to: an answer that is printed, and words that are refused.
use Rattle.std.proofs.Common.{◌≡◌, ◌==◌, ℕ, Bool, false, List, [], length, Option, refl, sym, subst, arith, inl, inr, append-nil}
use Rattle.std.specs.Prelude.{◌≢◌, ◌⊎◌, Err}
use Rattle.aidl_outside.specs.declared.sink.SinkFault.{SinkFault}
use Rattle.aidl_outside.specs.declared.sink.SinkFault.TheVariants.{Failed, OutOfMemory}
use Rattle.aidl_outside.specs.Causes.{SinkCause}
use Rattle.aidl_outside.specs.Faults.{FailedIn, SinkFaults, WhereSinkFailed}
use Rattle.aidl_outside.specs.Told.{Adds, AddsFront, Puts}
use Rattle.tool_frame.specs.declared.exit.Exit.TheVariants.{RefusedWords}
use Rattle.tool_frame.specs.Answer.{Answer}
use Rattle.tool_frame.specs.Ended.{Refused, refused_words}
use Rattle.tool_frame.specs.Exit.{number_of}
use Rattle.tool_frame.specs.Seen.{Seen}
use Rattle.tool_frame.specs.Verdict.{exit_of, IsVerdict}
use Rattle.tool_frame.specs.Prints.{CutAt, IsCut, Prints}
use Rattle.aidl_outside.proofs.lemmas.Failing.{failed_as}
use Rattle.tool_frame.proofs.lemmas.Endings.{not_verdict, verdict_exit}

-- all of a text is a front of it
all_front : (before now : Option (List ℕ)) (text : List ℕ) → Adds before now text → AddsFront before now text
all_front before now text adds = (text, [], sym (append-nil text), adds)

-- an exit with which a put failed is none of a verdict
not_cut : (exit : ℕ) → (exit ≡ 4) ⊎ (exit ≡ 5) → IsVerdict exit → ⊥
not_cut exit (inl four) verdict = not_verdict exit (omega arith) (omega arith) verdict
not_cut exit (inr five) verdict = not_verdict exit (omega arith) (omega arith) verdict

-- a text that was found not to be empty
pub by_length : (text : List ℕ) (is_empty : Bool) → is_empty ≡ (length text == 0) → is_empty ≡ false → text ≡ [] → ⊥
by_length text is_empty found filled empty = cc

-- A put of a text that isn't empty failed.
pub put_failed : (text : List ℕ) (before now : Option (List ℕ)) (faults_before faults_now : SinkFaults) (fault : SinkFault) → fault ≡ Failed → text ≢ []
    → Puts {T = Unit {0}} before now text (Err fault) → SinkCause {T = Unit {0}} faults_before faults_now (Err fault)
    → WhereSinkFailed fault (FailedIn faults_now (λ piece. piece ≡ text)) → IsCut text before now faults_before faults_now 4
put_failed text before now faults_before faults_now OutOfMemory is some puts rose failed = absurd cc
put_failed text before now faults_before faults_now Failed is some (put, unput, all, adds) rose failed = record {
  exits = inl refl;
  fault = λ four. rose;
  due = λ four. failed_as faults_now _ _ (λ piece same. subst (CutAt text before now) (sym same) ([], [], put, unput, sym (append-nil text), all, some, adds)) failed;
  good = λ other. absurd (other refl);
  front = (put, unput, all, adds);
}

pub prints_whole : (a : Answer) (before now : Option (List ℕ)) (faults_before faults_now : SinkFaults) → Adds before now a.text × (faults_now ≡ faults_before)
    → Prints a before now faults_before faults_now (exit_of a.verdict)
prints_whole a before now faults_before faults_now (adds, good) = record {
  exits = inl refl;
  fault = λ four. absurd (not_cut (exit_of a.verdict) (inl four) (verdict_exit a.verdict));
  due = λ four. absurd (not_cut (exit_of a.verdict) (inl four) (verdict_exit a.verdict));
  good = λ other. good;
  whole = λ same. adds;
  front = all_front before now a.text adds;
}

pub prints_front : (a : Answer) (before now : Option (List ℕ)) (faults_before faults_now : SinkFaults) (exit : ℕ) → IsCut a.text before now faults_before faults_now exit
    → Prints a before now faults_before faults_now exit
prints_front a before now faults_before faults_now exit cut = record {
  exits = inr cut.exits;
  fault = cut.fault;
  due = cut.due;
  good = cut.good;
  whole = λ same. absurd (not_cut exit cut.exits (subst IsVerdict (sym same) (verdict_exit a.verdict)));
  front = cut.front;
}

abbrev after_put : Seen → Option (List ℕ) → SinkFaults → Seen
after_put before told faults = record before { told = told; sink_faults = faults }

pub refused_whole : (before : Seen) (told : Option (List ℕ)) (faults : SinkFaults) → Adds before.told told refused_words × (faults ≡ before.sink_faults)
    → Refused before (after_put before told faults) (number_of RefusedWords)
refused_whole before told faults (adds, good) = record {
  exits = inl refl;
  untouched = refl;
  sink_fault = λ four. absurd (omega arith);
  sink_due = λ four. absurd (omega arith);
  sink_good = λ other. good;
  whole = λ two. adds;
  front = all_front before.told told refused_words adds;
}

pub refused_front : (before : Seen) (told : Option (List ℕ)) (faults : SinkFaults) (exit : ℕ) → IsCut refused_words before.told told before.sink_faults faults exit
    → Refused before (after_put before told faults) exit
refused_front before told faults exit cut = record {
  exits = inr cut.exits;
  untouched = refl;
  sink_fault = cut.fault;
  sink_due = cut.due;
  sink_good = cut.good;
  whole = λ two. absurd (never cut.exits two);
  front = cut.front;
}
  where
    never : (exit ≡ 4) ⊎ (exit ≡ 5) → exit ≡ 2 → ⊥
    never (inl four) two = omega arith
    never (inr five) two = omega arith
