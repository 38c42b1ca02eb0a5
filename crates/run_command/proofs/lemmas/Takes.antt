-- What is done by what a step finds is what is meant.
use Rattle.std.proofs.Common.{ℕ, List, Option, inl, inr, refl, ap, ◌∙◌, Err}
use Rattle.aidl_base.specs.declared.source_file.SourceFile.{SourceFile}
use Rattle.aidl_outside.specs.Faults.{SinkFaults}
use Rattle.aidl_schema.specs.declared.schema.Decl.{Decl}
use Rattle.run_command.specs.Running.{Takes}
use Rattle.run_command.specs.steps.Running.{RanSome, TakesEarly}
use Rattle.tool_frame.specs.declared.printed.Early.{Early}
use Rattle.tool_frame.specs.declared.printed.Early.TheVariants.{Answered, OutOfMemory}
use Rattle.tool_frame.specs.Course.{AtOnce, Course, at_once}
use Rattle.tool_frame.specs.Ends.{PrintsGiven}
use Rattle.tool_frame.proofs.lemmas.Courses.{ran_printed}
use Rattle.tool_frame.specs.Seen.{Seen}
use Rattle.tool_frame.specs.Results.{printed}
use Rattle.tree_commands.specs.Both.{IsFaultOfOne}
use Rattle.tree_commands.specs.ByTree.{ByBoth}
use Rattle.tree_commands.proofs.lemmas.Reading.{both_faulty}
use Rattle.tree_commands.specs.Results.{EndsBy}

-- a course of some is one of others
pub ran_also : (takes more : Takes) (before now : Seen) (exit : ℕ) → ((course : Course) → takes course → more course) → RanSome takes before now exit → RanSome more before now exit
ran_also takes more before now exit also (inl ran) = inl (ran.0, also ran.0 ran.1, ran.2)
ran_also takes more before now exit also (inr wanted) = inr wanted

-- an early end that was printed
pub printed_early : (early : Early) (before : Seen) (told : Option (List ℕ)) (faults : SinkFaults) (exit : ℕ) → PrintsGiven (Err early) before.told told before.sink_faults faults exit
    → RanSome (TakesEarly early) before (record before { told = told; sink_faults = faults }) exit
printed_early (Answered p) before told faults exit prints = inl (at_once (printed p), refl, ran_printed before told faults (printed p) exit prints)
printed_early OutOfMemory before told faults exit silent =
    inr (silent.exits, ap (λ t. let s : Seen = record before { told = t; sink_faults = faults } in s) silent.silent ∙ ap (λ n. let s : Seen = record before { sink_faults = n } in s) silent.good)

-- two trees of which one isn't checked are refused
pub early_both : (first second : List ℕ) (olds news : List SourceFile) (next : List Decl → List Decl → Takes) (early : Early) → EndsBy (IsFaultOfOne first olds second news) early
    → (course : Course) → TakesEarly early course → ByBoth AtOnce first olds second news next course
early_both first second olds news next (Answered p) is course e = both_faulty AtOnce first second next course olds news (printed p) e is
early_both first second olds news next OutOfMemory is course e = absurd e
