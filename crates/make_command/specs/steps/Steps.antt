-- What the steps of a run give.
use Rattle.std.specs.Prelude.{Bool, List, Option, Result, Ok, Err}
use Rattle.aidl_outside.specs.Faults.{LinkFaults}
use Rattle.aidl_outside.specs.declared.link.Carried.{Carried}
use Rattle.make_command.specs.Tally.{Counts}
use Rattle.tool_frame.specs.declared.exit.Exit.{Exit}
use Rattle.tool_frame.specs.Course.{Course}
use Rattle.tool_frame.specs.Courses.{RanCourse, Went}
use Rattle.tool_frame.specs.Exit.{number_of}
use Rattle.tool_frame.specs.Seen.{Seen}

-- one part of a course went well, up to what comes of the counts, or the run ended in it
abbrev pub CountsTo : Course → (Counts → Course) → Seen → Seen → Result Counts Exit → Type 0
CountsTo course next before now (Ok counts) = Went course (next counts) before now
CountsTo course next before now (Err exit) = RanCourse course before now (number_of exit)

-- what is seen of a link, beside what is seen of all else
abbrev pub with_link : {L : Type 0} → (L → Option (List Carried)) → (L → Bool) → (L → LinkFaults) → Seen → L → Seen
with_link log is_faithful link_faults others link =
    record others { log = log link; is_faithful = is_faithful link; link_faults = link_faults link }
