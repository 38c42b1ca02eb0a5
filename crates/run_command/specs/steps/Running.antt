-- Which courses were run, or printed at once.
use Rattle.std.specs.Prelude.{◌≡◌, ℕ, ◌⊎◌}
use Rattle.run_command.specs.Running.{Takes}
use Rattle.tool_frame.specs.declared.exit.Exit.TheVariants.{OutOfMemory as NoMemory}
use Rattle.tool_frame.specs.declared.printed.Early.{Early}
use Rattle.tool_frame.specs.declared.printed.Early.TheVariants.{Answered, OutOfMemory}
use Rattle.tool_frame.specs.Course.{Course, at_once}
use Rattle.tool_frame.specs.Courses.{RanCourse}
use Rattle.tool_frame.specs.Exit.{number_of}
use Rattle.tool_frame.specs.Results.{printed}
use Rattle.tool_frame.specs.Seen.{Seen}

-- an early end is printed at once
abbrev pub TakesEarly : Early → Takes
TakesEarly (Answered p) course = course ≡ at_once (printed p)
TakesEarly OutOfMemory course = ⊥

-- one of these courses was run; or memory was wanted before any
abbrev pub RanSome : Takes → Seen → Seen → ℕ → Type 0
RanSome takes before now exit = ((course : Course) × takes course × RanCourse course before now exit)
    ⊎ ((exit ≡ number_of NoMemory) × (now ≡ before))
