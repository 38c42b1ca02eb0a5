-- What the steps of a run give.
use Rattle.std.specs.Prelude.{⊤, Option, Some, None, Result, Ok, Err}
use Rattle.tool_frame.specs.declared.exit.Exit.{Exit}
use Rattle.tool_frame.specs.Course.{Course, at_once}
use Rattle.tool_frame.specs.Exit.{number_of}
use Rattle.tool_frame.specs.Seen.{Seen}
use Rattle.tool_frame.specs.declared.printed.Printed.{Printed}
use Rattle.tool_frame.specs.Courses.{RanCourse, Went}
use Rattle.tool_frame.specs.Results.{printed}

-- one part of a course went well, or the run ended in it
abbrev pub Steps : Course → Course → Seen → Seen → Result ⊤ Exit → Type 0
Steps course next before now (Ok u) = Went course next before now
Steps course next before now (Err exit) = RanCourse course before now (number_of exit)

-- what is printed at once, or else the lines
abbrev pub course_by : Option Printed → Course → Course
course_by None lines = lines
course_by (Some p) lines = at_once (printed p)
