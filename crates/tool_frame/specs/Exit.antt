-- The exits of the program, and their numbers (own).
use Rattle.std.specs.Prelude.{ℕ}
use Rattle.tool_frame.specs.declared.exit.Exit.{Exit}
use Rattle.tool_frame.specs.declared.exit.Exit.TheVariants.{Done, Negative, RefusedWords, StoreFailed, SinkFailed}
use Rattle.tool_frame.specs.declared.exit.Exit.TheVariants.{OutOfMemory, LinkFailed, LimitPassed, NoWords}

-- the exit status
abbrev pub number_of : Exit → ℕ
number_of Done = 0
number_of Negative = 1
number_of RefusedWords = 2
number_of StoreFailed = 3
number_of SinkFailed = 4
number_of OutOfMemory = 5
number_of LinkFailed = 6
number_of LimitPassed = 7
number_of NoWords = 8
