-- What the results of steps stand for, where what is printed is a relation.
use Rattle.tool_frame.specs.declared.printed.Early.{Early}
use Rattle.tool_frame.specs.declared.printed.Early.TheVariants.{Answered, OutOfMemory}
use Rattle.tool_frame.specs.Answer.{Answer}
use Rattle.tool_frame.specs.Results.{printed}

-- an early end is such an answer, or memory was wanted
abbrev pub EndsBy : (Answer → Type 0) → Early → Type 0
EndsBy Is (Answered p) = Is (printed p)
EndsBy Is OutOfMemory = Unit {0}
