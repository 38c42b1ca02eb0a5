-- What the code's own words stand for.
use Rattle.std.specs.Prelude.{◌≡◌, ℕ, List, map}
use Rattle.api_versions.specs.Seen.{write_seen}
use Rattle.version_commands.specs.declared.dumping.Due.{Due}
use Rattle.tool_frame.specs.declared.printed.Early.{Early}
use Rattle.tool_frame.specs.declared.printed.Early.TheVariants.{Answered, OutOfMemory}
use Rattle.tool_frame.specs.Acts.{Acts}
use Rattle.tool_frame.specs.Answer.{after_text}
use Rattle.tool_frame.specs.Results.{EndsAs, printed}

-- what is to be written, and what is printed then, go together
abbrev pub IsDue : Acts → Due → Type 0
IsDue acts due = acts (map write_seen due.writes.items) (printed due.printed)

-- the same end with text in front
abbrev pub Follows : List ℕ → Early → Early → Type 0
Follows front (Answered p) end = EndsAs end (after_text front (printed p))
Follows front OutOfMemory end = end ≡ OutOfMemory
