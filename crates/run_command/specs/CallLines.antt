-- The lines of a calls file, and their limit (own).
use Rattle.std.specs.Prelude.{ℕ, ◌==◌, nat_lt, if◌then◌else◌, List, [], ◌∷◌, length, Ok, Err}
use Rattle.aidl_base.specs.declared.limit.LimitName.TheVariants.{Lines}
use Rattle.aidl_base.specs.Limits.{limit_number}
use Rattle.aidl_base.specs.Results.{◌>>=◌}
use Rattle.tool_frame.specs.Answer.{Found, limit_passed}

-- a byte in front of the first line; it is a line of its own where there is none
abbrev pub onto_first : ℕ → List (List ℕ) → List (List ℕ)
onto_first b [] = (b ∷ []) ∷ []
onto_first b (first ∷ others) = (b ∷ first) ∷ others

-- Each newline ends a line. Bytes after the last newline are a line too; after it no line is where none stand there.
abbrev pub lines_of : List ℕ → List (List ℕ)
lines_of [] = []
lines_of (b ∷ bytes) = if b == 10 then [] ∷ lines_of bytes else onto_first b (lines_of bytes)

-- a text of so many lines that it passes no limit
abbrev pub within_lines : List ℕ → Found (List ℕ)
within_lines bytes = if nat_lt (limit_number Lines) (length (lines_of bytes))
    then Err (limit_passed Lines) else Ok bytes

-- the text of a file of lines, or the limit that it passes: `text-bytes`, and then `lines`
abbrev pub lines_held : Found (List ℕ) → Found (List ℕ)
lines_held held = held >>= within_lines
