-- How the code's stack and what it answers are seen: the last of what lies in memory is the top of the stack.
use Rattle.std.specs.Prelude.{◌≡◌, Bool, true, false, List, [], ◌∷◌, ◌++◌, reverse, Option, Some, None}
use denote.Ref.{Bor}
use Rattle.parse_places.specs.declared.expected.Expected.{Expected}

-- what is borrowed
abbrev pub seen : Option (Bor (List Expected)) → Option (List Expected)
seen None = None
seen (Some x) = Some x.now

-- the stack, where it went on
abbrev pub gone_on : Bool → List Expected → Option (List Expected)
gone_on true items = Some (reverse items)
gone_on false items = None

-- what is expected was put on the stack, or nothing was there to put
abbrev pub Went : Bool → Option (List Expected) → List Expected → List Expected → Type 0
Went on None before after = (on ≡ false) × (after ≡ before)
Went on (Some es) before after = (on ≡ true) × (reverse after ≡ es ++ reverse before)

abbrev pub of_option : Option Expected → List Expected
of_option None = []
of_option (Some e) = e ∷ []

-- what is expected, and one more thing behind it where there is one
abbrev pub and_last : Option (List Expected) → Option Expected → Option (List Expected)
and_last None last = None
and_last (Some es) last = Some (es ++ of_option last)
