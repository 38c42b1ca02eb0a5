-- Repetitions: when one goes on, and what each round reads.
use Rattle.std.specs.Prelude.{ℕ, Bool, List}
use Rattle.aidl_base.specs.declared.reserved.Reserved.TheVariants as word
use Rattle.aidl_syntax.specs.declared.token.Symbol.TheVariants as mark
use Rattle.aidl_syntax.specs.declared.token.Token.{Token}
use Rattle.aidl_parser.specs.declared.lists.Repeat.{Repeat}
use Rattle.aidl_parser.specs.declared.lists.Repeat.TheVariants.{Commas, CommasInBraces, Annotations, Imports}
use Rattle.expr_parser.specs.Reading.{Read, ◌>>=◌}
use Rattle.aidl_parser.specs.steps.Parts.{begins, begins_word, worded, both, alter, second, behind, upto, many, more_at}
use Rattle.aidl_parser.specs.steps.Inits.{goes_inside}

-- one more item stands there
abbrev pub goes_on : Repeat → List Token → Bool
goes_on Commas ts = begins mark.Comma ts
goes_on CommasInBraces ts = goes_inside ts
goes_on Annotations ts = begins mark.At ts
goes_on Imports ts = begins_word word.Import ts

-- an item with the signs around it
abbrev pub round : {A : Type 0} → Repeat → (List Token → Read A) → List Token → Read A
round Commas r ts = behind mark.Comma r ts
round CommasInBraces r ts = behind mark.Comma r ts
round Annotations r ts = r ts
round Imports r ts = alter second (both (worded word.Import) (upto r mark.Semicolon)) ts

-- {x}
abbrev pub many_by : {A : Type 0} → ℕ → Repeat → (List Token → Read A) → List Token → Read (List A)
many_by n repeat r = many n (goes_on repeat) (round repeat r)

-- x {x}
abbrev pub listed_by : {A : Type 0} → ℕ → Repeat → (List Token → Read A) → List Token → Read (List A)
listed_by n repeat r ts = r ts >>= more_at (many_by n repeat r)
