-- Paths that are written behind what they begin with.
use Rattle.std.proofs.Common.{◌≡◌, ℕ, List, ◌++◌, ap, ◌∙◌}
use Rattle.std.specs.Prelude.{codes}
use Rattle.std.specs.Str.{chars, IsAscii, IsUtf8}
use Rattle.std.proofs.lemmas.Str.{chars-append, chars-IsAscii}
use Rattle.parcel_explain.specs.Items.{below}
use Rattle.parcel_explain.specs.steps.Stems.{IsStem}
use Rattle.parcel_explain.proofs.Slashes.{slash_is_ascii}

-- the characters of text, and of ASCII behind it
pub step_chars : (front step : List ℕ) → IsUtf8 front → IsAscii step → chars (front ++ step) ≡ chars front ++ step
step_chars front step utf8 ascii = chars-append front step utf8 ∙ ap (λ z. chars front ++ z) (chars-IsAscii step ascii)

pub stem_chars : (path : List ℕ) → IsUtf8 path → chars (path ++ codes "/") ≡ chars path ++ codes "/"
stem_chars path utf8 = step_chars path (codes "/") utf8 slash_is_ascii

-- what is written behind a path and a slash is a path below it
pub stem_below : (path bytes step made : List ℕ) → IsStem path bytes → made ≡ chars bytes ++ step → made ≡ below path step
stem_below path bytes step made stem is = is ∙ ap (λ z. z ++ step) stem
