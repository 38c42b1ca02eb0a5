-- The rows of the table are right.
use Rattle.std.proofs.Common.{◌≡◌, true, refl}
use Rattle.parse_places.specs.declared.terminal.Terminal.{Terminal}
use Rattle.parse_places.specs.declared.terminal.Terminal.TheVariants as terminal
use Rattle.parse_places.specs.declared.expected.Part.{Part}
use Rattle.parse_places.specs.declared.expected.Part.TheVariants as part
use Rattle.parse_places.specs.declared.expected.Expected.{Expected}
use Rattle.parse_places.specs.declared.expected.Expected.TheVariants.{Token, Once, Maybe, Many, Commas, MaybeListed, CommasTrailing, MaybeTrailing}
use Rattle.parse_places.specs.steps.Rows.{row}
use Rattle.parse_places.specs.steps.Moves.{same_terminal, moves, skips}
use Rattle.parse_places.proofs.runs.Follows.{refuses, proper, may_begin, apart, fits, fits_maybe, guards, right}

once_right : (x : Part) → right (Once x) ≡ true
unfolding row same_terminal moves skips refuses proper may_begin apart fits fits_maybe guards right
once_right part.Package = refl
once_right _ = refl

token_right : (c : Terminal) → right (Token c) ≡ true
unfolding row same_terminal moves skips refuses proper may_begin apart fits fits_maybe guards right
token_right terminal.Name = refl
token_right _ = refl

maybe_right : (x : Part) → proper (Maybe x) ≡ true → right (Maybe x) ≡ true
unfolding row same_terminal moves skips refuses proper may_begin apart fits fits_maybe guards right
maybe_right part.Package e = refl
maybe_right part.Parameters e = refl
maybe_right part.ParameterRest e = refl
maybe_right part.Element e = refl
maybe_right part.Array e = refl
maybe_right part.Initial e = refl
maybe_right part.Value e = refl
maybe_right part.Id e = refl
maybe_right _ e = cc

many_right : (x : Part) → proper (Many x) ≡ true → right (Many x) ≡ true
unfolding row same_terminal moves skips refuses proper may_begin apart fits fits_maybe guards right
many_right part.Import e = refl
many_right part.DotName e = refl
many_right part.Annotation e = refl
many_right part.Member e = refl
many_right part.InterfaceMember e = refl
many_right part.Operation e = refl
many_right _ e = cc

commas_right : (x : Part) → proper (Commas x) ≡ true → right (Commas x) ≡ true
unfolding row same_terminal moves skips refuses proper may_begin apart fits fits_maybe guards right
commas_right part.Parameter e = refl
commas_right part.Argument e = refl
commas_right _ e = cc

maybe_listed_right : (x : Part) → proper (MaybeListed x) ≡ true → right (MaybeListed x) ≡ true
unfolding row same_terminal moves skips refuses proper may_begin apart fits fits_maybe guards right
maybe_listed_right part.Parameter e = refl
maybe_listed_right part.Argument e = refl
maybe_listed_right _ e = cc

commas_trailing_right : (x : Part) → proper (CommasTrailing x) ≡ true → right (CommasTrailing x) ≡ true
unfolding row same_terminal moves skips refuses proper may_begin apart fits fits_maybe guards right
commas_trailing_right part.Expression e = refl
commas_trailing_right part.Enumerator e = refl
commas_trailing_right _ e = cc

maybe_trailing_right : (x : Part) → proper (MaybeTrailing x) ≡ true → right (MaybeTrailing x) ≡ true
unfolding row same_terminal moves skips refuses proper may_begin apart fits fits_maybe guards right
maybe_trailing_right part.Expression e = refl
maybe_trailing_right part.Enumerator e = refl
maybe_trailing_right _ e = cc

pub rights : (e : Expected) → proper e ≡ true → right e ≡ true
rights (Token c) k = token_right c
rights (Once x) k = once_right x
rights (Maybe x) k = maybe_right x k
rights (Many x) k = many_right x k
rights (Commas x) k = commas_right x k
rights (MaybeListed x) k = maybe_listed_right x k
rights (CommasTrailing x) k = commas_trailing_right x k
rights (MaybeTrailing x) k = maybe_trailing_right x k
