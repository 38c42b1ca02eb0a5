use Rattle.std.proofs.Common.{◌≡◌, ℕ, true, eqb, ap, sym, ◌∙◌, arith, eq-eqb}
use Rattle.std.proofs.lemmas.Bool.Decides.{nat_tests}
use Rattle.parcel_words.specs.Place.{left}
use Rattle.parcel_words.proofs.Places.{none_left, left_none}
use Rattle.parcel_words.proofs.reader.WordReader.at_end.Goals as goal

equal : (x y : ℕ) → eqb x y ≡ true → x ≡ y
equal x y e = grind (arith, nat_tests)

pub returns-clause-none_left : goal.returns-clause-none_left
returns-clause-none_left c =
    let a = c.self.inside in
    let same = ap left c.self.view_is in
    (λ e. sym same ∙ none_left a c.self.invariant (equal a.position a.end e), λ e. eq-eqb a.position a.end (left_none a c.self.invariant (same ∙ e)))
