use Rattle.std.proofs.Common.{arith, lit<, ◌++◌, ◌∷◌, ◌∙◌, ◌<◌, ◌^◌, sym, ap, append_assoc}
use Rattle.std.specs.Fmt.{decimal}
use Rattle.std.specs.Str.{chars}
use Rattle.aidl_base.proofs.lemmas.Joined.{Spells, marked, read_back}
use Rattle.compat_judge.proofs.PlaceTexts.{decimal_spells, reads}
use Rattle.compat_judge.proofs.findings.Findings.argument_if.Goals as goal

pub returns-then-broken : goal.returns-then-broken
returns-then-broken c =
    let name = c.as_str-name.ensures in
    let method = c.as_str-method.ensures in
    let front = c.as_str-name.result.now ++ 46 ∷ c.as_str-method.result.now in
    let small : c.args.position < 2 ^ 64 = omega arith in
    let place : Spells front (c.args.name.now ++ 46 ∷ c.args.method.now.0) =
    marked 46 (lit< tt) _ c.args.name.now _ c.args.method.now.0 (record { bytes = name.bytes; scalars = name.scalars }) (record { bytes = method.bytes; scalars = method.scalars }) in
    rw c.if-broken.true (c.add.ensures _ (reads _ _ _ (ap chars (sym (append_assoc c.as_str-name.result.now (46 ∷ c.as_str-method.result.now) (47 ∷ decimal c.args.position)))
    ∙ read_back (front ++ 47 ∷ decimal c.args.position) ((c.args.name.now ++ 46 ∷ c.args.method.now.0) ++ 47 ∷ decimal c.args.position)
    (marked 47 (lit< tt) _ _ _ _ place (decimal_spells c.args.position small))) c.format-place.ensures.ok))
