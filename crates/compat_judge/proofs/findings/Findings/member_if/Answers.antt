use Rattle.std.proofs.Common.{lit<, ◌++◌, ◌∷◌}
use Rattle.aidl_base.proofs.lemmas.Joined.{marked, read_back}
use Rattle.compat_judge.proofs.PlaceTexts.{reads}
use Rattle.compat_judge.proofs.findings.Findings.member_if.Goals as goal

pub returns-then-broken : goal.returns-then-broken
returns-then-broken c =
    let name = c.as_str-name.ensures in
    let member = c.as_str-member.ensures in
    rw c.if-broken.true (c.add.ensures _ (reads _ _ _ (read_back (c.as_str-name.result.now ++ 46 ∷ c.as_str-member.result.now) (c.args.name.now ++ 46 ∷ c.args.member.now.0)
    (marked 46 (lit< tt) _ c.args.name.now _ c.args.member.now.0 (record { bytes = name.bytes; scalars = name.scalars }) (record { bytes = member.bytes; scalars = member.scalars }))) c.format-place.ensures.ok))
