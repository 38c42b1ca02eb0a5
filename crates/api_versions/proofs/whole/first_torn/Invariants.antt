use Rattle.std.proofs.Common.{◌≡◌, drop}
use Rattle.api_versions.specs.Whole.{first_torn}
use Rattle.api_versions.proofs.whole.first_torn.Given as goal

abbrev pub invariant-loop-version : goal.invariant-loop-version
invariant-loop-version l = first_torn (drop l.version-index l.versions) ≡ first_torn l.versions
