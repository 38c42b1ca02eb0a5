use Rattle.std.specs.Prelude.{◌≡◌, ◌==◌, find}
use Rattle.ask_command.proofs.version.version_numbered.Given as goal

-- what is found among those that are left is what is found among all
abbrev pub invariant-loop-version : goal.invariant-loop-version
invariant-loop-version l = find (λ v. v.number == l.number) l.version-iterator.rest.items ≡ find (λ v. v.number == l.fn.number) l.fn.versions
