use Rattle.std.proofs.Common.{◌≡◌, ℕ, Option, Some, None, refl}
use Rattle.call_runner.proofs.Outcomes.{line_nowhere}
use Rattle.call_scripts.specs.Calls.{call_of}
use Rattle.call_runner.proofs.meaning.law_projected.Goals as goal

pub returns-in_default-clause-outcome : goal.returns-in_default-clause-outcome
returns-in_default-clause-outcome c =
    let none : c.args.call.now.server ≡ None = by_server c.args.call.now.server c.in_default.not-Some in
    λ follows same. line_nowhere c.args.profile c.args.client.now.decls c.args.server.now.decls (call_of c.args.call.now) c.requires.fits c.args.sent.now c.args.reply.now none
  where
    by_server : (o : Option ℕ) → ((n : ℕ) → o ≡ Some n → ⊥) → o ≡ None
    by_server None not = refl
    by_server (Some n) not = absurd (not n refl)
