use Rattle.std.proofs.Common.{◌∷◌, map, length}
use Rattle.declared_names.specs.Entries.{entry_of}
use Rattle.declared_names.specs.Ends.{ends_of, mark_back}
use Rattle.name_resolution.specs.steps.Behind.{led_by}
use Rattle.name_resolution.proofs.Ahead.{Covers, IsRight}
use Rattle.declared_names.proofs.lemmas.Chains.{HasMark, left}
use Rattle.name_resolution.proofs.Leads.{finds_at}
use Rattle.name_resolution.proofs.behind.first_through.Given as goal

-- to wherever an end leads that isn't ahead, no later place was found
abbrev pub invariant-places : goal.invariant-places
invariant-places l = record {
  marked : HasMark (map (λ e. e.mark) (ends_of (map entry_of l.declared))) (mark_back (l.first ∷ l.rest)) l.at;
  covers : Covers (λ e. e.mark) (mark_back (l.first ∷ l.rest)) (λ e. led_by (map entry_of l.declared) l.first l.rest l.imports e.owner) (ends_of (map entry_of l.declared)) l.at l.best;
  right : IsRight (finds_at (map entry_of l.declared) l.first l.rest l.imports) l.best;
}

abbrev pub decreases-places : goal.decreases-places
decreases-places l = left (length (ends_of (map entry_of l.declared))) l.at
