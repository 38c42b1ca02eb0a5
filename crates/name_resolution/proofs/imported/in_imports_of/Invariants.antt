use Rattle.std.proofs.Common.{◌≡◌, ◌∷◌, [], map, length}
use Rattle.declared_names.specs.Marks.{mark_of, mark_of_last}
use Rattle.name_resolution.specs.Resolution.{first_declared, imported}
use Rattle.declared_names.specs.Entries.{entry_of}
use Rattle.declared_names.proofs.lemmas.Chains.{HasMark, left}
use Rattle.name_resolution.proofs.lemmas.Through.{searched_at, through}
use Rattle.name_resolution.proofs.imported.in_imports_of.Given as goal

-- through none of those so far
abbrev pub invariant-places : goal.invariant-places
invariant-places l = record {
  rest : searched_at (through (map entry_of l.declarations) l.first l.rest) l.imports l.at ≡ first_declared (map entry_of l.declarations) (imported l.imports (l.first ∷ l.rest));
  marked : HasMark (map mark_of_last l.imports) (mark_of (l.first ∷ [])) l.at;
}

abbrev pub decreases-places : goal.decreases-places
decreases-places l = left (length l.imports) l.at
