use Rattle.std.proofs.Common.{List, map, ◌∙◌, ap}
use Rattle.declared_names.specs.declared.found.Found.{Found}
use Rattle.declared_names.specs.Entries.{entry_of}
use Rattle.name_resolution.specs.steps.Behind.{through_at}
use Rattle.name_resolution.proofs.Leads.{means_at, means_nothing}
use Rattle.name_resolution.proofs.behind.behind.Goals as goal

pub returns-in-Some : goal.returns-in-Some
returns-in-Some c =
    c.through_at.ensures ∙ ap (λ (z : List Found). through_at (map entry_of z) c.args.first.now c.args.rest.now c.args.imports.now c.in-Some.place) c.declarations.ensures
    ∙ means_at (map entry_of c.args.declared.now) c.args.first.now c.args.rest.now c.args.imports.now c.in-Some.place c.in-Some.ensures

pub returns-in-None : goal.returns-in-None
returns-in-None c = means_nothing (map entry_of c.args.declared.now) c.args.first.now c.args.rest.now c.args.imports.now c.in-None.ensures
