use Rattle.std.proofs.Common.{ℕ, Some, map, ◌∙◌, ap}
use Rattle.declared_names.specs.Marks.{with_part, mark_of_last}
use Rattle.declared_names.specs.Times.{is_twice}
use Rattle.declared_names.proofs.lemmas.Chains.{goes_on_marked}
use Rattle.declared_names.proofs.lemmas.Times.{twice, not_twice}
use Rattle.name_resolution.proofs.imported.Imports.is_shared.Goals as goal

pub next-requires : goal.next-requires
next-requires c = (goes_on_marked c.self.inside.table c.with_part.result 0 (Some c.in-Some.place) c.in-Some.ensures).0

pub returns-in-Some : goal.returns-in-Some
returns-in-Some c =
    c.is_some.ensures ∙ twice c.with_part.result c.self.inside.table c.in-Some.place c.next.result c.in-Some.ensures c.next.ensures
    ∙ ap (λ (m : ℕ). is_twice m c.self.inside.table) c.with_part.ensures ∙ ap (is_twice (with_part 0 c.args.part.now)) (c.self.invariant ∙ ap (map mark_of_last) c.self.view_is)

pub returns-in-None : goal.returns-in-None
returns-in-None c =
    not_twice c.with_part.result c.self.inside.table c.in-None.ensures
    ∙ ap (λ (m : ℕ). is_twice m c.self.inside.table) c.with_part.ensures ∙ ap (is_twice (with_part 0 c.args.part.now)) (c.self.invariant ∙ ap (map mark_of_last) c.self.view_is)
