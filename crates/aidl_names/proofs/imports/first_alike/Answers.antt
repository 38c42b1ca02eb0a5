use Rattle.std.proofs.Common.{ℕ, ◌+◌, nat_eq, get_or, drop, length, sym, ◌∙◌, ap}
use Rattle.std.specs.List.{position_from}
use Rattle.aidl_syntax.specs.declared.tree.DottedTree.{DottedTree}
use Rattle.declared_names.specs.Names.{same, last}
use Rattle.declared_names.specs.Marks.{mark_of, mark_of_last}
use Rattle.aidl_names.specs.Alike.{is_alike}
use Rattle.aidl_names.proofs.Alike.{alike_marks}
use Rattle.declared_names.proofs.lemmas.Chains.{begins, lands, lies, goes_behind, fewer}
use Rattle.aidl_names.proofs.imports.first_alike.Goals as goal

pub places-init : goal.places-init
places-init c =
    let s = begins c.args.imports.now (is_alike c.args.name.now) mark_of_last c.args.table.now (mark_of (last c.args.name.now)) c.first-at.result (alike_marks c.args.name.now) c.requires.table
    (c.first-at.ensures ∙ ap (λ (z : ℕ). position_from (nat_eq z) 0 c.args.table.now) (c.with_parts.ensures ∙ ap mark_of c.last-part.ensures)) in
    record { rest = s.0; marked = s.1 }

pub returns-then-same : goal.returns-then-same
returns-then-same c =
    let w = lies c.args.imports.now mark_of_last c.args.table.now _ c.places.at c.in-Some.place c.requires.table c.in-Some.is c.places.invariant.marked in
    lands c.args.imports.now (is_alike c.args.name.now) c.places.at c.in-Some.place c.index-imports-place.result _ c.in-Some.is w.0 c.index-imports-place.is c.places.invariant.rest
    (ap (λ (d : DottedTree). same (last d.name.0) (last c.args.name.now)) c.index-imports-place.is ∙ ap (λ z. same (last z) (last c.args.name.now)) (sym c.as_slice.ensures)
    ∙ ap (λ z. same z (last c.args.name.now)) (sym c.last.ensures) ∙ ap (same c.last.result.now) (sym c.last-part.ensures) ∙ sym c.same.ensures ∙ c.if-same.true)

pub places-preserved : goal.places-preserved
places-preserved c =
    let w = lies c.args.imports.now mark_of_last c.args.table.now _ c.places.at c.in-Some.place c.requires.table c.in-Some.is c.places.invariant.marked in
    let s = goes_behind c.args.imports.now (is_alike c.args.name.now) mark_of_last c.args.table.now (mark_of (last c.args.name.now)) c.places.at c.next-at.result c.in-Some.place c.index-imports-place.result _
    (alike_marks c.args.name.now) c.requires.table c.in-Some.is w.0 c.index-imports-place.is w.2 c.places.invariant.rest
    (ap (λ (d : DottedTree). same (last d.name.0) (last c.args.name.now)) c.index-imports-place.is ∙ ap (λ z. same (last z) (last c.args.name.now)) (sym c.as_slice.ensures)
    ∙ ap (λ z. same z (last c.args.name.now)) (sym c.last.ensures) ∙ ap (same c.last.result.now) (sym c.last-part.ensures) ∙ sym c.same.ensures ∙ c.if-same.false) c.next-at.ensures in
    record { rest = s.0; marked = s.1 }

pub places-smaller : goal.places-smaller
places-smaller c =
    let w = lies c.args.imports.now mark_of_last c.args.table.now _ c.places.at c.in-Some.place c.requires.table c.in-Some.is c.places.invariant.marked in
    fewer (length c.args.imports.now) c.in-Some.place (nat_eq (get_or c.args.table.now c.in-Some.place 0)) (drop (c.in-Some.place + 1) c.args.table.now) c.places.at c.next-at.result c.in-Some.is w.0 c.next-at.ensures
