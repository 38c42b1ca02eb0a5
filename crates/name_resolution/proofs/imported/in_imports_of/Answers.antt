use Rattle.std.proofs.Common.{◌≡◌, ◌<◌, Bor, List, ℕ, ◌+◌, ◌∷◌, [], nat_eq, get_or, drop, length, map, refl, sym, ◌∙◌, ap, subst}
use Rattle.std.specs.List.{position_from}
use Rattle.aidl_syntax.specs.declared.tree.DottedTree.{DottedTree}
use Rattle.declared_names.specs.Marks.{mark_of, mark_of_last}
use Rattle.declared_names.specs.Entries.{entry_of}
use Rattle.declared_names.proofs.lemmas.Chains.{lies, fewer}
use Rattle.name_resolution.proofs.Copies.{within_map}
use Rattle.declared_names.proofs.lemmas.Earlier.{read-map}
use Rattle.name_resolution.proofs.lemmas.Through.{through, through_all, through_other, search_begins, search_goes_on, search_ends}
use Rattle.name_resolution.proofs.imported.in_imports_of.Goals as goal

-- the import at a place of those that are kept
at_place : (kept : List (Bor DottedTree)) (imports : List DottedTree) (place : ℕ) (i : Bor DottedTree) → map (λ (d : Bor DottedTree). d.now) kept ≡ imports → place < length imports → i ≡ get_or kept place i
    → i.now ≡ get_or imports place i.now
at_place kept imports place i same lt is =
    let WithinAll : List DottedTree → Type 0 = λ z. place < length z in
    (read-map (λ (d : Bor DottedTree). d.now) kept place i (within_map (λ (d : Bor DottedTree). d.now) kept place (subst WithinAll (sym same) lt)) is).1
    ∙ ap (λ (z : List DottedTree). get_or z place i.now) same

pub places-init : goal.places-init
places-init c =
    let es = map entry_of c.args.declarations.now in
    let imports : List DottedTree = c.args.imports.now in
    let s = search_begins (through es c.args.first.now c.args.rest.now) mark_of_last (mark_of (c.args.first.now ∷ [])) (through_other es c.args.first.now c.args.rest.now) imports (map mark_of_last imports)
    c.first-at.result refl (c.first-at.ensures ∙ ap (λ (z : ℕ). position_from (nat_eq z) 0 (map mark_of_last imports)) c.with_part.ensures) in
    record { rest = s.0 ∙ through_all es c.args.first.now c.args.rest.now imports; marked = s.1 }

pub places-preserved : goal.places-preserved
places-preserved c =
    let es = map entry_of c.args.declarations.now in
    let imports : List DottedTree = c.args.imports.now in
    let w = lies imports mark_of_last (map mark_of_last imports) _ c.places.at c.in-Some.place refl c.in-Some.is c.places.invariant.marked in
    let here = at_place c.kept-kept.result.now imports c.in-Some.place c.index-kept-place.result c.kept-kept.ensures w.0 c.index-kept-place.is in
    let s = search_goes_on (through es c.args.first.now c.args.rest.now) mark_of_last (mark_of (c.args.first.now ∷ [])) (through_other es c.args.first.now c.args.rest.now) imports (map mark_of_last imports)
    c.places.at c.next-at.result c.in-Some.place c.index-kept-place.result.now _ refl c.in-Some.is w.0 here w.2 c.places.invariant.rest (sym c.in-None.ensures) c.next-at.ensures in
    record { rest = s.0; marked = s.1 }

pub places-smaller : goal.places-smaller
places-smaller c =
    let imports : List DottedTree = c.args.imports.now in
    let w = lies imports mark_of_last (map mark_of_last imports) _ c.places.at c.in-Some.place refl c.in-Some.is c.places.invariant.marked in
    fewer (length imports) c.in-Some.place (nat_eq (get_or (map mark_of_last imports) c.in-Some.place 0)) (drop (c.in-Some.place + 1) (map mark_of_last imports)) c.places.at c.next-at.result c.in-Some.is
    w.0 c.next-at.ensures

pub returns-in-Some-through : goal.returns-in-Some-through
returns-in-Some-through c =
    let es = map entry_of c.args.declarations.now in
    let imports : List DottedTree = c.args.imports.now in
    let w = lies imports mark_of_last (map mark_of_last imports) _ c.places.at c.in-Some.place refl c.in-Some.is c.places.invariant.marked in
    let here = at_place c.kept-kept.result.now imports c.in-Some.place c.index-kept-place.result c.kept-kept.ensures w.0 c.index-kept-place.is in
    search_ends (through es c.args.first.now c.args.rest.now) imports c.places.at c.in-Some.place c.index-kept-place.result.now _ c.in-Some-through.meaning c.in-Some.is w.0 here c.places.invariant.rest c.in-Some-through.ensures
