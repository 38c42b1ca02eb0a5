use Rattle.std.proofs.Common.{◌≡◌, List, ℕ, ◌+◌, ◌++◌, map, nat_eq, get_or, drop, length, refl, sym, ◌∙◌, ap}
use Rattle.declared_names.specs.declared.found.Found.{Found}
use Rattle.declared_names.specs.Names.{same}
use Rattle.declared_names.specs.Marks.{mark_of_entry}
use Rattle.declared_names.specs.Entries.{entry_of}
use Rattle.declared_names.proofs.lemmas.Chains.{fewer}
use Rattle.name_resolution.proofs.lemmas.Tables.{started, landed, within, went_on}
use Rattle.name_resolution.proofs.numbers.number_of.Goals as goal

pub places-init : goal.places-init
places-init c =
    let s = started c.args.declarations.now (map mark_of_entry (map entry_of c.args.declarations.now)) c.args.front.now c.args.back.now c.args.mark c.with_parts.result c.first-at.result refl c.requires.mark c.with_parts.ensures c.first-at.ensures in
    record { rest = s.0; marked = s.1 }

pub returns-then-is_joined : goal.returns-then-is_joined
returns-then-is_joined c =
    let found : List Found = c.args.declarations.now in
    let w = within found (map mark_of_entry (map entry_of found)) _ c.places.at c.in-Some.place refl c.in-Some.is c.places.invariant.marked in
    let here : c.index-found-place.result ≡ get_or found c.in-Some.place c.index-found-place.result =
    c.index-found-place.is ∙ ap (λ (fs : List Found). get_or fs c.in-Some.place c.index-found-place.result) c.as_slice-found.ensures.same in
    landed found (c.args.front.now ++ c.args.back.now) c.places.at c.in-Some.place c.index-found-place.result _ c.in-Some.is w.0 here c.places.invariant.rest
    (ap (λ (f : Found). same f.name.0 (c.args.front.now ++ c.args.back.now)) c.index-found-place.is ∙ ap (λ z. same z (c.args.front.now ++ c.args.back.now)) (sym c.as_slice.ensures) ∙ sym c.is_joined.ensures ∙ c.if-is_joined.true)

pub places-preserved : goal.places-preserved
places-preserved c =
    let found : List Found = c.args.declarations.now in
    let marks : List ℕ = map mark_of_entry (map entry_of found) in
    let w = within found marks _ c.places.at c.in-Some.place refl c.in-Some.is c.places.invariant.marked in
    let here : c.index-found-place.result ≡ get_or found c.in-Some.place c.index-found-place.result =
    c.index-found-place.is ∙ ap (λ (fs : List Found). get_or fs c.in-Some.place c.index-found-place.result) c.as_slice-found.ensures.same in
    let s = went_on found marks (c.args.front.now ++ c.args.back.now) c.places.at c.next-at.result c.in-Some.place c.index-found-place.result _ refl c.in-Some.is w.0
    here w.2 c.places.invariant.rest
    (ap (λ (f : Found). same f.name.0 (c.args.front.now ++ c.args.back.now)) c.index-found-place.is ∙ ap (λ z. same z (c.args.front.now ++ c.args.back.now)) (sym c.as_slice.ensures) ∙ sym c.is_joined.ensures ∙ c.if-is_joined.false) c.next-at.ensures in
    record { rest = s.0; marked = s.1 }

pub places-smaller : goal.places-smaller
places-smaller c =
    let found : List Found = c.args.declarations.now in
    let marks : List ℕ = map mark_of_entry (map entry_of found) in
    let w = within found marks _ c.places.at c.in-Some.place refl c.in-Some.is c.places.invariant.marked in
    fewer (length found) c.in-Some.place (nat_eq (get_or marks c.in-Some.place 0)) (drop (c.in-Some.place + 1) marks) c.places.at c.next-at.result c.in-Some.is w.0 c.next-at.ensures
