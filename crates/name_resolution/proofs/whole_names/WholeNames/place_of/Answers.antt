use Rattle.std.proofs.Common.{◌≡◌, Bor, List, ℕ, ◌+◌, map, nat_eq, get_or, drop, length, refl, sym, ◌∙◌, ap}
use Rattle.std.specs.List.{position_from}
use Rattle.aidl_syntax.specs.declared.tree.DottedTree.{DottedTree}
use Rattle.declared_names.specs.Names.{same}
use Rattle.declared_names.specs.Marks.{mark_of}
use Rattle.declared_names.specs.Ends.{mark_of_import}
use Rattle.name_resolution.proofs.Leads.{named_marks, has_name}
use Rattle.declared_names.proofs.lemmas.Chains.{begins, lands, lies, goes_behind, fewer}
use Rattle.name_resolution.proofs.whole_names.WholeNames.place_of.Goals as goal

abbrev mark : Bor DottedTree → ℕ
mark d = mark_of_import d.now

pub places-init : goal.places-init
places-init c =
    let s = begins c.args.self.now (has_name c.args.name.now) mark (map mark c.args.self.now) (mark_of c.args.name.now) c.first-at.result (named_marks c.args.name.now) refl
    (c.first-at.ensures ∙ ap (λ (z : ℕ). position_from (nat_eq z) 0 (map mark c.args.self.now)) c.with_parts.ensures) in
    record { rest = s.0; marked = s.1 }

pub returns-then-same : goal.returns-then-same
returns-then-same c =
    let imports : List (Bor DottedTree) = c.args.self.now in
    let w = lies imports mark (map mark imports) _ c.places.at c.in-Some.place refl c.in-Some.is c.places.invariant.marked in
    let here : c.index-imports-place.result ≡ get_or imports c.in-Some.place c.index-imports-place.result =
    c.index-imports-place.is ∙ ap (λ (z : List (Bor DottedTree)). get_or z c.in-Some.place c.index-imports-place.result) c.as_slice-imports.ensures in
    lands imports (has_name c.args.name.now) c.places.at c.in-Some.place c.index-imports-place.result _ c.in-Some.is w.0 here c.places.invariant.rest
    (ap (has_name c.args.name.now) c.index-imports-place.is ∙ ap (λ z. same z c.args.name.now) (sym c.as_slice.ensures) ∙ sym c.same.ensures ∙ c.if-same.true)

pub places-preserved : goal.places-preserved
places-preserved c =
    let imports : List (Bor DottedTree) = c.args.self.now in
    let w = lies imports mark (map mark imports) _ c.places.at c.in-Some.place refl c.in-Some.is c.places.invariant.marked in
    let here : c.index-imports-place.result ≡ get_or imports c.in-Some.place c.index-imports-place.result =
    c.index-imports-place.is ∙ ap (λ (z : List (Bor DottedTree)). get_or z c.in-Some.place c.index-imports-place.result) c.as_slice-imports.ensures in
    let s = goes_behind imports (has_name c.args.name.now) mark (map mark imports) (mark_of c.args.name.now) c.places.at c.next-at.result c.in-Some.place c.index-imports-place.result _
    (named_marks c.args.name.now) refl c.in-Some.is w.0 here w.2 c.places.invariant.rest
    (ap (has_name c.args.name.now) c.index-imports-place.is ∙ ap (λ z. same z c.args.name.now) (sym c.as_slice.ensures) ∙ sym c.same.ensures ∙ c.if-same.false) c.next-at.ensures in
    record { rest = s.0; marked = s.1 }

pub places-smaller : goal.places-smaller
places-smaller c =
    let imports : List (Bor DottedTree) = c.args.self.now in
    let w = lies imports mark (map mark imports) _ c.places.at c.in-Some.place refl c.in-Some.is c.places.invariant.marked in
    fewer (length imports) c.in-Some.place (nat_eq (get_or (map mark imports) c.in-Some.place 0)) (drop (c.in-Some.place + 1) (map mark imports)) c.places.at c.next-at.result c.in-Some.is w.0 c.next-at.ensures
