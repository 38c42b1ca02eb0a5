use Rattle.std.proofs.Common.{◌≡◌, ◌+◌, ◌∷◌, ℕ, Option, Some, None, List, nat_eq, get_or, drop, map, length, refl, sym, ◌∙◌, ap, subst}
use Rattle.std.specs.List.{position_from}
use Rattle.declared_names.specs.declared.ends.End.{End}
use Rattle.declared_names.specs.declared.found.Found.{Found}
use Rattle.declared_names.specs.Marks.{with_part}
use Rattle.declared_names.specs.Entries.{entry_of}
use Rattle.declared_names.specs.Ends.{ends_of, mark_back}
use Rattle.name_resolution.specs.steps.Behind.{led_by, led_at}
use Rattle.name_resolution.proofs.Ahead.{Covers, IsRight, covers_first, covers_next, earlier_right_too, settled, stands}
use Rattle.declared_names.proofs.lemmas.Chains.{lies, goes_on_marked, fewer}
use Rattle.name_resolution.proofs.Leads.{finds, finds_at, led_right, import_there, an_end_leads}
use Rattle.name_resolution.proofs.behind.first_through.Goals as goal

pub places-init : goal.places-init
places-init c =
    let marks : List ℕ = map (λ (e : End). e.mark) (ends_of (map entry_of c.args.declared.now)) in
    let wanted : ℕ = mark_back (c.args.first.now ∷ c.args.rest.now) in
    let a : c.first-at.result ≡ position_from (nat_eq wanted) 0 marks =
    c.first-at.ensures ∙ ap (λ (z : List ℕ). position_from (nat_eq c.with_part.result) 0 z) (c.table-marks.ensures ∙ ap (map (λ (e : End). e.mark)) c.ends-ends.ensures) ∙ ap (λ (z : ℕ). position_from (nat_eq z) 0 marks) (c.with_part.ensures ∙ ap (λ (z : ℕ). with_part z c.args.first.now) c.mark_back.ensures) in
    record {
      marked = goes_on_marked marks wanted 0 c.first-at.result a;
      covers = covers_first (λ (e : End). e.mark) wanted (λ e. led_by (map entry_of c.args.declared.now) c.args.first.now c.args.rest.now c.args.imports.now e.owner) (ends_of (map entry_of c.args.declared.now)) c.first-at.result a;
      right = λ j e. cc;
    }

pub places-smaller : goal.places-smaller
places-smaller c =
    let marks : List ℕ = map (λ (e : End). e.mark) (ends_of (map entry_of c.args.declared.now)) in
    let w = lies (ends_of (map entry_of c.args.declared.now)) (λ (e : End). e.mark) marks _ c.places.at c.in-Some.place refl c.in-Some.is c.places.invariant.marked in
    fewer (length (ends_of (map entry_of c.args.declared.now))) c.in-Some.place (nat_eq (get_or marks c.in-Some.place 0)) (drop (c.in-Some.place + 1) marks) c.places.at c.next-at.result c.in-Some.is w.0
    (c.next-at.ensures ∙ ap (λ (z : List ℕ). position_from (nat_eq (get_or z c.in-Some.place 0)) (c.in-Some.place + 1) (drop (c.in-Some.place + 1) z)) (c.table-marks.ensures ∙ ap (map (λ (e : End). e.mark)) c.ends-ends.ensures))

pub places-preserved : goal.places-preserved
places-preserved c =
    let es = map entry_of c.args.declared.now in
    let marks : List ℕ = map (λ (e : End). e.mark) (ends_of (map entry_of c.args.declared.now)) in
    let wanted : ℕ = mark_back (c.args.first.now ∷ c.args.rest.now) in
    let w = lies (ends_of (map entry_of c.args.declared.now)) (λ (e : End). e.mark) marks wanted c.places.at c.in-Some.place refl c.in-Some.is c.places.invariant.marked in
    let s = stands (λ (e : End). e.mark) wanted (ends_of (map entry_of c.args.declared.now)) c.in-Some.place w.1 w.2 in
    let n : c.next-at.result ≡ position_from (nat_eq wanted) (c.in-Some.place + 1) (drop (c.in-Some.place + 1) marks) =
    c.next-at.ensures ∙ ap (λ (z : List ℕ). position_from (nat_eq (get_or z c.in-Some.place 0)) (c.in-Some.place + 1) (drop (c.in-Some.place + 1) z)) (c.table-marks.ensures ∙ ap (map (λ (e : End). e.mark)) c.ends-ends.ensures)
    ∙ ap (λ (z : ℕ). position_from (nat_eq z) (c.in-Some.place + 1) (drop (c.in-Some.place + 1) marks)) w.2 in
    let o : c.led_at-other.result ≡ led_by es c.args.first.now c.args.rest.now c.args.imports.now s.0.owner =
    c.led_at-other.ensures ∙ ap (λ (z : List Found). led_at (map entry_of z) c.args.first.now c.args.rest.now c.args.imports.now c.listed-listed.result.now c.in-Some.place) c.declarations-declarations.ensures
    ∙ ap (λ (z : List End). led_at es c.args.first.now c.args.rest.now c.args.imports.now z c.in-Some.place) (c.listed-listed.ensures ∙ c.ends-ends.ensures)
    ∙ ap (λ (z : Option End). elim z as (λ _. Option ℕ) [ None ↦ None | Some e ↦ led_by es c.args.first.now c.args.rest.now c.args.imports.now e.owner ]) s.1 in
    let Covered : Option ℕ → Type 0 = λ z. Covers (λ (e : End). e.mark) wanted (λ e. led_by es c.args.first.now c.args.rest.now c.args.imports.now e.owner) (ends_of (map entry_of c.args.declared.now)) c.next-at.result z in
    let Right : Option ℕ → Type 0 = IsRight (finds_at es c.args.first.now c.args.rest.now c.args.imports.now) in
    record {
      marked = goes_on_marked marks wanted (c.in-Some.place + 1) c.next-at.result n;
      covers = subst Covered (sym c.earlier-best.ensures) (covers_next (λ (e : End). e.mark) wanted (λ e. led_by es c.args.first.now c.args.rest.now c.args.imports.now e.owner) (ends_of (map entry_of c.args.declared.now))
          c.places.at c.next-at.result c.places.best c.led_at-other.result c.in-Some.place s.0 c.in-Some.is s.1 s.2 o n c.places.invariant.covers);
      right = subst Right (sym c.earlier-best.ensures) (earlier_right_too (finds_at es c.args.first.now c.args.rest.now c.args.imports.now) c.places.best c.led_at-other.result c.places.invariant.right
          (λ j e. led_right es c.args.first.now c.args.rest.now c.args.imports.now s.0.owner j (sym o ∙ e)));
    }

pub returns : goal.returns
returns c =
    let es = map entry_of c.args.declared.now in
    let first = c.args.first.now in
    let rest = c.args.rest.now in
    let imports = c.args.imports.now in
    let Covered : Option ℕ → Type 0 = λ z. Covers (λ (e : End). e.mark) (mark_back (first ∷ rest)) (λ e. led_by es first rest imports e.owner) (ends_of (map entry_of c.args.declared.now)) z c.places.best in
    settled (λ (e : End). e.mark) (mark_back (first ∷ rest)) (λ e. led_by es first rest imports e.owner) (ends_of (map entry_of c.args.declared.now)) (finds es first rest imports) imports (finds_at es first rest imports) c.places.best
    (import_there es first rest imports)
    (an_end_leads es first rest imports)
    (subst Covered c.in_default.is c.places.invariant.covers) c.places.invariant.right
