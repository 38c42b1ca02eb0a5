use Rattle.std.proofs.Common.{◌≡◌, ◌+◌, ℕ, List, Option, Some, nat_eq, nat_lt, get_or, drop, length, ◌∙◌, ap, subst}
use Rattle.std.specs.List.{position_from}
use Rattle.declared_names.proofs.lemmas.Chains.{HasMark, goes_on_marked, fewer}
use Rattle.declared_names.proofs.lemmas.Times.{times_at, times_begin, times_next, both_next}
use Rattle.declared_names.proofs.rarer.is_rarer.Goals as goal

pub places-init : goal.places-init
places-init c = record {
  rest = ap (λ (n : ℕ). nat_lt n (times_at c.args.other c.args.others.now c.first-beside.result)) (times_begin c.args.mark c.args.marks.now c.first-at.result c.first-at.ensures)
      ∙ ap (nat_lt _) (times_begin c.args.other c.args.others.now c.first-beside.result c.first-beside.ensures);
  marked = goes_on_marked c.args.marks.now c.args.mark 0 c.first-at.result c.first-at.ensures;
  others_marked = goes_on_marked c.args.others.now c.args.other 0 c.first-beside.result c.first-beside.ensures;
}

-- a place has the mark, and so does the next one
marked_next : (marks : List ℕ) (mark i : ℕ) (at next : Option ℕ) → at ≡ Some i → HasMark marks mark at → next ≡ position_from (nat_eq (get_or marks i 0)) (i + 1) (drop (i + 1) marks)
    → HasMark marks mark next
marked_next marks mark i at next a h n =
    let P : Option ℕ → Type 0 = HasMark marks mark in
    let q = subst P a h in
    goes_on_marked marks mark (i + 1) next (n ∙ ap (λ (z : ℕ). position_from (nat_eq z) (i + 1) (drop (i + 1) marks)) q.1)

pub places-preserved : goal.places-preserved
places-preserved c = record {
  rest = both_next _ _ _ _ _ (times_next c.args.mark c.args.marks.now c.places.at c.next-at.result c.in-Some.place c.in-Some.is c.places.invariant.marked c.next-at.ensures)
      (times_next c.args.other c.args.others.now c.places.beside c.next-beside.result c.in-Some-beside.next c.in-Some-beside.is c.places.invariant.others_marked c.next-beside.ensures) c.places.invariant.rest;
  marked = marked_next c.args.marks.now c.args.mark c.in-Some.place c.places.at c.next-at.result c.in-Some.is c.places.invariant.marked c.next-at.ensures;
  others_marked = marked_next c.args.others.now c.args.other c.in-Some-beside.next c.places.beside c.next-beside.result c.in-Some-beside.is c.places.invariant.others_marked c.next-beside.ensures;
}

pub places-smaller : goal.places-smaller
places-smaller c =
    let P : Option ℕ → Type 0 = HasMark c.args.marks.now c.args.mark in
    let q = subst P c.in-Some.is c.places.invariant.marked in
    fewer (length c.args.marks.now) c.in-Some.place (nat_eq (get_or c.args.marks.now c.in-Some.place 0)) (drop (c.in-Some.place + 1) c.args.marks.now) c.places.at c.next-at.result c.in-Some.is q.0 c.next-at.ensures
