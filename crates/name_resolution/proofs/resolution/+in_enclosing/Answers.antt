use Rattle.std.proofs.Common.{◌++◌, ◌∷◌, [], ℕ, List, Option, map, length, refl, sym, ◌∙◌, ap, arith}
use Rattle.std.proofs.lemmas.Option.{slice_get_read}
use Rattle.declared_names.specs.declared.found.Found.{Found}
use Rattle.declared_names.specs.Entries.{entry_of}
use Rattle.name_resolution.specs.Resolution.{first_declared, enclosing}
use Rattle.name_resolution.proofs.lemmas.Candidates.{outward, inward}
use Rattle.declared_names.specs.Marks.{mark_of, mark_of_entry}
use Rattle.name_resolution.proofs.lemmas.Tables.{mark_at}
use Rattle.name_resolution.proofs.lemmas.Places.{there}
use Rattle.name_resolution.proofs.resolution.+in_enclosing.Goals as goal

-- it has none of the names of this declaration, so those that enclose it are asked
pub returns-in-None : goal.returns-in-None
returns-in-None t c =
    let found : List Found = c.args.declarations.now in
    let es = map entry_of found in
    let w = there c.as_slice-found.result.now found c.in_ok-number.number c.in_ok-around.around.now c.as_slice-found.ensures.same c.in_ok-around.ensures.lookup.3.0 c.in_ok-around.ensures.lookup.1 in
    c.in_enclosing.ensures
    ∙ outward found c.args.levels c.in_ok-number.number c.in_ok-around.around.now c.args.name.now (omega arith)
    (slice_get_read found (length found) c.in_ok-number.number c.in_ok-around.around.now refl w.0 w.1)
    (ap (λ z. first_declared es ((z ++ c.args.name.now) ∷ [])) (sym c.as_slice.ensures) ∙ sym c.in-None.ensures)
    ∙ ap (λ (s : Option ℕ). first_declared es (map (λ around. around ++ c.args.name.now) (enclosing es c.args.levels s))) (sym c.in_ok-number.was)

pub returns-in-Some : goal.returns-in-Some
returns-in-Some t c =
    let w = there c.as_slice-found.result.now c.args.declarations.now c.in_ok-number.number c.in_ok-around.around.now c.as_slice-found.ensures.same c.in_ok-around.ensures.lookup.3.0 c.in_ok-around.ensures.lookup.1 in
    inward c.args.declarations.now c.args.levels c.in_ok-number.number c.in_ok-around.around.now c.args.name.now c.in-Some.meaning (omega arith)
    (slice_get_read c.args.declarations.now (length c.args.declarations.now) c.in_ok-number.number c.in_ok-around.around.now refl w.0 w.1)
    (c.in-Some.ensures ∙ ap (λ z. first_declared (map entry_of c.args.declarations.now) ((z ++ c.args.name.now) ∷ [])) c.as_slice.ensures)
    ∙ ap (λ (s : Option ℕ). first_declared (map entry_of c.args.declarations.now) (map (λ around. around ++ c.args.name.now) (enclosing (map entry_of c.args.declarations.now) c.args.levels s))) (sym c.in_ok-number.was)

pub declared-requires : goal.declared-requires
declared-requires t c =
    let found : List Found = c.args.declarations.now in
    let w = there c.as_slice-found.result.now found c.in_ok-number.number c.in_ok-around.around.now c.as_slice-found.ensures.same c.in_ok-around.ensures.lookup.3.0 c.in_ok-around.ensures.lookup.1 in
    record {
      mark = c.mark-mark.ensures ∙ mark_at found (map mark_of_entry (map entry_of found)) c.in_ok-number.number c.in_ok-around.around.now refl w.0 w.1 ∙ ap mark_of (sym c.as_slice.ensures);
    }
