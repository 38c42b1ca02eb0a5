use Rattle.std.proofs.Common.{◌≡◌, List, map, length, option_map, refl, sym, ◌∙◌, ap, arith}
use Rattle.std.specs.List.{slice_get}
use Rattle.std.proofs.lemmas.Option.{slice_get-map, slice_get_read}
use Rattle.declared_names.specs.Declarations.{Entry}
use Rattle.declared_names.specs.Entries.{entry_of}
use Rattle.case_sources.proofs.names.shown_declarations.Goals as goal

-- it is the declaration with this number
pub push_meanings-requires : goal.push_meanings-requires
push_meanings-requires c =
    let f = c.found-item.result in
    let all = c.decls-found-items.result.now in
    let k : c.in-Ok.number ≡ c.loop-i.i = grind (arith, c.in-Ok.ensures) in
    let r = slice_get_read all (length all) c.loop-i.i f refl (grind (arith, c.loop-i-test.true)) c.found-item.is in (
      entry_of f,
      ap (λ (es : List Entry). slice_get es c.in-Ok.number) (sym c.decls-found-items.ensures) ∙ ap (slice_get (map entry_of all)) k ∙ slice_get-map entry_of all c.loop-i.i ∙ ap (option_map entry_of) r,
      refl,
    )
