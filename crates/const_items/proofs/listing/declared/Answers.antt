use Rattle.std.proofs.Common.{length, option_map, refl, sym, ap, ◌∙◌, arith}
use Rattle.std.specs.List.{slice_get}
use Rattle.std.proofs.lemmas.Option.{slice_get_read, slice_get-map}
use Rattle.declared_names.specs.Entries.{entry_of}
use Rattle.const_items.proofs.listing.declared.Goals as goal

-- the number is that of the declaration
pub add_entry-requires : goal.add_entry-requires
add_entry-requires c = (
  entry_of c.index-found-i.result,
  ap (λ entries. slice_get entries c.loop-i.i) (sym c.decls-found.ensures)
      ∙ slice_get-map entry_of c.decls-found.result.now c.loop-i.i
      ∙ ap (option_map entry_of) (slice_get_read c.decls-found.result.now (length c.decls-found.result.now) c.loop-i.i c.index-found-i.result refl (omega arith) c.index-found-i.is),
  refl,
)
