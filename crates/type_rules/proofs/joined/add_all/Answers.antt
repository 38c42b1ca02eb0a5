use Rattle.std.proofs.Common.{length, option_map, refl, sym, ap, ◌∙◌, arith}
use Rattle.std.specs.List.{slice_get}
use Rattle.std.proofs.lemmas.Option.{slice_get_read, slice_get-map}
use Rattle.declared_names.specs.Entries.{entry_of}
use Rattle.type_rules.proofs.joined.add_all.Goals as goal

-- the number is that of the declaration
pub add_declaration-requires-clause-scope : goal.add_declaration-requires-clause-scope
add_declaration-requires-clause-scope c = (
  entry_of c.index-found-i.result,
  ap (λ entries. slice_get entries c.loop-i.i) (sym c.requires.found)
      ∙ slice_get-map entry_of c.args.found.now c.loop-i.i
      ∙ ap (option_map entry_of) (slice_get_read c.args.found.now (length c.args.found.now) c.loop-i.i c.index-found-i.result refl (omega arith) c.index-found-i.is),
  refl,
)
