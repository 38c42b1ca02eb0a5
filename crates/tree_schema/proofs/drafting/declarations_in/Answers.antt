use Rattle.std.proofs.Common.{map, option_map, refl, sym, ap, ◌∙◌, arith, length}
use Rattle.std.specs.List.{slice_get}
use Rattle.std.proofs.lemmas.Option.{slice_get_read, slice_get-map}
use Rattle.aidl_syntax.specs.Sources.{source_of}
use Rattle.declared_names.specs.Declarations.{declarations}
use Rattle.declared_names.specs.Entries.{entry_of}
use Rattle.tree_schema.specs.TreeViews.{numbered_of}
use Rattle.tree_schema.proofs.lemmas.named.Numbers.{sorted-there}
use Rattle.tree_schema.proofs.drafting.declarations_in.Goals as goal

-- the number is that of the declaration
pub declaration_of-requires-clause-scope : goal.declaration_of-requires-clause-scope
declaration_of-requires-clause-scope c =
    let entries = declarations (map source_of c.args.names.now) in
    let rows = c.args.order.now in
    let placed = c.placed-item.result in
    let at = c.loop-placed.placed-index in (
      entry_of placed.found.now,
      sorted-there entries at (numbered_of placed)
          (ap (λ xs. slice_get xs at) (sym c.requires.order)
          ∙ slice_get-map numbered_of rows at
          ∙ ap (option_map numbered_of) (slice_get_read rows (length rows) at placed refl (omega arith) c.placed-item.is)),
      refl,
    )
