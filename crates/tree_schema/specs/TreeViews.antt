-- How the code sees a declaration with its number.
use Rattle.declared_names.specs.Entries.{entry_of}
use Rattle.tree_schema.specs.declared.tree.Placed.{Placed}
use Rattle.tree_schema.specs.Numbers.{Numbered}

abbrev pub numbered_of : Placed → Numbered
numbered_of x = (x.number, entry_of x.found.now)
