-- What a table of names has: the first position of a name, where the list begins at a position.
use Rattle.std.specs.Prelude.{ℕ, List, Option}
use Rattle.std.specs.List.{position_from}
use Rattle.aidl_base.specs.declared.name.Ident.{Ident}
use Rattle.name_tables.specs.Places.{has_name}

abbrev pub place_from : {M : Type 0} → (M → Ident) → List ℕ → ℕ → List M → Option ℕ
place_from called name i ms = position_from (λ m. has_name called name m) i ms
