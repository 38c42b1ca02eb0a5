-- What the table of an interface's methods has: the first position of an id, where the list begins at a position.
use Rattle.std.specs.Prelude.{ℕ, ◌+◌, ◌==◌, List, Option}
use Rattle.std.specs.List.{position_from}
use Rattle.aidl_schema.specs.declared.schema.Method.{Method}

-- of the method of this id
abbrev pub id_from : ℕ → ℕ → List Method → Option ℕ
id_from id i ms = position_from (λ m. m.id + 1 == id + 1) i ms
