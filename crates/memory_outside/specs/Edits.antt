-- What edits do to the bytes of a carry (own).
use Rattle.std.specs.Prelude.{ℕ, ◌==◌, ◌++◌, if◌then◌else◌, List, [], ◌∷◌, take, slice_set}
use Rattle.memory_outside.specs.declared.edits.Edit.{Edit}
use Rattle.memory_outside.specs.declared.edits.EditKind.{EditKind}
use Rattle.memory_outside.specs.declared.edits.EditKind.TheVariants.{Cut, Set, Append}

-- the bytes after one edit: at most the first so many; with one byte set, where its place is there; with more at
-- the end
abbrev pub edited : EditKind → List ℕ → List ℕ
edited (Cut most) bytes = take most bytes
edited (Set at byte) bytes = slice_set bytes at byte
edited (Append more) bytes = bytes ++ more

-- the bytes after the edits of one carry, in their order
abbrev pub delivered : List Edit → ℕ → List ℕ → List ℕ
delivered [] carry bytes = bytes
delivered (e ∷ es) carry bytes = delivered es carry (if e.carry == carry then edited e.kind bytes else bytes)
