-- A number for each name, by which it is looked up: names that are the same have the same number.
use Rattle.std.specs.Prelude.{ℕ, ◌+◌, ◌*◌, ◌%◌, List}
use Rattle.std.specs.List.{fold}
use Rattle.aidl_base.specs.declared.name.Ident.{Ident}
use Rattle.aidl_syntax.specs.declared.tree.DottedTree.{DottedTree}
use Rattle.declared_names.specs.Names.{text, last}
use Rattle.declared_names.specs.Declarations.{Entry}

-- One more byte: a number to the base 257, modulo the largest prime below 2 ^ 55, so that a step fits in 64 bits.
unfoldable pub with_byte : ℕ → ℕ → ℕ
with_byte mark b = (mark % 36028797018963913 * 257 + b) % 36028797018963913

-- one more part
abbrev pub with_part : ℕ → Ident → ℕ
with_part mark part = with_byte (fold with_byte mark (text part)) 46

abbrev pub mark_of : List Ident → ℕ
mark_of name = fold with_part 0 name

abbrev pub mark_of_entry : Entry → ℕ
mark_of_entry e = mark_of e.name

-- the mark of the last part of an import
abbrev pub mark_of_last : DottedTree → ℕ
mark_of_last i = mark_of (last i.name.0)
