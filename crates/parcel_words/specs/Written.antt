-- What a writer of words has written.
use Rattle.std.specs.Prelude.{ℕ, ◌+◌, ◌-◌, pos, List, [], ◌++◌, length, take, drop, Option, unwrap_or, refl}
use Rattle.std.specs.Option.{option_map, option_copied}
use Rattle.std.specs.Borrow.{Bor}
use Rattle.std.specs.Str.{chars}
use Rattle.aidl_base.specs.Words.{word}
use Rattle.std.specs.Coded.{Coded, code_by, coded×, coded_ℕ, coded_list}

-- the bytes, and the number of bytes for which room is left
pub record Written : Type 0 where
  pub bytes : List ℕ
  pub room : ℕ

-- it is stored as the tuple of its fields
abbrev pub written_code : Coded Written
written_code = code_by (List ℕ × ℕ) (coded× (coded_list coded_ℕ) coded_ℕ) (λ w. (w.bytes, w.room))
    (λ q. record { bytes = q.0; room = q.1 }) (λ _. refl)

-- after these bytes too
abbrev pub with_bytes : Written → List ℕ → Written
with_bytes w bytes = record { bytes = w.bytes ++ bytes; room = w.room - length bytes }

-- the word at a position set to the number of bytes from there on
abbrev pub sized : List ℕ → ℕ → List ℕ
sized bytes start = take start bytes ++ (word (pos (length bytes - start)) ++ drop (start + 4) bytes)

abbrev pub with_size : Written → ℕ → Written
with_size w start = record { bytes = sized w.bytes start; room = w.room }

-- a text that may be null, as its characters
abbrev pub nullable_scalars : Option (Bor (List ℕ)) → Option (List ℕ)
nullable_scalars text = option_map chars (option_copied text)

-- its characters, none where it is null
abbrev pub scalars : Option (Bor (List ℕ)) → List ℕ
scalars text = unwrap_or (nullable_scalars text) []
