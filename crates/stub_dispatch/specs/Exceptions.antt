-- The reply of an exception, by its parts (libbinder, Status.cpp: `writeToParcel`).
use Rattle.std.specs.Prelude.{ℕ, ℤ, pos, List, ◌++◌}
use Rattle.aidl_base.specs.Words.{word}
use Rattle.wire_model.specs.Requests.{spell_error}
use Rattle.wire_model.specs.Spell.{spell_text}

-- the reply of an exception
abbrev pub spell_exception : ℤ → List ℕ → ℤ → List ℕ
spell_exception code message error = word code ++ (spell_text message ++ (word (pos 0) ++ spell_error code error))
