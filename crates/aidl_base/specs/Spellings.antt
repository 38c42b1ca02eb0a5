-- The bytes that spell one value of a built-in type (libbinder, Parcel.cpp: `writeBool`, `writeInt32`,
-- `writeInt64`, `writeString16`).
use Rattle.std.specs.Prelude.{ℕ, pos, negsuc, Bool, if◌then◌else◌, List, ◌++◌, length, Option, Some, None}
use Rattle.std.specs.List.{flat_map}
use Rattle.aidl_base.specs.Words.{word, units, block}

-- a truth value: one word, 0 or 1
abbrev pub spell_truth : Bool → List ℕ
spell_truth b = word (if b then pos 1 else pos 0)

-- a text: the number of its units as a word, and its block
abbrev pub spell_text : List ℕ → List ℕ
spell_text x = word (pos (length (units x))) ++ block x

-- a text that may be null, which is the word -1
abbrev pub spell_nullable_text : Option (List ℕ) → List ℕ
spell_nullable_text None = word (negsuc 0)
spell_nullable_text (Some x) = spell_text x

-- a sequence whose items have a spelling: the number of items as a word, and the spellings in order
abbrev pub spell_sequence : {A : Type 0} → (A → List ℕ) → List A → List ℕ
spell_sequence spell items = word (pos (length items)) ++ flat_map spell items
