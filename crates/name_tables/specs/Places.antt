-- Look-ups of members by their names in UTF-8 (own).
use Rattle.std.specs.Prelude.{ℕ, Bool, List, Option}
use Rattle.std.specs.List.{position}
use Rattle.aidl_base.specs.declared.name.Ident.{Ident}
use Rattle.aidl_schema.specs.Names.{bytes_of}
use Rattle.aidl_schema.specs.Same.{same_text}

-- a member has this name
abbrev pub has_name : {M : Type 0} → (M → Ident) → List ℕ → M → Bool
has_name called name m = same_text (bytes_of (called m)) name

-- the first position of a name
abbrev pub place_in : {M : Type 0} → (M → Ident) → List ℕ → List M → Option ℕ
place_in called name ms = position (λ m. has_name called name m) ms
