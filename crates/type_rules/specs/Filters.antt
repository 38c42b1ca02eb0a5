-- What a check rule is, and one that looks at each use of a type by itself.
use Rattle.std.specs.Prelude.{ℕ, Bool, List, map}
use Rattle.std.specs.List.{filter}
use Rattle.aidl_base.specs.declared.breach.Breach.{Breach}
use Rattle.declared_names.specs.Declarations.{Entry}
use Rattle.aidl_names.specs.Rules.{breach}
use Rattle.type_uses.specs.TypeUses.{TypeUse}

-- the places in its file at which a declaration of a tree breaks a rule, by the types that it uses
abbrev pub Rule : Type 0
Rule = List Entry → Entry → List TypeUse → List ℕ

-- the breaches of a rule at places of a file
abbrev pub breaches_at : ℕ → ℕ → List ℕ → List Breach
breaches_at rule file places = map (breach rule file) places

-- a place of each use that passes a test
abbrev pub broken_where : (TypeUse → Bool) → (TypeUse → ℕ) → List TypeUse → List ℕ
broken_where test place uses = map place (filter test uses)
