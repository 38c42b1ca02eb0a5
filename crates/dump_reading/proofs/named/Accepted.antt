-- What stands for a dump breaks no rule of the names stage.
use Rattle.std.proofs.Common.{◌≡◌, ℕ, List, [], ◌∷◌, ◌++◌, refl, ap, ◌∙◌, flat_map}
use Rattle.aidl_syntax.specs.Sources.{Source}
use Rattle.aidl_names.specs.Breaches.{breaches, in_order, rules}
use Rattle.aidl_names.specs.Rules.{Rule, breaches_at, Duplicate, LeftOutType, UnknownImport, UnknownType, WrongFile}

-- of a list of rules each has no spot
abbrev HaveNoSpot : List Source → List (ℕ × Rule) → Type 0
HaveNoSpot files [] = Unit {0}
HaveNoSpot files (r ∷ rs) = (r.1 files ≡ []) × HaveNoSpot files rs

none_found : (files : List Source) (rs : List (ℕ × Rule)) → HaveNoSpot files rs → flat_map (λ r. breaches_at r.0 (r.1 files)) rs ≡ []
none_found files [] are = refl
none_found files (r ∷ rs) are = ap (λ spots. breaches_at r.0 spots ++ flat_map (λ (r : ℕ × Rule). breaches_at r.0 (r.1 files)) rs) are.0 ∙ none_found files rs are.1

pub nothing : (files : List Source) → WrongFile files ≡ [] → Duplicate files ≡ [] → UnknownImport files ≡ [] → UnknownType files ≡ [] → LeftOutType files ≡ [] → breaches files ≡ []
nothing files one two three four five = ap in_order (none_found files rules (one, (two, (three, (four, (five, tt))))))
