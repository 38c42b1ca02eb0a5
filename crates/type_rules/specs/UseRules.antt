-- The rules that look at each use of a type by itself, in any declaration: the number of each, its place and its
-- test; the declaration may be an interface that is oneway.
use Rattle.std.specs.Prelude.{ℕ, Bool, List}
use Rattle.declared_names.specs.Declarations.{Entry}
use Rattle.type_rules.specs.declared.use_rules.UseRule.{UseRule}
use Rattle.type_rules.specs.declared.use_rules.UseRule.TheVariants as rule
use Rattle.type_uses.specs.TypeUses.{TypeUse, name_place, type_place}
use Rattle.type_rules.specs.TypeRules.{is_bad_shape, is_bad_direction}
use Rattle.type_rules.specs.MethodRules.{is_bad_oneway}
use Rattle.type_rules.specs.TypeRules.{is_bad_constant}

abbrev pub rule_of : UseRule → ℕ
rule_of rule.Shape = 16
rule_of rule.Direction = 17
rule_of rule.Oneway = 18
rule_of rule.Constant = 20

abbrev pub place_of : UseRule → TypeUse → ℕ
place_of rule.Shape = type_place
place_of rule.Direction = name_place
place_of rule.Oneway = name_place
place_of rule.Constant = name_place

abbrev pub breaks_of : UseRule → List Entry → Bool → TypeUse → Bool
breaks_of rule.Shape entries oneway = is_bad_shape
breaks_of rule.Direction entries oneway = is_bad_direction entries
breaks_of rule.Oneway entries oneway = is_bad_oneway oneway
breaks_of rule.Constant entries oneway = is_bad_constant
