-- The two rules on the names of types: the number of each, and its test.
use Rattle.std.specs.Prelude.{ℕ, Bool, List}
use Rattle.aidl_base.specs.declared.name.Ident.{Ident}
use Rattle.aidl_names.specs.declared.types.TypeRule.{TypeRule}
use Rattle.aidl_names.specs.declared.types.TypeRule.TheVariants as rule
use Rattle.aidl_syntax.specs.Sources.{Source}
use Rattle.declared_names.specs.Declarations.{declarations}
use Rattle.name_resolution.specs.Resolution.{resolved}
use Rattle.aidl_names.specs.Rules.{is_unknown, is_left_out}

abbrev pub rule_of : TypeRule → ℕ
rule_of rule.Unknown = 4
rule_of rule.LeftOut = 5

abbrev pub breaks_of : TypeRule → List Source → ℕ → ℕ → List Ident → Bool
breaks_of rule.Unknown files file scope name = is_unknown (resolved files file scope name)
breaks_of rule.LeftOut files file scope name = is_left_out (declarations files) (resolved files file scope name)
