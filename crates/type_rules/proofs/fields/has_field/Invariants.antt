use Rattle.std.proofs.Common.{◌≡◌, map, drop}
use Rattle.std.specs.List.{list_any}
use Rattle.type_uses.specs.TypeUses.{is_field}
use Rattle.type_uses.specs.TypeUseViews.{seen_use}
use Rattle.type_rules.proofs.fields.has_field.Given as goal

-- what is left decides
abbrev pub invariant-loop-used : goal.invariant-loop-used
invariant-loop-used l = list_any is_field (map seen_use (drop l.used-index l.uses)) ≡ list_any is_field (map seen_use l.uses)
