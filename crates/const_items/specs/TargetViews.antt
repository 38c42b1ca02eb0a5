-- How what a name in an expression means is seen.
use Rattle.std.specs.Prelude.{Option}
use Rattle.aidl_syntax.specs.Trees.{constant_of, enumerator_of, map_option}
use Rattle.const_items.specs.declared.target.Target.{Target as Found}
use Rattle.const_items.specs.declared.target.Target.TheVariants as part
use Rattle.const_items.specs.Dependence.{Target, of_constant, of_enumerator}

abbrev pub seen_target : Found → Target
seen_target (part.Constant file number c) = of_constant file number (constant_of c.now)
seen_target (part.Enumerator file number e) = of_enumerator file number (enumerator_of e.now)

abbrev pub seen_targets : Option Found → Option Target
seen_targets t = map_option seen_target t
