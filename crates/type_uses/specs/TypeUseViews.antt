-- How the uses of types that the code finds are seen.
use Rattle.aidl_syntax.specs.Trees.{arg_of, constant_of, field_of, method_of}
use Rattle.type_uses.specs.declared.type_use.TypeUseRef.{TypeUseRef}
use Rattle.type_uses.specs.declared.type_use.TypeUseRef.TheVariants as use_of
use Rattle.type_uses.specs.TypeUses.{TypeUse, of_field, of_constant, of_method, of_argument}

abbrev pub seen_use : TypeUseRef → TypeUse
seen_use (use_of.Field f t) = of_field (field_of f.now) t
seen_use (use_of.Constant c t) = of_constant (constant_of c.now) t
seen_use (use_of.Method m t) = of_method (method_of m.now) t
seen_use (use_of.Argument a t) = of_argument (arg_of a.now) t
