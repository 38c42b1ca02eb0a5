-- The places at which a pair of declarations breaks what is asked, by the shape of the place.
use Rattle.std.specs.Prelude.{List}
use Rattle.aidl_schema.specs.declared.schema.Method.{Method}
use Rattle.aidl_schema.specs.Broken.{Place, at_arguments, at_arguments_of, at_fields, at_methods, place_if, whole}
use Rattle.compat_judge.specs.declared.sides.Pair.{Pair}
use Rattle.compat_judge.specs.declared.differences.ArgumentTest.{ArgumentTest}
use Rattle.compat_judge.specs.declared.differences.DeclTest.{DeclTest}
use Rattle.compat_judge.specs.declared.differences.FieldTest.{FieldTest}
use Rattle.compat_judge.specs.declared.differences.MethodTest.{MethodTest}
use Rattle.compat_judge.specs.steps.Tests.{argument_breaks, decl_breaks, field_breaks, fields_asked, method_breaks}

-- of the declaration itself
abbrev pub in_decl : DeclTest → Pair → List Place
in_decl test p = place_if (whole p.before.now) (decl_breaks test p.before.now p.after.now)

-- of common methods
abbrev pub in_methods : MethodTest → Pair → List Place
in_methods test p = at_methods (method_breaks test p.old.now.decls p.new.now.decls) p.before.now p.after.now

-- of the arguments of two methods
abbrev pub in_arguments_of : ArgumentTest → Pair → Method → Method → List Place
in_arguments_of test p m w = at_arguments_of (argument_breaks test p.old.now.decls p.new.now.decls) p.before.now m w

-- of those of common methods
abbrev pub in_arguments : ArgumentTest → Pair → List Place
in_arguments test p = at_arguments (argument_breaks test p.old.now.decls p.new.now.decls) p.before.now p.after.now

-- of fields
abbrev pub in_fields : FieldTest → Pair → List Place
in_fields test p =
    at_fields (field_breaks test p.old.now.decls p.new.now.decls) (fields_asked test) p.before.now p.after.now
