-- What each rule asks of two declarations, or of two members that stand beside each other, by the shape of its places.
use Rattle.std.specs.Prelude.{Bool, not, ◌&&◌, ◌||◌, ◌==◌, nat_lt, List, length}
use Rattle.aidl_schema.specs.declared.schema.Constant.{Constant}
use Rattle.aidl_schema.specs.declared.schema.Decl.{Decl}
use Rattle.aidl_schema.specs.declared.schema.Field.{Field}
use Rattle.aidl_schema.specs.declared.schema.Method.{Method}
use Rattle.aidl_schema.specs.declared.schema.Arg.{Arg}
use Rattle.aidl_schema.specs.declared.schema.Kind.{Kind}
use Rattle.aidl_schema.specs.Containment.{fields_of}
use Rattle.aidl_schema.specs.Same.{base_code, same_text, same_bool, same}
use Rattle.aidl_schema.specs.Broken.{way_code, same_const, same_default, default_in, backing_code, is_parcelable}
use Rattle.aidl_schema.specs.Broken.{is_union, fields_with_default, parcelable_fields, union_fields}
use Rattle.aidl_schema.specs.Broken.{has_composite_default, same_marks, same_result, same_result_marks}
use Rattle.compat_judge.specs.declared.differences.DeclTest.{DeclTest}
use Rattle.compat_judge.specs.declared.differences.DeclTest.TheVariants as decl
use Rattle.compat_judge.specs.declared.differences.MethodTest.{MethodTest}
use Rattle.compat_judge.specs.declared.differences.MethodTest.TheVariants as method
use Rattle.compat_judge.specs.declared.differences.ArgumentTest.{ArgumentTest}
use Rattle.compat_judge.specs.declared.differences.ArgumentTest.TheVariants as argument
use Rattle.compat_judge.specs.declared.differences.FieldTest.{FieldTest}
use Rattle.compat_judge.specs.declared.differences.FieldTest.TheVariants as field

abbrev pub decl_breaks : DeclTest → Decl → Decl → Bool
decl_breaks decl.FewerFields d e = nat_lt (length (parcelable_fields e.kind)) (length (parcelable_fields d.kind))
decl_breaks decl.Fixed d e = (is_parcelable d.kind || is_union d.kind)
    && (not (same_bool d.fixed e.fixed)
    || ((d.fixed && e.fixed) && nat_lt (length (fields_of d.kind)) (length (fields_of e.kind))))
decl_breaks decl.FewerAlternatives d e = nat_lt (length (union_fields e.kind)) (length (union_fields d.kind))
decl_breaks decl.Backings d e = not (backing_code d.kind == backing_code e.kind)
decl_breaks decl.Stability d e = not (same_bool d.vintf e.vintf)

abbrev pub method_breaks : MethodTest → List Decl → List Decl → Method → Method → Bool
method_breaks method.Ids old new m w = not (m.id == w.id)
method_breaks method.Results old new m w = not (same_result old m.result new w.result)
method_breaks method.Counts old new m w = not (length m.args == length w.args)
method_breaks method.Oneway old new m w = not (same_bool m.oneway w.oneway)
method_breaks method.Marks old new m w = not (same_result_marks m.result w.result)

abbrev pub argument_breaks : ArgumentTest → List Decl → List Decl → Arg → Arg → Bool
argument_breaks argument.Types old new a b = not (same old a.ty new b.ty)
argument_breaks argument.Ways old new a b = not (way_code a.way == way_code b.way)
argument_breaks argument.Marks old new a b = not (same_marks a.ty b.ty)

abbrev pub field_breaks : FieldTest → List Decl → List Decl → Field → Field → Bool
field_breaks field.Names old new f g = not (same_text f.name.0 g.name.0)
field_breaks field.Types old new f g = not (same old f.ty new g.ty)
field_breaks field.Defaults old new f g = same old f.ty new g.ty && (not (has_composite_default old f.ty
    || has_composite_default new g.ty) && not (same_default (default_in old f) (default_in new g)))
field_breaks field.Alternatives old new f g = not (same_text f.name.0 g.name.0) || not (same old f.ty new g.ty)
field_breaks field.Marks old new f g = not (same_marks f.ty g.ty)

abbrev pub fields_asked : FieldTest → Kind → List Field
fields_asked field.Names k = parcelable_fields k
fields_asked field.Types k = parcelable_fields k
fields_asked field.Defaults k = fields_with_default k
fields_asked field.Alternatives k = union_fields k
fields_asked field.Marks k = fields_of k

-- A constant's type and value are the same.
abbrev pub keeps_constant : Constant → Constant → Bool
keeps_constant c k = (base_code c.ty == base_code k.ty) && same_const c.value k.value
