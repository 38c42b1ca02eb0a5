-- How the members of a declaration are seen.
use Rattle.aidl_syntax.specs.Trees.{field_of, constant_of, method_of, enumerator_of, decl_of}
use Rattle.aidl_syntax.specs.Members.{Member}
use Rattle.aidl_syntax.specs.Members.Member.{field, constant, method, enumerator, nested}
use Rattle.declared_names.specs.declared.member_refs.MemberRef.{MemberRef}
use Rattle.declared_names.specs.declared.member_refs.MemberRef.TheVariants as part

abbrev pub seen_member : MemberRef → Member
seen_member (part.Field f) = field (field_of f.now)
seen_member (part.Constant c) = constant (constant_of c.now)
seen_member (part.Method m) = method (method_of m.now)
seen_member (part.Enumerator e) = enumerator (enumerator_of e.now)
seen_member (part.Nested d) = nested (decl_of d.now)
