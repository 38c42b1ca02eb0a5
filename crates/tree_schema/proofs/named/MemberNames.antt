-- The names of members and of arguments are identifiers, where all names of a tree are.
use Rattle.std.proofs.Common.{◌≡◌, ℕ, Bool, true, ◌&&◌, List, [], ◌∷◌, ◌++◌, map, refl}
use Rattle.std.specs.List.{list_all}
use Rattle.aidl_base.proofs.lemmas.Tests.{both}
use Rattle.aidl_base.specs.Identifiers.{is_identifier}
use Rattle.aidl_schema.proofs.lemmas.Apart.{all_parts}
use Rattle.aidl_syntax.specs.Trees.{Field, Constant, Enumerator, Arg, Method, Decl, Body, Members}
use Rattle.aidl_syntax.specs.Trees.Decl.{decl}
use Rattle.aidl_syntax.specs.Trees.Body.{parcelable, union, enum, interface}
use Rattle.aidl_syntax.specs.Trees.Members.{none, field as with_field, constant as with_constant, method as with_method, nested as with_nested}
use Rattle.aidl_syntax.specs.Members.{Member, members, listed, body, member_name}
use Rattle.aidl_syntax.specs.Members.Member.{field, constant, method, enumerator, nested}
use Rattle.aidl_syntax.specs.Walks.{naming, of_option, of_each, in_type, in_init, in_annots, in_field, in_constant, in_enumerator, in_arg, in_method, in_decl, in_body, in_members}
use Rattle.tree_schema.proofs.lemmas.walked.Ascii.{is_identifier_part}
use Rattle.tree_schema.proofs.walked.Outers.{named-itself}

-- the text of the name of an argument
abbrev pub argument_text : Arg → List ℕ
argument_text a = a.name.name.0

-- the names of the arguments of a method are identifiers
abbrev pub has_argument_names : Member → Bool
has_argument_names (method m) = list_all (λ a. is_identifier (argument_text a)) m.args
has_argument_names (field f) = true
has_argument_names (constant c) = true
has_argument_names (enumerator e) = true
has_argument_names (nested d) = true

-- the member is called by an identifier, and so are its arguments
abbrev pub is_member_named : Member → Bool
is_member_named m = is_identifier_part (member_name m).name && has_argument_names m

behind : (front : List _) (rest : List _) → list_all is_identifier_part (front ++ rest) ≡ true → list_all is_identifier_part rest ≡ true
behind front rest h = (all_parts is_identifier_part front rest h).1

args_named : (args : List Arg) → list_all is_identifier_part (of_each (in_arg naming) args) ≡ true → list_all (λ a. is_identifier (argument_text a)) args ≡ true
args_named [] h = refl
args_named (a ∷ args) h =
    let two = all_parts is_identifier_part (in_arg naming a) (of_each (in_arg naming) args) h in
    let name = behind (in_type naming a.ty) (a.name.name ∷ []) (behind (in_annots naming a.annots) (in_type naming a.ty ++ a.name.name ∷ []) two.0) in
    rw ((both (is_identifier_part a.name.name) true name).0, args_named args two.1) refl

field_named : (f : Field) → list_all is_identifier_part (in_field naming f) ≡ true → is_member_named (field f) ≡ true
field_named f h =
    let rest = f.name.name ∷ of_option (in_init naming) f.initial in
    let one = behind (in_type naming f.ty) rest (behind (in_annots naming f.annots) (in_type naming f.ty ++ rest) h) in
    rw ((both (is_identifier_part f.name.name) (list_all is_identifier_part (of_option (in_init naming) f.initial)) one).0) refl

constant_named : (c : Constant) → list_all is_identifier_part (in_constant naming c) ≡ true → is_member_named (constant c) ≡ true
constant_named c h =
    let rest = c.name.name ∷ naming.valued c.value in
    let one = behind (in_type naming c.ty) rest (behind (in_annots naming c.annots) (in_type naming c.ty ++ rest) h) in
    rw ((both (is_identifier_part c.name.name) (list_all is_identifier_part (naming.valued c.value)) one).0) refl

enumerator_named : (e : Enumerator) → list_all is_identifier_part (in_enumerator naming e) ≡ true → is_member_named (enumerator e) ≡ true
enumerator_named e h = rw ((both (is_identifier_part e.name.name) (list_all is_identifier_part (of_option naming.valued e.value)) h).0) refl

method_named : (m : Method) → list_all is_identifier_part (in_method naming m) ≡ true → is_member_named (method m) ≡ true
method_named m h =
    let rest = of_each (in_arg naming) m.args ++ of_option naming.numbered m.id in
    let tail = m.name.name ∷ rest in
    let one = behind (of_option (in_type naming) m.returned) tail (behind (in_annots naming m.annots) (of_option (in_type naming) m.returned ++ tail) h) in
    let two = both (is_identifier_part m.name.name) (list_all is_identifier_part rest) one in
    let args = args_named m.args (all_parts is_identifier_part (of_each (in_arg naming) m.args) (of_option naming.numbered m.id) two.1).0 in
    rw (two.0, args) refl

nested_named : (d : Decl) → list_all is_identifier_part (in_decl naming d) ≡ true → is_member_named (nested d) ≡ true
nested_named d h = rw (named-itself d h) refl

listed_named : (ms : Members) → list_all is_identifier_part (in_members naming ms) ≡ true → list_all is_member_named (listed ms) ≡ true
listed_named none h = refl
listed_named (with_field f ms) h = let two = all_parts is_identifier_part (in_field naming f) (in_members naming ms) h in rw (field_named f two.0, listed_named ms two.1) refl
listed_named (with_constant c ms) h = let two = all_parts is_identifier_part (in_constant naming c) (in_members naming ms) h in rw (constant_named c two.0, listed_named ms two.1) refl
listed_named (with_method m ms) h = let two = all_parts is_identifier_part (in_method naming m) (in_members naming ms) h in rw (method_named m two.0, listed_named ms two.1) refl
listed_named (with_nested d ms) h = let two = all_parts is_identifier_part (in_decl naming d) (in_members naming ms) h in rw (nested_named d two.0, listed_named ms two.1) refl

enumerators_named : (es : List Enumerator) → list_all is_identifier_part (of_each (in_enumerator naming) es) ≡ true → list_all is_member_named (map enumerator es) ≡ true
enumerators_named [] h = refl
enumerators_named (e ∷ es) h = let two = all_parts is_identifier_part (in_enumerator naming e) (of_each (in_enumerator naming) es) h in rw (enumerator_named e two.0, enumerators_named es two.1) refl

body_named : (b : Body) → list_all is_identifier_part (in_body naming b) ≡ true → list_all is_member_named (members b) ≡ true
body_named (parcelable ms) h = listed_named ms h
body_named (union ms) h = listed_named ms h
body_named (enum es) h = enumerators_named es h
body_named (interface oneway ms) h = listed_named ms h

-- each member of a declaration, where all names of its tree are identifiers
pub members-named : (d : Decl) → list_all is_identifier_part (in_decl naming d) ≡ true → list_all is_member_named (members (body d)) ≡ true
members-named (decl offset annots n b) h =
    let one = both (is_identifier_part n.name) (list_all is_identifier_part (in_body naming b)) (behind (in_annots naming annots) (n.name ∷ in_body naming b) h) in
    body_named b one.1
