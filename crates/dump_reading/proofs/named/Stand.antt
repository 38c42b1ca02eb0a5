-- The declarations of the trees that a dump stands for break no rule on names, and pass no limit.
use Rattle.std.proofs.Common.{◌≡◌, ℕ, zero, suc, ◌+◌, ◌<◌, ◌≤◌, Bool, true, false, cond, not, ◌&&◌, ◌||◌, nat_lt, nat_le, if◌then◌else◌, List, [], ◌∷◌, ◌++◌, map, length, take, codes, Option, Some, None, is_some, slice_get, refl, sym, ap, subst, ◌∙◌, arith, append-nil, append_assoc}
use Rattle.std.specs.List.{flat_map, filter, list_all, list_any}
use Rattle.std.specs.List.Sorted.{IsStrictlySortedBy}
use Rattle.std.specs.Cmp.Lexicographic.{slice_cmp}
use Rattle.std.specs.Ordering.{nat_cmp}
use Rattle.std.specs.Str.{bytes_eq}
use Rattle.std.proofs.lemmas.Bool.{and_parts, and_from}
use Rattle.std.proofs.lemmas.Bool.Decides.{nat_tests}
use Rattle.std.proofs.lemmas.List.{length-map}
use Rattle.aidl_base.specs.Identifiers.{is_identifier}
use Rattle.aidl_base.specs.declared.name.Ident.{Ident}
use Rattle.aidl_base.proofs.lemmas.Tests.{all_numbered}
use Rattle.aidl_syntax.specs.declared.tree.NameTree.{NameTree}
use Rattle.aidl_syntax.specs.declared.tree.DottedTree.{DottedTree}
use Rattle.aidl_syntax.specs.declared.tree.TypeTree.{TypeTree}
use Rattle.aidl_syntax.specs.Trees as tree
use Rattle.aidl_syntax.specs.Trees.{map_option}
use Rattle.aidl_syntax.specs.Trees.Decl.{decl}
use Rattle.aidl_syntax.specs.Trees.Members.{none}
use Rattle.aidl_syntax.specs.Members.{Member, members, body, declared_name, member_name}
use Rattle.aidl_syntax.specs.Members.Member.{field, constant, method, enumerator, nested}
use Rattle.declared_names.specs.Names.{text, same}
use Rattle.aidl_syntax.specs.Sources.{Source}
use Rattle.declared_names.specs.Declarations.{Entry, declarations}
use Rattle.name_resolution.specs.Resolution.{meaning_of_word}
use Rattle.aidl_base.specs.declared.limit.LimitName.TheVariants as limit
use Rattle.aidl_names.specs.Limits.{has_many_members, has_long_method, is_long_method, passed}
use Rattle.aidl_names.specs.Rules.{Spot, is_named_again, repeated, argument_names, repeated_inside, is_taken, taken, types_in, is_unknown, is_left_out, UnknownType, LeftOutType}
use Rattle.declared_names.specs.TypeNames.{names_of_type, names_of_returned, type_names}
use Rattle.declared_names.specs.Numbered.{in_each, after_earlier}
use Rattle.name_resolution.specs.Resolution.{resolved}
use Rattle.aidl_schema.specs.declared.schema.Decl.{Decl}
use Rattle.aidl_schema.specs.declared.schema.Arg.{Arg}
use Rattle.aidl_schema.specs.declared.schema.AidlType.{AidlType}
use Rattle.aidl_schema.specs.declared.schema.Base.{Base}
use Rattle.aidl_schema.specs.declared.schema.Base.TheVariants as base
use Rattle.aidl_schema.specs.declared.schema.Constant.{Constant}
use Rattle.aidl_schema.specs.declared.schema.Field.{Field}
use Rattle.aidl_schema.specs.declared.schema.Kind.{Kind}
use Rattle.aidl_schema.specs.declared.schema.Kind.TheVariants.{Interface, Parcelable, Union, Enum}
use Rattle.aidl_schema.specs.declared.schema.Shape.{Shape}
use Rattle.aidl_schema.specs.declared.schema.Shape.TheVariants as shape
use Rattle.aidl_schema.specs.Containment.{fields_of}
use Rattle.aidl_schema.specs.Holds.{AllHold, AreApart, OfEach}
use Rattle.aidl_schema.specs.Methods.{is_field_type, is_passed_type, is_whole_type, has_method_types, may_be_on_heap, is_result_type}
use Rattle.aidl_schema.specs.Names as schema
use Rattle.aidl_schema.specs.Names.{name_of, last_part, may_enclose, are_distinct, are_names, member_names, methods_of, has_members, has_member_names, are_ascending, constant_names}
use Rattle.aidl_schema.specs.Same.{same_text, is_named}
use Rattle.aidl_schema.specs.Types.{form_of, is_type, is_meant, is_well_shaped}
use Rattle.aidl_schema.specs.Constants.{is_string, is_constant_of}
use Rattle.aidl_schema.specs.Valid.{has_value, has_few, is_within_limits, is_enum}
use Rattle.aidl_schema.proofs.lemmas.Apart.{apart}
use Rattle.aidl_schema.proofs.lemmas.Sames.{same_text_is, same_text_refl}
use Rattle.api_dump.specs.Pieces.{ident}
use Rattle.api_dump.specs.Types.{base_name}
use Rattle.dump_reading.specs.Bare.{bare_decl, bare_body, bare_type, bare_dotted, bare_arg}
use Rattle.dump_reading.specs.DumpTrees.{constants_before, body_tree, nested_trees, field_tree, constant_tree, method_tree, arg_tree, returned_tree, type_tree, enumerator_tree}
use Rattle.dump_reading.proofs.spelled.Fits.{each_passes}
use Rattle.dump_reading.proofs.spelled.Values.{name_parts, named_each}
use Rattle.dump_reading.proofs.spelled.Declarations.{last_named}
use Rattle.dump_reading.proofs.filed.Numbers.{walks, walks_length, place_once, none_past}
use Rattle.dump_reading.proofs.named.Entries.{IsEntry, AreEntries, none_inside, no_nested}
use Rattle.dump_reading.proofs.named.Members.{Own, bare_member, text_of, map_twice, nested_names, names_written, all_mapped, all_nested, all_written}
use Rattle.dump_reading.proofs.named.Resolved.{text_is, word_free, last_free, one_declared, is_fine, base_fine, list_fine}

-- Nothing is found.

pub after_none : {X : Type 0} (test : List X → X → Bool) (before xs : List X) → ((k : ℕ) (x : X) → slice_get xs k ≡ Some x → test (before ++ take k xs) x ≡ false) → after_earlier test before xs ≡ []
after_none test before [] h = refl
after_none test before (x ∷ xs) h =
    ap (λ b. (if b then x ∷ [] else []) ++ after_earlier test (before ++ x ∷ []) xs) (ap (λ ys. test ys x) (sym (append-nil before)) ∙ h zero x refl)
    ∙ after_none test (before ++ x ∷ []) xs (λ k y e. ap (λ ys. test ys y) (append_assoc before (x ∷ []) (take k xs)) ∙ h (suc k) y e)

pub any_none : {X : Type 0} (p : X → Bool) (xs : List X) → ((k : ℕ) (x : X) → slice_get xs k ≡ Some x → p x ≡ false) → list_any p xs ≡ false
any_none p [] h = refl
any_none p (x ∷ xs) h = ap (λ b. b || list_any p xs) (h zero x refl) ∙ any_none p xs (λ k y e. h (suc k) y e)

pub take_at : {X : Type 0} (xs : List X) (k j : ℕ) (x : X) → slice_get (take k xs) j ≡ Some x → (j < k) × (slice_get xs j ≡ Some x)
take_at [] zero j x e = cc
take_at [] (suc k) j x e = cc
take_at (y ∷ ys) zero j x e = cc
take_at (y ∷ ys) (suc k) zero x e = (omega arith, e)
take_at (y ∷ ys) (suc k) (suc j) x e = let r = take_at ys k j x e in let lt = r.0 in (omega arith, r.1)

pub flat_none : {X Y : Type 0} (g : X → List Y) (xs : List X) → ((k : ℕ) (x : X) → slice_get xs k ≡ Some x → g x ≡ []) → flat_map g xs ≡ []
flat_none g [] h = refl
flat_none g (x ∷ xs) h = ap (λ ys. ys ++ flat_map g xs) (h zero x refl) ∙ flat_none g xs (λ k y e. h (suc k) y e)

pub each_none : {X Y : Type 0} (find : ℕ → X → List Y) (n : ℕ) (xs : List X) → ((k : ℕ) (x : X) → slice_get xs k ≡ Some x → find (n + k) x ≡ []) → in_each find n xs ≡ []
each_none find n [] h = refl
each_none find n (x ∷ xs) h =
    ap (λ ys. ys ++ in_each find (n + 1) xs) (subst (λ (j : ℕ). find j x ≡ []) (omega arith) (h zero x refl))
    ∙ each_none find (n + 1) xs (λ k y e. subst (λ (j : ℕ). find j y ≡ []) (omega arith) (h (suc k) y e))

filter_append : {X : Type 0} (p : X → Bool) (xs ys : List X) → filter p xs ≡ [] → filter p ys ≡ [] → filter p (xs ++ ys) ≡ []
filter_append p [] ys h k = k
filter_append p (x ∷ xs) ys h k = by (p x) h (filter_append p xs ys) where
  by : (b : Bool) → cond b (x ∷ filter p xs) (filter p xs) ≡ [] → (filter p xs ≡ [] → filter p ys ≡ [] → filter p (xs ++ ys) ≡ []) → cond b (x ∷ filter p (xs ++ ys)) (filter p (xs ++ ys)) ≡ []
  by true h later = cc
  by false h later = later h k

filter_flat : {X Y : Type 0} (p : Y → Bool) (g : X → List Y) (xs : List X) → ((k : ℕ) (x : X) → slice_get xs k ≡ Some x → filter p (g x) ≡ []) → filter p (flat_map g xs) ≡ []
filter_flat p g [] h = refl
filter_flat p g (x ∷ xs) h = filter_append p (g x) (flat_map g xs) (h zero x refl) (filter_flat p g xs (λ k y e. h (suc k) y e))

abbrev parts : DottedTree → List Ident
parts d = d.name.0

filter_fine : (fine bad : List Ident → Bool) → ((is : List Ident) → fine is ≡ true → bad is ≡ false) → (ds : List DottedTree) → list_all fine (map parts ds) ≡ true → filter (λ d. bad d.name.0) ds ≡ []
filter_fine fine bad h [] e = refl
filter_fine fine bad h (d ∷ ds) e =
    let two = and_parts (fine d.name.0) (list_all fine (map parts ds)) e in
    ap (λ b. cond b (d ∷ filter (λ d. bad d.name.0) ds) (filter (λ d. bad d.name.0) ds)) (h d.name.0 two.0) ∙ filter_fine fine bad h ds two.1

-- Names that differ.

abbrev key : NameTree → List ℕ
key n = n.name.0

names_once : (names : List NameTree) → are_names (map key names) ≡ true → after_earlier is_named_again [] names ≡ []
names_once names h =
    let two = and_parts (are_distinct same_text (map key names)) (list_all is_identifier (map key names)) h in
    let differ = apart same_text key same_text_refl names two.0 in
    let named = named_each key names two.1 in
    after_none is_named_again [] names (λ k n e. any_none (λ m. bytes_eq (text n.name) (text m.name)) (take k names) (λ j m f.
    let t = take_at names k j m f in let lt = t.0 in
    by n m (bytes_eq (text n.name) (text m.name)) refl (λ alike. let is : j ≡ k = differ j k m n t.1 e (sym (text_is m.name (named j m t.1)) ∙ sym alike ∙ text_is n.name (named k n e)) in absurd (omega arith)))) where
      by : (n m : NameTree) (b : Bool) → bytes_eq (text n.name) (text m.name) ≡ b → (text n.name ≡ text m.name → ⊥) → bytes_eq (text n.name) (text m.name) ≡ false
      by n m true e h = absurd (h (same_text_is (text n.name) (text m.name) e))
      by n m false e h = e

-- What a member's bare one has too.

args_bare : (args : List tree.Arg) → map key (map (λ a. a.name) (map bare_arg args)) ≡ map key (map (λ a. a.name) args)
args_bare [] = refl
args_bare (a ∷ args) = ap (λ xs. a.name.name.0 ∷ xs) (args_bare args)

abbrev has_argument_names : Member → Bool
has_argument_names m = are_names (map key (argument_names m))

argument_names_bare : (m : Member) → has_argument_names (bare_member m) ≡ has_argument_names m
argument_names_bare (field f) = refl
argument_names_bare (constant c) = refl
argument_names_bare (method m) = ap are_names (args_bare m.args)
argument_names_bare (enumerator e) = refl
argument_names_bare (nested d) = refl

abbrev is_short : Member → Bool
is_short m = not (is_long_method m)

short_bare : (m : Member) → is_short (bare_member m) ≡ is_short m
short_bare (field f) = refl
short_bare (constant c) = refl
short_bare (method m) = ap (λ (n : ℕ). not (nat_lt 255 n)) (length-map m.args bare_arg)
short_bare (enumerator e) = refl
short_bare (nested d) = refl

element_bare : (o : Option DottedTree) → map parts (elim (map_option bare_dotted o) as (λ _. List DottedTree) [ None ↦ [] | Some d ↦ d ∷ [] ]) ≡ map parts (elim o as (λ _. List DottedTree) [ None ↦ [] | Some d ↦ d ∷ [] ])
element_bare None = refl
element_bare (Some d) = refl

type_bare : (t : TypeTree) → map parts (names_of_type (bare_type t)) ≡ map parts (names_of_type t)
type_bare t = ap (λ xs. t.name.name.0 ∷ xs) (element_bare t.element)

map_append : (xs ys : List DottedTree) → map parts (xs ++ ys) ≡ map parts xs ++ map parts ys
map_append [] ys = refl
map_append (x ∷ xs) ys = ap (λ zs. x.name.0 ∷ zs) (map_append xs ys)

returned_bare : (o : Option TypeTree) → map parts (names_of_returned (map_option bare_type o)) ≡ map parts (names_of_returned o)
returned_bare None = refl
returned_bare (Some t) = type_bare t

types_bare : (args : List tree.Arg) → map parts (flat_map (λ a. names_of_type a.ty) (map bare_arg args)) ≡ map parts (flat_map (λ a. names_of_type a.ty) args)
types_bare [] = refl
types_bare (a ∷ args) =
    map_append (names_of_type (bare_type a.ty)) (flat_map (λ a. names_of_type a.ty) (map bare_arg args)) ∙ ap (λ xs. xs ++ map parts (flat_map (λ a. names_of_type a.ty) (map bare_arg args))) (type_bare a.ty)
    ∙ ap (λ xs. map parts (names_of_type a.ty) ++ xs) (types_bare args) ∙ sym (map_append (names_of_type a.ty) (flat_map (λ a. names_of_type a.ty) args))

type_names_bare : (m : Member) → map parts (type_names (bare_member m)) ≡ map parts (type_names m)
type_names_bare (field f) = type_bare f.ty
type_names_bare (constant c) = type_bare c.ty
type_names_bare (method m) =
    map_append (names_of_returned (map_option bare_type m.returned)) (flat_map (λ a. names_of_type a.ty) (map bare_arg m.args))
    ∙ ap (λ xs. xs ++ map parts (flat_map (λ a. names_of_type a.ty) (map bare_arg m.args))) (returned_bare m.returned) ∙ ap (λ xs. map parts (names_of_returned m.returned) ++ xs) (types_bare m.args)
    ∙ sym (map_append (names_of_returned m.returned) (flat_map (λ a. names_of_type a.ty) m.args))
type_names_bare (enumerator e) = refl
type_names_bare (nested d) = refl

-- The types of a schema.

module _ (S : List Decl) (fine : List Ident → Bool) (base_is : (b : Base) → is_meant (form_of S b) ≡ true → fine (base_name S b) ≡ true) (list_is : fine (ident (codes "List") ∷ []) ≡ true) where
  abbrev All : List DottedTree → Type 0
  All ds = list_all fine (map parts ds) ≡ true

  all_append : (xs ys : List DottedTree) → All xs → All ys → All (xs ++ ys)
  all_append [] ys h k = k
  all_append (x ∷ xs) ys h k = let two = and_parts (fine x.name.0) (list_all fine (map parts xs)) h in and_from (fine x.name.0) (list_all fine (map parts (xs ++ ys))) two.0 (all_append xs ys two.1 k)

  tree_fine : (s : Shape) (is : List Ident) → fine is ≡ true → All (names_of_type (type_tree s is))
  tree_fine shape.One is h = and_from (fine is) true h refl
  tree_fine shape.Array is h = and_from (fine is) true h refl
  tree_fine shape.List is h = and_from (fine (ident (codes "List") ∷ [])) (fine is && true) list_is (and_from (fine is) true h refl)

  whole_fine : (t : AidlType) → is_whole_type S t ≡ true → All (names_of_type (type_tree t.shape (base_name S t.base)))
  whole_fine t h =
      tree_fine t.shape (base_name S t.base) (base_is t.base (and_parts (is_meant (form_of S t.base)) (is_well_shaped t.shape t.nullable (form_of S t.base)) (and_parts (is_type S t) (not t.utf8 || is_string t.base) h).0).0)

  passed_fine : (t : AidlType) → is_passed_type S t ≡ true → All (names_of_type (type_tree t.shape (base_name S t.base)))
  passed_fine t h = whole_fine t (and_parts (is_whole_type S t) (not t.heap) h).0

  returned_fine : (o : Option AidlType) → is_result_type S o ≡ true → All (names_of_returned (returned_tree S o))
  returned_fine None h = refl
  returned_fine (Some t) h = passed_fine t h

  args_fine : (args : List Arg) → list_all (λ a. is_passed_type S a.ty) args ≡ true → All (flat_map (λ a. names_of_type a.ty) (map (λ a. arg_tree S a) args))
  args_fine [] h = refl
  args_fine (a ∷ args) h =
      let two = and_parts (is_passed_type S a.ty) (list_all (λ a. is_passed_type S a.ty) args) h in
      all_append (names_of_type (type_tree a.ty.shape (base_name S a.ty.base))) (flat_map (λ a. names_of_type a.ty) (map (λ a. arg_tree S a) args)) (passed_fine a.ty two.0) (args_fine args two.1)

  abbrev pub has_fine_types : Member → Bool
  has_fine_types m = list_all fine (map parts (type_names m))

  fields_fine : (fs : List Field) → list_all (λ f. is_field_type S f) fs ≡ true → list_all has_fine_types (map (λ f. field (field_tree S f)) fs) ≡ true
  fields_fine fs h = all_mapped S has_fine_types (λ f. field (field_tree S f)) fs (λ k f e.
      whole_fine f.ty (and_parts (is_whole_type S f.ty) (not f.ty.heap || may_be_on_heap S f.ty) (each_passes (λ f. is_field_type S f) fs h k f e)).0)

  own_fine : (k : Kind) → list_all (λ f. is_field_type S f) (fields_of k) ≡ true → list_all (λ m. has_method_types S m) (methods_of k) ≡ true → list_all has_fine_types (Own S k) ≡ true
  own_fine (Interface ms) h g = all_mapped S has_fine_types (λ m. method (method_tree S m)) ms (λ k m e.
      let two = and_parts (is_result_type S m.result) (list_all (λ a. is_passed_type S a.ty) m.args) (each_passes (λ m. has_method_types S m) ms g k m e) in
      all_append (names_of_returned (returned_tree S m.result)) (flat_map (λ a. names_of_type a.ty) (map (λ a. arg_tree S a) m.args)) (returned_fine m.result two.0) (args_fine m.args two.1))
  own_fine (Parcelable fs) h g = fields_fine fs h
  own_fine (Union fs) h g = fields_fine fs h
  own_fine (Enum b es) h g = all_mapped S has_fine_types _ es (λ k e f. refl)

  constants_fine : (cs : List Constant) → list_all (λ c. has_value S c) cs ≡ true → list_all has_fine_types (map (λ c. constant (constant_tree S c)) cs) ≡ true
  constants_fine cs h = all_mapped S has_fine_types (λ c. constant (constant_tree S c)) cs (λ k c e.
      and_from (fine (base_name S c.ty)) true (base_is c.ty (plain_meant c.ty (and_parts (not (is_named c.ty)) (is_constant_of S c.ty c.value) (each_passes (λ c. has_value S c) cs h k c e)).0)) refl) where
        plain_meant : (b : Base) → not (is_named b) ≡ true → is_meant (form_of S b) ≡ true
        plain_meant base.Boolean n = refl
        plain_meant base.Byte n = refl
        plain_meant base.Char n = refl
        plain_meant base.Int n = refl
        plain_meant base.Long n = refl
        plain_meant base.Text n = refl
        plain_meant (base.Named k) n = cc

-- What the rules say.

holds_none : (k : Kind) → may_enclose k ≡ false → is_enum k ≡ true
holds_none (Interface ms) e = cc
holds_none (Parcelable fs) e = cc
holds_none (Union fs) e = cc
holds_none (Enum b es) e = refl

body_bare : (t : tree.Decl) → bare_body (body t) ≡ body (bare_decl t)
body_bare (decl o annots n b) = refl

name_bare : (t : tree.Decl) → (declared_name (bare_decl t)).name ≡ (declared_name t).name
name_bare (decl o annots n b) = refl

at_most : (a b : ℕ) → nat_le a b ≡ true → nat_lt b a ≡ false
at_most a b e = grind (arith, nat_tests)

below : (a b : ℕ) → a ≤ b → nat_lt b a ≡ false
below a b e = grind (arith, nat_tests)

from_zero : (n : ℕ) → 0 + n ≡ n
from_zero n = omega arith

left_false : (a b : Bool) → (not a && not b) ≡ true → (a ≡ false) × (b ≡ false)
left_false true b e = cc
left_false false true e = cc
left_false false false e = (refl, refl)

none_long : (ms : List Member) → list_all is_short ms ≡ true → list_any is_long_method ms ≡ false
none_long [] h = refl
none_long (m ∷ ms) h = by (is_long_method m) h (none_long ms) where
  by : (b : Bool) → (not b && list_all is_short ms) ≡ true → (list_all is_short ms ≡ true → list_any is_long_method ms ≡ false) → (b || list_any is_long_method ms) ≡ false
  by true h later = cc
  by false h later = later h

short_own : (S : List Decl) (k : Kind) → OfEach (methods_of k) (λ m. length m.args ≤ 255) → list_all is_short (Own S k) ≡ true
short_own S (Interface ms) h = all_mapped S is_short (λ m. method (method_tree S m)) ms (λ k m e. ap not (ap (λ (n : ℕ). nat_lt 255 n) (length-map m.args (λ a. arg_tree S a)) ∙ below (length m.args) 255 (h k m e)))
short_own S (Parcelable fs) h = all_mapped S is_short (λ f. field (field_tree S f)) fs (λ k f e. refl)
short_own S (Union fs) h = all_mapped S is_short (λ f. field (field_tree S f)) fs (λ k f e. refl)
short_own S (Enum b es) h = all_mapped S is_short (λ x. enumerator (enumerator_tree b x)) es (λ k x e. refl)

args_written : (S : List Decl) (args : List Arg) → map key (map (λ a. a.name) (map (λ a. arg_tree S a) args)) ≡ map (λ a. a.name.0) args
args_written S [] = refl
args_written S (a ∷ args) = ap (λ xs. a.name.0 ∷ xs) (args_written S args)

named_own : (S : List Decl) (k : Kind) → list_all (λ m. are_names (schema.argument_names m)) (methods_of k) ≡ true → list_all has_argument_names (Own S k) ≡ true
named_own S (Interface ms) h = all_mapped S has_argument_names (λ m. method (method_tree S m)) ms (λ k m e. ap are_names (args_written S m.args) ∙ each_passes (λ m. are_names (schema.argument_names m)) ms h k m e)
named_own S (Parcelable fs) h = all_mapped S has_argument_names (λ f. field (field_tree S f)) fs (λ k f e. refl)
named_own S (Union fs) h = all_mapped S has_argument_names (λ f. field (field_tree S f)) fs (λ k f e. refl)
named_own S (Enum b es) h = all_mapped S has_argument_names (λ x. enumerator (enumerator_tree b x)) es (λ k x e. refl)

abbrev spot_of : ℕ → ℕ → Spot
spot_of file offset = (file, offset)

module _ (S : List Decl) (H : AllHold S) (sorted : IsStrictlySortedBy (slice_cmp nat_cmp) (map name_of S)) (A : AreApart name_of S) (named : has_members S ≡ true) (limits : is_within_limits S ≡ true)
    (enums : (n : ℕ) (d : Decl) → slice_get S n ≡ Some d → is_enum d.kind ≡ true → d.constants ≡ []) (few : length S ≤ 16384) (files : List Source) (are : AreEntries S files (walks S) (declarations files)) where
  -- what stands inside the body of the entry of a declaration
  module _ (w : ℕ) (e : Entry) (h : IsEntry S files (walks S) w e) where
    abbrev last : tree.Members
    last = nested_trees S h.levels w

    written : bare_body (body e.tree) ≡ body_tree S h.declared.kind (constants_before S h.declared last)
    written = body_bare e.tree ∙ ap body h.written

    holds_no : may_enclose h.declared.kind ≡ false → (h.declared.constants ≡ []) × (last ≡ none)
    holds_no c = (enums w h.declared h.at (holds_none h.declared.kind c), no_nested S H sorted A files h.levels w (none_inside S H sorted A files w h.declared h.at c))

    names_are : map text_of (members (body e.tree)) ≡ member_names S w h.declared
    names_are = names_written S w h.declared last holds_no (nested_names S h.levels w (λ z. none_past S H sorted w (let le = h.enough in omega arith))) (body e.tree) written

    named_so : has_member_names S w h.declared ≡ true
    unfolding has_members
    named_so = subst (λ (k : ℕ). has_member_names S k h.declared ≡ true) (from_zero w) (all_numbered (λ n d. has_member_names S n d) 0 S w h.declared named h.at)

    few_so : has_few S w h.declared ≡ true
    unfolding is_within_limits
    few_so = subst (λ (k : ℕ). has_few S k h.declared ≡ true) (from_zero w) (all_numbered (λ n d. has_few S n d) 0 S w h.declared (and_parts (nat_le (length S) 16384) _ limits).1 h.at)

    pass : (test : Member → Bool) → ((m : Member) → test (bare_member m) ≡ test m) → list_all test (Own S h.declared.kind) ≡ true → list_all test (map (λ c. constant (constant_tree S c)) h.declared.constants) ≡ true → ((t : tree.Decl) → test (nested t) ≡ true)
        → list_all test (members (body e.tree)) ≡ true
    pass test same own cs n = all_written S test same h.declared last holds_no own cs (all_nested S test n h.levels w) (body e.tree) written

    -- E2, of members and arguments
    inside_once : repeated_inside e ≡ []
    inside_once =
        let two = and_parts (are_names (member_names S w h.declared)) (list_all (λ m. are_names (schema.argument_names m)) (methods_of h.declared.kind) && are_ascending (constant_names h.declared)) named_so in
        let args = (and_parts (list_all (λ m. are_names (schema.argument_names m)) (methods_of h.declared.kind)) (are_ascending (constant_names h.declared)) two.1).0 in
        let texts : map key (map member_name (members (body e.tree))) ≡ member_names S w h.declared = map_twice key member_name text_of (λ m. refl) (members (body e.tree)) ∙ names_are in
        let all = pass has_argument_names argument_names_bare (named_own S h.declared.kind args) (all_mapped S has_argument_names (λ c. constant (constant_tree S c)) h.declared.constants (λ k c f. refl)) (λ t. refl) in
        ap (λ ns. map (λ n. spot_of e.file n.offset) ns ++ flat_map (λ m. repeated e.file (argument_names m)) (members (body e.tree))) (names_once (map member_name (members (body e.tree))) (ap are_names texts ∙ two.0))
        ∙ flat_none (λ m. repeated e.file (argument_names m)) (members (body e.tree)) (λ k m f. ap (λ ns. map (λ n. spot_of e.file n.offset) ns) (names_once (argument_names m) (each_passes has_argument_names (members (body e.tree)) all k m f)))

    -- E4 and E5
    types_fine : (number : ℕ) → list_all (has_fine_types S (is_fine S H sorted A files are e.file number) (base_fine S H sorted A files are e.file number h.source h.placed) (list_fine S H sorted A files are e.file number h.source h.placed)) (members (body e.tree)) ≡ true
    types_fine number =
        let fine = is_fine S H sorted A files are e.file number in
        let a = base_fine S H sorted A files are e.file number h.source h.placed in let b = list_fine S H sorted A files are e.file number h.source h.placed in
        let d = H w h.declared h.at in
        pass (has_fine_types S fine a b) (λ m. ap (list_all fine) (type_names_bare m)) (own_fine S fine a b h.declared.kind d.field_types d.method_types) (constants_fine S fine a b h.declared.constants d.values) (λ t. refl)

    found_none : (number : ℕ) (test : ℕ → ℕ → List Ident → Bool) → ((is : List Ident) → is_fine S H sorted A files are e.file number is ≡ true → test e.file number is ≡ false) → types_in test number e ≡ []
    found_none number test h =
        ap (λ ds. map (λ d. spot_of e.file d.offset) ds) (filter_flat (λ d. test e.file number d.name.0) type_names (members (body e.tree)) (λ k m f.
        filter_fine (is_fine S H sorted A files are e.file number) (test e.file number) h (type_names m) (each_passes _ (members (body e.tree)) (types_fine number) k m f)))

    few_members : has_many_members e ≡ false
    few_members =
        let n : length (members (body e.tree)) ≡ length (member_names S w h.declared) = sym (length-map (members (body e.tree)) text_of) ∙ ap length names_are in
        ap (λ (k : ℕ). nat_lt 4096 k) n ∙ at_most (length (member_names S w h.declared)) 4096 (and_parts (nat_le (length (member_names S w h.declared)) 4096) _ few_so).0

    short_methods : has_long_method e ≡ false
    short_methods = none_long (members (body e.tree)) (pass is_short short_bare (short_own S h.declared.kind (H w h.declared h.at).few_arguments) (all_mapped S is_short (λ c. constant (constant_tree S c)) h.declared.constants (λ k c f. refl)) (λ t. refl))

    no_word : meaning_of_word (text (declared_name e.tree).name) ≡ None
    no_word =
        let i = ident (last_part h.declared.name.0) in let p = (H w h.declared h.at).name in let two = name_parts h.declared.name.0 p in
        let is : (declared_name e.tree).name ≡ i = sym (name_bare e.tree) ∙ ap (λ t. (declared_name t).name) h.written in
        ap (λ n. meaning_of_word (text n)) is ∙ word_free i (last_named h.declared.name.0 two.0 two.1) (last_free h.declared.name.0 p)

  -- E2, of declarations
  pub taken_none : taken (declarations files) ≡ []
  taken_none =
      ap (λ es. map (λ e. spot_of e.file (declared_name e.tree).offset) es) (after_none is_taken [] (declarations files) (λ k e at.
      let r = are.each k e at in
      ap (λ b. b || is_some (meaning_of_word (text (declared_name e.tree).name))) (any_none (λ d. same d.name e.name) (take k (declarations files)) (λ j f there.
      let t = take_at (declarations files) k j f there in let lt = t.0 in
      by (same f.name e.name) refl (λ alike.
      let o = one_declared S H sorted A files are r.0 r.2.declared r.2.at j f t.1 (ap (λ n. same f.name n) (sym r.2.named) ∙ alike) in
      let is : j ≡ k = place_once S H sorted j k r.0 r.2.declared r.2.at o.0 r.1 in absurd (omega arith))))
      ∙ ap is_some (no_word r.0 e r.2))) where
        by : (b : Bool) → b ≡ b → (b ≡ true → ⊥) → b ≡ false
        by true e h = absurd (h refl)
        by false e h = refl

  pub inside_none : flat_map repeated_inside (declarations files) ≡ []
  inside_none = flat_none repeated_inside (declarations files) (λ k e at. let r = are.each k e at in inside_once r.0 e r.2)

  pub unknown_none : UnknownType files ≡ []
  unknown_none = each_none _ 0 (declarations files) (λ k e at. let r = are.each k e at in
      found_none r.0 e r.2 (0 + k) (λ file scope is. is_unknown (resolved files file scope is)) (λ is h. (left_false (is_unknown (resolved files e.file (0 + k) is)) (is_left_out (declarations files) (resolved files e.file (0 + k) is)) h).0))

  pub left_out_none : LeftOutType files ≡ []
  left_out_none = each_none _ 0 (declarations files) (λ k e at. let r = are.each k e at in
      found_none r.0 e r.2 (0 + k) (λ file scope is. is_left_out (declarations files) (resolved files file scope is)) (λ is h. (left_false (is_unknown (resolved files e.file (0 + k) is)) (is_left_out (declarations files) (resolved files e.file (0 + k) is)) h).1))

  pub passed_none : passed (declarations files) ≡ None
  passed_none =
      let n : length (declarations files) ≡ length S = sym are.count ∙ walks_length S H sorted in
      let es = declarations files in
      ap (λ b. if b then Some limit.Declarations else (if list_any has_many_members es then Some limit.Members else (if list_any has_long_method es then Some limit.Arguments else None))) (ap (λ (k : ℕ). nat_lt 16384 k) n ∙ below (length S) 16384 few)
      ∙ ap (λ b. if b then Some limit.Members else (if list_any has_long_method es then Some limit.Arguments else None)) (any_none has_many_members es (λ k e at. let r = are.each k e at in few_members r.0 e r.2))
      ∙ ap (λ b. if b then Some limit.Arguments else None) (any_none has_long_method es (λ k e at. let r = are.each k e at in short_methods r.0 e r.2))
