-- The types, arguments and methods that the trees of a dump give are those of the schema.
use Rattle.std.proofs.Common.{◌≡◌, ℕ, ◌+◌, ◌≤◌, nat_le, Bool, true, false, not, ◌||◌, if◌then◌else◌, List, [], ◌∷◌, map, Option, Some, None, slice_get, zero, suc, refl, sym, ap, ◌∙◌, arith}
use Rattle.std.specs.List.{list_all}
use Rattle.std.specs.Cmp.Lexicographic.{slice_cmp}
use Rattle.std.specs.List.Sorted.{IsStrictlySortedBy}
use Rattle.std.specs.Ordering.{nat_cmp}
use Rattle.std.proofs.lemmas.Bool.{and_parts}
use Rattle.std.proofs.lemmas.Bool.Decides.{nat_tests}
use Rattle.aidl_syntax.specs.declared.tree.TypeTree.{TypeTree}
use Rattle.aidl_syntax.specs.Trees as tree
use Rattle.aidl_syntax.specs.Trees.{Annot, map_option}
use Rattle.aidl_syntax.specs.Members.{Member}
use Rattle.aidl_syntax.specs.Members.Member.{field, constant, method, enumerator, nested}
use Rattle.name_resolution.specs.declared.meaning.Resolved.{Resolved}
use Rattle.aidl_syntax.specs.Sources.{Source}
use Rattle.declared_names.specs.Declarations.{declarations}
use Rattle.type_uses.specs.Ids.{id_of, id_by, number_of_kind}
use Rattle.type_uses.specs.Kept.{is_nullable, is_heap, is_utf8}
use Rattle.tree_schema.specs.Parts.{way_of, arg_in, kept_id, method_in, method_with, methods_in}
use Rattle.tree_schema.specs.Types.{base_of, base_of_number, typed, type_of}
use Rattle.aidl_schema.specs.declared.schema.Decl.{Decl}
use Rattle.aidl_schema.specs.declared.schema.Arg.{Arg}
use Rattle.aidl_schema.specs.declared.schema.Method.{Method}
use Rattle.aidl_schema.specs.declared.schema.AidlType.{AidlType}
use Rattle.aidl_schema.specs.declared.schema.Base.{Base}
use Rattle.aidl_schema.specs.declared.schema.Base.TheVariants as base
use Rattle.aidl_schema.specs.declared.schema.Direction.{Direction}
use Rattle.aidl_schema.specs.declared.schema.Direction.TheVariants as direction
use Rattle.aidl_schema.specs.declared.schema.Shape.{Shape}
use Rattle.aidl_schema.specs.declared.schema.Shape.TheVariants as shape
use Rattle.aidl_schema.specs.Constants.{is_string}
use Rattle.aidl_schema.specs.Holds.{AllHold, AreApart}
use Rattle.aidl_schema.specs.Methods.{is_whole_type, is_passed_type, is_result_type, has_method_types, last_id}
use Rattle.aidl_schema.specs.Names.{name_of, has_names}
use Rattle.aidl_schema.specs.Types.{is_type}
use Rattle.api_dump.specs.Types.{base_name}
use Rattle.dump_reading.specs.Bare.{bare_annot, bare_type, bare_arg, bare_method}
use Rattle.dump_reading.specs.DumpTrees.{type_tree, arg_tree, method_tree, returned_tree, returned_annots, way_tree}
use Rattle.dump_reading.proofs.filed.Numbers.{walks}
use Rattle.dump_reading.proofs.named.Entries.{AreEntries}
use Rattle.dump_reading.proofs.named.Resolved.{number_is}
use Rattle.dump_reading.proofs.settled.Shapes.{shape_of}
use Rattle.dump_reading.proofs.ruled.Marks.{marks, nullable_kept, heap_kept, utf8_kept}
use Rattle.dump_reading.proofs.ruled.Bases.{IsBase, typed_here}
use Rattle.dump_reading.proofs.ruled.Uses.{no_type, the_type}
use Rattle.dump_reading.proofs.ruled.Ids.{among, token_is}
use Rattle.dump_reading.proofs.drafted.Order.{number_back}

ways_are : (w : Direction) → way_of (Some (way_tree w)) ≡ w
ways_are direction.In = refl
ways_are direction.Out = refl
ways_are direction.InOut = refl

kept_small : (n : ℕ) → n ≤ 16777114 → kept_id n ≡ n
kept_small n le = ap (λ b. if b then n else 0) (small n le) where
  small : (n : ℕ) → n ≤ 16777114 → nat_le n 16777114 ≡ true
  small n le = grind (arith, nat_tests)

or_false : (b : Bool) → (b || false) ≡ b
or_false true = refl
or_false false = refl

module _ (S : List Decl) (H : AllHold S) (sorted : IsStrictlySortedBy (slice_cmp nat_cmp) (map name_of S)) (A : AreApart name_of S) (named : has_names S ≡ true) (files : List Source) (are : AreEntries S files (walks S) (declarations files)) where
  base_back : (b : Base) (r : Resolved) → IsBase S H sorted A files are b r → base_of (declarations files) r ≡ b
  base_back base.Boolean r i = ap (base_of (declarations files)) i
  base_back base.Byte r i = ap (base_of (declarations files)) i
  base_back base.Char r i = ap (base_of (declarations files)) i
  base_back base.Int r i = ap (base_of (declarations files)) i
  base_back base.Long r i = ap (base_of (declarations files)) i
  base_back base.Text r i = ap (base_of (declarations files)) i
  base_back (base.Named n) r i =
      let k = number_is S H sorted A files are n i.0 i.1 in
      ap (base_of (declarations files)) i.2 ∙ ap base_of_number (number_back S H sorted A named files are k.0 n i.0 i.1 k.2)

  typed_back : (annots : List Annot) (w : Shape) (r : Resolved) → typed (declarations files) annots (shape_of w r) ≡ record { base = base_of (declarations files) r; shape = w; nullable = is_nullable annots; heap = is_heap annots; utf8 = is_utf8 annots }
  typed_back annots shape.One r = refl
  typed_back annots shape.Array r = refl
  typed_back annots shape.List r = refl

  module _ (file scope : ℕ) (s : Source) (in_file : slice_get files file ≡ Some s) where
    -- a type with its annotations
    pub type_back : (t : AidlType) → is_type S t ≡ true → (t.heap ≡ true → t.nullable ≡ true) → (ty : TypeTree) → bare_type ty ≡ type_tree t.shape (base_name S t.base) → (annots : List Annot) → map bare_annot annots ≡ marks t.nullable t.heap t.utf8
        → type_of files file scope annots ty ≡ t
    type_back t h heaped ty e annots m =
        let d = typed_here S H sorted A files are file scope s in_file t h ty e in
        ap (typed (declarations files) annots) d.1 ∙ typed_back annots t.shape d.0
        ∙ ap (λ b. let x : AidlType = record { base = b; shape = t.shape; nullable = is_nullable annots; heap = is_heap annots; utf8 = is_utf8 annots } in x) (base_back t.base d.0 d.2)
        ∙ ap (λ b. let x : AidlType = record { base = t.base; shape = t.shape; nullable = b; heap = is_heap annots; utf8 = is_utf8 annots } in x) (nullable_kept annots t.nullable t.heap t.utf8 m)
        ∙ ap (λ b. let x : AidlType = record { base = t.base; shape = t.shape; nullable = t.nullable; heap = b; utf8 = is_utf8 annots } in x) (heap_kept annots t.nullable t.heap t.utf8 heaped m)
        ∙ ap (λ b. let x : AidlType = record { base = t.base; shape = t.shape; nullable = t.nullable; heap = t.heap; utf8 = b } in x) (utf8_kept annots t.nullable t.heap t.utf8 m)

    -- the base of a constant's type
    pub one_back : (b : Base) → is_type S (record { base = b; shape = shape.One; nullable = false; heap = false; utf8 = false }) ≡ true → (ty : TypeTree) → bare_type ty ≡ type_tree shape.One (base_name S b) → (annots : List Annot)
        → (type_of files file scope annots ty).base ≡ b
    one_back b h ty e annots =
        let d = typed_here S H sorted A files are file scope s in_file (record { base = b; shape = shape.One; nullable = false; heap = false; utf8 = false }) h ty e in
        ap (λ w. (typed (declarations files) annots w).base) d.1 ∙ base_back b d.0 d.2

    no_heap : (t : AidlType) → not t.heap ≡ true → t.heap ≡ true → t.nullable ≡ true
    no_heap t h k = let is : false ≡ true = ap not (sym k) ∙ h in cc

    passed_back : (t : AidlType) → is_passed_type S t ≡ true → (ty : TypeTree) → bare_type ty ≡ type_tree t.shape (base_name S t.base) → (annots : List Annot) → map bare_annot annots ≡ marks t.nullable t.heap t.utf8 → type_of files file scope annots ty ≡ t
    passed_back t h ty e annots m =
        let two = and_parts (is_whole_type S t) (not t.heap) h in
        type_back t (and_parts (is_type S t) (not t.utf8 || is_string t.base) two.0).0 (no_heap t two.1) ty e annots m

    args_back : (args : List Arg) → list_all (λ a. is_passed_type S a.ty) args ≡ true → (xs : List tree.Arg) → map bare_arg xs ≡ map (λ a. arg_tree S a) args → map (arg_in files file scope) xs ≡ args
    args_back [] h [] e = refl
    args_back (a ∷ args) h [] e = cc
    args_back [] h (x ∷ xs) e = cc
    args_back (a ∷ args) h (x ∷ xs) e =
        let two = and_parts (is_passed_type S a.ty) (list_all (λ a. is_passed_type S a.ty) args) h in
        let here : bare_arg x ≡ arg_tree S a = cc in let rest : map bare_arg xs ≡ map (λ a. arg_tree S a) args = cc in
        let one : arg_in files file scope x ≡ a =
        ap (λ n. let z : Arg = record { name = n; way = way_of x.way; ty = type_of files file scope x.annots x.ty } in z) (ap (λ y. y.name.name) here)
        ∙ ap (λ w. let z : Arg = record { name = a.name; way = w; ty = type_of files file scope x.annots x.ty } in z) (ap (λ y. way_of y.way) here ∙ ways_are a.way)
        ∙ ap (λ t. let z : Arg = record { name = a.name; way = a.way; ty = t } in z) (passed_back a.ty two.0 x.ty (ap (λ y. y.ty) here) x.annots (ap (λ y. y.annots) here)) in
        ap (λ z. z ∷ map (arg_in files file scope) xs) one ∙ ap (λ zs. a ∷ zs) (args_back args two.1 xs rest)

    result_back : (o : Option AidlType) → is_result_type S o ≡ true → (annots : List Annot) → map bare_annot annots ≡ returned_annots o → (ty : Option TypeTree) → map_option bare_type ty ≡ returned_tree S o → map_option (type_of files file scope annots) ty ≡ o
    result_back None h annots m ty e = ap (map_option (type_of files file scope annots)) (no_type ty e)
    result_back (Some t) h annots m ty e =
        let d = the_type ty (type_tree t.shape (base_name S t.base)) e in
        ap (map_option (type_of files file scope annots)) d.1 ∙ ap Some (passed_back t h d.0 d.2 annots m)

    method_back : (m : Method) → has_method_types S m ≡ true → m.id ≤ last_id → (x : tree.Method) → bare_method x ≡ method_tree S m → (before : ℕ) → method_in files file scope false (id_of before x) x ≡ m
    method_back m h small x e before =
        let two = and_parts (is_result_type S m.result) (list_all (λ a. is_passed_type S a.ty) m.args) h in
        let t = token_is x.id m.id (ap (λ y. y.id) e) in
        let id : kept_id (id_of before x) ≡ m.id = ap (λ o. kept_id (id_by before o)) t.1 ∙ ap (λ k. kept_id (number_of_kind k)) t.2 ∙ kept_small m.id small in
        ap (λ (n : ℕ). method_with files file scope false n x) id
        ∙ ap (λ n. let z : Method = record { name = n; id = m.id; oneway = x.oneway || false; result = map_option (type_of files file scope x.annots) x.returned; args = map (arg_in files file scope) x.args } in z) (ap (λ y. y.name.name) e)
        ∙ ap (λ b. let z : Method = record { name = m.name; id = m.id; oneway = b; result = map_option (type_of files file scope x.annots) x.returned; args = map (arg_in files file scope) x.args } in z) (or_false x.oneway ∙ ap (λ y. y.oneway) e)
        ∙ ap (λ r. let z : Method = record { name = m.name; id = m.id; oneway = m.oneway; result = r; args = map (arg_in files file scope) x.args } in z) (result_back m.result two.0 x.annots (ap (λ y. y.annots) e) x.returned (ap (λ y. y.returned) e))
        ∙ ap (λ l. let z : Method = record { name = m.name; id = m.id; oneway = m.oneway; result = m.result; args = l } in z) (args_back m.args two.1 x.args (ap (λ y. y.args) e))

    -- methods, the first of them behind so many
    abbrev listed_methods : ℕ → List tree.Method → List Method
    listed_methods before [] = []
    listed_methods before (m ∷ ms) = method_in files file scope false (id_of before m) m ∷ listed_methods (before + 1) ms

    among_methods : (before : ℕ) (ms : List Member) → methods_in files file scope false before ms ≡ listed_methods before (among ms)
    among_methods before [] = refl
    among_methods before (method m ∷ ms) = ap (λ zs. method_in files file scope false (id_of before m) m ∷ zs) (among_methods (before + 1) ms)
    among_methods before (field f ∷ ms) = among_methods before ms
    among_methods before (constant c ∷ ms) = among_methods before ms
    among_methods before (enumerator e ∷ ms) = among_methods before ms
    among_methods before (nested d ∷ ms) = among_methods before ms

    listed_back : (ms : List Method) → ((k : ℕ) (m : Method) → slice_get ms k ≡ Some m → (has_method_types S m ≡ true) × (m.id ≤ last_id)) → (xs : List tree.Method) → map bare_method xs ≡ map (λ m. method_tree S m) ms → (before : ℕ) → listed_methods before xs ≡ ms
    listed_back [] h [] e before = refl
    listed_back (m ∷ ms) h [] e before = cc
    listed_back [] h (x ∷ xs) e before = cc
    listed_back (m ∷ ms) h (x ∷ xs) e before =
        let here : bare_method x ≡ method_tree S m = cc in let rest : map bare_method xs ≡ map (λ m. method_tree S m) ms = cc in
        let q = h zero m refl in
        ap (λ z. z ∷ listed_methods (before + 1) xs) (method_back m q.0 q.1 x here before) ∙ ap (λ zs. m ∷ zs) (listed_back ms (λ k n at. h (suc k) n at) xs rest (before + 1))

    pub methods_back : (ms : List Method) → ((k : ℕ) (m : Method) → slice_get ms k ≡ Some m → (has_method_types S m ≡ true) × (m.id ≤ last_id)) → (xs : List Member) → map bare_method (among xs) ≡ map (λ m. method_tree S m) ms → methods_in files file scope false 0 xs ≡ ms
    methods_back ms h xs e = among_methods 0 xs ∙ listed_back ms h (among xs) e 0
