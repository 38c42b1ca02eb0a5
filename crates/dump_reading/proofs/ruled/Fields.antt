-- The initializers of a dump break no rule on their form.
use Rattle.std.proofs.Common.{◌≡◌, ℕ, Bool, true, false, not, ◌&&◌, ◌||◌, cond, if◌then◌else◌, List, [], ◌∷◌, ◌++◌, map, Option, Some, None, slice_get, refl, sym, ap, ◌∙◌}
use Rattle.std.specs.List.{list_all}
use Rattle.std.specs.Cmp.Lexicographic.{slice_cmp}
use Rattle.std.specs.List.Sorted.{IsStrictlySortedBy}
use Rattle.std.specs.Ordering.{nat_cmp}
use Rattle.std.proofs.lemmas.Bool.{and_parts}
use Rattle.aidl_base.specs.declared.constant.Const.{Const, out-Const}
use Rattle.aidl_base.specs.declared.constant.Const.TheOpen.{Const-F}
use Rattle.aidl_syntax.specs.declared.tree.TypeTree.{TypeTree}
use Rattle.aidl_syntax.specs.Trees as tree
use Rattle.aidl_syntax.specs.Trees.{Expr, Init, map_option}
use Rattle.aidl_syntax.specs.Trees.Init.{single, braces}
use Rattle.aidl_syntax.specs.Members.{Member}
use Rattle.aidl_syntax.specs.Members.Member.{field, constant, method, enumerator, nested}
use Rattle.name_resolution.specs.declared.meaning.Resolved.{Resolved}
use Rattle.aidl_syntax.specs.Sources.{Source}
use Rattle.declared_names.specs.Declarations.{Entry, declarations}
use Rattle.type_shapes.specs.declared.shape.Shape as types
use Rattle.type_shapes.specs.Initializers.{is_unjudged, is_some_list}
use Rattle.type_shapes.specs.Types.{is_composite, shape_in}
use Rattle.type_uses.specs.Bases.{is_refused}
use Rattle.type_uses.specs.TypeUses.{TypeUse, of_field, of_constant, of_method, of_argument, of_arg, of_members, is_field, name_place}
use Rattle.type_rules.specs.FieldRules.{is_bad_initial, is_bad_field, bad_fields}
use Rattle.aidl_schema.specs.declared.schema.Decl.{Decl}
use Rattle.aidl_schema.specs.declared.schema.Field.{Field}
use Rattle.aidl_schema.specs.declared.schema.AidlType.{AidlType}
use Rattle.aidl_schema.specs.declared.schema.Shape.{Shape}
use Rattle.aidl_schema.specs.declared.schema.Shape.TheVariants as shape
use Rattle.aidl_schema.specs.Constants.{is_constant_of, are_members, is_initializer_of, is_string}
use Rattle.aidl_schema.specs.Containment as containment
use Rattle.aidl_schema.specs.Holds.{AllHold, AreApart}
use Rattle.aidl_schema.specs.Methods.{is_field_type, is_whole_type, may_be_on_heap}
use Rattle.aidl_schema.specs.Names.{name_of}
use Rattle.aidl_schema.specs.Types.{form_of, is_type, is_one}
use Rattle.aidl_schema.specs.Valid.{has_initializer_of}
use Rattle.dump_reading.specs.Bare.{bare_expr, bare_init, bare_field}
use Rattle.dump_reading.specs.DumpTrees.{value_tree, brace_trees, initial_tree, field_tree}
use Rattle.dump_reading.proofs.filed.Numbers.{walks}
use Rattle.dump_reading.proofs.named.Entries.{AreEntries}
use Rattle.dump_reading.proofs.named.Members.{bare_member, all_bare}
use Rattle.dump_reading.proofs.settled.Shapes.{shape_of}
use Rattle.dump_reading.proofs.settled.Members.{constant_form, and_none, first_false, some_none, AreFields}
use Rattle.dump_reading.proofs.valued.WalkMembers.{is_no_field, field_bare}
use Rattle.dump_reading.proofs.ruled.Bases.{typed_here}

and_false : (b : Bool) → (b && false) ≡ false
and_false true = refl
and_false false = refl

-- Uses of no field.

abbrev is_other : TypeUse → Bool
is_other u = not (is_field u)

args_other : (sh : TypeTree → types.Shape) (args : List tree.Arg) (rest : List TypeUse) → list_all is_other rest ≡ true → list_all is_other (map (of_arg sh) args ++ rest) ≡ true
args_other sh [] rest h = h
args_other sh (a ∷ args) rest h = args_other sh args rest h

all_other : (sh : TypeTree → types.Shape) (ms : List Member) → list_all is_no_field ms ≡ true → list_all is_other (of_members sh ms) ≡ true
all_other sh [] h = refl
all_other sh (field f ∷ ms) h = cc
all_other sh (constant c ∷ ms) h = all_other sh ms h
all_other sh (method m ∷ ms) h = args_other sh m.args (of_members sh ms) (all_other sh ms h)
all_other sh (enumerator e ∷ ms) h = all_other sh ms h
all_other sh (nested d ∷ ms) h = all_other sh ms h

not_field : (entries : List Entry) (later : Bool) (u : TypeUse) → is_other u ≡ true → is_bad_field entries later u ≡ false
not_field entries later (of_field f t) h = cc
not_field entries later (of_constant c t) h = refl
not_field entries later (of_method m t) h = refl
not_field entries later (of_argument a t) h = refl

others_pass : (entries : List Entry) (in_union later : Bool) (us : List TypeUse) → list_all is_other us ≡ true → bad_fields entries in_union later us ≡ []
others_pass entries in_union later [] h = refl
others_pass entries in_union later (u ∷ us) h =
    let two = and_parts (is_other u) (list_all is_other us) h in
    ap (λ b. (if b then name_place u ∷ [] else []) ++ bad_fields entries in_union (later || (in_union && is_field u)) us) (not_field entries later u two.0)
    ∙ others_pass entries in_union (later || (in_union && is_field u)) us two.1

-- An initializer has the form that its type wants.
init_free : (S : List Decl) (entries : List Entry) (t : AidlType) (c : Const) → is_initializer_of S t c ≡ true → (r : Resolved) → is_composite entries r ≡ containment.is_composite (form_of S t.base) → (i : Init) → bare_init i ≡ initial_tree S t c
    → is_unjudged entries false (shape_of t.shape r) i ≡ false
init_free S entries t c h r comp i bare = by t.shape h i bare where
  list_free : (l : Const-F Const) → are_members (λ m. is_constant_of S t.base m) l ≡ true → (es : List Expr) → map bare_expr es ≡ brace_trees S t.base l → (is_composite entries r && is_some_list es) ≡ false
  list_free (Const-F.Members cs) h [] e = and_none (is_composite entries r)
  list_free (Const-F.Members []) h (x ∷ es) e = cc
  list_free (Const-F.Members (m ∷ cs)) h (x ∷ es) e =
      ap (λ b. b && true) (comp ∙ constant_form S t.base m (and_parts (is_constant_of S t.base m) (list_all (λ m. is_constant_of S t.base m) cs) h).0)
  list_free (Const-F.Truth x) h es e = cc
  list_free (Const-F.Number x) h es e = cc
  list_free (Const-F.Text x) h es e = cc

  by : (w : Shape) → cond (is_one w) (is_constant_of S t.base c) (are_members (λ m. is_constant_of S t.base m) (out-Const c)) ≡ true
      → (i : Init) → bare_init i ≡ cond (is_one w) (single (value_tree S t.base c)) (braces 0 (brace_trees S t.base (out-Const c))) → is_unjudged entries false (shape_of w r) i ≡ false
  by shape.One h (single e) bare = comp ∙ constant_form S t.base c h
  by shape.One h (braces o es) bare = cc
  by shape.Array h (single e) bare = cc
  by shape.List h (single e) bare = cc
  by shape.Array h (braces o es) bare = let here : map bare_expr es ≡ brace_trees S t.base (out-Const c) = cc in list_free (out-Const c) h es here
  by shape.List h (braces o es) bare = let here : map bare_expr es ≡ brace_trees S t.base (out-Const c) = cc in list_free (out-Const c) h es here

module _ (S : List Decl) (H : AllHold S) (sorted : IsStrictlySortedBy (slice_cmp nat_cmp) (map name_of S)) (A : AreApart name_of S) (files : List Source) (are : AreEntries S files (walks S) (declarations files))
    (file scope : ℕ) (s : Source) (in_file : slice_get files file ≡ Some s) where
  initial_fine : (later : Bool) (f : Field) → is_field_type S f ≡ true → has_initializer_of S f.ty f.initial ≡ true → (later ≡ true → f.initial ≡ None) → (x : tree.Field) → bare_field x ≡ field_tree S f
      → is_bad_initial (declarations files) later (shape_in files file scope x.ty) x.initial ≡ false
  initial_fine later f t v n x e = by x.initial f.initial v n (ap (λ y. y.initial) e) where
    by : (o : Option Init) (c : Option Const) → has_initializer_of S f.ty c ≡ true → (later ≡ true → c ≡ None) → map_option bare_init o ≡ map_option (λ c. initial_tree S f.ty c) c → is_bad_initial (declarations files) later (shape_in files file scope x.ty) o ≡ false
    by None c v n e = refl
    by (Some i) None v n e = cc
    by (Some i) (Some c) v n bare =
        let is : bare_init i ≡ initial_tree S f.ty c = cc in
        let whole = (and_parts (is_whole_type S f.ty) (not f.ty.heap || may_be_on_heap S f.ty) t).0 in
        let type_so = (and_parts (is_type S f.ty) (not f.ty.utf8 || is_string f.ty.base) whole).0 in
        let d = typed_here S H sorted A files are file scope s in_file f.ty type_so x.ty (ap (λ y. y.ty) e) in
        let free = first_false later (λ yes_so. some_none c (n yes_so)) in
        ap (λ l. not (is_refused (shape_in files file scope x.ty)) && is_unjudged (declarations files) l (shape_in files file scope x.ty) i) free
        ∙ ap (λ b. not (is_refused (shape_in files file scope x.ty)) && b) (ap (λ w. is_unjudged (declarations files) false w i) d.1 ∙ init_free S (declarations files) f.ty c v d.0 d.3 i is)
        ∙ and_false (not (is_refused (shape_in files file scope x.ty)))

  now_later : (later in_union : Bool) → (later || (in_union && true)) ≡ (later || in_union)
  now_later true b = refl
  now_later false true = refl
  now_later false false = refl

  -- E21, of the fields of a body
  pub fields_pass : (in_union later : Bool) (fs : List Field) → AreFields S in_union later fs → (more : List Member) → list_all is_no_field more ≡ true → (ms : List Member) → map bare_member ms ≡ map (λ f. field (field_tree S f)) fs ++ more
      → bad_fields (declarations files) in_union later (of_members (shape_in files file scope) ms) ≡ []
  fields_pass in_union later [] h more free ms e = others_pass (declarations files) in_union later (of_members (shape_in files file scope) ms) (all_other (shape_in files file scope) ms (sym (all_bare is_no_field field_bare ms) ∙ ap (list_all is_no_field) e ∙ free))
  fields_pass in_union later (f ∷ fs) h more free [] e = cc
  fields_pass in_union later (f ∷ fs) h more free (field x ∷ ms) e =
      let here : bare_field x ≡ field_tree S f = cc in let others : map bare_member ms ≡ map (λ f. field (field_tree S f)) fs ++ more = cc in
      let us = of_members (shape_in files file scope) ms in
      ap (λ b. (if b then x.name.offset ∷ [] else []) ++ bad_fields (declarations files) in_union (later || (in_union && true)) us) (initial_fine later f h.0 h.1 h.2 x here)
      ∙ ap (λ l. bad_fields (declarations files) in_union l us) (now_later later in_union) ∙ fields_pass in_union (later || in_union) fs h.3 more free ms others
  fields_pass in_union later (f ∷ fs) h more free (constant x ∷ ms) e = cc
  fields_pass in_union later (f ∷ fs) h more free (method x ∷ ms) e = cc
  fields_pass in_union later (f ∷ fs) h more free (enumerator x ∷ ms) e = cc
  fields_pass in_union later (f ∷ fs) h more free (nested x ∷ ms) e = cc
