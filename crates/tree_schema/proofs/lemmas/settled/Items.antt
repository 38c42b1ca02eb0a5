-- The items of a tree: what holds of those of each declaration holds of all. None is left unjudged where E16 and E21 aren't broken.
use Rattle.std.proofs.Common.{◌≡◌, ◌+◌, ℕ, suc, Bool, true, false, not, ◌&&◌, ◌||◌, nat_cmp, Ordering, Less, Equal, Greater, if◌then◌else◌, List, [], ◌∷◌, ◌++◌, map, fold, Option, Some, None, slice_get, refl, sym, ap, ◌∙◌, subst, arith}
use Rattle.std.specs.Cmp.Lexicographic.{slice_cmp}
use Rattle.std.specs.Ordering.{match_ordering, ordering_then}
use Rattle.aidl_schema.proofs.lemmas.Places.{both_empty}
use Rattle.aidl_syntax.specs.declared.tree.TypeTree.{TypeTree}
use Rattle.aidl_syntax.specs.Trees.{Arg, Init, Expr, Body, Enumerator}
use Rattle.aidl_syntax.specs.Trees.Body.{parcelable, union, enum, interface}
use Rattle.aidl_syntax.specs.Trees.Init.{single, braces}
use Rattle.aidl_syntax.specs.Members.{Member, members, listed, body}
use Rattle.aidl_syntax.specs.Members.Member.{field, constant, method, enumerator, nested}
use Rattle.aidl_names.specs.Breaches.{breaches}
use Rattle.declared_names.specs.Declarations.{Entry, declarations}
use Rattle.declared_names.specs.Numbered.{in_each}
use Rattle.aidl_syntax.specs.Sources.{Source}
use Rattle.const_values.specs.declared.wanted.Wanted.{Wanted}
use Rattle.type_shapes.specs.declared.shape.Shape.{Shape}
use Rattle.type_shapes.specs.Backing.{backing_of}
use Rattle.type_shapes.specs.Initializers.{is_unjudged}
use Rattle.type_shapes.specs.Types.{shape_in}
use Rattle.const_items.specs.Items.{Item, items, declared, order, put, of_entry, of_body, of_members, of_field, of_initial, of_init, of_expression, of_enumerators, place_of}
use Rattle.type_uses.specs.Bases.{is_refused}
use Rattle.type_uses.specs.TypeUses as uses
use Rattle.type_uses.specs.TypeUses.{TypeUse, of_arg, of_member, is_field, name_place}
use Rattle.type_rules.specs.FieldRules.{bad_fields, is_bad_field, is_bad_initial, is_union_body, empty_union}
use Rattle.type_rules.specs.MethodRules.{is_oneway_body}
use Rattle.type_rules.specs.Unbroken.{AreUnbroken}
use Rattle.tree_schema.proofs.lemmas.walked.Placed.{placed, placed-by, Each, each-at, all-each}
use Rattle.tree_schema.proofs.typed.Uses.{IsFineMember, members-fine}

-- by what an item has its place
abbrev pub key : Item → List ℕ
key x = x.file ∷ x.place ∷ []

then_equal : (o : Ordering) → o ≡ ordering_then o Equal
then_equal Less = refl
then_equal Equal = refl
then_equal Greater = refl

order_is : (x y : Item) → slice_cmp nat_cmp (key x) (key y) ≡ order x y
order_is x y = ap (ordering_then (nat_cmp x.file y.file)) (sym (then_equal (nat_cmp x.place y.place)))

pub items-are : (files : List Source) → items files ≡ fold (placed key) [] (declared files)
unfolding items
items-are files = placed-by key put (λ x. refl) (λ y more x. ap (λ o. match_ordering o (x ∷ y ∷ more) (x ∷ more) (y ∷ put more x)) (sym (order_is x y))) [] (declared files)

each_join : {X : Type 0} (P : X → Type 0) (xs ys : List X) → Each P xs → Each P ys → Each P (xs ++ ys)
each_join P [] ys h k = k
each_join P (x ∷ xs) ys h k = (h.0, each_join P xs ys h.1 k)

each_in : (P : Item → Type 0) (find : ℕ → Entry → List Item) (k : ℕ) (es : List Entry) → ((n : ℕ) (e : Entry) → slice_get es n ≡ Some e → Each P (find (k + n) e)) → Each P (in_each find k es)
each_in P find k [] h = tt
each_in P find k (e ∷ es) h =
    let at : k + 0 ≡ k = omega arith in
    each_join P (find k e) (in_each find (k + 1) es) (subst (λ (j : ℕ). Each P (find j e)) at (h 0 e refl))
    (each_in P find (k + 1) es (λ n d there. let on : k + suc n ≡ (k + 1) + n = omega arith in subst (λ (j : ℕ). Each P (find j d)) on (h (suc n) d there)))

-- what holds of the items of each declaration
pub each-declared : (P : Item → Type 0) (files : List Source) → ((n : ℕ) (e : Entry) → slice_get (declarations files) n ≡ Some e → Each P (of_entry files n e)) → Each P (declared files)
each-declared P files h = each_in P (of_entry files) 0 (declarations files) (λ n e at. let on : n ≡ 0 + n = omega arith in subst (λ (j : ℕ). Each P (of_entry files j e)) on (h n e at))

-- holds of each item
pub each-item : (P : Item → Type 0) (files : List Source) → Each P (declared files) → Each P (items files)
each-item P files h = subst (Each P) (sym (items-are files)) (all-each key P [] (declared files) tt h)

-- An item that is judged.
abbrev pub IsJudged : Item → Type 0
IsJudged x = x.unjudged ≡ false

not_later : (later in_union : Bool) → (later || (in_union && false)) ≡ later
not_later true in_union = refl
not_later false true = refl
not_later false false = refl

now_later : (later in_union : Bool) → (later || (in_union && true)) ≡ (later || in_union)
now_later true in_union = refl
now_later false true = refl
now_later false false = refl

no_one : {X : Type 0} (b : Bool) (x : X) (rest : List X) → (if b then x ∷ [] else []) ++ rest ≡ [] → (b ≡ false) × (rest ≡ [])
no_one true x rest e = cc
no_one false x rest e = (refl, e)

module _ (files : List Source) (file scope : ℕ) where
  expressions_judged : (w : Wanted) (es : List Expr) → Each IsJudged (map (of_expression file scope w false) es)
  expressions_judged w [] = tt
  expressions_judged w (e ∷ es) = (refl, expressions_judged w es)

  init_judged : (t : Shape) (unjudged : Bool) (i : Init) → unjudged ≡ false → Each IsJudged (of_init (declarations files) file scope t unjudged i)
  init_judged t true i e = cc
  init_judged t false (single x) e = (refl, tt)
  init_judged t false (braces offset es) e = expressions_judged _ es

  initial_judged : (later : Bool) (ty : TypeTree) (o : Option Init) → is_refused (shape_in files file scope ty) ≡ false → is_bad_initial (declarations files) later (shape_in files file scope ty) o ≡ false
      → Each IsJudged (of_initial files file scope later ty o)
  initial_judged later ty None refused h = tt
  initial_judged later ty (Some i) refused h =
      let u = is_unjudged (declarations files) later (shape_in files file scope ty) i in
      let judged : u ≡ false = ap (λ b. not b && u) (sym refused) ∙ h in
      init_judged (shape_in files file scope ty) u i judged

  args_pass : (in_union later : Bool) (args : List Arg) (rest : List TypeUse) → bad_fields (declarations files) in_union later (map (of_arg (shape_in files file scope)) args ++ rest) ≡ []
      → bad_fields (declarations files) in_union later rest ≡ []
  args_pass in_union later [] rest h = h
  args_pass in_union later (a ∷ args) rest h =
      args_pass in_union later args rest (subst (λ b. bad_fields (declarations files) in_union b (map (of_arg (shape_in files file scope)) args ++ rest) ≡ []) (not_later later in_union) h)

  members_judged : (oneway in_union later : Bool) (ms : List Member) → Each (IsFineMember files file scope oneway) ms
      → bad_fields (declarations files) in_union later (uses.of_members (shape_in files file scope) ms) ≡ [] → Each IsJudged (of_members files file scope in_union later ms)
  members_judged oneway in_union later [] h bad = tt
  members_judged oneway in_union later (field f ∷ ms) h bad =
      let sh = shape_in files file scope in
      let two = no_one (is_bad_field (declarations files) later (uses.of_field f (sh f.ty))) f.name.offset (bad_fields (declarations files) in_union (later || (in_union && true)) (uses.of_members sh ms)) bad in
      let rest = subst (λ b. bad_fields (declarations files) in_union b (uses.of_members sh ms) ≡ []) (now_later later in_union) two.1 in
      each_join IsJudged (of_field files file scope later f) (of_members files file scope in_union (later || in_union) ms) (initial_judged later f.ty f.initial h.0.0.0.shaped two.0)
      (members_judged oneway in_union (later || in_union) ms h.1 rest)
  members_judged oneway in_union later (constant c ∷ ms) h bad =
      let rest = subst (λ b. bad_fields (declarations files) in_union b (uses.of_members (shape_in files file scope) ms) ≡ []) (not_later later in_union) bad in
      (refl, members_judged oneway in_union later ms h.1 rest)
  members_judged oneway in_union later (method m ∷ ms) h bad =
      let sh = shape_in files file scope in
      let args = subst (λ b. bad_fields (declarations files) in_union b (map (of_arg sh) m.args ++ uses.of_members sh ms) ≡ []) (not_later later in_union) bad in
      members_judged oneway in_union later ms h.1 (args_pass in_union later m.args (uses.of_members sh ms) args)
  members_judged oneway in_union later (enumerator e ∷ ms) h bad = members_judged oneway in_union later ms h.1 bad
  members_judged oneway in_union later (nested d ∷ ms) h bad = members_judged oneway in_union later ms h.1 bad

  enumerators_judged : (w : Wanted) (before : Option ℕ) (es : List Enumerator) → Each IsJudged (of_enumerators file scope w before es)
  enumerators_judged w before [] = tt
  enumerators_judged w before (e ∷ es) = (refl, enumerators_judged w (Some (place_of e)) es)

  body_judged : (oneway : Bool) (w : Wanted) (b : Body) → Each (IsFineMember files file scope oneway) (members b)
      → bad_fields (declarations files) (is_union_body b) false (uses.of_members (shape_in files file scope) (members b)) ≡ [] → Each IsJudged (of_body files file scope w b)
  body_judged oneway w (parcelable ms) h bad = members_judged oneway false false (listed ms) h bad
  body_judged oneway w (union ms) h bad = members_judged oneway true false (listed ms) h bad
  body_judged oneway w (interface way ms) h bad = members_judged oneway false false (listed ms) h bad
  body_judged oneway w (enum es) h bad = enumerators_judged w None es

module _ (files : List Source) (unbroken : breaches files ≡ []) (fine : AreUnbroken files) where
  entry_judged : (n : ℕ) (e : Entry) → slice_get (declarations files) n ≡ Some e → Each IsJudged (of_entry files n e)
  entry_judged n e at =
      let uses_here = uses.type_uses files n e in
      let fields = both_empty (empty_union e uses_here) (bad_fields (declarations files) (is_union_body (body e.tree)) false uses_here) (fine n e at).fields in
      body_judged files e.file n (is_oneway_body (body e.tree)) (backing_of e.tree) (body e.tree) (members-fine files unbroken fine n e at) fields.1

  -- no item is left unjudged for its form
  pub none-unjudged : (n : ℕ) (x : Item) → slice_get (items files) n ≡ Some x → x.unjudged ≡ false
  none-unjudged n x at = each-at IsJudged (items files) (each-item IsJudged files (each-declared IsJudged files entry_judged)) n x at
