-- What holds of each use of a type in a tree that breaks none of the rules on types.
use Rattle.std.proofs.Common.{◌≡◌, ◌+◌, ℕ, zero, suc, Bool, true, false, not, ◌&&◌, ◌||◌, if◌then◌else◌, List, [], ◌∷◌, ◌++◌, map, filter, flat_map, Some, slice_get, refl, sym, ap, ◌∙◌, subst, arith}
use Rattle.std.specs.List.{list_any}
use Rattle.aidl_base.proofs.lemmas.Tests.{neither}
use Rattle.aidl_schema.proofs.lemmas.Places.{both_empty, each_empty}
use Rattle.aidl_schema.proofs.lemmas.Sames.{same_text_is}
use Rattle.aidl_syntax.specs.declared.tree.DottedTree.{DottedTree}
use Rattle.aidl_syntax.specs.Trees.{Annot}
use Rattle.aidl_syntax.specs.Members.{Member, members, body}
use Rattle.aidl_names.specs.Breaches.{breaches}
use Rattle.declared_names.specs.Declarations.{Entry, declarations}
use Rattle.declared_names.specs.Names.{text}
use Rattle.name_resolution.specs.Resolution.{resolved}
use Rattle.aidl_names.specs.Rules.{is_left_out, types_in}
use Rattle.declared_names.specs.TypeNames.{type_names}
use Rattle.declared_names.specs.Numbered.{in_each, after_earlier}
use Rattle.aidl_syntax.specs.Sources.{Source}
use Rattle.type_shapes.specs.Types.{shape_in}
use Rattle.type_uses.specs.declared.annotation.Annotation.{Annotation}
use Rattle.type_uses.specs.declared.stand.Stand.{Stand}
use Rattle.type_uses.specs.Annotations.{row_of_name, may_stand, takes, is_kept}
use Rattle.type_uses.specs.Kept.{is_called, is_nullable_annot, is_heap_annot}
use Rattle.type_uses.specs.Parameters.{is_heap_true}
use Rattle.type_uses.specs.TypeUses.{TypeUse, of_member, type_uses, annotations_of, stand_of}
use Rattle.type_rules.specs.AnnotationRules.{bad_annotations, is_bad_annotation, breaks_row, is_again}
use Rattle.type_rules.specs.TypeRules.{is_bad_constant}
use Rattle.type_rules.specs.Filters.{broken_where}
use Rattle.type_rules.specs.MethodRules.{is_bad_oneway, is_oneway_body}
use Rattle.type_rules.specs.TypeRules.{is_bad_shape, is_bad_direction, bad_nullables, bad_nullables_of, is_bad_nullable}
use Rattle.type_rules.specs.Unbroken.{AreUnbroken}
use Rattle.tree_schema.proofs.lemmas.walked.Placed.{Each}
use Rattle.tree_schema.proofs.walked.Breaches.{none-broken, each-fails}

-- Lists

pub each-from_at : {X : Type 0} (P : X → Type 0) (xs : List X) → ((n : ℕ) (x : X) → slice_get xs n ≡ Some x → P x) → Each P xs
each-from_at P [] h = tt
each-from_at P (x ∷ xs) h = (h 0 x refl, each-from_at P xs (λ n y at. h (suc n) y at))

pub each-both : {X : Type 0} (P Q : X → Type 0) (xs : List X) → Each P xs → Each Q xs → Each (λ x. P x × Q x) xs
each-both P Q [] h k = tt
each-both P Q (x ∷ xs) h k = ((h.0, k.0), each-both P Q xs h.1 k.1)

each_parts : {X : Type 0} (P : X → Type 0) (xs ys : List X) → Each P (xs ++ ys) → Each P xs × Each P ys
each_parts P [] ys h = (tt, h)
each_parts P (x ∷ xs) ys h = let two = each_parts P xs ys h.1 in ((h.0, two.0), two.1)

pub each-flat : {X Y : Type 0} (P : Y → Type 0) (g : X → List Y) (xs : List X) → Each P (flat_map g xs) → Each (λ x. Each P (g x)) xs
each-flat P g [] h = tt
each-flat P g (x ∷ xs) h = let two = each_parts P (g x) (flat_map g xs) h in (two.0, each-flat P g xs two.1)

pub any-parts : {X : Type 0} (p : X → Bool) (xs ys : List X) → list_any p (xs ++ ys) ≡ false → (list_any p xs ≡ false) × (list_any p ys ≡ false)
any-parts p [] ys h = (refl, h)
any-parts p (x ∷ xs) ys h =
    let one = neither (p x) (list_any p (xs ++ ys)) h in
    let two = any-parts p xs ys one.1 in
    (rw (one.0, two.0) refl, two.1)

-- what each fails in a list where it finds none
pub none-flat : {X Y : Type 0} (p : Y → Bool) (g : X → List Y) (xs : List X) → list_any p (flat_map g xs) ≡ false → Each (λ x. list_any p (g x) ≡ false) xs
none-flat p g [] h = tt
none-flat p g (x ∷ xs) h = let two = any-parts p (g x) (flat_map g xs) h in (two.0, none-flat p g xs two.1)

some-at : {X : Type 0} (p : X → Bool) (xs : List X) → list_any p xs ≡ true → (n : ℕ) × (x : X) × (slice_get xs n ≡ Some x) × (p x ≡ true)
some-at p [] h = cc
some-at p (x ∷ xs) h = by (p x) refl h (some-at p xs) where
  by : (b : Bool) → p x ≡ b → (b || list_any p xs) ≡ true → (list_any p xs ≡ true → (n : ℕ) × (y : _) × (slice_get xs n ≡ Some y) × (p y ≡ true))
      → (n : ℕ) × (y : _) × (slice_get (x ∷ xs) n ≡ Some y) × (p y ≡ true)
  by true q g rest = (0, x, refl, q)
  by false q g rest = let r = rest g in (suc r.0, r.1, r.2, r.3)

pub none-mapped : {X Y : Type 0} (f : X → Y) (xs : List X) → map f xs ≡ [] → xs ≡ []
none-mapped f [] e = refl
none-mapped f (x ∷ xs) e = cc

none_filtered : {X : Type 0} (p : X → Bool) (xs : List X) → filter p xs ≡ [] → list_any p xs ≡ false
none_filtered p [] e = refl
none_filtered p (x ∷ xs) e = by (p x) e (none_filtered p xs) where
  by : (b : Bool) → (if b then x ∷ filter p xs else filter p xs) ≡ [] → (filter p xs ≡ [] → list_any p xs ≡ false) → (b || list_any p xs) ≡ false
  by true g rest = cc
  by false g rest = rest g

-- breaches of what passes a test: none passes it
pub none-found : {X Y : Type 0} (f : X → Y) (p : X → Bool) (xs : List X) → map f (filter p xs) ≡ [] → list_any p xs ≡ false
none-found f p xs e = none_filtered p xs (none-mapped f (filter p xs) e)

pub any-at : {X : Type 0} (p : X → Bool) (xs : List X) (n : ℕ) (x : X) → list_any p xs ≡ false → slice_get xs n ≡ Some x → p x ≡ false
any-at p [] n x h at = cc
any-at p (y ∷ xs) zero x h at = let is : y ≡ x = cc in subst (λ z. p z ≡ false) is (neither (p y) (list_any p xs) h).0
any-at p (y ∷ xs) (suc n) x h at = any-at p xs n x (neither (p y) (list_any p xs) h).1 at

none_in_each : {A B : Type 0} (find : ℕ → A → List B) (k : ℕ) (xs : List A) (n : ℕ) (x : A) → in_each find k xs ≡ [] → slice_get xs n ≡ Some x → find (k + n) x ≡ []
none_in_each find k [] n x e at = cc
none_in_each find k (y ∷ xs) zero x e at =
    let one : y ≡ x = cc in
    let here : k ≡ k + 0 = omega arith in
    subst (λ z. find (k + 0) z ≡ []) one (subst (λ (j : ℕ). find j y ≡ []) here (both_empty (find k y) (in_each find (k + 1) xs) e).0)
none_in_each find k (y ∷ xs) (suc n) x e at =
    let next : k + 1 + n ≡ k + suc n = omega arith in
    subst (λ (j : ℕ). find j x ≡ []) next (none_in_each find (k + 1) xs n x (both_empty (find k y) (in_each find (k + 1) xs) e).1 at)

-- Annotations

some_nullable : (nullable heap : Bool) (annots : List Annot) → list_any (is_bad_nullable nullable heap) annots ≡ false
    → (nullable ≡ true → list_any is_nullable_annot annots ≡ false) × (heap ≡ true → list_any is_heap_annot annots ≡ false)
some_nullable nullable heap [] h = (λ e. refl, λ e. refl)
some_nullable nullable heap (a ∷ annots) h =
    let two = neither (is_bad_nullable nullable heap a) (list_any (is_bad_nullable nullable heap) annots) h in
    let here = neither (nullable && is_nullable_annot a) (heap && is_heap_annot a) two.0 in
    let rest = some_nullable nullable heap annots two.1 in (
      λ e. let no : is_nullable_annot a ≡ false = ap (λ b. b && is_nullable_annot a) (sym e) ∙ here.0 in rw (no, rest.0 e) refl,
      λ e. let no : is_heap_annot a ≡ false = ap (λ b. b && is_heap_annot a) (sym e) ∙ here.1 in rw (no, rest.1 e) refl,
    )

-- where `@nullable` is refused there is none, and where `heap=true` is there is none
pub no-nullable : (nullable heap : Bool) (annots : List Annot) → bad_nullables nullable heap annots ≡ []
    → (nullable ≡ true → list_any is_nullable_annot annots ≡ false) × (heap ≡ true → list_any is_heap_annot annots ≡ false)
no-nullable nullable heap annots e = some_nullable nullable heap annots (none-found (λ (a : Annot). a.offset) (is_bad_nullable nullable heap) annots e)

-- what is on the heap is nullable
pub heap-nullable : (annots : List Annot) → list_any is_heap_annot annots ≡ true → list_any is_nullable_annot annots ≡ true
heap-nullable [] h = cc
heap-nullable (a ∷ annots) h = by (is_nullable_annot a) h (heap-nullable annots) where
  by : (b : Bool) → ((b && list_any is_heap_true a.params) || list_any is_heap_annot annots) ≡ true
      → (list_any is_heap_annot annots ≡ true → list_any is_nullable_annot annots ≡ true) → (b || list_any is_nullable_annot annots) ≡ true
  by true g rest = refl
  by false g rest = rest g

may_by : (t a b : Bool) → (not t || a || b) ≡ false → t ≡ true
may_by true a b h = refl
may_by false a b h = cc

-- an annotation of a row stands where its row allows it
pub stands-well : (s : Stand) (annots : List Annot) (name : List ℕ) (r : Annotation) → row_of_name name ≡ Some r
    → bad_annotations s annots ≡ [] → list_any (is_called name) annots ≡ true → may_stand r s ≡ true
stands-well s annots name r row e h =
    let one = some-at (is_called name) annots h in
    let none = none-mapped (λ (a : Annot). a.offset) (after_earlier (is_bad_annotation s) [] annots) e in
    let fails = each-fails (is_bad_annotation s) [] annots none one.0 one.1 one.2 in
    let named : text one.1.name.name ≡ name = same_text_is (text one.1.name.name) name one.3 in
    let at : row_of_name (text one.1.name.name) ≡ Some r = ap row_of_name named ∙ row in
    let again = is_again fails.0 one.1 in
    let breaks : breaks_row s one.1.params again (Some r) ≡ false = ap (breaks_row s one.1.params again) (sym at) ∙ fails.1 in
    may_by (may_stand r s) (not (takes r one.1.params)) (is_kept r && again) breaks

-- Uses of types

-- the use breaks none of the rules
pub record IsFine (entries : List Entry) (oneway : Bool) (u : TypeUse) : Type 0 where
  pub annotations : bad_annotations (stand_of u) (annotations_of u) ≡ []  -- E13
  pub nullables : bad_nullables_of entries u ≡ []  -- E14
  pub shaped : is_bad_shape u ≡ false  -- E16
  pub directed : is_bad_direction entries u ≡ false  -- E17
  pub sent : is_bad_oneway oneway u ≡ false  -- E18
  pub constant : is_bad_constant u ≡ false  -- E20

-- a name of a type in a file, below a declaration, is a left-out one or an interface
abbrev pub is_left : List Source → ℕ → ℕ → DottedTree → Bool
is_left files file scope d = is_left_out (declarations files) (resolved files file scope d.name.0)

-- the member's uses break none of the rules, and its types' names not E5
abbrev pub IsFineMember : List Source → ℕ → ℕ → Bool → Member → Type 0
IsFineMember files file scope oneway m = Each (IsFine (declarations files) oneway) (of_member (shape_in files file scope) m) × (list_any (is_left files file scope) (type_names m) ≡ false)

-- each use passes, where a rule that looks at each by itself has no breach
pub where-passes : (test : TypeUse → Bool) (place : TypeUse → ℕ) (uses : List TypeUse) (n : ℕ) (u : TypeUse) → broken_where test place uses ≡ [] → slice_get uses n ≡ Some u → test u ≡ false
where-passes test place uses n u e at = any-at test uses n u (none-found place test uses e) at

module _ (files : List Source) (unbroken : breaches files ≡ []) (fine : AreUnbroken files) (k : ℕ) (e : Entry) (at : slice_get (declarations files) k ≡ Some e) where
  abbrev uses : List TypeUse
  uses = type_uses files k e

  use_fine : (n : ℕ) (u : TypeUse) → slice_get uses n ≡ Some u → IsFine (declarations files) (is_oneway_body (body e.tree)) u
  use_fine n u there =
      let all = fine k e at in
      record {
        annotations = each_empty (λ v. bad_annotations (stand_of v) (annotations_of v)) uses u (both_empty _ (flat_map (λ v. bad_annotations (stand_of v) (annotations_of v)) uses) all.annotations).1 (n, there);
        nullables = each_empty (bad_nullables_of (declarations files)) uses u all.nullables (n, there);
        shaped = where-passes is_bad_shape _ uses n u all.shapes there;
        directed = where-passes (is_bad_direction (declarations files)) _ uses n u all.directions there;
        sent = where-passes (is_bad_oneway (is_oneway_body (body e.tree))) _ uses n u all.oneways there;
        constant = where-passes is_bad_constant _ uses n u all.constants there;
      }

  names_fine : list_any (is_left files e.file k) (flat_map type_names (members (body e.tree))) ≡ false
  names_fine =
      let test = λ (file scope : ℕ) (name : List _). is_left_out (declarations files) (resolved files file scope name) in
      let none = none_in_each (types_in test) 0 (declarations files) k e (none-broken files unbroken).4 at in
      let zero_on : 0 + k ≡ k = omega arith in
      let here : types_in test k e ≡ [] = subst (λ (j : ℕ). types_in test j e ≡ []) zero_on none in
      none-found (λ (d : DottedTree). (e.file, d.offset)) (is_left files e.file k) (flat_map type_names (members (body e.tree))) here

  -- each member of a declaration
  pub members-fine : Each (IsFineMember files e.file k (is_oneway_body (body e.tree))) (members (body e.tree))
  members-fine =
      let P = IsFine (declarations files) (is_oneway_body (body e.tree)) in
      let each = each-from_at P uses use_fine in
      each-both (λ m. Each P (of_member (shape_in files e.file k) m)) (λ m. list_any (is_left files e.file k) (type_names m) ≡ false) (members (body e.tree))
      (each-flat P (of_member (shape_in files e.file k)) (members (body e.tree)) each)
      (none-flat (is_left files e.file k) type_names (members (body e.tree)) names_fine)
