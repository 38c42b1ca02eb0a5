-- Annotations that stand for flags: what is kept of them, and that they break no rule.
use Rattle.std.proofs.Common.{◌≡◌, Bool, true, false, not, ◌&&◌, ◌||◌, if◌then◌else◌, List, [], ◌∷◌, ◌++◌, map, codes, Option, Some, None, refl, sym, ap, ◌∙◌}
use Rattle.std.specs.List.{list_any, filter}
use Rattle.std.specs.Str.{bytes_eq}
use Rattle.aidl_syntax.specs.declared.tree.NameTree.{NameTree}
use Rattle.aidl_syntax.specs.Trees.{Init, Param, Annot, map_option}
use Rattle.aidl_syntax.specs.Trees.Expr.{literal, group, unary, binary, name}
use Rattle.aidl_syntax.specs.Trees.Init.{single, braces}
use Rattle.declared_names.specs.Names.{text}
use Rattle.declared_names.specs.Numbered.{after_earlier}
use Rattle.type_shapes.specs.Backing.{is_type}
use Rattle.type_shapes.specs.declared.shape.Shape as types
use Rattle.type_uses.specs.declared.annotation.Annotation.{Annotation}
use Rattle.type_uses.specs.declared.annotation.Annotation.TheVariants as row
use Rattle.type_uses.specs.declared.stand.Stand.{Stand}
use Rattle.type_uses.specs.declared.stand.Stand.TheVariants as stand
use Rattle.type_uses.specs.Annotations.{row_of, row_of_name, takes, takes_one, is_text_based, may_stand, is_kept}
use Rattle.type_uses.specs.Kept.{is_called, is_nullable_annot, is_heap_annot, is_nullable, is_heap, is_utf8, is_fixed, is_vintf}
use Rattle.type_uses.specs.Parameters as parameters
use Rattle.type_uses.specs.Parameters.{literal_in, literal_of, is_heap_name, is_heap_true, is_true_word, is_truth_word, is_type_string, is_string, is_backing_word}
use Rattle.type_rules.specs.AnnotationRules.{is_again, breaks_row, is_bad_annotation}
use Rattle.type_rules.specs.TypeRules.{is_bad_nullable}
use Rattle.aidl_schema.specs.declared.schema.Kind.{Kind}
use Rattle.aidl_schema.specs.declared.schema.Kind.TheVariants.{Interface, Parcelable, Union, Enum}
use Rattle.aidl_schema.specs.Valid.{is_parcelable_or_union}
use Rattle.dump_reading.specs.Bare.{bare_name, bare_init, bare_param, bare_annot}
use Rattle.dump_reading.specs.DumpTrees.{nullable_trees, flag_trees, backing_trees}

-- What speaks of no offset.

pub literal_bare : (i : Init) → literal_of (bare_init i) ≡ literal_of i
literal_bare (single (literal o t)) = refl
literal_bare (single (name o d)) = refl
literal_bare (single (group o a)) = refl
literal_bare (single (unary o s a)) = refl
literal_bare (single (binary o s a b)) = refl
literal_bare (braces o es) = refl

heap_name_bare : (o : Option NameTree) → is_heap_name (map_option bare_name o) ≡ is_heap_name o
heap_name_bare None = refl
heap_name_bare (Some n) = refl

type_bare : (p : Param) → is_type (bare_param p) ≡ is_type p
type_bare p = by p.name where
  by : (o : Option NameTree) → is_type (bare_param (record { offset = p.offset; name = o; value = p.value })) ≡ is_type (record { offset = p.offset; name = o; value = p.value })
  by None = refl
  by (Some n) = refl

heap_true_bare : (p : Param) → is_heap_true (bare_param p) ≡ is_heap_true p
heap_true_bare p = ap (λ b. b && is_true_word (literal_of (bare_init p.value))) (heap_name_bare p.name) ∙ ap (λ l. is_heap_name p.name && is_true_word l) (literal_bare p.value)

heap_bare : (p : Param) → parameters.is_heap (bare_param p) ≡ parameters.is_heap p
heap_bare p = ap (λ b. b && is_truth_word (literal_of (bare_init p.value))) (heap_name_bare p.name) ∙ ap (λ l. is_heap_name p.name && is_truth_word l) (literal_bare p.value)

type_string_bare : (p : Param) → is_type_string (bare_param p) ≡ is_type_string p
type_string_bare p = ap (λ b. b && is_string (literal_of (bare_init p.value))) (type_bare p) ∙ ap (λ l. is_type p && is_string l) (literal_bare p.value)

any_mapped : {X : Type 0} (f : X → X) (test : X → Bool) → ((x : X) → test (f x) ≡ test x) → (xs : List X) → list_any test (map f xs) ≡ list_any test xs
any_mapped f test h [] = refl
any_mapped f test h (x ∷ xs) = ap (λ b. b || list_any test (map f xs)) (h x) ∙ ap (λ b. test x || b) (any_mapped f test h xs)

heap_annot_bare : (a : Annot) → is_heap_annot (bare_annot a) ≡ is_heap_annot a
heap_annot_bare a = ap (λ b. is_nullable_annot a && b) (any_mapped bare_param is_heap_true heap_true_bare a.params)

takes_one_bare : (r : Annotation) (p : Param) → takes_one r (bare_param p) ≡ takes_one r p
takes_one_bare row.Nullable p = heap_bare p
takes_one_bare row.Utf8InCpp p = refl
takes_one_bare row.Backing p = type_string_bare p
takes_one_bare row.FixedSize p = refl
takes_one_bare row.VintfStability p = refl
takes_one_bare row.Dropped p = refl

takes_bare : (r : Annotation) (ps : List Param) → takes r (map bare_param ps) ≡ takes r ps
takes_bare r [] = refl
takes_bare r (p ∷ []) = takes_one_bare r p
takes_bare r (p ∷ q ∷ ps) = refl

row_bare : (s : Stand) (ps : List Param) (again : Bool) (o : Option Annotation) → breaks_row s (map bare_param ps) again o ≡ breaks_row s ps again o
row_bare s ps again None = refl
row_bare s ps again (Some r) = ap (λ t. breaks_taken r t) (takes_bare r ps) where
  breaks_taken : Annotation → Bool → Bool
  breaks_taken r t = not (may_stand r s) || not t || (is_kept r && again)

again_bare : (before : List Annot) (a : Annot) → is_again (map bare_annot before) (bare_annot a) ≡ is_again before a
again_bare [] a = refl
again_bare (b ∷ before) a = ap (λ t. bytes_eq (text a.name.name) (text b.name.name) || t) (again_bare before a)

bad_bare : (s : Stand) (before : List Annot) (a : Annot) → is_bad_annotation s (map bare_annot before) (bare_annot a) ≡ is_bad_annotation s before a
bad_bare s before a = row_bare s a.params (is_again (map bare_annot before) (bare_annot a)) (row_of a) ∙ ap (λ b. breaks_row s a.params b (row_of a)) (again_bare before a)

map_last : {X Y : Type 0} (f : X → Y) (xs : List X) (x : X) → map f (xs ++ x ∷ []) ≡ map f xs ++ f x ∷ []
map_last f [] x = refl
map_last f (y ∷ xs) x = ap (λ ys. f y ∷ ys) (map_last f xs x)

after_bare : (test : List Annot → Annot → Bool) → ((before : List Annot) (a : Annot) → test (map bare_annot before) (bare_annot a) ≡ test before a) → (before annots : List Annot)
    → after_earlier test (map bare_annot before) (map bare_annot annots) ≡ [] → after_earlier test before annots ≡ []
after_bare test h before [] e = refl
after_bare test h before (a ∷ annots) e =
    let later : after_earlier test (map bare_annot before ++ bare_annot a ∷ []) (map bare_annot annots) ≡ [] → after_earlier test (before ++ a ∷ []) annots ≡ [] =
    λ g. after_bare test h (before ++ a ∷ []) annots (ap (λ bs. after_earlier test bs (map bare_annot annots)) (map_last bare_annot before a) ∙ g) in
    by (test before a) (sym (ap (λ b. (if b then bare_annot a ∷ [] else []) ++ after_earlier test (map bare_annot before ++ bare_annot a ∷ []) (map bare_annot annots)) (h before a)) ∙ e) later where
      by : (b : Bool) → ((if b then bare_annot a ∷ [] else []) ++ after_earlier test (map bare_annot before ++ bare_annot a ∷ []) (map bare_annot annots)) ≡ []
          → (after_earlier test (map bare_annot before ++ bare_annot a ∷ []) (map bare_annot annots) ≡ [] → after_earlier test (before ++ a ∷ []) annots ≡ [])
          → ((if b then a ∷ [] else []) ++ after_earlier test (before ++ a ∷ []) annots) ≡ []
      by true g later = cc
      by false g later = later g

filter_bare : (test : Annot → Bool) → ((a : Annot) → test (bare_annot a) ≡ test a) → (annots : List Annot) → filter test (map bare_annot annots) ≡ [] → filter test annots ≡ []
filter_bare test h [] e = refl
filter_bare test h (a ∷ annots) e = by (test a) (sym (ap (λ b. if b then bare_annot a ∷ filter test (map bare_annot annots) else filter test (map bare_annot annots)) (h a)) ∙ e) (filter_bare test h annots) where
  by : (b : Bool) → (if b then bare_annot a ∷ filter test (map bare_annot annots) else filter test (map bare_annot annots)) ≡ [] → (filter test (map bare_annot annots) ≡ [] → filter test annots ≡ [])
      → (if b then a ∷ filter test annots else filter test annots) ≡ []
  by true g later = cc
  by false g later = later g

-- The annotations of a type.

abbrev pub marks : Bool → Bool → Bool → List Annot
marks nullable heap utf8 = nullable_trees nullable heap ++ flag_trees (codes "utf8InCpp") utf8

any_in : (test : Annot → Bool) → ((a : Annot) → test (bare_annot a) ≡ test a) → (annots bare : List Annot) → map bare_annot annots ≡ bare → (b : Bool) → list_any test bare ≡ b → list_any test annots ≡ b
any_in test h annots bare e b k = sym (any_mapped bare_annot test h annots) ∙ ap (list_any test) e ∙ k

nullable_marks : (n h u : Bool) → is_nullable (marks n h u) ≡ n
unfolding lib.Utf8.encode
nullable_marks false h false = refl
nullable_marks false h true = refl
nullable_marks true false false = refl
nullable_marks true false true = refl
nullable_marks true true false = refl
nullable_marks true true true = refl

heap_marks : (n h u : Bool) → (h ≡ true → n ≡ true) → is_heap (marks n h u) ≡ h
unfolding lib.Utf8.encode
heap_marks false false false k = refl
heap_marks false false true k = refl
heap_marks false true u k = let no_one = k refl in cc
heap_marks true false false k = refl
heap_marks true false true k = refl
heap_marks true true false k = refl
heap_marks true true true k = refl

utf8_marks : (n h u : Bool) → is_utf8 (marks n h u) ≡ u
unfolding lib.Utf8.encode
utf8_marks false h false = refl
utf8_marks false h true = refl
utf8_marks true false false = refl
utf8_marks true false true = refl
utf8_marks true true false = refl
utf8_marks true true true = refl

pub nullable_kept : (annots : List Annot) (n h u : Bool) → map bare_annot annots ≡ marks n h u → is_nullable annots ≡ n
nullable_kept annots n h u e = any_in is_nullable_annot (λ a. refl) annots (marks n h u) e n (nullable_marks n h u)

pub heap_kept : (annots : List Annot) (n h u : Bool) → (h ≡ true → n ≡ true) → map bare_annot annots ≡ marks n h u → is_heap annots ≡ h
heap_kept annots n h u k e = any_in is_heap_annot heap_annot_bare annots (marks n h u) e h (heap_marks n h u k)

pub utf8_kept : (annots : List Annot) (n h u : Bool) → map bare_annot annots ≡ marks n h u → is_utf8 annots ≡ u
utf8_kept annots n h u e = any_in (is_called (codes "utf8InCpp")) (λ a. refl) annots (marks n h u) e u (utf8_marks n h u)

-- E13, at a type
marks_stand : (t : types.Shape) (n h u : Bool) → (u ≡ true → is_text_based t ≡ true) → after_earlier (is_bad_annotation (stand.Type t)) [] (marks n h u) ≡ []
unfolding row_of_name lib.Utf8.encode
marks_stand t false h false k = refl
marks_stand t true false false k = refl
marks_stand t true true false k = refl
marks_stand t false h true k = rw (k refl) refl
marks_stand t true false true k = rw (k refl) refl
marks_stand t true true true k = rw (k refl) refl

pub marks_fine : (t : types.Shape) (n h u : Bool) → (u ≡ true → is_text_based t ≡ true) → (annots : List Annot) → map bare_annot annots ≡ marks n h u → after_earlier (is_bad_annotation (stand.Type t)) [] annots ≡ []
marks_fine t n h u k annots e = after_bare (is_bad_annotation (stand.Type t)) (bad_bare (stand.Type t)) [] annots (ap (after_earlier (is_bad_annotation (stand.Type t)) []) e ∙ marks_stand t n h u k)

-- E14, where `@nullable` is refused, and where `heap=true` is
marks_pass : (no_null no_heap n h u : Bool) → (n ≡ true → no_null ≡ false) → (h ≡ true → no_heap ≡ false) → filter (is_bad_nullable no_null no_heap) (marks n h u) ≡ []
unfolding lib.Utf8.encode
marks_pass a b false h false k l = refl
marks_pass true true false h true k l = refl
marks_pass true false false h true k l = refl
marks_pass false true false h true k l = refl
marks_pass false false false h true k l = refl
marks_pass true b true h u k l = let is = k refl in cc
marks_pass false true true false false k l = refl
marks_pass false true true false true k l = refl
marks_pass false false true false false k l = refl
marks_pass false false true false true k l = refl
marks_pass false true true true u k l = let is = l refl in cc
marks_pass false false true true false k l = refl
marks_pass false false true true true k l = refl

pub nulls_fine : (no_null no_heap n h u : Bool) → (n ≡ true → no_null ≡ false) → (h ≡ true → no_heap ≡ false) → (annots : List Annot) → map bare_annot annots ≡ marks n h u → filter (is_bad_nullable no_null no_heap) annots ≡ []
nulls_fine a b n h u k l annots e =
    filter_bare (is_bad_nullable a b) (λ x. ap (λ t. (a && is_nullable_annot x) || (b && t)) (heap_annot_bare x)) annots (ap (filter (is_bad_nullable a b)) e ∙ marks_pass a b n h u k l)

-- The annotations of a declaration.

abbrev pub flags : Kind → Bool → Bool → List Annot
flags k fixed vintf = backing_trees k ++ (flag_trees (codes "FixedSize") fixed ++ flag_trees (codes "VintfStability") vintf)

abbrev pub stand_of_kind : Kind → Stand
stand_of_kind (Interface ms) = stand.Interface
stand_of_kind (Parcelable fs) = stand.Composite
stand_of_kind (Union fs) = stand.Composite
stand_of_kind (Enum b es) = stand.Enum

fixed_flags : (k : Kind) (f v : Bool) → is_fixed (flags k f v) ≡ f
unfolding lib.Utf8.encode
fixed_flags (Interface ms) false false = refl
fixed_flags (Interface ms) false true = refl
fixed_flags (Interface ms) true v = refl
fixed_flags (Parcelable ms) false false = refl
fixed_flags (Parcelable ms) false true = refl
fixed_flags (Parcelable ms) true v = refl
fixed_flags (Union ms) false false = refl
fixed_flags (Union ms) false true = refl
fixed_flags (Union ms) true v = refl
fixed_flags (Enum b es) false false = refl
fixed_flags (Enum b es) false true = refl
fixed_flags (Enum b es) true v = refl

vintf_flags : (k : Kind) (f v : Bool) → is_vintf (flags k f v) ≡ v
unfolding lib.Utf8.encode
vintf_flags (Interface ms) false false = refl
vintf_flags (Interface ms) false true = refl
vintf_flags (Interface ms) true false = refl
vintf_flags (Interface ms) true true = refl
vintf_flags (Parcelable ms) false false = refl
vintf_flags (Parcelable ms) false true = refl
vintf_flags (Parcelable ms) true false = refl
vintf_flags (Parcelable ms) true true = refl
vintf_flags (Union ms) false false = refl
vintf_flags (Union ms) false true = refl
vintf_flags (Union ms) true false = refl
vintf_flags (Union ms) true true = refl
vintf_flags (Enum b es) false false = refl
vintf_flags (Enum b es) false true = refl
vintf_flags (Enum b es) true false = refl
vintf_flags (Enum b es) true true = refl

pub fixed_kept : (annots : List Annot) (k : Kind) (f v : Bool) → map bare_annot annots ≡ flags k f v → is_fixed annots ≡ f
fixed_kept annots k f v e = any_in (is_called (codes "FixedSize")) (λ a. refl) annots (flags k f v) e f (fixed_flags k f v)

pub vintf_kept : (annots : List Annot) (k : Kind) (f v : Bool) → map bare_annot annots ≡ flags k f v → is_vintf annots ≡ v
vintf_kept annots k f v e = any_in (is_called (codes "VintfStability")) (λ a. refl) annots (flags k f v) e v (vintf_flags k f v)

-- E13, at a declaration
flags_stand : (k : Kind) (f v : Bool) → (f ≡ true → is_parcelable_or_union k ≡ true) → after_earlier (is_bad_annotation (stand_of_kind k)) [] (flags k f v) ≡ []
unfolding row_of_name lib.Utf8.encode
flags_stand (Interface ms) true v h = let is = h refl in cc
flags_stand (Interface ms) false false h = refl
flags_stand (Interface ms) false true h = refl
flags_stand (Parcelable ms) false false h = refl
flags_stand (Parcelable ms) false true h = refl
flags_stand (Parcelable ms) true false h = refl
flags_stand (Parcelable ms) true true h = refl
flags_stand (Union ms) false false h = refl
flags_stand (Union ms) false true h = refl
flags_stand (Union ms) true false h = refl
flags_stand (Union ms) true true h = refl
flags_stand (Enum b es) true v h = let is = h refl in cc
flags_stand (Enum b es) false false h = refl
flags_stand (Enum b es) false true h = refl

pub flags_fine : (k : Kind) (f v : Bool) → (f ≡ true → is_parcelable_or_union k ≡ true) → (annots : List Annot) → map bare_annot annots ≡ flags k f v → after_earlier (is_bad_annotation (stand_of_kind k)) [] annots ≡ []
flags_fine k f v h annots e = after_bare (is_bad_annotation (stand_of_kind k)) (bad_bare (stand_of_kind k)) [] annots (ap (after_earlier (is_bad_annotation (stand_of_kind k)) []) e ∙ flags_stand k f v h)

pub none_bare : (annots : List Annot) → map bare_annot annots ≡ [] → annots ≡ []
none_bare [] e = refl
none_bare (a ∷ annots) e = cc
