-- *Broken*: which evolution rules a new schema breaks, and where (own; what may change at all: AOSP, "Stable AIDL").
-- Each of C1 to C19 is the sentence of its rule: the places at which it is broken.
use Rattle.std.specs.Prelude.{ℕ, pos, Bool, true, false, not, ◌&&◌, ◌||◌, ◌==◌, nat_lt, if◌then◌else◌, List, []}
use Rattle.std.specs.Prelude.{◌∷◌, ◌++◌, map, length, take, drop, Option, Some, None, is_none}
use Rattle.std.specs.List.{filter, find, flat_map, zip, enumerate_from}
use Rattle.std.specs.Ordering.{int_eq, nat_cmp, then_cmp, on}
use Rattle.std.specs.declared.cmp.Ordering.{Ordering}
use Rattle.std.specs.declared.cmp.Ordering.TheVariants.{Less, Equal, Greater}
use Rattle.std.specs.Cmp.Lexicographic.{slice_cmp}
use Rattle.std.specs.Fmt.{decimal}
use Rattle.aidl_base.specs.declared.name.Ident.{Ident}
use Rattle.aidl_base.specs.declared.constant.Const.{Const, roll-Const, out-Const, fold-Const}
use Rattle.aidl_base.specs.declared.constant.Const.TheOpen.{Const-F}
use Rattle.aidl_schema.specs.declared.schema.Decl.{Decl}
use Rattle.aidl_schema.specs.declared.schema.Field.{Field}
use Rattle.aidl_schema.specs.declared.schema.Method.{Method}
use Rattle.aidl_schema.specs.declared.schema.Arg.{Arg}
use Rattle.aidl_schema.specs.declared.schema.Enumerator.{Enumerator}
use Rattle.aidl_schema.specs.declared.schema.Constant.{Constant}
use Rattle.aidl_schema.specs.declared.schema.Kind.{Kind}
use Rattle.aidl_schema.specs.declared.schema.Kind.TheVariants.{Interface, Parcelable, Union, Enum}
use Rattle.aidl_schema.specs.declared.schema.Backing.TheVariants as backing
use Rattle.aidl_schema.specs.declared.schema.Direction.{Direction}
use Rattle.aidl_schema.specs.declared.schema.Direction.TheVariants.{In, Out, InOut}
use Rattle.aidl_schema.specs.declared.schema.Base.{Base}
use Rattle.aidl_schema.specs.declared.schema.AidlType.{AidlType}
use Rattle.aidl_schema.specs.Types.{Form, form_of, is_one}
use Rattle.aidl_schema.specs.Types as form
use Rattle.aidl_schema.specs.Containment.{fields_of, is_composite}
use Rattle.aidl_schema.specs.Constants.{is_enumerator_of}
use Rattle.aidl_base.specs.Names.{dotted}
use Rattle.aidl_schema.specs.Same.{same_text, same_bool, same, decl_of, base_code}
use Rattle.aidl_schema.specs.Names.{methods_of, enumerators_of}

-- Places and their rules

abbrev pub dot : ℕ
dot = 46

abbrev pub slash : ℕ
slash = 47

-- a canonical name, or one with a member or an argument behind it, as text
abbrev pub Place : Type 0
Place = List ℕ

-- n
abbrev pub whole : Decl → Place
whole d = dotted d.name.0

-- n.member
abbrev pub member : Decl → Ident → Place
member d x = whole d ++ (dot ∷ x.0)

-- n.method/k
abbrev pub argument : Decl → Ident → ℕ → Place
argument d x k = member d x ++ (slash ∷ decimal k)

-- the places of those that break a rule
abbrev pub places : {X : Type 0} → (X → Place) → (X → Bool) → List X → List Place
places place breaks xs = map place (filter breaks xs)

-- this place, if it breaks a rule
abbrev pub place_if : Place → Bool → List Place
place_if p breaks = if breaks then p ∷ [] else []

-- What is compared

-- the same canonical name
abbrev pub same_name : Decl → Decl → Bool
same_name d e = same_text (dotted d.name.0) (dotted e.name.0)

abbrev pub same_method : Method → Method → Bool
same_method m w = same_text m.name.0 w.name.0

abbrev pub same_enumerator : Enumerator → Enumerator → Bool
same_enumerator x y = same_text x.name.0 y.name.0

abbrev pub same_constant : Constant → Constant → Bool
same_constant c k = same_text c.name.0 k.name.0

-- there is one, and it passes
abbrev pub is_there_and : {X : Type 0} → (X → Bool) → Option X → Bool
is_there_and test None = false
is_there_and test (Some x) = test x

-- One of that name is among these, and is kept as it was.
abbrev pub is_kept : {X : Type 0} → (X → X → Bool) → (X → X → Bool) → List X → X → Bool
is_kept alike keeps ys x = is_there_and (λ y. keeps x y) (find (λ y. alike x y) ys)

-- an item beside what was found for it, if anything was
abbrev pub with_found : {X : Type 0} → X → Option X → List (X × X)
with_found x None = []
with_found x (Some y) = (x, y) ∷ []

-- those that are in both by their names, each beside the other
abbrev pub in_both : {X : Type 0} → (X → X → Bool) → List X → List X → List (X × X)
in_both alike xs ys = flat_map (λ x. with_found x (find (λ y. alike x y) ys)) xs

-- a number for each kind
abbrev pub kind_code : Kind → ℕ
kind_code (Interface ms) = 0
kind_code (Parcelable fs) = 1
kind_code (Union fs) = 2
kind_code (Enum b es) = 3

abbrev pub is_parcelable : Kind → Bool
is_parcelable k = kind_code k == 1

abbrev pub is_union : Kind → Bool
is_union k = kind_code k == 2

abbrev pub is_enum : Kind → Bool
is_enum k = kind_code k == 3

-- a number for the backing of an enum
abbrev pub backing_code : Kind → ℕ
backing_code (Enum backing.Byte es) = 1
backing_code (Enum backing.Int es) = 2
backing_code (Enum backing.Long es) = 3
backing_code _ = 0

abbrev pub parcelable_fields : Kind → List Field
parcelable_fields (Parcelable fs) = fs
parcelable_fields _ = []

abbrev pub union_fields : Kind → List Field
union_fields (Union fs) = fs
union_fields _ = []

-- the fields whose defaults are seen: all of a parcelable, the first of a union
abbrev pub fields_with_default : Kind → List Field
fields_with_default (Parcelable fs) = fs
fields_with_default (Union fs) = take 1 fs
fields_with_default _ = []

abbrev pub way_code : Direction → ℕ
way_code In = 0
way_code Out = 1
way_code InOut = 2

-- common methods that break a rule
abbrev pub at_methods : (Method → Method → Bool) → Decl → Decl → List Place
at_methods breaks d e = places (λ p. member d p.0.name) (λ p. breaks p.0 p.1)
    (in_both same_method (methods_of d.kind) (methods_of e.kind))

-- the arguments of two methods at the positions below both counts
abbrev pub at_arguments_of : (Arg → Arg → Bool) → Decl → Method → Method → List Place
at_arguments_of breaks d m w =
    places (λ p. argument d m.name p.0) (λ p. breaks p.1.0 p.1.1) (enumerate_from 0 (zip m.args w.args))

-- those of each common method
abbrev pub at_arguments : (Arg → Arg → Bool) → Decl → Decl → List Place
at_arguments breaks d e =
    flat_map (λ p. at_arguments_of breaks d p.0 p.1) (in_both same_method (methods_of d.kind) (methods_of e.kind))

-- fields at the positions below both counts
abbrev pub at_fields : (Field → Field → Bool) → (Kind → List Field) → Decl → Decl → List Place
at_fields breaks fields d e =
    places (λ p. member d p.0.name) (λ p. breaks p.0 p.1) (zip (fields d.kind) (fields e.kind))

-- Values

-- each passes the test at its place, and there are as many
abbrev pub pass_each : List (Const → Bool) → List Const → Bool
pass_each [] [] = true
pass_each [] (c ∷ cs) = false
pass_each (test ∷ tests) [] = false
pass_each (test ∷ tests) (c ∷ cs) = test c && pass_each tests cs

-- one level, beside tests of the members
abbrev pub same_level : Const-F (Const → Bool) → Const-F Const → Bool
same_level (Const-F.Truth a) (Const-F.Truth b) = same_bool a b
same_level (Const-F.Number m) (Const-F.Number n) = int_eq m n
same_level (Const-F.Text x) (Const-F.Text y) = same_text x y
same_level (Const-F.Members tests) (Const-F.Members cs) = pass_each tests cs
same_level _ _ = false

-- the same value
abbrev pub same_const : Const → Const → Bool
same_const = fold-Const (Const → Bool) (λ level c. same_level level (out-Const c))

-- what a base has as its default; a parcelable or a union has no constant
abbrev pub zero_of : Form → Option Const
zero_of form.truth = Some (roll-Const (Const-F.Truth false))
zero_of form.text = Some (roll-Const (Const-F.Text []))
zero_of form.byte = Some (roll-Const (Const-F.Number (pos 0)))
zero_of form.char = Some (roll-Const (Const-F.Number (pos 0)))
zero_of form.int = Some (roll-Const (Const-F.Number (pos 0)))
zero_of form.long = Some (roll-Const (Const-F.Number (pos 0)))
zero_of _ = None

-- a type's default: None is null, and also that of a single parcelable or union, which C12 doesn't compare
abbrev pub zero_in : List Decl → AidlType → Option Const
zero_in S t = if t.nullable then None
    else (if is_one t.shape then zero_of (form_of S t.base) else Some (roll-Const (Const-F.Members [])))

-- its initializer, or else its type's default
abbrev pub default_by : Option Const → Option Const → Option Const
default_by (Some c) zero = Some c
default_by None zero = zero

abbrev pub default_in : List Decl → Field → Option Const
default_in S f = default_by f.initial (zero_in S f.ty)

abbrev pub same_default : Option Const → Option Const → Bool
same_default None None = true
same_default (Some c) (Some k) = same_const c k
same_default None (Some k) = false
same_default (Some c) None = false

-- one value, never null
abbrev pub is_one_value : AidlType → Bool
is_one_value t = is_one t.shape && not t.nullable

-- The default is a record or an alternative.
abbrev pub has_composite_default : List Decl → AidlType → Bool
has_composite_default S t = is_one_value t && is_composite (form_of S t.base)

-- an enum that has no enumerator of value 0
abbrev pub is_enum_without_zero : List Decl → Base → Bool
is_enum_without_zero S b =
    is_there_and (λ d. is_enum d.kind) (decl_of S b) && not (is_enumerator_of (decl_of S b) (pos 0))

-- what C19 compares of two types
abbrev pub same_marks : AidlType → AidlType → Bool
same_marks t u = same_bool t.utf8 u.utf8 && same_bool t.heap u.heap

-- both void, or the same type
abbrev pub same_result : List Decl → Option AidlType → List Decl → Option AidlType → Bool
same_result old None new None = true
same_result old (Some t) new (Some u) = same old t new u
same_result old None new (Some u) = false
same_result old (Some t) new None = false

-- the same marks, or one is void
abbrev pub same_result_marks : Option AidlType → Option AidlType → Bool
same_result_marks (Some t) (Some u) = same_marks t u
same_result_marks None u = true
same_result_marks (Some t) None = true

-- The nineteen rules

-- the places at which a rule is broken by the declaration d of old and that of its name, e of new; C3 to C19 are
-- asked only where their kinds are the same
abbrev pub Rule : Type 0
Rule = List Decl → Decl → List Decl → Decl → List Place

-- C1: n is in old and not in new.
abbrev pub C1 : Decl → List Decl → List Place
C1 d new = place_if (whole d) (not (is_kept same_name (λ x y. true) new d))

-- C2: the kinds differ.
abbrev pub C2 : Rule
C2 old d new e = place_if (whole d) (not (kind_code d.kind == kind_code e.kind))

-- C3: a method of old isn't in new.
abbrev pub C3 : Rule
C3 old d new e = places (λ m. member d m.name)
    (λ m. not (is_kept same_method (λ x y. true) (methods_of e.kind) m)) (methods_of d.kind)

-- C4: a common method's ids differ.
abbrev pub C4 : Rule
C4 old d new e = at_methods (λ m w. not (m.id == w.id)) d e

-- C5: a common method's return types differ.
abbrev pub C5 : Rule
C5 old d new e = at_methods (λ m w. not (same_result old m.result new w.result)) d e

-- C6: a common method's argument counts differ; or the types at a position below both counts differ.
abbrev pub C6 : Rule
C6 old d new e = at_methods (λ m w. not (length m.args == length w.args)) d e
    ++ at_arguments (λ a b. not (same old a.ty new b.ty)) d e

-- C7: the directions at a position below both counts differ.
abbrev pub C7 : Rule
C7 old d new e = at_arguments (λ a b. not (way_code a.way == way_code b.way)) d e

-- C8: one is oneway and the other isn't.
abbrev pub C8 : Rule
C8 old d new e = at_methods (λ m w. not (same_bool m.oneway w.oneway)) d e

-- C9: a parcelable of new has fewer fields.
abbrev pub C9 : Rule
C9 old d new e = place_if (whole d) (nat_lt (length (parcelable_fields e.kind)) (length (parcelable_fields d.kind)))

-- C10: the names of a parcelable's fields at a position below both counts differ.
abbrev pub C10 : Rule
C10 old d new e = at_fields (λ f g. not (same_text f.name.0 g.name.0)) parcelable_fields d e

-- C11: the types of a parcelable's fields at such a position differ.
abbrev pub C11 : Rule
C11 old d new e = at_fields (λ f g. not (same old f.ty new g.ty)) parcelable_fields d e

-- C12: the types at such a position of a parcelable, or at position 0 of a union, are the same and the defaults differ,
-- unless the default is a record or an alternative in old or in new.
abbrev pub is_default_changed : List Decl → Field → List Decl → Field → Bool
is_default_changed old f new g = same old f.ty new g.ty
    && (not (has_composite_default old f.ty || has_composite_default new g.ty)
    && not (same_default (default_in old f) (default_in new g)))

abbrev pub C12 : Rule
C12 old d new e = at_fields (λ f g. is_default_changed old f new g) fields_with_default d e

-- C13: a parcelable's field at a position not below old's count has as its default a record, an alternative, or the
-- 0 of an enum that has no enumerator of value 0.
abbrev pub is_refused_addition : List Decl → Field → Bool
is_refused_addition S g = is_one_value g.ty
    && (is_composite (form_of S g.ty.base) || (is_enum_without_zero S g.ty.base && is_none g.initial))

abbrev pub C13 : Rule
C13 old d new e = places (λ g. member d g.name) (λ g. is_refused_addition new g)
    (drop (length (parcelable_fields d.kind)) (parcelable_fields e.kind))

-- C14: a parcelable or union has `@FixedSize` in one schema alone; or in both, and new has more fields.
abbrev pub C14 : Rule
C14 old d new e = place_if (whole d) ((is_parcelable d.kind || is_union d.kind)
    && (not (same_bool d.fixed e.fixed)
    || ((d.fixed && e.fixed) && nat_lt (length (fields_of d.kind)) (length (fields_of e.kind)))))

-- C15: a union of new has fewer fields; or names or types at a position below both counts differ.
abbrev pub C15 : Rule
C15 old d new e = place_if (whole d) (nat_lt (length (union_fields e.kind)) (length (union_fields d.kind)))
    ++ at_fields (λ f g. not (same_text f.name.0 g.name.0) || not (same old f.ty new g.ty)) union_fields d e

-- C16: the backings of an enum differ.
abbrev pub C16 : Rule
C16 old d new e = place_if (whole d) (not (backing_code d.kind == backing_code e.kind))

-- C17: an enumerator of old isn't in new, or its value differs.
abbrev pub C17 : Rule
C17 old d new e = places (λ x. member d x.name) (λ x. not
    (is_kept same_enumerator (λ x y. int_eq x.value y.value) (enumerators_of e.kind) x)) (enumerators_of d.kind)

-- C18: a constant of old isn't in new, or its type or value differs. No constant is of a declared type.
abbrev pub C18 : Rule
C18 old d new e = places (λ c. member d c.name)
    (λ c. not (is_kept same_constant (λ c k. (base_code c.ty == base_code k.ty) && same_const c.value k.value)
    e.constants c)) d.constants

-- C19: `@VintfStability` differs; or `@utf8InCpp` or `heap` differs at a field position below both counts, at an
-- argument position below both counts, or on a common method's return type where both return a value.
abbrev pub C19 : Rule
C19 old d new e = place_if (whole d) (not (same_bool d.vintf e.vintf))
    ++ (at_fields (λ f g. not (same_marks f.ty g.ty)) fields_of d e
    ++ (at_arguments (λ a b. not (same_marks a.ty b.ty)) d e
    ++ at_methods (λ m w. not (same_result_marks m.result w.result)) d e))

-- a rule's number and a place at which it is broken
abbrev pub Break : Type 0
Break = ℕ × Place

-- each place beside the number of the rule
abbrev pub of_rule : ℕ → List Place → List Break
of_rule number ps = map (λ p. (number, p)) ps

-- those that speak of an n whose kind is the same in both
abbrev pub rules : List (ℕ × Rule)
rules = (3, C3) ∷ (4, C4) ∷ (5, C5) ∷ (6, C6) ∷ (7, C7) ∷ (8, C8) ∷ (9, C9) ∷ (10, C10) ∷ (11, C11) ∷ (12, C12)
    ∷ (13, C13) ∷ (14, C14)
    ∷ (15, C15) ∷ (16, C16) ∷ (17, C17) ∷ (18, C18) ∷ (19, C19) ∷ []

-- what a declaration of old and that of its name in new break
abbrev pub broken_by : List Decl → Decl → List Decl → Decl → List Break
broken_by old d new e = of_rule 2 (C2 old d new e)
    ++ (if kind_code d.kind == kind_code e.kind then flat_map (λ r. of_rule r.0 (r.1 old d new e)) rules else [])

-- of what was found
abbrev pub if_found : {X Y : Type 0} → (X → List Y) → Option X → List Y
if_found F None = []
if_found F (Some x) = F x

-- what is broken, declaration by declaration of old and rule by rule
abbrev pub breaks : List Decl → List Decl → List Break
breaks old new = flat_map
    (λ d. of_rule 1 (C1 d new) ++ if_found (λ e. broken_by old d new e) (find (λ e. same_name d e) new)) old

-- by the bytes of the place, which are of ASCII, then by rule
abbrev pub break_order : Break → Break → Ordering
break_order = then_cmp (on (λ b. b.1) (slice_cmp nat_cmp)) (on (λ b. b.0) nat_cmp)

-- b before c and those after it, in place of c, or further on
abbrev pub place_by : Ordering → Break → Break → List Break → List Break → List Break
place_by Less b c cs further = b ∷ (c ∷ cs)
place_by Equal b c cs further = c ∷ cs
place_by Greater b c cs further = c ∷ further

abbrev pub put : Break → List Break → List Break
put b [] = b ∷ []
put b (c ∷ cs) = place_by (break_order b c) b c cs (put b cs)

abbrev pub sorted_once : List Break → List Break
sorted_once [] = []
sorted_once (b ∷ bs) = put b (sorted_once bs)

-- *Broken*: sorted, each once
abbrev pub broken : List Decl → List Decl → List Break
broken old new = sorted_once (breaks old new)
