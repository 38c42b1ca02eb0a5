-- The items of a tree: what has an outcome of its own (own, after AOSP, "AIDL language", "Constants").
use Rattle.std.specs.Prelude.{ℕ, Bool, true, false, ◌||◌, ◌&&◌, nat_eq, List, [], ◌∷◌, ◌++◌, map, Option, Some, None}
use Rattle.std.specs.List.{fold, position_from}
use Rattle.std.specs.declared.cmp.Ordering.{Ordering}
use Rattle.std.specs.Ordering.{nat_cmp, ordering_then, match_ordering}
use Rattle.aidl_syntax.specs.declared.tree.TypeTree.{TypeTree}
use Rattle.aidl_syntax.specs.Trees.{Expr, offset_of, Init, Field, Constant, Enumerator, Body}
use Rattle.aidl_syntax.specs.Trees.Init.{single, braces}
use Rattle.aidl_syntax.specs.Trees.Body.{parcelable, union, enum, interface}
use Rattle.aidl_syntax.specs.Members.{Member, listed, body}
use Rattle.aidl_syntax.specs.Members.Member.{field, constant, method, enumerator, nested}
use Rattle.aidl_syntax.specs.Sources.{Source}
use Rattle.declared_names.specs.Declarations.{Entry, declarations}
use Rattle.declared_names.specs.Numbered.{in_each}
use Rattle.const_values.specs.declared.wanted.Wanted.{Wanted}
use Rattle.type_shapes.specs.declared.shape.Shape.{Shape}
use Rattle.type_shapes.specs.Types.{shape_in, wanted_one, wanted_element}
use Rattle.type_shapes.specs.Backing.{backing_of}
use Rattle.type_shapes.specs.Initializers.{is_unjudged}

-- an expression; or an enumerator without one, the first of its enum or the one after that at a place
pub data Written : Type 0 where
  written : Expr → Written
  first : Written
  after : ℕ → Written

-- An item: its file, the declaration that it stands in, its place, whether it is an enumerator, the value that is
-- wanted of it, whether it is left unjudged for the form of its initializer, and what is written.
pub record Item : Type 0 where
  pub file : ℕ
  pub scope : ℕ
  pub place : ℕ
  pub enumerates : Bool
  pub wanted : Wanted
  pub unjudged : Bool
  pub value : Written

-- an expression of which a value is wanted
abbrev pub of_expression : ℕ → ℕ → Wanted → Bool → Expr → Item
of_expression file scope wanted unjudged e =
    record {
      file = file;
      scope = scope;
      place = offset_of e;
      enumerates = false;
      wanted = wanted;
      unjudged = unjudged;
      value = written e;
    }

-- the items of an initializer: the expression, or each member of the brace list
abbrev pub of_init : List Entry → ℕ → ℕ → Shape → Bool → Init → List Item
of_init entries file scope t unjudged (single e) = of_expression file scope (wanted_one entries t) unjudged e ∷ []
of_init entries file scope t unjudged (braces offset es) =
    map (of_expression file scope (wanted_element entries t) unjudged) es

-- of an initializer of a type, of a field that may be one after the first of a union
abbrev pub of_typed : List Entry → ℕ → ℕ → Bool → Shape → Init → List Item
of_typed entries file scope later t init = of_init entries file scope t (is_unjudged entries later t init) init

abbrev pub of_initial : List Source → ℕ → ℕ → Bool → TypeTree → Option Init → List Item
of_initial files file scope later ty None = []
of_initial files file scope later ty (Some init) =
    of_typed (declarations files) file scope later (shape_in files file scope ty) init

-- of a field, which may be one after the first of a union
abbrev pub of_field : List Source → ℕ → ℕ → Bool → Field → List Item
of_field files file scope later f = of_initial files file scope later f.ty f.initial

abbrev pub of_constant : List Source → ℕ → ℕ → Constant → Item
of_constant files file scope c =
    of_expression file scope (wanted_one (declarations files) (shape_in files file scope c.ty)) false c.value

abbrev pub place_by : ℕ → Option Expr → ℕ
place_by named None = named
place_by named (Some e) = offset_of e

-- where an enumerator's expression begins, or else its name
abbrev pub place_of : Enumerator → ℕ
place_of e = place_by e.name.offset e.value

-- an enumerator without an expression, behind the one at a place or behind none
abbrev pub behind : Option ℕ → Written
behind None = first
behind (Some place) = after place

abbrev pub written_as : Option ℕ → Option Expr → Written
written_as before None = behind before
written_as before (Some e) = written e

abbrev pub of_enumerator : ℕ → ℕ → Wanted → Option ℕ → Enumerator → Item
of_enumerator file scope backing before e =
    record {
      file = file;
      scope = scope;
      place = place_of e;
      enumerates = true;
      wanted = backing;
      unjudged = false;
      value = written_as before e.value;
    }

-- enumerators, behind the one at a place or behind none
abbrev pub of_enumerators : ℕ → ℕ → Wanted → Option ℕ → List Enumerator → List Item
of_enumerators file scope backing before [] = []
of_enumerators file scope backing before (e ∷ es) =
    of_enumerator file scope backing before e ∷ of_enumerators file scope backing (Some (place_of e)) es

-- The items of the members of a declaration that is no enum; `later` says that a field of a union stands before
-- them. Nested declarations have a number of their own.
abbrev pub of_members : List Source → ℕ → ℕ → Bool → Bool → List Member → List Item
of_members files file scope in_union later [] = []
of_members files file scope in_union later (field f ∷ ms) = of_field files file scope later f
    ++ of_members files file scope in_union (later || in_union) ms
of_members files file scope in_union later (constant c ∷ ms) =
    of_constant files file scope c ∷ of_members files file scope in_union later ms
of_members files file scope in_union later (method m ∷ ms) = of_members files file scope in_union later ms
of_members files file scope in_union later (enumerator e ∷ ms) = of_members files file scope in_union later ms
of_members files file scope in_union later (nested d ∷ ms) = of_members files file scope in_union later ms

abbrev pub of_body : List Source → ℕ → ℕ → Wanted → Body → List Item
of_body files file scope backing (parcelable ms) = of_members files file scope false false (listed ms)
of_body files file scope backing (union ms) = of_members files file scope true false (listed ms)
of_body files file scope backing (enum es) = of_enumerators file scope backing None es
of_body files file scope backing (interface oneway ms) = of_members files file scope false false (listed ms)

-- of the declaration with a number
abbrev pub of_entry : List Source → ℕ → Entry → List Item
of_entry files number e = of_body files e.file number (backing_of e.tree) (body e.tree)

-- in the order of the declarations
abbrev pub declared : List Source → List Item
declared files = in_each (of_entry files) 0 (declarations files)

-- by file and by place
abbrev pub order : Item → Item → Ordering
order x y = ordering_then (nat_cmp x.file y.file) (nat_cmp x.place y.place)

-- An item at its place among others; it would stand for another with that place. (Of tokens each begins at a place
-- of its own.)
abbrev pub put : List Item → Item → List Item
put [] x = x ∷ []
put (y ∷ more) x = match_ordering (order x y) (x ∷ y ∷ more) (x ∷ more) (y ∷ put more x)

-- the items of a tree, in the order of their files and places: that of their numbers
unfoldable pub items : List Source → List Item
items files = fold put [] (declared files)

-- it is the item with the place
abbrev pub is_at : ℕ → ℕ → Item → Bool
is_at file place x = nat_eq x.file file && nat_eq x.place place

-- the number of the item with a place
abbrev pub number_at : List Item → ℕ → ℕ → Option ℕ
number_at xs file place = position_from (is_at file place) 0 xs
