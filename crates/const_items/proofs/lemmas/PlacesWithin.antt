-- The places of items are among those of the tree.
use Rattle.std.proofs.Common.{◌≡◌, ℕ, ◌+◌, ◌<◌, Bool, true, false, ◌||◌, ◌≤◌, List, [], ◌∷◌, ◌++◌, length, map, Option, Some, None, refl, sym, subst, arith}
use Rattle.std.specs.List.{All}
use Rattle.std.proofs.lemmas.List.Elements.{All-nil, All-cons, All-head, All-tail, All-append, All-push, All-contains}
use Rattle.std.proofs.lemmas.Option.{slice_get_within, get_or_from_slice_get}
use Rattle.aidl_base.specs.declared.name.Ident.{Ident}
use Rattle.aidl_syntax.specs.declared.tree.TypeTree.{TypeTree}
use Rattle.aidl_syntax.specs.Trees.{Expr, offset_of, Init, Enumerator, Decl, Body, Members}
use Rattle.aidl_syntax.specs.Trees.Init.{single, braces}
use Rattle.aidl_syntax.specs.Trees.Decl.{decl}
use Rattle.aidl_syntax.specs.Trees.Body.{parcelable, union, enum, interface}
use Rattle.aidl_syntax.specs.Trees.Members.{none, field, constant, method, nested}
use Rattle.aidl_syntax.specs.Members.{listed, body}
use Rattle.aidl_syntax.specs.Walks.{placing, of_option, of_each, in_annots, in_type, in_init, in_field, in_constant, in_enumerator, in_method, in_decl, in_body, in_members, places_of}
use Rattle.aidl_syntax.specs.Sources.{Source}
use Rattle.declared_names.specs.Declarations.{Entry, declarations, with_decl, with_body, with_members, with_file, with_files, name_inside}
use Rattle.declared_names.specs.Names.{parts_of}
use Rattle.const_values.specs.declared.wanted.Wanted.{Wanted}
use Rattle.type_shapes.specs.declared.shape.Shape.{Shape}
use Rattle.const_items.specs.SmallPlaces.{Small, HasSmall}
use Rattle.const_items.specs.Items.{Item, of_expression, of_init, of_initial, of_field, of_members, of_enumerator, of_enumerators, of_body, of_entry, declared, items, place_by, place_of}
use Rattle.const_items.proofs.EachItem.{in_each_all}
use Rattle.const_items.proofs.lemmas.Keys.{IsPlaced, Rises, few_items, items_placed, items_rise}

front : (xs ys : List ℕ) → Small (xs ++ ys) → Small xs
front [] ys all = All-nil (λ o. o < 262144)
front (x ∷ xs) ys all = All-cons (λ o. o < 262144) x xs (All-head (λ o. o < 262144) x (xs ++ ys) all) (front xs ys (All-tail (λ o. o < 262144) x (xs ++ ys) all))

back : (xs ys : List ℕ) → Small (xs ++ ys) → Small ys
back [] ys all = all
back (x ∷ xs) ys all = back xs ys (All-tail (λ o. o < 262144) x (xs ++ ys) all)

one : (o : ℕ) → Small (o ∷ []) → o < 262144
one o all = All-head (λ p. p < 262144) o [] all

-- Of the items of one declaration.
module _ (files : List Source) (file scope : ℕ) (low : file < 4096) where
  placed : (x : Item) → x.file ≡ file → x.place < 262144 → IsPlaced x
  placed x e lt = record { file = subst (λ (n : ℕ). n < 4096) (sym e) low; place = lt }

  expressions : (w : Wanted) (u : Bool) (es : List Expr) → Small (of_each (λ e. offset_of e ∷ []) es) → All IsPlaced (map (of_expression file scope w u) es)
  expressions w u [] all = All-nil IsPlaced
  expressions w u (e ∷ es) all =
      All-cons IsPlaced _ _ (placed (of_expression file scope w u e) refl (All-head (λ o. o < 262144) (offset_of e) (of_each (λ d. offset_of d ∷ []) es) all))
      (expressions w u es (All-tail (λ o. o < 262144) (offset_of e) (of_each (λ d. offset_of d ∷ []) es) all))

  inits : (t : Shape) (u : Bool) (i : Init) → Small (in_init placing i) → All IsPlaced (of_init (declarations files) file scope t u i)
  inits t u (single e) all = All-cons IsPlaced _ [] (placed (of_expression file scope _ u e) refl (one (offset_of e) all)) (All-nil IsPlaced)
  inits t u (braces offset es) all = expressions _ u es (back (offset ∷ []) (of_each (λ e. offset_of e ∷ []) es) all)

  initials : (later : Bool) (ty : TypeTree) (i : Option Init) → Small (of_option (in_init placing) i) → All IsPlaced (of_initial files file scope later ty i)
  initials later ty None all = All-nil IsPlaced
  initials later ty (Some i) all = inits _ _ i all

  members : (u l : Bool) (ms : Members) → Small (in_members placing ms) → All IsPlaced (of_members files file scope u l (listed ms))
  members u l none all = All-nil IsPlaced
  members u l (field f ms) all =
      let here : Small (in_field placing f) = front (in_field placing f) (in_members placing ms) all in
      let typed : Small (in_type placing f.ty ++ (f.name.offset ∷ [] ++ of_option (in_init placing) f.initial)) = back (in_annots placing f.annots) _ here in
      let named : Small (f.name.offset ∷ [] ++ of_option (in_init placing) f.initial) = back (in_type placing f.ty) _ typed in
      All-append IsPlaced (of_field files file scope l f) (of_members files file scope u (l || u) (listed ms))
      (initials l f.ty f.initial (back (f.name.offset ∷ []) (of_option (in_init placing) f.initial) named))
      (members u (l || u) ms (back (in_field placing f) (in_members placing ms) all))
  members u l (constant c ms) all =
      let here : Small (in_constant placing c) = front (in_constant placing c) (in_members placing ms) all in
      let typed : Small (in_type placing c.ty ++ (c.name.offset ∷ [] ++ offset_of c.value ∷ [])) = back (in_annots placing c.annots) _ here in
      let named : Small (c.name.offset ∷ [] ++ offset_of c.value ∷ []) = back (in_type placing c.ty) _ typed in
      All-cons IsPlaced _ _ (placed (of_expression file scope _ false c.value) refl (one (offset_of c.value) (back (c.name.offset ∷ []) (offset_of c.value ∷ []) named)))
      (members u l ms (back (in_constant placing c) (in_members placing ms) all))
  members u l (method m ms) all = members u l ms (back (in_method placing m) (in_members placing ms) all)
  members u l (nested d ms) all = members u l ms (back (in_decl placing d) (in_members placing ms) all)

  place_small : (named : ℕ) (v : Option Expr) → Small (named ∷ [] ++ of_option (λ e. offset_of e ∷ []) v) → place_by named v < 262144
  place_small named None all = All-head (λ o. o < 262144) named [] all
  place_small named (Some e) all = one (offset_of e) (All-tail (λ o. o < 262144) named (offset_of e ∷ []) all)

  enumerators : (w : Wanted) (before : Option ℕ) (es : List Enumerator) → Small (of_each (in_enumerator placing) es) → All IsPlaced (of_enumerators file scope w before es)
  enumerators w before [] all = All-nil IsPlaced
  enumerators w before (e ∷ es) all =
      All-cons IsPlaced _ _ (placed (of_enumerator file scope w before e) refl (place_small e.name.offset e.value (front (in_enumerator placing e) (of_each (in_enumerator placing) es) all)))
      (enumerators w (Some (place_of e)) es (back (in_enumerator placing e) (of_each (in_enumerator placing) es) all))

  bodies : (w : Wanted) (b : Body) → Small (in_body placing b) → All IsPlaced (of_body files file scope w b)
  bodies w (parcelable ms) all = members false false ms all
  bodies w (union ms) all = members true false ms all
  bodies w (enum es) all = enumerators w None es all
  bodies w (interface oneway ms) all = members false false ms all

-- Of the declarations: each lies in one of the files, and its places are small.
abbrev IsFine : Entry → Type 0
IsFine e = (e.file < 4096) × Small (in_decl placing e.tree)

inner_small : (d : Decl) → Small (in_decl placing d) → Small (in_body placing (body d))
inner_small (decl offset annots n inner) all =
    let named : Small (n.offset ∷ [] ++ in_body placing inner) = back (in_annots placing annots) _ all in
    back (n.offset ∷ []) (in_body placing inner) named

mutual
  decl_fine : (file : ℕ) (outer : Option ℕ) (name : List Ident) (d : Decl) (before : List Entry) → file < 4096 → Small (in_decl placing d) → All IsFine before → All IsFine (with_decl file outer name d before)
  decl_fine file outer name (decl offset annots n inner) before lt all old =
      let e : Entry = record { name = name; file = file; outer = outer; tree = decl offset annots n inner } in
      body_fine file (length before) name inner (before ++ e ∷ []) lt (inner_small (decl offset annots n inner) all) (All-push IsFine before e old (lt, all))

  body_fine : (file number : ℕ) (name : List Ident) (b : Body) (before : List Entry) → file < 4096 → Small (in_body placing b) → All IsFine before → All IsFine (with_body file number name b before)
  body_fine file number name (parcelable ms) before lt all old = members_fine file number name ms before lt all old
  body_fine file number name (union ms) before lt all old = members_fine file number name ms before lt all old
  body_fine file number name (enum es) before lt all old = old
  body_fine file number name (interface oneway ms) before lt all old = members_fine file number name ms before lt all old

  members_fine : (file number : ℕ) (name : List Ident) (ms : Members) (before : List Entry) → file < 4096 → Small (in_members placing ms) → All IsFine before → All IsFine (with_members file number name ms before)
  members_fine file number name none before lt all old = old
  members_fine file number name (field f ms) before lt all old = members_fine file number name ms before lt (back (in_field placing f) (in_members placing ms) all) old
  members_fine file number name (constant c ms) before lt all old = members_fine file number name ms before lt (back (in_constant placing c) (in_members placing ms) all) old
  members_fine file number name (method m ms) before lt all old = members_fine file number name ms before lt (back (in_method placing m) (in_members placing ms) all) old
  members_fine file number name (nested d ms) before lt all old =
      members_fine file number name ms (with_decl file (Some number) (name_inside name d) d before) lt (back (in_decl placing d) (in_members placing ms) all)
      (decl_fine file (Some number) (name_inside name d) d before lt (front (in_decl placing d) (in_members placing ms) all) old)

declared_small : (s : Source) → HasSmall s → Small (in_decl placing s.tree.declared)
unfolding places_of
declared_small s all =
    let imported : Small (of_each placing.dotted s.tree.imports ++ in_decl placing s.tree.declared) = back (of_option placing.dotted s.tree.«package») _ all in
    back (of_each placing.dotted s.tree.imports) (in_decl placing s.tree.declared) imported

files_fine : (n : ℕ) (fs : List Source) (before : List Entry) → n + length fs ≤ 4096 → All HasSmall fs → All IsFine before → All IsFine (with_files n fs before)
files_fine n [] before le all old = old
files_fine n (s ∷ fs) before le all old =
    files_fine (n + 1) fs (with_file n s before) (omega arith) (All-tail HasSmall s fs all)
    (decl_fine n None (name_inside (parts_of s.tree.«package») s.tree.declared) s.tree.declared before (omega arith) (declared_small s (All-head HasSmall s fs all)) old)

declared_placed : (files : List Source) → length files ≤ 4096 → All HasSmall files → All IsPlaced (declared files)
declared_placed files le all =
    let fine : All IsFine (declarations files) = files_fine 0 files [] (omega arith) all (All-nil IsFine) in
    in_each_all IsPlaced (of_entry files) 0 (declarations files) (λ k e h.
    let f : IsFine e = All-contains IsFine (declarations files) e fine (k, slice_get_within (declarations files) k e h, get_or_from_slice_get (declarations files) k e e h) in
    bodies files e.file (0 + k) f.0 _ (body e.tree) (inner_small e.tree f.1))

-- so there are at most 2 ^ 30 items
pub items_few : (files : List Source) → length files ≤ 4096 → All HasSmall files → length (items files) ≤ 1073741824
items_few files le all = few_items files (declared_placed files le all)

-- and they ascend
pub items_ascend : (files : List Source) → length files ≤ 4096 → All HasSmall files → All IsPlaced (items files) × Rises 0 (items files)
items_ascend files le all = let placed = declared_placed files le all in (items_placed files placed, items_rise files placed)
