-- Each item stands at its place, where no place comes twice in a file.
use Rattle.std.proofs.Common.{◌≡◌, ◌≤◌, ◌<◌, ◌+◌, ◌==◌, ℕ, zero, suc, Bool, true, false, ◌&&◌, ◌||◌, nat_eq, nat_cmp, is_eq, Ordering, Less, Equal, Greater, if◌then◌else◌, List, [], ◌∷◌, ◌++◌, map, fold, length, Option, Some, None, slice_get, refl, sym, ap, ◌∙◌, subst, arith}
use Rattle.std.specs.Cmp.Lexicographic.{slice_cmp}
use Rattle.std.specs.Ordering.{match_ordering}
use Rattle.std.proofs.lemmas.Bool.Decides.{nat_tests}
use Rattle.std.proofs.lemmas.Map.Text.{is_eq-slice_cmp}
use Rattle.aidl_base.specs.declared.name.Ident.{Ident}
use Rattle.aidl_schema.specs.Same.{same_text}
use Rattle.aidl_schema.proofs.lemmas.Sames.{same_text_sym}
use Rattle.aidl_syntax.specs.declared.tree.TypeTree.{TypeTree}
use Rattle.aidl_syntax.specs.Trees.{Expr, offset_of, Init, Enumerator, Decl, Body, Members}
use Rattle.aidl_syntax.specs.Trees as tree
use Rattle.aidl_syntax.specs.Trees.Decl.{decl}
use Rattle.aidl_syntax.specs.Trees.Body.{parcelable, union, enum, interface}
use Rattle.aidl_syntax.specs.Trees.Init.{single, braces}
use Rattle.aidl_syntax.specs.Trees.Members.{none, field, constant, method, nested}
use Rattle.aidl_syntax.specs.Members.{listed, body}
use Rattle.aidl_syntax.specs.Walks.{placing, of_option, of_each, in_annots, in_type, in_init, in_field, in_constant, in_method, in_enumerator, in_decl, in_body, in_members, in_file}
use Rattle.declared_names.specs.Declarations.{Entry, declarations, with_decl, with_body, with_members, with_file, with_files, name_inside}
use Rattle.declared_names.specs.Names.{parts_of}
use Rattle.declared_names.specs.Numbered.{in_each}
use Rattle.aidl_syntax.specs.Sources.{Source}
use Rattle.const_values.specs.declared.wanted.Wanted.{Wanted}
use Rattle.type_shapes.specs.Backing.{backing_of}
use Rattle.const_items.specs.Items.{Item, items, declared, is_at, of_entry, of_body, of_members, of_field, of_initial, of_expression, of_enumerators, place_by, place_of}
use Rattle.tree_schema.proofs.lemmas.walked.Lists.{only-found}
use Rattle.tree_schema.proofs.lemmas.walked.Placed.{placed, all-total, Each}
use Rattle.tree_schema.proofs.lemmas.walked.Totals.{total, total-append, total-same, is_that, counts-itself}
use Rattle.tree_schema.proofs.typed.Uses.{each-from_at}
use Rattle.tree_schema.proofs.lemmas.settled.Items.{key, items-are}
use Rattle.tree_schema.proofs.lemmas.settled.Settled.{Stands}

-- Items that are put at their places

abbrev Has : {X : Type 0} → List X → X → Type 0
Has xs x = (i : ℕ) × (slice_get xs i ≡ Some x)

abbrev one_if : Bool → ℕ
one_if b = if b then 1 else 0

module _ {X : Type 0} (of : X → List ℕ) where
  placed_has : (ys : List X) (x : X) → Has (placed of ys x) x
  placed_has [] x = (0, refl)
  placed_has (y ∷ more) x = by (slice_cmp nat_cmp (of x) (of y)) (placed_has more x) where
    by : (o : Ordering) → Has (placed of more x) x → Has (match_ordering o (x ∷ y ∷ more) (x ∷ more) (y ∷ placed of more x)) x
    by Less h = (0, refl)
    by Equal h = (0, refl)
    by Greater h = (suc h.0, h.1)

  placed_keeps : (ys : List X) (x y : X) (i : ℕ) → slice_get ys i ≡ Some y → same_text (of x) (of y) ≡ false → Has (placed of ys x) y
  placed_keeps [] x y i at n = cc
  placed_keeps (z ∷ more) x y zero at n = by (slice_cmp nat_cmp (of x) (of z)) (is_eq-slice_cmp (of x) (of z) ∙ differs) where
    differs : same_text (of x) (of z) ≡ false
    differs = let is : z ≡ y = cc in ap (λ w. same_text (of x) (of w)) is ∙ n

    by : (o : Ordering) → is_eq o ≡ false → Has (match_ordering o (x ∷ z ∷ more) (x ∷ more) (z ∷ placed of more x)) y
    by Less e = (1, at)
    by Equal e = cc
    by Greater e = (0, at)
  placed_keeps (z ∷ more) x y (suc i) at n = by (slice_cmp nat_cmp (of x) (of z)) (placed_keeps more x y i at n) where
    by : (o : Ordering) → Has (placed of more x) y → Has (match_ordering o (x ∷ z ∷ more) (x ∷ more) (z ∷ placed of more x)) y
    by Less h = (suc (suc i), at)
    by Equal h = (suc i, at)
    by Greater h = (suc h.0, h.1)

  differs_by : (s t : List ℕ) → is_that s t ≡ 0 → same_text t s ≡ false
  differs_by s t e = same_text_sym t s ∙ by (same_text s t) e where
    by : (b : Bool) → one_if b ≡ 0 → b ≡ false
    by true g = absurd (omega arith)
    by false g = refl

  fold_keeps : (xs ys : List X) (y : X) → Has ys y → total (λ x. is_that (of y) (of x)) xs ≡ 0 → Has (fold (placed of) ys xs) y
  fold_keeps [] ys y h e = h
  fold_keeps (x ∷ xs) ys y h e =
      let first : is_that (of y) (of x) ≡ 0 = omega arith in
      let rest : total (λ z. is_that (of y) (of z)) xs ≡ 0 = omega arith in
      fold_keeps xs (placed of ys x) y (placed_keeps ys x y h.0 h.1 (differs_by (of y) (of x) first)) rest

  fold_has : (xs ys : List X) (j : ℕ) (y : X) → slice_get xs j ≡ Some y → total (λ x. is_that (of y) (of x)) xs ≤ 1 → Has (fold (placed of) ys xs) y
  fold_has [] ys j y at le = cc
  fold_has (x ∷ xs) ys zero y at le =
      let is : x ≡ y = cc in
      let one : is_that (of y) (of x) ≡ 1 = ap (λ z. is_that (of y) (of z)) is ∙ counts-itself (of y) in
      let rest : total (λ z. is_that (of y) (of z)) xs ≡ 0 = omega arith in
      fold_keeps xs (placed of ys x) y (subst (λ z. Has (placed of ys x) z) is (placed_has ys x)) rest
  fold_has (x ∷ xs) ys (suc j) y at le = fold_has xs (placed of ys x) j y at (omega arith)

and_true : (b : Bool) → (b && true) ≡ b
and_true true = refl
and_true false = refl

at_is : (file place : ℕ) (z : Item) → is_at file place z ≡ same_text (file ∷ place ∷ []) (key z)
at_is file place z =
    let one : nat_eq z.file file ≡ nat_eq file z.file = grind (arith, nat_tests) in
    let two : nat_eq z.place place ≡ nat_eq place z.place = grind (arith, nat_tests) in
    ap (λ b. b && nat_eq z.place place) one ∙ ap (λ b. nat_eq file z.file && b) (two ∙ sym (and_true (nat_eq place z.place)))

-- an item of a declaration whose place comes once stands there
stands_by : (files : List Source) (j : ℕ) (y : Item) → slice_get (declared files) j ≡ Some y → total (λ x. is_that (key y) (key x)) (declared files) ≤ 1 → Stands files y
stands_by files j y at le =
    let has = fold_has key (declared files) [] j y at le in
    let there : slice_get (items files) has.0 ≡ Some y = ap (λ xs. slice_get xs has.0) (items-are files) ∙ has.1 in
    let all = all-total key (λ x. is_that (key y) (key x)) [] (declared files) in
    let same = total-same (λ (z : Item). if is_at y.file y.place z then 1 else 0) (λ z. is_that (key y) (key z)) (λ z. ap (λ b. if b then 1 else 0) (at_is y.file y.place z)) (items files) in
    let placed_total : total (λ z. is_that (key y) (key z)) (items files) ≡ total (λ z. is_that (key y) (key z)) (fold (placed key) [] (declared files)) = ap (total (λ z. is_that (key y) (key z))) (items-are files) in
    let itself : is_at y.file y.place y ≡ true = grind (arith, nat_tests) in
    let found = only-found (is_at y.file y.place) 0 (items files) has.0 y there itself (omega arith) in
    let zero_on : 0 + has.0 ≡ has.0 = omega arith in
    (has.0, found ∙ ap Some zero_on, there)

-- What the places of items weigh, declaration by declaration

abbrev own_init : (ℕ → ℕ) → Option Init → ℕ
own_init g None = 0
own_init g (Some (single e)) = g (offset_of e)
own_init g (Some (braces o es)) = total (λ e. g (offset_of e)) es

abbrev own_members : (ℕ → ℕ) → Members → ℕ
own_members g none = 0
own_members g (field f ms) = own_init g f.initial + own_members g ms
own_members g (constant c ms) = g (offset_of c.value) + own_members g ms
own_members g (method m ms) = own_members g ms
own_members g (nested d ms) = own_members g ms

abbrev own : (ℕ → ℕ) → Body → ℕ
own g (parcelable ms) = own_members g ms
own g (union ms) = own_members g ms
own g (enum es) = total (λ e. g (place_of e)) es
own g (interface oneway ms) = own_members g ms

module _ (G : ℕ → ℕ → ℕ) where
  abbrev weight : Item → ℕ
  weight x = G x.file x.place

  module _ (files : List Source) (file scope : ℕ) where
    exprs_weigh : (w : Wanted) (u : Bool) (es : List Expr) → total weight (map (of_expression file scope w u) es) ≡ total (λ e. G file (offset_of e)) es
    exprs_weigh w u [] = refl
    exprs_weigh w u (e ∷ es) = ap (λ (n : ℕ). G file (offset_of e) + n) (exprs_weigh w u es)

    initial_weighs : (later : Bool) (ty : TypeTree) (o : Option Init) → total weight (of_initial files file scope later ty o) ≡ own_init (G file) o
    initial_weighs later ty None = refl
    initial_weighs later ty (Some (single e)) = omega arith
    initial_weighs later ty (Some (braces o es)) = exprs_weigh _ _ es

    members_weigh : (u l : Bool) (ms : Members) → total weight (of_members files file scope u l (listed ms)) ≡ own_members (G file) ms
    members_weigh u l none = refl
    members_weigh u l (field f ms) =
        let parts = total-append weight (of_field files file scope l f) (of_members files file scope u (l || u) (listed ms)) in
        let here = initial_weighs l f.ty f.initial in
        let rest = members_weigh u (l || u) ms in
        omega arith
    members_weigh u l (constant c ms) = ap (λ (n : ℕ). G file (offset_of c.value) + n) (members_weigh u l ms)
    members_weigh u l (method m ms) = members_weigh u l ms
    members_weigh u l (nested d ms) = members_weigh u l ms

    enumerators_weigh : (w : Wanted) (before : Option ℕ) (es : List Enumerator) → total weight (of_enumerators file scope w before es) ≡ total (λ e. G file (place_of e)) es
    enumerators_weigh w before [] = refl
    enumerators_weigh w before (e ∷ es) = ap (λ (n : ℕ). G file (place_of e) + n) (enumerators_weigh w (Some (place_of e)) es)

    body_weighs : (w : Wanted) (b : Body) → total weight (of_body files file scope w b) ≡ own (G file) b
    body_weighs w (parcelable ms) = members_weigh false false ms
    body_weighs w (union ms) = members_weigh true false ms
    body_weighs w (enum es) = enumerators_weigh w None es
    body_weighs w (interface oneway ms) = members_weigh false false ms

  abbrev entry_weight : Entry → ℕ
  entry_weight e = own (G e.file) (body e.tree)

  entries_weigh : (files : List Source) (k : ℕ) (es : List Entry) → total weight (in_each (of_entry files) k es) ≡ total entry_weight es
  entries_weigh files k [] = refl
  entries_weigh files k (e ∷ es) =
      let parts = total-append weight (of_entry files k e) (in_each (of_entry files) (k + 1) es) in
      let here = body_weighs files e.file k (backing_of e.tree) (body e.tree) in
      let rest = entries_weigh files (k + 1) es in
      omega arith

  declared_weigh : (files : List Source) → total weight (declared files) ≡ total entry_weight (declarations files)
  declared_weigh files = entries_weigh files 0 (declarations files)

  -- no more than all places of the trees
  offsets_weigh : (g : ℕ → ℕ) (es : List Expr) → total g (of_each placing.valued es) ≡ total (λ e. g (offset_of e)) es
  offsets_weigh g [] = refl
  offsets_weigh g (e ∷ es) = ap (λ (n : ℕ). g (offset_of e) + n) (offsets_weigh g es)

  init_within : (g : ℕ → ℕ) (o : Option Init) → own_init g o ≤ total g (of_option (in_init placing) o)
  init_within g None = omega arith
  init_within g (Some (single e)) = omega arith
  init_within g (Some (braces o es)) = let same = offsets_weigh g es in omega arith

  field_within : (g : ℕ → ℕ) (f : tree.Field) → own_init g f.initial ≤ total g (in_field placing f)
  field_within g f =
      let init = of_option (in_init placing) f.initial in
      let one = total-append g (in_annots placing f.annots) (in_type placing f.ty ++ (f.name.offset ∷ init)) in
      let two = total-append g (in_type placing f.ty) (f.name.offset ∷ init) in
      let le = init_within g f.initial in
      omega arith

  constant_within : (g : ℕ → ℕ) (c : tree.Constant) → g (offset_of c.value) ≤ total g (in_constant placing c)
  constant_within g c =
      let one = total-append g (in_annots placing c.annots) (in_type placing c.ty ++ (c.name.offset ∷ offset_of c.value ∷ [])) in
      let two = total-append g (in_type placing c.ty) (c.name.offset ∷ offset_of c.value ∷ []) in
      omega arith

  enumerator_within : (g : ℕ → ℕ) (named : ℕ) (o : Option Expr) → g (place_by named o) ≤ total g (named ∷ of_option placing.valued o)
  enumerator_within g named None = omega arith
  enumerator_within g named (Some e) = omega arith

  enumerators_within : (g : ℕ → ℕ) (es : List Enumerator) → total (λ e. g (place_of e)) es ≤ total g (of_each (in_enumerator placing) es)
  enumerators_within g [] = omega arith
  enumerators_within g (e ∷ es) =
      let one = total-append g (in_enumerator placing e) (of_each (in_enumerator placing) es) in
      let here : g (place_of e) ≤ total g (in_enumerator placing e) = enumerator_within g e.name.offset e.value in
      let rest = enumerators_within g es in
      omega arith

  mutual
    decl_within : (file : ℕ) (outer : Option ℕ) (part : List Ident) (d : Decl) (before : List Entry) → total entry_weight (with_decl file outer part d before) ≤ total entry_weight before + total (G file) (in_decl placing d)
    decl_within file outer part (decl offset annots n b) before =
        let e : Entry = record { name = part; file = file; outer = outer; tree = decl offset annots n b } in
        let pushed = total-append entry_weight before (e ∷ []) in
        let inner = body_within file (length before) part b (before ++ e ∷ []) in
        let one = total-append (G file) (in_annots placing annots) (n.offset ∷ in_body placing b) in
        omega arith

    body_within : (file number : ℕ) (part : List Ident) (b : Body) (before : List Entry) → total entry_weight (with_body file number part b before) + own (G file) b ≤ total entry_weight before + total (G file) (in_body placing b)
    body_within file number part (parcelable ms) before = members_within file number part ms before
    body_within file number part (union ms) before = members_within file number part ms before
    body_within file number part (enum es) before = let le = enumerators_within (G file) es in omega arith
    body_within file number part (interface oneway ms) before = members_within file number part ms before

    members_within : (file number : ℕ) (part : List Ident) (ms : Members) (before : List Entry) → total entry_weight (with_members file number part ms before) + own_members (G file) ms ≤ total entry_weight before + total (G file) (in_members placing ms)
    members_within file number part none before = omega arith
    members_within file number part (field f ms) before =
        let rest = members_within file number part ms before in
        let le = field_within (G file) f in
        let parts = total-append (G file) (in_field placing f) (in_members placing ms) in
        omega arith
    members_within file number part (constant c ms) before =
        let rest = members_within file number part ms before in
        let le = constant_within (G file) c in
        let parts = total-append (G file) (in_constant placing c) (in_members placing ms) in
        omega arith
    members_within file number part (method m ms) before =
        let rest = members_within file number part ms before in
        let parts = total-append (G file) (in_method placing m) (in_members placing ms) in
        omega arith
    members_within file number part (nested d ms) before =
        let inner = decl_within file (Some number) (name_inside part d) d before in
        let rest = members_within file number part ms (with_decl file (Some number) (name_inside part d) d before) in
        let parts = total-append (G file) (in_decl placing d) (in_members placing ms) in
        omega arith

  abbrev files_weight : ℕ → List Source → ℕ
  files_weight n [] = 0
  files_weight n (s ∷ fs) = total (G n) (in_file placing s.tree) + files_weight (n + 1) fs

  files_within : (n : ℕ) (fs : List Source) (before : List Entry) → total entry_weight (with_files n fs before) ≤ total entry_weight before + files_weight n fs
  files_within n [] before = omega arith
  files_within n (s ∷ fs) before =
      let here = decl_within n None (name_inside (parts_of s.tree.«package») s.tree.declared) s.tree.declared before in
      let one = total-append (G n) (of_option placing.dotted s.tree.«package») (of_each placing.dotted s.tree.imports ++ in_decl placing s.tree.declared) in
      let two = total-append (G n) (of_each placing.dotted s.tree.imports) (in_decl placing s.tree.declared) in
      let rest = files_within (n + 1) fs (with_file n s before) in
      omega arith

  pub items-within : (files : List Source) → total weight (declared files) ≤ files_weight 0 files
  items-within files = let le = files_within 0 files [] in let same = declared_weigh files in omega arith

-- no place comes twice in a file
abbrev pub HasPlacesOnce : Source → Type 0
HasPlacesOnce s = (place : ℕ) → total (λ o. if place == o then 1 else 0) (in_file placing s.tree) ≤ 1

abbrev spot : ℕ → ℕ → ℕ → ℕ → ℕ
spot file place n o = is_that (file ∷ place ∷ []) (n ∷ o ∷ [])

other_file : (file place n : ℕ) (os : List ℕ) → (file == n) ≡ false → total (spot file place n) os ≡ 0
other_file file place n [] e = refl
other_file file place n (o ∷ os) e = let rest = other_file file place n os e in rw e (omega arith)

this_file : (file place : ℕ) (os : List ℕ) → total (spot file place file) os ≡ total (λ o. if place == o then 1 else 0) os
this_file file place os = total-same (spot file place file) (λ o. if place == o then 1 else 0) (λ o.
    let same : (file == file) ≡ true = grind (arith, nat_tests) in
    ap (λ b. if b && ((place == o) && true) then 1 else 0) same ∙ ap (λ b. if b then 1 else 0) (and_true (place == o))) os

later_files : (file place n : ℕ) (fs : List Source) → file < n → files_weight (spot file place) n fs ≡ 0
later_files file place n [] lt = refl
later_files file place n (s ∷ fs) lt =
    let differs : (file == n) ≡ false = grind (arith, nat_tests) in
    let here = other_file file place n (in_file placing s.tree) differs in
    let rest = later_files file place (n + 1) fs (omega arith) in
    omega arith

files_once : (file place n : ℕ) (fs : List Source) → Each HasPlacesOnce fs → files_weight (spot file place) n fs ≤ 1
files_once file place n [] h = omega arith
files_once file place n (s ∷ fs) h = by (file == n) refl (files_once file place (n + 1) fs h.1) where
  by : (b : Bool) → (file == n) ≡ b → files_weight (spot file place) (n + 1) fs ≤ 1 → total (spot file place n) (in_file placing s.tree) + files_weight (spot file place) (n + 1) fs ≤ 1
  by true e rest =
      let same : file ≡ n = grind (arith, nat_tests) in
      let later = later_files file place (n + 1) fs (omega arith) in
      let here : total (spot file place n) (in_file placing s.tree) ≡ total (λ o. if place == o then 1 else 0) (in_file placing s.tree) =
      ap (λ (m : ℕ). total (spot file place m) (in_file placing s.tree)) (sym same) ∙ this_file file place (in_file placing s.tree) in
      let once = h.0 place in
      omega arith
  by false e rest = let here = other_file file place n (in_file placing s.tree) e in omega arith

each_split : {X : Type 0} (P : X → Type 0) (xs ys : List X) → Each P (xs ++ ys) → Each P xs × Each P ys
each_split P [] ys h = (tt, h)
each_split P (x ∷ xs) ys h = let two = each_split P xs ys h.1 in ((h.0, two.0), two.1)

each_of : (P : Item → Type 0) (files : List Source) (k : ℕ) (es : List Entry) → Each P (in_each (of_entry files) k es) → (n : ℕ) (e : Entry) → slice_get es n ≡ Some e → Each P (of_entry files (k + n) e)
each_of P files k [] h n e at = cc
each_of P files k (d ∷ es) h zero e at =
    let is : d ≡ e = cc in
    let here : k ≡ k + 0 = omega arith in
    subst (λ z. Each P (of_entry files (k + 0) z)) is (subst (λ (j : ℕ). Each P (of_entry files j d)) here (each_split P (of_entry files k d) (in_each (of_entry files) (k + 1) es) h).0)
each_of P files k (d ∷ es) h (suc n) e at =
    let on : (k + 1) + n ≡ k + suc n = omega arith in
    subst (λ (j : ℕ). Each P (of_entry files j e)) on (each_of P files (k + 1) es (each_split P (of_entry files k d) (in_each (of_entry files) (k + 1) es) h).1 n e at)

-- each item of each declaration stands at its place
pub items-stand : (files : List Source) → Each HasPlacesOnce files → (k : ℕ) (e : Entry) → slice_get (declarations files) k ≡ Some e → Each (Stands files) (of_entry files k e)
items-stand files once k e at =
    let all : Each (Stands files) (declared files) = each-from_at (Stands files) (declared files) (λ j y there.
    let within = items-within (spot y.file y.place) files in
    let le = files_once y.file y.place 0 files once in
    let few : total (λ x. is_that (key y) (key x)) (declared files) ≤ 1 = omega arith in
    stands_by files j y there few) in
    let here : 0 + k ≡ k = omega arith in
    subst (λ (j : ℕ). Each (Stands files) (of_entry files j e)) here (each_of (Stands files) files 0 (declarations files) all k e at)
