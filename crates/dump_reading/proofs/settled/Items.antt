-- Each item of the trees that a dump stands for is a literal, or names an enumerator that is.
use Rattle.std.proofs.Common.{◌≡◌, ℕ, ℤ, zero, suc, Bool, true, false, cond, ◌||◌, if◌then◌else◌, List, [], ◌∷◌, ◌++◌, map, codes, Option, Some, None, slice_get, ◌⊎◌, refl, sym, ap, subst, ◌∙◌}
use Rattle.std.specs.List.{list_all, list_any, find}
use Rattle.std.specs.Ordering.{int_eq, nat_cmp}
use Rattle.std.specs.Cmp.Lexicographic.{slice_cmp}
use Rattle.std.specs.List.Sorted.{IsStrictlySortedBy}
use Rattle.std.specs.Str.{bytes_eq}
use Rattle.std.proofs.lemmas.Bool.{and_parts}
use Rattle.std.proofs.lemmas.Bool.Decides.{Decides-int_eq}
use Rattle.aidl_base.specs.Identifiers.{is_identifier}
use Rattle.aidl_base.specs.declared.name.Ident.{Ident}
use Rattle.aidl_base.specs.declared.constant.Const.{Const}
use Rattle.aidl_base.specs.declared.constant.Const.TheOpen.{Const-F}
use Rattle.aidl_syntax.specs.declared.token.TokenKind.TheVariants as kind
use Rattle.aidl_syntax.specs.declared.tree.DottedTree.{DottedTree}
use Rattle.aidl_syntax.specs.declared.tree.NameTree.{NameTree}
use Rattle.aidl_syntax.specs.Trees as tree
use Rattle.aidl_syntax.specs.Trees.{Expr, Init, map_option}
use Rattle.aidl_syntax.specs.Trees.Expr.{literal, group, unary, binary, name}
use Rattle.aidl_syntax.specs.Trees.Init.{single, braces}
use Rattle.aidl_syntax.specs.Trees.Decl.{decl}
use Rattle.aidl_syntax.specs.Trees.Body.{enum, parcelable, union, interface}
use Rattle.aidl_syntax.specs.Members.{Member, members, body}
use Rattle.aidl_syntax.specs.Members.Member.{enumerator}
use Rattle.declared_names.specs.Names.{text}
use Rattle.declared_names.specs.Called.{is_called, called}
use Rattle.name_resolution.specs.declared.meaning.Resolved.{Resolved}
use Rattle.name_resolution.specs.declared.meaning.Resolved.TheVariants.{Declared}
use Rattle.aidl_syntax.specs.Sources.{Source}
use Rattle.declared_names.specs.Declarations.{Entry, declarations}
use Rattle.name_resolution.specs.Resolution.{resolved}
use Rattle.const_values.specs.declared.wanted.Wanted.{Wanted}
use Rattle.const_values.specs.declared.wanted.Wanted.TheVariants as wanted
use Rattle.type_shapes.specs.Backing.{backing_of, backing_by, backing_of_param, backing_of_init, backing_of_expr, backing_of_token, is_backing, is_type, is_type_name, annots_of}
use Rattle.const_items.specs.Dependence.{Target, of_enumerator, target, target_by, target_if, member_of}
use Rattle.const_items.specs.Items as items
use Rattle.const_items.specs.Items.{Item, written, of_expression, of_init, of_typed, of_initial, of_field, of_constant, of_enumerator as item_of, of_enumerators, of_members, of_body, of_entry, place_of, written_as}
use Rattle.type_shapes.specs.Types.{wanted_of}
use Rattle.aidl_schema.specs.declared.schema.Decl.{Decl}
use Rattle.aidl_schema.specs.declared.schema.Enumerator.{Enumerator}
use Rattle.aidl_schema.specs.declared.schema.Backing.{Backing}
use Rattle.aidl_schema.specs.declared.schema.Backing.TheVariants as backing
use Rattle.aidl_schema.specs.declared.schema.Base.TheVariants as base
use Rattle.aidl_schema.specs.declared.schema.Kind.{Kind}
use Rattle.aidl_schema.specs.declared.schema.Kind.TheVariants.{Interface, Parcelable, Union, Enum}
use Rattle.aidl_schema.specs.Constants.{in_range, is_number_of, is_enumerator, is_enumerator_of}
use Rattle.aidl_schema.specs.Holds.{AllHold, AreApart}
use Rattle.aidl_schema.specs.Names.{name_of, enumerators_of, enumerator_names}
use Rattle.aidl_schema.specs.Valid.{is_enum_whole}
use Rattle.aidl_schema.specs.Types.{form_of_kind}
use Rattle.aidl_schema.proofs.lemmas.Sames.{same_text_refl, same_text_is}
use Rattle.api_dump.specs.Pieces.{ident}
use Rattle.api_dump.specs.Types.{base_name, declared_name}
use Rattle.api_dump.specs.Declarations.{backing_text}
use Rattle.tree_schema.proofs.lemmas.walked.Placed.{Each, each-at}
use Rattle.tree_schema.proofs.lemmas.settled.Places.{HasPlacesOnce, items-stand}
use Rattle.tree_schema.proofs.lemmas.settled.Settled.{Stands}
use Rattle.dump_reading.specs.Bare.{bare_name, bare_expr, bare_init, bare_param, bare_annot, bare_enumerator, bare_body, bare_decl}
use Rattle.dump_reading.specs.DumpTrees.{name_tree, token_tree, backing_tree, backed_tree, number_tree, named_parts, name_where, enumerator_tree, body_tree, constants_before, backing_trees, flag_trees, nested_trees}
use Rattle.dump_reading.proofs.spelled.Values.{has_part, name_parts}
use Rattle.dump_reading.proofs.filed.Numbers.{walks}
use Rattle.dump_reading.proofs.named.Entries.{IsEntry, AreEntries}
use Rattle.dump_reading.proofs.named.Resolved.{number_is, named_resolved, text_is}
use Rattle.dump_reading.proofs.settled.Literals.{Fits, wanted_backing, in_backing, backing_fits}
use Rattle.dump_reading.proofs.settled.Outcomes.{IsPlain, IsNaming, target_last}
use Rattle.dump_reading.proofs.settled.Shapes.{is_enum_kind, body_bare, enum_number}

-- The backing that is written.

token_backing : (b : Backing) (e : Expr) → bare_expr e ≡ token_tree (kind.Str (backing_text b)) → backing_of_expr e ≡ wanted_backing b
unfolding lib.Utf8.encode
token_backing b (literal o t) e = ap backing_of_expr e ∙ by b where
  by : (b : Backing) → backing_of_token (kind.Str (backing_text b)) ≡ wanted_backing b
  by backing.Byte = refl
  by backing.Int = refl
  by backing.Long = refl
token_backing b (name o d) e = cc
token_backing b (group o x) e = cc
token_backing b (unary o s x) e = cc
token_backing b (binary o s x y) e = cc

init_backing : (b : Backing) (i : Init) → bare_init i ≡ single (token_tree (kind.Str (backing_text b))) → backing_of_init i ≡ wanted_backing b
init_backing b (single x) e = let is : bare_expr x ≡ token_tree (kind.Str (backing_text b)) = cc in token_backing b x is
init_backing b (braces o xs) e = cc

pub type_named : (o : Option NameTree) → map_option bare_name o ≡ Some (name_tree (ident (codes "type"))) → is_type_name o ≡ true
unfolding lib.Utf8.encode
type_named None e = cc
type_named (Some n) e = let is : bare_name n ≡ name_tree (ident (codes "type")) = cc in ap (λ x. is_type_name (Some x)) is

params_backing : (b : Backing) (ps : List tree.Param) → map bare_param ps ≡ (backed_tree b).params → backing_of_param (find is_type ps) ≡ wanted_backing b
params_backing b [] e = cc
params_backing b (p ∷ ps) e =
    let is : bare_param p ≡ record { offset = 0; name = Some (name_tree (ident (codes "type"))); value = single (token_tree (kind.Str (backing_text b))) } = cc in
    ap (λ t. backing_of_param (cond t (Some p) (find is_type ps))) (type_named p.name (ap (λ x. x.name) is)) ∙ init_backing b p.value (ap (λ x. x.value) is)

annots_backing : (b : Backing) (annots : List tree.Annot) (more : List tree.Annot) → map bare_annot annots ≡ backed_tree b ∷ more → backing_by (find is_backing annots) ≡ wanted_backing b
unfolding lib.Utf8.encode
annots_backing b [] more e = cc
annots_backing b (a ∷ annots) more e =
    let is : bare_annot a ≡ backed_tree b = cc in
    let called_so : is_backing a ≡ true = ap is_backing is in
    ap (λ t. backing_by (cond t (Some a) (find is_backing annots))) called_so ∙ params_backing b a.params (ap (λ x. x.params) is)

pub annots_bare : (t : tree.Decl) → map bare_annot (annots_of t) ≡ annots_of (bare_decl t)
annots_bare (decl o annots n b) = refl

-- What stands first and passes.

found_first : {X : Type 0} (p : X → Bool) (xs : List X) → list_any p xs ≡ true → (x : X) × (find p xs ≡ Some x)
found_first p [] h = cc
found_first p (x ∷ xs) h = by (p x) h (found_first p xs) where
  by : (b : Bool) → (b || list_any p xs) ≡ true → (list_any p xs ≡ true → (y : _) × (find p xs ≡ Some y)) → (y : _) × (cond b (Some x) (find p xs) ≡ Some y)
  by true h later = (x, refl)
  by false h later = later h

found_passes : {X : Type 0} (p : X → Bool) (xs : List X) (x : X) → find p xs ≡ Some x → p x ≡ true
found_passes p [] x h = cc
found_passes p (y ∷ ys) x h = by (p y) refl h (found_passes p ys x) where
  by : (b : Bool) → p y ≡ b → cond b (Some y) (find p ys) ≡ Some x → (find p ys ≡ Some x → p x ≡ true) → p x ≡ true
  by true e h later = let is : y ≡ x = cc in ap p (sym is) ∙ e
  by false e h later = later h

found_place : {X : Type 0} (p : X → Bool) (xs : List X) (x : X) → find p xs ≡ Some x → (i : ℕ) × (slice_get xs i ≡ Some x)
found_place p [] x h = cc
found_place p (y ∷ ys) x h = by (p y) h (found_place p ys x) where
  by : (b : Bool) → cond b (Some y) (find p ys) ≡ Some x → (find p ys ≡ Some x → (i : ℕ) × (slice_get ys i ≡ Some x)) → (i : ℕ) × (slice_get (y ∷ ys) i ≡ Some x)
  by true h later = (zero, h)
  by false h later = let r = later h in (suc r.0, r.1)

-- Enumerators.

in_backing_is : (b : Backing) (es : List Enumerator) (z : ℤ) → in_range (form_of_kind (Enum b es)) z ≡ true → in_backing b z ≡ true
in_backing_is backing.Byte es z h = h
in_backing_is backing.Int es z h = h
in_backing_is backing.Long es z h = h

-- a plain item with this number of the backing
abbrev pub IsEnumerated : Backing → ℤ → Item → Type 0
IsEnumerated b z x = (p : IsPlain x) × (p.level ≡ Const-F.Number z) × (x.wanted ≡ wanted_backing b)

-- the items of enumerators
abbrev pub AreEnumerated : Backing → List Enumerator → List Item → Type 0
AreEnumerated b [] [] = Unit {0}
AreEnumerated b [] (i ∷ is) = ⊥
AreEnumerated b (x ∷ xs) [] = ⊥
AreEnumerated b (x ∷ xs) (i ∷ is) = IsEnumerated b x.value i × AreEnumerated b xs is

enumerated_at : (b : Backing) (xs : List Enumerator) (is : List Item) → AreEnumerated b xs is → (k : ℕ) (i : Item) → slice_get is k ≡ Some i → (x : Enumerator) × (slice_get xs k ≡ Some x) × IsEnumerated b x.value i
enumerated_at b [] [] h k i at = cc
enumerated_at b [] (j ∷ is) h k i at = absurd h
enumerated_at b (x ∷ xs) [] h k i at = absurd h
enumerated_at b (x ∷ xs) (j ∷ is) h zero i at = let same : j ≡ i = cc in (x, refl, subst (IsEnumerated b x.value) same h.0)
enumerated_at b (x ∷ xs) (j ∷ is) h (suc k) i at = enumerated_at b xs is h.1 k i at

one_plain : (file scope : ℕ) (w : Wanted) (b : Backing) → w ≡ wanted_backing b → (before : Option ℕ) (y : tree.Enumerator) (x : Enumerator) → bare_enumerator y ≡ enumerator_tree b x → in_backing b x.value ≡ true → IsEnumerated b x.value (item_of file scope w before y)
one_plain file scope w b same before y x e r = by y.value refl (ap (λ z. z.value) e) where
  by : (o : Option Expr) → y.value ≡ o → map_option bare_expr o ≡ Some (backing_tree b x.value) → IsEnumerated b x.value (item_of file scope w before y)
  by None is h = cc
  by (Some v) is h =
      let bare : bare_expr v ≡ backing_tree b x.value = cc in
      (record { judged = refl; expr = v; is = ap (written_as before) is; level = Const-F.Number x.value; fits = subst (λ u. Fits u v (Const-F.Number x.value)) (sym same) (backing_fits b x.value r v bare) }, refl, same)

all_plain : (file scope : ℕ) (w : Wanted) (b : Backing) → w ≡ wanted_backing b → (before : Option ℕ) (ys : List tree.Enumerator) (xs : List Enumerator) → map bare_enumerator ys ≡ map (λ x. enumerator_tree b x) xs
    → list_all (λ x. in_range (form_of_kind (Enum b [])) x.value) xs ≡ true → AreEnumerated b xs (of_enumerators file scope w before ys)
all_plain file scope w b same before [] [] e h = tt
all_plain file scope w b same before [] (x ∷ xs) e h = cc
all_plain file scope w b same before (y ∷ ys) [] e h = cc
all_plain file scope w b same before (y ∷ ys) (x ∷ xs) e h =
    let two = and_parts (in_range (form_of_kind (Enum b [])) x.value) (list_all (λ x. in_range (form_of_kind (Enum b [])) x.value) xs) h in
    let here : bare_enumerator y ≡ enumerator_tree b x = cc in let rest : map bare_enumerator ys ≡ map (λ x. enumerator_tree b x) xs = cc in
    (one_plain file scope w b same before y x here (in_backing_is b [] x.value two.0), all_plain file scope w b same (Some (place_of y)) ys xs rest two.1)

-- the item of each
item_at : (file scope : ℕ) (w : Wanted) (before : Option ℕ) (ys : List tree.Enumerator) (i : ℕ) (y : tree.Enumerator) → slice_get ys i ≡ Some y
    → (x : Item) × (slice_get (of_enumerators file scope w before ys) i ≡ Some x) × (x.file ≡ file) × (x.place ≡ place_of y)
item_at file scope w before [] i y e = cc
item_at file scope w before (z ∷ ys) zero y e = let is : z ≡ y = cc in (item_of file scope w before z, refl, refl, ap place_of is)
item_at file scope w before (z ∷ ys) (suc i) y e = item_at file scope w (Some (place_of z)) ys i y e

same_range : (b : Backing) (es fs : List Enumerator) → form_of_kind (Enum b es) ≡ form_of_kind (Enum b fs)
same_range backing.Byte es fs = refl
same_range backing.Int es fs = refl
same_range backing.Long es fs = refl

-- an enumerator of a list of trees by the name of one that is written there
has_called : (b : Backing) (ys : List tree.Enumerator) (xs : List Enumerator) → map bare_enumerator ys ≡ map (λ x. enumerator_tree b x) xs → (i : ℕ) (x : Enumerator) → slice_get xs i ≡ Some x
    → list_any (is_called (text x.name)) (map enumerator ys) ≡ true
has_called b [] [] e i x at = cc
has_called b [] (z ∷ xs) e i x at = cc
has_called b (y ∷ ys) [] e i x at = cc
has_called b (y ∷ ys) (z ∷ xs) e zero x at =
    let is : z ≡ x = cc in let here : bare_enumerator y ≡ enumerator_tree b z = cc in
    let named : y.name.name ≡ x.name = ap (λ w. w.name.name) here ∙ ap (λ w. w.name) is in
    ap (λ t. t || list_any (is_called (text x.name)) (map enumerator ys)) (ap (λ i. bytes_eq (text i) (text x.name)) named ∙ same_text_refl (text x.name))
has_called b (y ∷ ys) (z ∷ xs) e (suc i) x at =
    let rest : map bare_enumerator ys ≡ map (λ x. enumerator_tree b x) xs = cc in
    or_true (is_called (text x.name) (enumerator y)) (list_any (is_called (text x.name)) (map enumerator ys)) (has_called b ys xs rest i x at) where
      or_true : (a c : Bool) → c ≡ true → (a || c) ≡ true
      or_true true c h = refl
      or_true false c h = h

enumerator_of_place : (ys : List tree.Enumerator) (i : ℕ) (m : Member) → slice_get (map enumerator ys) i ≡ Some m → (y : tree.Enumerator) × (slice_get ys i ≡ Some y) × (m ≡ enumerator y)
enumerator_of_place [] i m e = cc
enumerator_of_place (y ∷ ys) zero m e = (y, refl, let is : enumerator y ≡ m = cc in sym is)
enumerator_of_place (y ∷ ys) (suc i) m e = enumerator_of_place ys i m e

-- the name of one that is written
name_at : (b : Backing) (ys : List tree.Enumerator) (xs : List Enumerator) → map bare_enumerator ys ≡ map (λ x. enumerator_tree b x) xs → (i : ℕ) (y : tree.Enumerator) (x : Enumerator) → slice_get ys i ≡ Some y → slice_get xs i ≡ Some x → y.name.name ≡ x.name
name_at b [] xs e i y x at there = cc
name_at b (z ∷ ys) [] e i y x at there = cc
name_at b (z ∷ ys) (w ∷ xs) e zero y x at there =
    let one : z ≡ y = cc in let two : w ≡ x = cc in let here : bare_enumerator z ≡ enumerator_tree b w = cc in
    ap (λ u. u.name.name) (sym one) ∙ ap (λ u. u.name.name) here ∙ ap (λ u. u.name) two
name_at b (z ∷ ys) (w ∷ xs) e (suc i) y x at there = let rest : map bare_enumerator ys ≡ map (λ x. enumerator_tree b x) xs = cc in name_at b ys xs rest i y x at there

named_at : (xs : List Enumerator) → list_all is_identifier (map (λ x. x.name.0) xs) ≡ true → (i : ℕ) (x : Enumerator) → slice_get xs i ≡ Some x → is_identifier x.name.0 ≡ true
named_at [] h i x at = cc
named_at (y ∷ xs) h zero x at = let is : y ≡ x = cc in ap (λ z. is_identifier z.name.0) (sym is) ∙ (and_parts (is_identifier y.name.0) (list_all is_identifier (map (λ x. x.name.0) xs)) h).0
named_at (y ∷ xs) h (suc i) x at = named_at xs (and_parts (is_identifier y.name.0) (list_all is_identifier (map (λ x. x.name.0) xs)) h).1 i x at

-- a body of an enum
pub enum_body : (S : List Decl) (b : Backing) (xs : List Enumerator) (ms : tree.Members) (t : tree.Body) → bare_body t ≡ body_tree S (Enum b xs) ms → (ys : List tree.Enumerator) × (t ≡ enum ys) × (map bare_enumerator ys ≡ map (λ x. enumerator_tree b x) xs)
enum_body S b xs ms (enum ys) e = (ys, refl, cc)
enum_body S b xs ms (parcelable ns) e = cc
enum_body S b xs ms (union ns) e = cc
enum_body S b xs ms (interface oneway ns) e = cc

-- a constant of a declared type
enumerator_kind : (k : Kind) (z : ℤ) → is_enumerator k z ≡ true → (b : Backing) × (xs : List Enumerator) × (k ≡ Enum b xs) × (list_any (λ e. int_eq e.value z) xs ≡ true)
enumerator_kind (Enum b xs) z h = (b, xs, refl, h)
enumerator_kind (Interface ms) z h = cc
enumerator_kind (Parcelable fs) z h = cc
enumerator_kind (Union fs) z h = cc

enumerator_decl : (o : Option Decl) (z : ℤ) → is_enumerator_of o z ≡ true → (d : Decl) × (o ≡ Some d) × (is_enumerator d.kind z ≡ true)
enumerator_decl None z h = cc
enumerator_decl (Some d) z h = (d, refl, h)

entries_inside : (b : Backing) (xs : List Enumerator) → is_enum_whole (Enum b xs) ≡ true → list_all (λ x. in_range (form_of_kind (Enum b xs)) x.value) xs ≡ true
entries_inside b [] e = cc
entries_inside b (x ∷ xs) e = e

name_expr : (e : Expr) (is : List Ident) → bare_expr e ≡ name 0 (record { offset = 0; name = record { 0 = is } }) → (o : ℕ) × (d : DottedTree) × (e ≡ name o d) × (d.name.0 ≡ is)
name_expr (name o d) is e = (o, d, refl, ap (parts_in is) e) where
  parts_in : List Ident → Expr → List Ident
  parts_in is (name o d) = d.name.0
  parts_in is _ = is
name_expr (literal o t) is e = cc
name_expr (group o x) is e = cc
name_expr (unary o s x) is e = cc
name_expr (binary o s x y) is e = cc

pub some_is : {X : Type 0} (x y : X) → Some x ≡ Some y → x ≡ y
some_is x y e = cc

-- it is a literal, or names one, and has this value
abbrev pub Good : List Source → Const-F Const → Item → Type 0
Good files l x = ((p : IsPlain x) × (p.level ≡ l)) ⊎ ((q : IsNaming files x) × (Const-F.Number q.numbered.number ≡ l))

module _ (S : List Decl) (H : AllHold S) (sorted : IsStrictlySortedBy (slice_cmp nat_cmp) (map name_of S)) (A : AreApart name_of S) (files : List Source) (are : AreEntries S files (walks S) (declarations files)) (once : Each HasPlacesOnce files) where
  -- the entry of an enum
  pub enum_entry : (w : ℕ) (e : Entry) (h : IsEntry S files (walks S) w e) (b : Backing) (xs : List Enumerator) → h.declared.kind ≡ Enum b xs
      → (ys : List tree.Enumerator) × (body e.tree ≡ enum ys) × (map bare_enumerator ys ≡ map (λ x. enumerator_tree b x) xs) × (backing_of e.tree ≡ wanted_backing b)
  enum_entry w e h b xs is =
      let last = nested_trees S h.levels w in
      let bodies = body_bare e.tree ∙ ap body h.written ∙ ap (λ k. body_tree S k (constants_before S h.declared last)) is in
      let r = enum_body S b xs (constants_before S h.declared last) (body e.tree) bodies in
      let annots = annots_bare e.tree ∙ ap annots_of h.written ∙ ap (λ k. backing_trees k ++ (flag_trees (codes "FixedSize") h.declared.fixed ++ flag_trees (codes "VintfStability") h.declared.vintf)) is in
      (r.0, r.1, r.2, annots_backing b (annots_of e.tree) _ annots)

  pub enum_items : (w j : ℕ) (e : Entry) (h : IsEntry S files (walks S) w e) (b : Backing) (xs : List Enumerator) → h.declared.kind ≡ Enum b xs → AreEnumerated b xs (of_entry files j e)
  enum_items w j e h b xs is =
      let r = enum_entry w e h b xs is in
      let range = entries_inside b xs (ap is_enum_whole (sym is) ∙ (H w h.declared h.at).enum) in
      subst (λ t. AreEnumerated b xs (of_body files e.file j (backing_of e.tree) t)) (sym r.1)
      (all_plain e.file j (backing_of e.tree) b r.3 None r.0 xs r.2 (ap (λ f. list_all (λ x. in_range f x.value) xs) (same_range b [] xs) ∙ range))

  -- an expression that names an enumerator
  pub named_good : (file scope : ℕ) (s : Source) → slice_get files file ≡ Some s → (n : ℕ) (z : ℤ) → is_number_of S (base.Named n) z ≡ true → (r : Resolved) → resolved files file scope (base_name S (base.Named n)) ≡ Some r
      → (u : Bool) → u ≡ false → (e : Expr) → bare_expr e ≡ number_tree S (base.Named n) z → (q : IsNaming files (of_expression file scope (wanted_of (declarations files) r) u e)) × (q.numbered.number ≡ z)
  named_good file scope s in_file n z h r known u free e bare =
      let es = declarations files in
      let o = enumerator_decl (slice_get S n) z h in let d = o.0 in let at = o.1 in
      let k = enumerator_kind d.kind z o.2 in let b = k.0 in let xs = k.1 in
      let f = found_first (λ x. int_eq x.value z) xs k.3 in let x0 = f.0 in
      let p = found_place (λ x. int_eq x.value z) xs x0 f.1 in
      let parts : named_parts (slice_get S n) z ≡ d.name.0 ++ x0.name ∷ [] =
      ap (λ q. named_parts q z) at ∙ ap (λ q. d.name.0 ++ name_where (find (λ x. int_eq x.value z) (enumerators_of q))) k.2 ∙ ap (λ q. d.name.0 ++ name_where q) f.1 in
      let ne = name_expr e (named_parts (slice_get S n) z) bare in
      let num = number_is S H sorted A files are n d at in let c = num.3 in let c_is = num.5 in
      let decl_is : c_is.declared ≡ d = some_is c_is.declared d (sym c_is.at ∙ at) in
      let enum_so : c_is.declared.kind ≡ Enum b xs = ap (λ (x : Decl). x.kind) decl_is ∙ k.2 in
      let en = enum_entry n c c_is b xs enum_so in
      let mem : members (body c.tree) ≡ map enumerator en.0 = ap members en.1 in
      let any = has_called b en.0 xs en.2 p.0 x0 p.1 in
      let first = found_first (is_called (text x0.name)) (map enumerator en.0) any in
      let place = found_place (is_called (text x0.name)) (map enumerator en.0) first.0 first.1 in
      let y = enumerator_of_place en.0 place.0 first.0 place.1 in
      let called_is : called c x0.name ≡ Some (enumerator y.0) = ap (find (is_called (text x0.name))) mem ∙ first.1 ∙ ap Some y.2 in
      let known_here : resolved files file scope d.name.0 ≡ Some (Declared num.0) = named_resolved S H sorted A files are file scope s in_file n d at in
      let x : Item = of_expression file scope (wanted_of es r) u e in
      let target_is : target files x ne.1 ≡ Some (of_enumerator c.file num.0 y.0) =
      ap (target_by files x) (ne.3 ∙ parts) ∙ of_parts x d.name.0 x0.name (name_parts d.name.0 (H n d at).name).0 ∙ ap (member_of es x0.name) known_here
      ∙ ap (λ q. elim q as (λ _. Option Target) [ None ↦ None | Some v ↦ target_if v.file num.0 (called v x0.name) ]) num.4 ∙ ap (target_if c.file num.0) called_is in
      let it = item_at c.file num.0 (backing_of c.tree) None en.0 place.0 y.0 y.1 in
      let there : slice_get (of_entry files num.0 c) place.0 ≡ Some it.0 = ap (λ t. slice_get (of_body files c.file num.0 (backing_of c.tree) t) place.0) en.1 ∙ it.1 in
      let row = enumerated_at b xs (of_entry files num.0 c) (enum_items n num.0 c c_is b xs enum_so) place.0 it.0 there in
      let x1 = row.0 in let plain = row.2 in
      let stands = each-at (Stands files) (of_entry files num.0 c) (items-stand files once num.0 c num.4) place.0 it.0 there in
      let r_is : r ≡ Declared num.0 = some_is r (Declared num.0) (sym known ∙ ap (λ q. resolved files file scope (declared_name q)) at ∙ known_here) in
      let written_name : y.0.name.name ≡ x1.name = name_at b en.0 xs en.2 place.0 y.0 x1 y.1 row.1 in
      let ids : list_all is_identifier (map (λ w. w.name.0) xs) ≡ true = ap (λ q. list_all is_identifier (enumerator_names q)) (sym k.2) ∙ (H n d at).enumerator_identifiers in
      let called_so : is_called (text x0.name) (enumerator y.0) ≡ true = ap (is_called (text x0.name)) (sym y.2) ∙ found_passes (is_called (text x0.name)) (map enumerator en.0) first.0 first.1 in
      let texts : text x1.name ≡ text x0.name = ap text (sym written_name) ∙ same_text_is (text y.0.name.name) (text x0.name) called_so in
      let names : x1.name.0 ≡ x0.name.0 = sym (text_is x1.name (named_at xs ids place.0 x1 row.1)) ∙ texts ∙ text_is x0.name (named_at xs ids p.0 x0 p.1) in
      let places : place.0 ≡ p.0 = (H n d at).enumerators place.0 p.0 x1 x0 (ap (λ q. slice_get (enumerators_of q) place.0) k.2 ∙ row.1) (ap (λ q. slice_get (enumerators_of q) p.0) k.2 ∙ p.1) names in
      let one_is : x1 ≡ x0 = some_is x1 x0 (sym row.1 ∙ ap (λ (j : ℕ). slice_get xs j) places ∙ p.1) in
      let number_so : x1.value ≡ z = ap (λ w. w.value) one_is ∙ (Decides-int_eq x0.value z).0 (found_passes (λ x. int_eq x.value z) xs x0 f.1) in (
        record {
          judged = free;
          offset = ne.0;
          dotted = ne.1;
          is = ap written ne.2;
          file = c.file;
          enum = num.0;
          enumerator = y.0;
          means = target_is;
          wants = ap (wanted_of es) r_is ∙ ap (λ t. if t then wanted.Enum num.0 else wanted.Nothing) ((enum_number S H sorted A files are n d at).1 ∙ ap is_enum_kind k.2);
          place = stands.0;
          found = ap (λ (j : ℕ). items.number_at (items.items files) j (place_of y.0)) (sym it.2) ∙ ap (items.number_at (items.items files) it.0.file) (sym it.3) ∙ stands.1;
          item = it.0;
          numbered = record { there = stands.2; plain = plain.0; backing = b; wants = plain.2; number = x1.value; is = plain.1 };
        },
        number_so,
      ) where
        of_parts : (x : Item) (is : List Ident) (i : Ident) → has_part is ≡ true → target_by files x (is ++ i ∷ []) ≡ member_of (declarations files) i (resolved files x.file x.scope is)
        of_parts x [] i h = cc
        of_parts x (a ∷ more) i h = target_last files x a more i
