-- Each tree is how a tree of the code is seen: parts lie somewhere in memory, and nothing else is chosen.
use Rattle.std.proofs.Common.{Box, Global, ◌≡◌, ◌∷◌, ℕ, Bool, List, [], map, Option, Some, None, refl, sym, ◌∙◌, ap}
use denote.RawPtr.Ptr.{null_ptr}
use Rattle.aidl_syntax.specs.declared.token.Symbol.{Symbol}
use Rattle.aidl_syntax.specs.declared.token.Token.{Token}
use Rattle.aidl_syntax.specs.declared.tree.DottedTree.{DottedTree}
use Rattle.aidl_syntax.specs.declared.tree.NameTree.{NameTree}
use Rattle.aidl_syntax.specs.declared.tree.ExprKind.{ExprKind, ExprKind-F, fold-ExprKind, fold-roll-ExprKind, roll-ExprKind}
use Rattle.aidl_syntax.specs.declared.tree.ExprTree.{ExprTree, ExprTree-F, roll-ExprTree, fold-roll-ExprTree}
use Rattle.aidl_syntax.specs.declared.tree.InitTree.{InitTree}
use Rattle.aidl_syntax.specs.declared.tree.InitTree.TheVariants as inits
use Rattle.aidl_syntax.specs.declared.tree.ParamTree.{ParamTree}
use Rattle.aidl_syntax.specs.declared.tree.AnnotTree.{AnnotTree}
use Rattle.aidl_syntax.specs.declared.tree.FieldTree.{FieldTree}
use Rattle.aidl_syntax.specs.declared.tree.ConstantTree.{ConstantTree}
use Rattle.aidl_syntax.specs.declared.tree.EnumeratorTree.{EnumeratorTree}
use Rattle.aidl_syntax.specs.declared.tree.ArgTree.{ArgTree}
use Rattle.aidl_syntax.specs.declared.tree.MethodTree.{MethodTree}
use Rattle.aidl_syntax.specs.declared.tree.MemberTree.{MemberTree, MemberTree-F, roll-MemberTree, fold-roll-MemberTree}
use Rattle.aidl_syntax.specs.declared.tree.BodyTree.{BodyTree, BodyTree-F, roll-BodyTree, fold-roll-BodyTree}
use Rattle.aidl_syntax.specs.declared.tree.DeclTree.{DeclTree, DeclTree-F, roll-DeclTree, fold-roll-DeclTree}
use Rattle.aidl_syntax.specs.declared.tree.FileTree.{FileTree}
use Rattle.aidl_syntax.specs.Trees.{Expr, Init, Param, Annot, Field, Constant, Enumerator, Arg, Method, Decl, Body, Members, File, map_option, kind_step, expr_step, expr_of, init_of, param_of, annot_of, annots_of, field_of, constant_of, enumerator_of, arg_of, method_of, body_step, member_step, decl_step, decl_of, body_of, member_of, members_of, file_of}
use Rattle.aidl_syntax.specs.Trees.Expr.{literal, name, group, unary, binary}
use Rattle.aidl_syntax.specs.Trees.Init.{single, braces}
use Rattle.aidl_syntax.specs.Trees.Decl.{decl}
use Rattle.aidl_syntax.specs.Trees.Body.{parcelable, union, enum, interface}
use Rattle.aidl_syntax.specs.Trees.Members.{none, field, constant, method, nested}

both : {A B C : Type 0} (f : A → B → C) (a b : A) (c d : B) → a ≡ b → c ≡ d → f a c ≡ f b d
both f a b c d e h = ap (λ z. f z c) e ∙ ap (λ z. f b z) h

-- Lists and options, part by part.
module _ {A B : Type 0} (see : A → B) (find : (b : B) → (a : A) × (see a ≡ b)) where
  built_all : (bs : List B) → (xs : List A) × (map see xs ≡ bs)
  built_all [] = ([], refl)
  built_all (b ∷ bs) = let x = find b in let rest = built_all bs in (x.0 ∷ rest.0, both (λ y ys. y ∷ ys) (see x.0) b (map see rest.0) bs x.1 rest.1)

  built_option : (o : Option B) → (p : Option A) × (map_option see p ≡ o)
  built_option None = (None, refl)
  built_option (Some b) = let x = find b in (Some x.0, ap Some x.1)

-- a box with it, wherever it lies
abbrev boxed : ExprTree → Box ExprTree Global
boxed x = record { ptr = null_ptr; alloc = record { memory = record { seal = tt } }; value = x }

-- An expression's offset and kind, as they are seen.
seen_kind : (o : ℕ) (k : ExprKind) (f : ℕ → Expr) → fold-ExprKind (ℕ → Expr) Expr kind_step expr_step k ≡ f → expr_of (roll-ExprTree (record { offset = o; kind = k })) ≡ f o
seen_kind o k f e = fold-roll-ExprTree (ℕ → Expr) Expr kind_step expr_step (record { offset = o; kind = k }) ∙ ap (λ (g : ℕ → Expr). g o) e

seen_literal : (t : Token) → fold-ExprKind (ℕ → Expr) Expr kind_step expr_step (roll-ExprKind (ExprKind-F.Literal t)) ≡ (λ o. literal o t)
seen_literal t = fold-roll-ExprKind (ℕ → Expr) Expr kind_step expr_step (ExprKind-F.Literal t)

seen_name : (d : DottedTree) → fold-ExprKind (ℕ → Expr) Expr kind_step expr_step (roll-ExprKind (ExprKind-F.Name d)) ≡ (λ o. name o d)
seen_name d = fold-roll-ExprKind (ℕ → Expr) Expr kind_step expr_step (ExprKind-F.Name d)

seen_group : (x : ExprTree) → fold-ExprKind (ℕ → Expr) Expr kind_step expr_step (roll-ExprKind (ExprKind-F.Group (boxed x))) ≡ (λ o. group o (expr_of x))
seen_group x = fold-roll-ExprKind (ℕ → Expr) Expr kind_step expr_step (ExprKind-F.Group (boxed x))

seen_unary : (s : Symbol) (x : ExprTree) → fold-ExprKind (ℕ → Expr) Expr kind_step expr_step (roll-ExprKind (ExprKind-F.Unary s (boxed x))) ≡ (λ o. unary o s (expr_of x))
seen_unary s x = fold-roll-ExprKind (ℕ → Expr) Expr kind_step expr_step (ExprKind-F.Unary s (boxed x))

seen_binary : (s : Symbol) (x y : ExprTree) → fold-ExprKind (ℕ → Expr) Expr kind_step expr_step (roll-ExprKind (ExprKind-F.Binary s (boxed x) (boxed y))) ≡ (λ o. binary o s (expr_of x) (expr_of y))
seen_binary s x y = fold-roll-ExprKind (ℕ → Expr) Expr kind_step expr_step (ExprKind-F.Binary s (boxed x) (boxed y))

built_expr : (e : Expr) → (t : ExprTree) × (expr_of t ≡ e)
built_expr (literal o t) =
    let k = roll-ExprKind (ExprKind-F.Literal t) in
    (roll-ExprTree (record { offset = o; kind = k }), seen_kind o k (λ i. literal i t) (seen_literal t))
built_expr (name o d) =
    let k = roll-ExprKind (ExprKind-F.Name d) in
    (roll-ExprTree (record { offset = o; kind = k }), seen_kind o k (λ i. name i d) (seen_name d))
built_expr (group o a) =
    let x = built_expr a in
    let k = roll-ExprKind (ExprKind-F.Group (boxed x.0)) in
    (roll-ExprTree (record { offset = o; kind = k }), seen_kind o k (λ i. group i (expr_of x.0)) (seen_group x.0) ∙ ap (group o) x.1)
built_expr (unary o s a) =
    let x = built_expr a in
    let k = roll-ExprKind (ExprKind-F.Unary s (boxed x.0)) in
    (roll-ExprTree (record { offset = o; kind = k }), seen_kind o k (λ i. unary i s (expr_of x.0)) (seen_unary s x.0) ∙ ap (unary o s) x.1)
built_expr (binary o s a b) =
    let x = built_expr a in
    let y = built_expr b in
    let k = roll-ExprKind (ExprKind-F.Binary s (boxed x.0) (boxed y.0)) in (
      roll-ExprTree (record { offset = o; kind = k }),
      seen_kind o k (λ i. binary i s (expr_of x.0) (expr_of y.0)) (seen_binary s x.0 y.0) ∙ both (binary o s) (expr_of x.0) a (expr_of y.0) b x.1 y.1,
    )

built_init : (i : Init) → (t : InitTree) × (init_of t ≡ i)
built_init (single e) = let x = built_expr e in (inits.Single x.0, ap single x.1)
built_init (braces o es) = let xs = built_all expr_of built_expr es in (inits.Braces o xs.0, ap (braces o) xs.1)

param_with : Param → Init → Param
param_with p i = record { offset = p.offset; name = p.name; value = i }

built_param : (p : Param) → (t : ParamTree) × (param_of t ≡ p)
unfolding param_with
built_param p = let i = built_init p.value in (record { offset = p.offset; name = p.name; value = i.0 }, ap (param_with p) i.1)

annot_with : Annot → List Param → Annot
annot_with a ps = record { offset = a.offset; name = a.name; params = ps }

built_annot : (a : Annot) → (t : AnnotTree) × (annot_of t ≡ a)
unfolding annot_with
built_annot a = let ps = built_all param_of built_param a.params in (record { offset = a.offset; name = a.name; params = ps.0 }, ap (annot_with a) ps.1)

built_annots : (before : List Annot) → (ts : List AnnotTree) × (annots_of ts ≡ before)
built_annots before = built_all annot_of built_annot before

field_with : Field → List Annot → Option Init → Field
field_with f annots i = record { offset = f.offset; annots = annots; ty = f.ty; name = f.name; initial = i }

built_field : (f : Field) → (t : FieldTree) × (field_of t ≡ f)
unfolding field_with
built_field f =
    let annots = built_annots f.annots in
    let i = built_option init_of built_init f.initial in
    (record { offset = f.offset; annots = annots.0; ty = f.ty; name = f.name; initial = i.0 }, both (field_with f) (annots_of annots.0) f.annots (map_option init_of i.0) f.initial annots.1 i.1)

constant_with : Constant → List Annot → Expr → Constant
constant_with c annots e = record { offset = c.offset; annots = annots; ty = c.ty; name = c.name; value = e }

built_constant : (c : Constant) → (t : ConstantTree) × (constant_of t ≡ c)
unfolding constant_with
built_constant c =
    let annots = built_annots c.annots in
    let e = built_expr c.value in
    (record { offset = c.offset; annots = annots.0; ty = c.ty; name = c.name; value = e.0 }, both (constant_with c) (annots_of annots.0) c.annots (expr_of e.0) c.value annots.1 e.1)

enumerator_with : Enumerator → Option Expr → Enumerator
enumerator_with x e = record { offset = x.offset; name = x.name; value = e }

built_enumerator : (x : Enumerator) → (t : EnumeratorTree) × (enumerator_of t ≡ x)
unfolding enumerator_with
built_enumerator x = let e = built_option expr_of built_expr x.value in (record { offset = x.offset; name = x.name; value = e.0 }, ap (enumerator_with x) e.1)

arg_with : Arg → List Annot → Arg
arg_with a annots = record { offset = a.offset; annots = annots; way = a.way; ty = a.ty; name = a.name }

built_arg : (a : Arg) → (t : ArgTree) × (arg_of t ≡ a)
unfolding arg_with
built_arg a = let annots = built_annots a.annots in (record { offset = a.offset; annots = annots.0; way = a.way; ty = a.ty; name = a.name }, ap (arg_with a) annots.1)

method_with : Method → List Annot → List Arg → Method
method_with m annots xs = record { offset = m.offset; annots = annots; oneway = m.oneway; returned = m.returned; name = m.name; args = xs; id = m.id }

built_method : (m : Method) → (t : MethodTree) × (method_of t ≡ m)
unfolding method_with
built_method m =
    let annots = built_annots m.annots in
    let xs = built_all arg_of built_arg m.args in (
      record { offset = m.offset; annots = annots.0; oneway = m.oneway; result = m.returned; name = m.name; args = xs.0; id = m.id },
      both (method_with m) (annots_of annots.0) m.annots (map arg_of xs.0) m.args annots.1 xs.1,
    )

-- Declarations, bodies and members, as they are seen.
seen_decl : (o : ℕ) (annots : List AnnotTree) (n : NameTree) (b : BodyTree) → decl_of (roll-DeclTree (record { offset = o; annots = annots; name = n; body = b })) ≡ decl o (annots_of annots) n (body_of b)
seen_decl o annots n b = fold-roll-DeclTree Body (Members → Members) Decl body_step member_step decl_step (record { offset = o; annots = annots; name = n; body = b })

seen_parcelable : (ms : List MemberTree) → body_of (roll-BodyTree (BodyTree-F.Parcelable ms)) ≡ parcelable (members_of ms)
seen_parcelable ms = fold-roll-BodyTree Body (Members → Members) Decl body_step member_step decl_step (BodyTree-F.Parcelable ms)

seen_union : (ms : List MemberTree) → body_of (roll-BodyTree (BodyTree-F.Union ms)) ≡ union (members_of ms)
seen_union ms = fold-roll-BodyTree Body (Members → Members) Decl body_step member_step decl_step (BodyTree-F.Union ms)

seen_enum : (es : List EnumeratorTree) → body_of (roll-BodyTree (BodyTree-F.Enum es)) ≡ enum (map enumerator_of es)
seen_enum es = fold-roll-BodyTree Body (Members → Members) Decl body_step member_step decl_step (BodyTree-F.Enum es)

seen_interface : (oneway : Bool) (ms : List MemberTree) → body_of (roll-BodyTree (BodyTree-F.Interface oneway ms)) ≡ interface oneway (members_of ms)
seen_interface oneway ms = fold-roll-BodyTree Body (Members → Members) Decl body_step member_step decl_step (BodyTree-F.Interface oneway ms)

module _ (ts : List MemberTree) where
  ahead : (m : MemberTree) (f : Members → Members) → member_of m ≡ f → members_of (m ∷ ts) ≡ f (members_of ts)
  ahead m f e = ap (λ (g : Members → Members). g (members_of ts)) e

  seen_field : (f : FieldTree) → members_of (roll-MemberTree (MemberTree-F.Field f) ∷ ts) ≡ field (field_of f) (members_of ts)
  seen_field f = ahead (roll-MemberTree (MemberTree-F.Field f)) (λ ms. field (field_of f) ms) (fold-roll-MemberTree Body (Members → Members) Decl body_step member_step decl_step (MemberTree-F.Field f))

  seen_constant : (c : ConstantTree) → members_of (roll-MemberTree (MemberTree-F.Constant c) ∷ ts) ≡ constant (constant_of c) (members_of ts)
  seen_constant c =
      ahead (roll-MemberTree (MemberTree-F.Constant c)) (λ ms. constant (constant_of c) ms) (fold-roll-MemberTree Body (Members → Members) Decl body_step member_step decl_step (MemberTree-F.Constant c))

  seen_method : (m : MethodTree) → members_of (roll-MemberTree (MemberTree-F.Method m) ∷ ts) ≡ method (method_of m) (members_of ts)
  seen_method m = ahead (roll-MemberTree (MemberTree-F.Method m)) (λ ms. method (method_of m) ms) (fold-roll-MemberTree Body (Members → Members) Decl body_step member_step decl_step (MemberTree-F.Method m))

  seen_nested : (d : DeclTree) → members_of (roll-MemberTree (MemberTree-F.Nested d) ∷ ts) ≡ nested (decl_of d) (members_of ts)
  seen_nested d = ahead (roll-MemberTree (MemberTree-F.Nested d)) (λ ms. nested (decl_of d) ms) (fold-roll-MemberTree Body (Members → Members) Decl body_step member_step decl_step (MemberTree-F.Nested d))

mutual
  built_decl : (d : Decl) → (t : DeclTree) × (decl_of t ≡ d)
  built_decl (decl o before n inner) =
      let annots = built_annots before in
      let b = built_body inner in (
        roll-DeclTree (record { offset = o; annots = annots.0; name = n; body = b.0 }),
        seen_decl o annots.0 n b.0 ∙ both (λ x y. decl o x n y) (annots_of annots.0) before (body_of b.0) inner annots.1 b.1,
      )

  built_body : (b : Body) → (t : BodyTree) × (body_of t ≡ b)
  built_body (parcelable ms) = let x = built_members ms in (roll-BodyTree (BodyTree-F.Parcelable x.0), seen_parcelable x.0 ∙ ap parcelable x.1)
  built_body (union ms) = let x = built_members ms in (roll-BodyTree (BodyTree-F.Union x.0), seen_union x.0 ∙ ap union x.1)
  built_body (enum es) = let xs = built_all enumerator_of built_enumerator es in (roll-BodyTree (BodyTree-F.Enum xs.0), seen_enum xs.0 ∙ ap enum xs.1)
  built_body (interface oneway ms) = let x = built_members ms in (roll-BodyTree (BodyTree-F.Interface oneway x.0), seen_interface oneway x.0 ∙ ap (interface oneway) x.1)

  built_members : (ms : Members) → (ts : List MemberTree) × (members_of ts ≡ ms)
  built_members none = ([], refl)
  built_members (field f ms) =
      let x = built_field f in
      let rest = built_members ms in
      (roll-MemberTree (MemberTree-F.Field x.0) ∷ rest.0, seen_field rest.0 x.0 ∙ both field (field_of x.0) f (members_of rest.0) ms x.1 rest.1)
  built_members (constant c ms) =
      let x = built_constant c in
      let rest = built_members ms in
      (roll-MemberTree (MemberTree-F.Constant x.0) ∷ rest.0, seen_constant rest.0 x.0 ∙ both constant (constant_of x.0) c (members_of rest.0) ms x.1 rest.1)
  built_members (method m ms) =
      let x = built_method m in
      let rest = built_members ms in
      (roll-MemberTree (MemberTree-F.Method x.0) ∷ rest.0, seen_method rest.0 x.0 ∙ both method (method_of x.0) m (members_of rest.0) ms x.1 rest.1)
  built_members (nested d ms) =
      let x = built_decl d in
      let rest = built_members ms in
      (roll-MemberTree (MemberTree-F.Nested x.0) ∷ rest.0, seen_nested rest.0 x.0 ∙ both nested (decl_of x.0) d (members_of rest.0) ms x.1 rest.1)

file_with : File → Decl → File
file_with f d = record { offset = f.offset; «package» = f.package; imports = f.imports; declared = d }

pub built_file : (f : File) → (t : FileTree) × (file_of t ≡ f)
unfolding file_with
built_file f = let d = built_decl f.declared in (record { offset = f.offset; «package» = f.package; imports = f.imports; decl = d.0 }, ap (file_with f) d.1)
