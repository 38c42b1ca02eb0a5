-- Each item stands in a declaration of its file.
use Rattle.std.proofs.Common.{◌≡◌, ℕ, ◌+◌, ◌<◌, zero, suc, Bool, ◌||◌, List, [], ◌∷◌, ◌++◌, map, length, get_or, Option, Some, None, refl, sym, ap, ◌∙◌, subst, arith}
use Rattle.std.specs.List.{fold, slice_get}
use Rattle.std.specs.Ordering.{match_ordering}
use Rattle.std.specs.declared.cmp.Ordering.{Ordering}
use Rattle.std.specs.declared.cmp.Ordering.TheVariants.{Less, Equal, Greater}
use Rattle.aidl_syntax.specs.declared.tree.TypeTree.{TypeTree}
use Rattle.aidl_syntax.specs.Trees.{Expr, Init, Enumerator, Body}
use Rattle.aidl_syntax.specs.Trees.Init.{single, braces}
use Rattle.aidl_syntax.specs.Trees.Body.{parcelable, union, enum, interface}
use Rattle.aidl_syntax.specs.Members.{Member, listed, body}
use Rattle.aidl_syntax.specs.Members.Member.{field, constant, method, enumerator, nested}
use Rattle.declared_names.specs.Declarations.{Entry, declarations}
use Rattle.aidl_names.specs.Refusals.{IsScope}
use Rattle.declared_names.specs.Numbered.{in_each}
use Rattle.aidl_syntax.specs.Sources.{Source}
use Rattle.const_values.specs.declared.wanted.Wanted.{Wanted}
use Rattle.const_items.specs.declared.item.ItemRef.{ItemRef}
use Rattle.type_shapes.specs.declared.shape.Shape.{Shape}
use Rattle.type_shapes.specs.Backing.{backing_of}
use Rattle.const_items.specs.ItemViews.{item_of}
use Rattle.const_items.specs.Items.{Item, of_expression, of_init, of_initial, of_members, of_enumerators, of_body, of_entry, order, put, declared, items}

-- What holds of some items and of one more holds of all in order.
module _ (P : Item → Type 0) where
  abbrev Each : List Item → Type 0
  Each [] = Unit {0}
  Each (x ∷ xs) = P x × Each xs

  joined : (xs ys : List Item) → Each xs → Each ys → Each (xs ++ ys)
  joined [] ys a b = b
  joined (x ∷ xs) ys a b = (a.0, joined xs ys a.1 b)

  put_all : (xs : List Item) (x : Item) → Each xs → P x → Each (put xs x)
  put_all [] x a p = (p, tt)
  put_all (y ∷ more) x a p = go (order x y) (put_all more x a.1 p) where
    go : (o : Ordering) → Each (put more x) → Each (match_ordering o (x ∷ y ∷ more) (x ∷ more) (y ∷ put more x))
    go Less r = (p, a)
    go Equal r = (p, a.1)
    go Greater r = (a.0, r)

  fold_all : (rows xs : List Item) → Each xs → Each rows → Each (fold put xs rows)
  fold_all [] xs a b = a
  fold_all (r ∷ rows) xs a b = fold_all rows (put xs r) (put_all xs r a b.0) b.1

  at_place : (list : List ItemRef) (i : ℕ) (x : ItemRef) → Each (map item_of list) → i < length list → x ≡ get_or list i x → P (item_of x)
  at_place [] i x a lt is = absurd (omega arith)
  at_place (y ∷ ys) zero x a lt is = subst (λ (z : ItemRef). P (item_of z)) (sym is) a.0
  at_place (y ∷ ys) (suc i) x a lt is = at_place ys i x a.1 (omega arith) is

module _ (files : List Source) where
  abbrev IsScoped : Item → Type 0
  IsScoped x = IsScope files x.file x.scope

  module _ (file scope : ℕ) (is : IsScope files file scope) where
    expressions : (w : Wanted) (u : Bool) (es : List Expr) → Each IsScoped (map (of_expression file scope w u) es)
    expressions w u [] = tt
    expressions w u (e ∷ es) = (is, expressions w u es)

    inits : (t : Shape) (u : Bool) (i : Init) → Each IsScoped (of_init (declarations files) file scope t u i)
    inits t u (single e) = (is, tt)
    inits t u (braces offset es) = expressions _ u es

    initials : (later : Bool) (ty : TypeTree) (i : Option Init) → Each IsScoped (of_initial files file scope later ty i)
    initials later ty None = tt
    initials later ty (Some i) = inits _ _ i

    enumerators : (w : Wanted) (before : Option ℕ) (es : List Enumerator) → Each IsScoped (of_enumerators file scope w before es)
    enumerators w before [] = tt
    enumerators w before (e ∷ es) = (is, enumerators w _ es)

    members : (u l : Bool) (ms : List Member) → Each IsScoped (of_members files file scope u l ms)
    members u l [] = tt
    members u l (field f ∷ ms) = joined IsScoped _ _ (initials l f.ty f.initial) (members u (l || u) ms)
    members u l (constant c ∷ ms) = (is, members u l ms)
    members u l (method m ∷ ms) = members u l ms
    members u l (enumerator e ∷ ms) = members u l ms
    members u l (nested d ∷ ms) = members u l ms

    bodies : (w : Wanted) (b : Body) → Each IsScoped (of_body files file scope w b)
    bodies w (parcelable ms) = members _ _ (listed ms)
    bodies w (union ms) = members _ _ (listed ms)
    bodies w (enum es) = enumerators w None es
    bodies w (interface oneway ms) = members _ _ (listed ms)

  entries : (n : ℕ) (es : List Entry) → ((i : ℕ) (e : Entry) → slice_get es i ≡ Some e → slice_get (declarations files) (n + i) ≡ Some e) → Each IsScoped (in_each (of_entry files) n es)
  entries n [] h = tt
  entries n (e ∷ es) h =
      let here : n + 0 ≡ n = omega arith in
      let found : slice_get (declarations files) n ≡ Some e = ap (slice_get (declarations files)) (sym here) ∙ h 0 e refl in
      joined IsScoped _ _ (bodies e.file n (e, found, refl) (backing_of e.tree) (body e.tree)) (entries (n + 1) es (λ i x q. let there : n + 1 + i ≡ n + suc i = omega arith in ap (slice_get (declarations files)) there ∙ h (suc i) x q))

  all_scoped : Each IsScoped (items files)
  unfolding items
  all_scoped = fold_all IsScoped (declared files) [] tt (entries 0 (declarations files) (λ i e q. let there : 0 + i ≡ i = omega arith in ap (slice_get (declarations files)) there ∙ q))

  -- an item as the code has it
  pub scoped : (list : List ItemRef) (i : ℕ) (x : ItemRef) → map item_of list ≡ items files → i < length list → x ≡ get_or list i x → IsScope files x.file x.scope
  scoped list i x e lt is = at_place IsScoped list i x (subst (Each IsScoped) (sym e) all_scoped) lt is
