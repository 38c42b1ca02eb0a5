-- What a walk finds in the trees of files, it finds in the tree of each declaration; so the literals of each item hold what their kind may hold.
use Rattle.std.proofs.Common.{◌≡◌, ◌+◌, ℕ, Bool, true, false, ◌||◌, List, [], ◌∷◌, ◌++◌, map, length, Option, Some, None, slice_get, refl}
use Rattle.std.specs.List.{list_all}
use Rattle.aidl_base.specs.declared.name.Ident.{Ident}
use Rattle.aidl_base.proofs.lemmas.Tests.{both}
use Rattle.aidl_schema.proofs.lemmas.Apart.{all_parts}
use Rattle.aidl_syntax.specs.declared.token.Token.{Token}
use Rattle.aidl_syntax.specs.declared.tree.TypeTree.{TypeTree}
use Rattle.aidl_syntax.specs.Trees.{Expr, Init, Enumerator, Decl, Body, Members}
use Rattle.aidl_syntax.specs.Trees.Decl.{decl}
use Rattle.aidl_syntax.specs.Trees.Body.{parcelable, union, enum, interface}
use Rattle.aidl_syntax.specs.Trees.Expr.{literal, name, group, unary, binary}
use Rattle.aidl_syntax.specs.Trees.Init.{single, braces}
use Rattle.aidl_syntax.specs.Trees.Members.{none, field, constant, method, nested}
use Rattle.aidl_syntax.specs.Members.{listed, body}
use Rattle.aidl_syntax.specs.Walks.{Walk, counting, of_option, of_each, in_annots, in_type, in_init, in_field, in_constant, in_method, in_enumerator, in_decl, in_body, in_members, in_file}
use Rattle.declared_names.specs.Declarations.{Entry, declarations, with_decl, with_body, with_members, with_file, with_files, name_inside}
use Rattle.declared_names.specs.Names.{parts_of}
use Rattle.aidl_syntax.specs.Sources.{Source}
use Rattle.const_values.specs.declared.wanted.Wanted.{Wanted}
use Rattle.const_values.specs.Literals.{literal_of}
use Rattle.type_shapes.specs.declared.shape.Shape.{Shape}
use Rattle.type_shapes.specs.Backing.{backing_of}
use Rattle.const_items.specs.Items.{Item, items, of_body, of_members, of_field, of_initial, of_init, of_expression, of_enumerators, place_of, written_as}
use Rattle.tree_schema.proofs.lemmas.walked.Placed.{Each, each-at}
use Rattle.tree_schema.proofs.settled.Fit.{is_plain_written}
use Rattle.tree_schema.proofs.lemmas.settled.Items.{each-declared, each-item}
use Rattle.tree_schema.proofs.settled.Plain.{is_plain_option, is_plain_expr}

each_push : {X : Type 0} (P : X → Type 0) (xs : List X) (x : X) → Each P xs → P x → Each P (xs ++ x ∷ [])
each_push P [] x h p = (p, tt)
each_push P (y ∷ xs) x h p = (h.0, each_push P xs x h.1 p)

module _ {A : Type 0} (w : Walk A) (p : A → Bool) where
  -- what the walk finds in a declaration passes
  abbrev pub Passes : Entry → Type 0
  Passes e = list_all p (in_decl w e.tree) ≡ true

  behind : (front : List A) (rest : List A) → list_all p (front ++ rest) ≡ true → list_all p rest ≡ true
  behind front rest h = (all_parts p front rest h).1

  mutual
    decl_passes : (file : ℕ) (outer : Option ℕ) (part : List Ident) (d : Decl) (before : List Entry) → list_all p (in_decl w d) ≡ true → Each Passes before → Each Passes (with_decl file outer part d before)
    decl_passes file outer part (decl offset annots n b) before h old =
        let e : Entry = record { name = part; file = file; outer = outer; tree = decl offset annots n b } in
        body_passes file (length before) part b (before ++ e ∷ []) (behind (w.named n) (in_body w b) (behind (in_annots w annots) (w.named n ++ in_body w b) h)) (each_push Passes before e old h)

    body_passes : (file number : ℕ) (part : List Ident) (b : Body) (before : List Entry) → list_all p (in_body w b) ≡ true → Each Passes before → Each Passes (with_body file number part b before)
    body_passes file number part (parcelable ms) before h old = members_pass file number part ms before h old
    body_passes file number part (union ms) before h old = members_pass file number part ms before h old
    body_passes file number part (enum es) before h old = old
    body_passes file number part (interface oneway ms) before h old = members_pass file number part ms before h old

    members_pass : (file number : ℕ) (part : List Ident) (ms : Members) (before : List Entry) → list_all p (in_members w ms) ≡ true → Each Passes before → Each Passes (with_members file number part ms before)
    members_pass file number part none before h old = old
    members_pass file number part (field f ms) before h old = members_pass file number part ms before (behind (in_field w f) (in_members w ms) h) old
    members_pass file number part (constant c ms) before h old = members_pass file number part ms before (behind (in_constant w c) (in_members w ms) h) old
    members_pass file number part (method m ms) before h old = members_pass file number part ms before (behind (in_method w m) (in_members w ms) h) old
    members_pass file number part (nested d ms) before h old =
        let two = all_parts p (in_decl w d) (in_members w ms) h in
        members_pass file number part ms (with_decl file (Some number) (name_inside part d) d before) two.1 (decl_passes file (Some number) (name_inside part d) d before two.0 old)

  files_pass : (n : ℕ) (fs : List Source) (before : List Entry) → list_all (λ s. list_all p (in_file w s.tree)) fs ≡ true → Each Passes before → Each Passes (with_files n fs before)
  files_pass n [] before h old = old
  files_pass n (s ∷ fs) before h old =
      let two = both (list_all p (in_file w s.tree)) (list_all (λ (r : Source). list_all p (in_file w r.tree)) fs) h in
      let rest = behind (of_option w.dotted s.tree.«package») (of_each w.dotted s.tree.imports ++ in_decl w s.tree.declared) two.0 in
      let inner = behind (of_each w.dotted s.tree.imports) (in_decl w s.tree.declared) rest in
      files_pass (n + 1) fs (with_file n s before) two.1 (decl_passes n None (name_inside (parts_of s.tree.«package») s.tree.declared) s.tree.declared before inner old)

  pub declarations-pass : (files : List Source) → list_all (λ s. list_all p (in_file w s.tree)) files ≡ true → (k : ℕ) (e : Entry) → slice_get (declarations files) k ≡ Some e → list_all p (in_decl w e.tree) ≡ true
  declarations-pass files h k e at = each-at Passes (declarations files) (files_pass 0 files [] h tt) k e at

-- a token whose operand is plain
abbrev pub is_plain_token : Token → Bool
is_plain_token t = is_plain_option (literal_of t.kind)

abbrev IsPlain : Item → Type 0
IsPlain x = is_plain_written x.value ≡ true

expr_plain : (e : Expr) → list_all is_plain_token (counting.valued e) ≡ true → is_plain_expr e ≡ true
expr_plain (literal offset t) h = (both (is_plain_token t) true h).0
expr_plain (name offset d) h = refl
expr_plain (group offset a) h = expr_plain a h
expr_plain (unary offset op a) h = expr_plain a h
expr_plain (binary offset op a b) h = let two = all_parts is_plain_token (counting.valued a) (counting.valued b) h in rw (expr_plain a two.0, expr_plain b two.1) refl

each_join : {X : Type 0} (P : X → Type 0) (xs ys : List X) → Each P xs → Each P ys → Each P (xs ++ ys)
each_join P [] ys h k = k
each_join P (x ∷ xs) ys h k = (h.0, each_join P xs ys h.1 k)

after_front : (front rest : List Token) → list_all is_plain_token (front ++ rest) ≡ true → list_all is_plain_token rest ≡ true
after_front front rest h = (all_parts is_plain_token front rest h).1

module _ (files : List Source) (file scope : ℕ) where
  exprs_plain : (w : Wanted) (u : Bool) (es : List Expr) → list_all is_plain_token (of_each counting.valued es) ≡ true → Each IsPlain (map (of_expression file scope w u) es)
  exprs_plain w u [] h = tt
  exprs_plain w u (e ∷ es) h = let two = all_parts is_plain_token (counting.valued e) (of_each counting.valued es) h in (expr_plain e two.0, exprs_plain w u es two.1)

  init_plain : (t : Shape) (u : Bool) (i : Init) → list_all is_plain_token (in_init counting i) ≡ true → Each IsPlain (of_init (declarations files) file scope t u i)
  init_plain t u (single e) h = (expr_plain e h, tt)
  init_plain t u (braces offset es) h = exprs_plain _ u es h

  initial_plain : (later : Bool) (ty : TypeTree) (o : Option Init) → list_all is_plain_token (of_option (in_init counting) o) ≡ true → Each IsPlain (of_initial files file scope later ty o)
  initial_plain later ty None h = tt
  initial_plain later ty (Some i) h = init_plain _ _ i h

  members_plain : (u l : Bool) (ms : Members) → list_all is_plain_token (in_members counting ms) ≡ true → Each IsPlain (of_members files file scope u l (listed ms))
  members_plain u l none h = tt
  members_plain u l (field f ms) h =
      let two = all_parts is_plain_token (in_field counting f) (in_members counting ms) h in
      let typed = after_front (in_annots counting f.annots) (in_type counting f.ty ++ of_option (in_init counting) f.initial) two.0 in
      let own = after_front (in_type counting f.ty) (of_option (in_init counting) f.initial) typed in
      each_join IsPlain (of_field files file scope l f) (of_members files file scope u (l || u) (listed ms)) (initial_plain l f.ty f.initial own) (members_plain u (l || u) ms two.1)
  members_plain u l (constant c ms) h =
      let two = all_parts is_plain_token (in_constant counting c) (in_members counting ms) h in
      let typed = after_front (in_annots counting c.annots) (in_type counting c.ty ++ counting.valued c.value) two.0 in
      let own = after_front (in_type counting c.ty) (counting.valued c.value) typed in
      (expr_plain c.value own, members_plain u l ms two.1)
  members_plain u l (method m ms) h = members_plain u l ms (after_front (in_method counting m) (in_members counting ms) h)
  members_plain u l (nested d ms) h = members_plain u l ms (after_front (in_decl counting d) (in_members counting ms) h)

  enumerator_plain : (w : Wanted) (before : Option ℕ) (e : Enumerator) (o : Option Expr) → list_all is_plain_token (of_option counting.valued o) ≡ true → is_plain_written (written_as before o) ≡ true
  enumerator_plain w None e None h = refl
  enumerator_plain w (Some place) e None h = refl
  enumerator_plain w before e (Some v) h = expr_plain v h

  enumerators_plain : (w : Wanted) (before : Option ℕ) (es : List Enumerator) → list_all is_plain_token (of_each (in_enumerator counting) es) ≡ true → Each IsPlain (of_enumerators file scope w before es)
  enumerators_plain w before [] h = tt
  enumerators_plain w before (e ∷ es) h =
      let two = all_parts is_plain_token (in_enumerator counting e) (of_each (in_enumerator counting) es) h in
      (enumerator_plain w before e e.value two.0, enumerators_plain w (Some (place_of e)) es two.1)

  body_plain : (w : Wanted) (b : Body) → list_all is_plain_token (in_body counting b) ≡ true → Each IsPlain (of_body files file scope w b)
  body_plain w (parcelable ms) h = members_plain false false ms h
  body_plain w (union ms) h = members_plain true false ms h
  body_plain w (enum es) h = enumerators_plain w None es h
  body_plain w (interface oneway ms) h = members_plain false false ms h

decl_body : (d : Decl) → list_all is_plain_token (in_decl counting d) ≡ true → list_all is_plain_token (in_body counting (body d)) ≡ true
decl_body (decl offset annots n b) h = after_front (in_annots counting annots) (in_body counting b) h

-- the literals of the files are plain, as a test
abbrev pub are_plain : List Source → Bool
are_plain files = list_all (λ s. list_all is_plain_token (in_file counting s.tree)) files

-- so are those of each item
pub items-plain : (files : List Source) → are_plain files ≡ true → (n : ℕ) (x : Item) → slice_get (items files) n ≡ Some x → is_plain_written x.value ≡ true
items-plain files h n x at =
    each-at IsPlain (items files) (each-item IsPlain files (each-declared IsPlain files (λ k e there.
    body_plain files e.file k (backing_of e.tree) (body e.tree) (decl_body e.tree (declarations-pass counting is_plain_token files h k e there))))) n x at
