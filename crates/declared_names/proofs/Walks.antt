-- A walk only adds declarations.
use Rattle.std.proofs.Common.{◌≡◌, ◌+◌, ◌≤◌, ◌<◌, ℕ, List, [], ◌∷◌, ◌++◌, length, map, Option, Some, None, arith, length-append, refl, sym, ◌∙◌, ap, subst, suc, drop, get_or, drop-cons, Result, Ok, Err, IfErr}
use Rattle.std.proofs.lemmas.List.{length-map, map-append}
use Rattle.aidl_base.specs.declared.name.Ident.{Ident}
use Rattle.aidl_syntax.specs.declared.tree.NameTree.{NameTree}
use Rattle.aidl_syntax.specs.declared.tree.DeclTree.{DeclTree}
use Rattle.aidl_syntax.specs.declared.tree.ParsedFile.{ParsedFile}
use Rattle.aidl_syntax.specs.declared.tree.MemberTree.{MemberTree}
use Rattle.aidl_syntax.specs.declared.tree.MemberTree.TheVariants.{Nested}
use Rattle.aidl_syntax.specs.Trees.{Annot, Decl, Body, Members, annots_of, body_of, decl_of, member_of, members_of}
use Rattle.aidl_syntax.specs.Trees.Decl.{decl}
use Rattle.aidl_syntax.specs.Trees.Body.{parcelable, union, enum, interface}
use Rattle.aidl_syntax.specs.Trees.Members.{none, field, constant, method, nested}
use Rattle.declared_names.specs.declared.walk_fault.WalkFault.{WalkFault}
use Rattle.declared_names.specs.declared.walk_fault.WalkFault.TheVariants as fault
use Rattle.declared_names.specs.declared.found.Found.{Found}
use Rattle.declared_names.specs.Declarations.{Entry, name_inside, with_decl, with_body, with_members, with_file, with_files}
use Rattle.declared_names.specs.Names.{parts_of}
use Rattle.aidl_syntax.specs.Sources.{Source, source_of}
use Rattle.declared_names.specs.Entries.{entry_of}
use Rattle.declared_names.specs.Walks.{IsFull}
use Rattle.declared_names.proofs.lemmas.Trees.{seen_decl, seen_nested}

mutual
  pub decl_grows : (file : ℕ) (outer : Option ℕ) (name : List Ident) (d : Decl) (before : List Entry) → length before + 1 ≤ length (with_decl file outer name d before)
  decl_grows file outer name (decl offset annots n body) before =
      let e : Entry = record { name = name; file = file; outer = outer; tree = decl offset annots n body } in
      let h = body_grows file (length before) name body (before ++ e ∷ []) in
      omega (arith, h, length-append before (e ∷ []))

  pub body_grows : (file number : ℕ) (name : List Ident) (b : Body) (before : List Entry) → length before ≤ length (with_body file number name b before)
  body_grows file number name (parcelable ms) before = members_grow file number name ms before
  body_grows file number name (union ms) before = members_grow file number name ms before
  body_grows file number name (enum es) before = omega arith
  body_grows file number name (interface oneway ms) before = members_grow file number name ms before

  pub members_grow : (file number : ℕ) (name : List Ident) (ms : Members) (before : List Entry) → length before ≤ length (with_members file number name ms before)
  members_grow file number name none before = omega arith
  members_grow file number name (field f ms) before = members_grow file number name ms before
  members_grow file number name (constant c ms) before = members_grow file number name ms before
  members_grow file number name (method m ms) before = members_grow file number name ms before
  members_grow file number name (nested d ms) before =
      let h = decl_grows file (Some number) (name_inside name d) d before in
      let k = members_grow file number name ms (with_decl file (Some number) (name_inside name d) d before) in
      omega (arith, h, k)

-- a declaration by its parts
by_parts : (file : ℕ) (outer : Option ℕ) (name : List Ident) (d : Decl) (offset : ℕ) (annots : List Annot) (n : NameTree) (b : Body) (before : List Entry)
    → d ≡ decl offset annots n b
    → with_decl file outer name d before ≡ with_body file (length before) name b (before ++ record { name = name; file = file; outer = outer; tree = d } ∷ [])
by_parts file outer name d offset annots n b before e = rw e refl

-- A declaration is added, and then those inside its body.
pub added : (file : ℕ) (outer : Option ℕ) (name : List Ident) (t : DeclTree) (old new : List Found) (f : Found)
    → new ≡ old ++ f ∷ [] → entry_of f ≡ record { name = name; file = file; outer = outer; tree = decl_of t }
    → with_decl file outer name (decl_of t) (map entry_of old) ≡ with_body file (length old) name (body_of t.body) (map entry_of new)
added file outer name t old new f e s =
    by_parts file outer name (decl_of t) t.offset (annots_of t.annots) t.name (body_of t.body) (map entry_of old) (seen_decl t)
    ∙ ap (λ n. with_body file n name (body_of t.body) (map entry_of old ++ record { name = name; file = file; outer = outer; tree = decl_of t } ∷ [])) (length-map old entry_of)
    ∙ ap (λ es. with_body file (length old) name (body_of t.body) es) (ap (λ x. map entry_of old ++ x ∷ []) (sym s) ∙ sym (map-append entry_of old (f ∷ [])) ∙ ap (map entry_of) (sym e))

-- a walk that is full stays so
pub still_full : (all more : List Entry) (fault : WalkFault) → length all ≤ length more → IsFull all fault → IsFull more fault
still_full all more fault.Full le h = omega arith
still_full all more fault.OutOfMemory le h = tt

-- the canonical name of a nested declaration
pub inside_is : (around name : List Ident) (t : DeclTree) → name ≡ around ++ t.name.name ∷ [] → name ≡ name_inside around (decl_of t)
inside_is around name t e = e ∙ ap (λ d. name_inside around d) (sym (seen_decl t))

-- A member that can't be added: all members can't.
pub first_full : (file number : ℕ) (name : List Ident) (xs ys : List MemberTree) (i : ℕ) (x : MemberTree) (before all : List Entry) (e : WalkFault)
    → ys ≡ xs → i < length ys → x ≡ get_or ys i x → with_members file number name (members_of (drop i xs)) before ≡ all
    → ((ms : Members) → IsFull (with_members file number name (member_of x ms) before) e) → IsFull all e
first_full file number name xs ys i x before all e same lt is invariant full =
    let s : drop i xs ≡ x ∷ drop (suc i) xs = ap (drop i) (sym same) ∙ drop-cons ys i x lt ∙ ap (λ z. z ∷ drop (suc i) ys) (sym is) ∙ ap (λ zs. x ∷ drop (suc i) zs) same in
    let P : List Entry → Type 0 = λ z. IsFull z e in
    subst P (ap (λ zs. with_members file number name (members_of zs) before) (sym s) ∙ invariant) (full (members_of (drop (suc i) xs)))

-- a nested declaration that can't be added: it and the members behind it can't
pub nested_full : {U : Type 0} (file number : ℕ) (name inner : List Ident) (member : MemberTree) (t : DeclTree) (before : List Entry) (r : Result U WalkFault)
    → member ≡ Nested t → inner ≡ name_inside name (decl_of t)
    → IfErr r (IsFull (with_decl file (Some number) inner (decl_of t) before))
    → IfErr r (λ e. (ms : Members) → IsFull (with_members file number name (member_of member ms) before) e)
nested_full file number name inner member t before (Ok u) is same h = tt
nested_full file number name inner member t before (Err e) is same h = λ ms.
    let P : List Entry → Type 0 = λ z. IsFull z e in
    let Q : List Ident → Type 0 = λ z. IsFull (with_decl file (Some number) z (decl_of t) before) e in
    subst P (sym (ap (λ (f : Members → Members). with_members file number name (f ms) before) (ap member_of is ∙ seen_nested t)))
    (still_full (with_decl file (Some number) (name_inside name (decl_of t)) (decl_of t) before) _ e (members_grow file number name ms _) (subst Q same h))

-- A file whose declarations are too many: those of all files are.
pub file_grows : (file : ℕ) (s : Source) (before : List Entry) → length before ≤ length (with_file file s before)
file_grows file s before = let h = decl_grows file None (name_inside (parts_of s.tree.«package») s.tree.declared) s.tree.declared before in omega (arith, h)

pub files_grow : (file : ℕ) (files : List Source) (before : List Entry) → length before ≤ length (with_files file files before)
files_grow file [] before = omega arith
files_grow file (s ∷ more) before =
    let h = file_grows file s before in
    let k = files_grow (file + 1) more (with_file file s before) in
    omega (arith, h, k)

pub file_full : (files : List ParsedFile) (i : ℕ) (x : ParsedFile) (before all : List Entry) (e : WalkFault)
    → i < length files → x ≡ get_or files i x → with_files i (map source_of (drop i files)) before ≡ all
    → IsFull (with_file i (source_of x) before) e → IsFull all e
file_full files i x before all e lt is invariant full =
    let s : drop i files ≡ x ∷ drop (suc i) files = drop-cons files i x lt ∙ ap (λ z. z ∷ drop (suc i) files) (sym is) in
    let P : List Entry → Type 0 = λ z. IsFull z e in
    subst P (ap (λ zs. with_files i (map source_of zs) before) (sym s) ∙ invariant)
    (still_full (with_file i (source_of x) before) _ e (files_grow (i + 1) (map source_of (drop (suc i) files)) _) full)
