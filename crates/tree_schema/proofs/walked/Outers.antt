-- What the walk through the files gives of each declaration: its name, its identifiers, and the declaration around it.
use Rattle.std.proofs.Common.{◌≡◌, ◌<◌, ◌+◌, ℕ, Bool, true, false, List, [], ◌∷◌, ◌++◌, length, Option, Some, None, slice_get, refl, sym, ap, ◌∙◌, subst, ◌⊎◌, inl, inr}
use Rattle.std.specs.List.{list_all}
use Rattle.std.proofs.lemmas.List.Folds.{list_all-append}
use Rattle.aidl_base.specs.declared.name.Ident.{Ident}
use Rattle.aidl_base.proofs.lemmas.Tests.{both}
use Rattle.aidl_schema.proofs.lemmas.Apart.{all_parts}
use Rattle.aidl_syntax.specs.declared.tree.DottedTree.{DottedTree}
use Rattle.aidl_syntax.specs.Trees.{Decl, Body, Members}
use Rattle.aidl_syntax.specs.Trees.Decl.{decl}
use Rattle.aidl_syntax.specs.Trees.Body.{parcelable, union, enum, interface}
use Rattle.aidl_syntax.specs.Trees.Members.{none, field, constant, method, nested}
use Rattle.aidl_syntax.specs.Members.{body, declared_name}
use Rattle.aidl_syntax.specs.Walks.{naming, names_of, of_option, of_each, in_annots, in_field, in_constant, in_method, in_decl, in_body, in_members}
use Rattle.declared_names.specs.Declarations.{Entry, name_inside, with_decl, with_body, with_members, with_file, with_files, declarations}
use Rattle.declared_names.specs.Names.{parts_of}
use Rattle.aidl_syntax.specs.Sources.{Source}
use Rattle.tree_schema.proofs.lemmas.walked.Ascii.{is_identifier_part}
use Rattle.tree_schema.proofs.lemmas.walked.Lists.{there-kept, there-last, there-cases}
use Rattle.std.proofs.lemmas.Option.{slice_get_within}

-- a body that may hold declarations
abbrev pub may_hold : Body → Bool
may_hold (parcelable ms) = true
may_hold (union ms) = true
may_hold (enum es) = false
may_hold (interface oneway ms) = true

-- There is none around it. Or the one around it is an earlier one that may hold others, and has its name without the last part.
abbrev pub IsAround : List Entry → ℕ → Entry → Option ℕ → Type 0
IsAround entries i e None = Unit {0}
IsAround entries i e (Some k) = (o : Entry) × (slice_get entries k ≡ Some o) × (k < i) × (e.name ≡ name_inside o.name e.tree) × (may_hold (body o.tree) ≡ true)

-- what holds of the declaration with a number
pub record IsWalked (entries : List Entry) (i : ℕ) (e : Entry) : Type 0 where
  pub front : List Ident
  pub name : e.name ≡ name_inside front e.tree
  pub parts : list_all is_identifier_part e.name ≡ true
  pub outer : IsAround entries i e e.outer
  pub tree : list_all is_identifier_part (in_decl naming e.tree) ≡ true

abbrev pub AreWalked : List Entry → Type 0
AreWalked entries = (i : ℕ) (e : Entry) → slice_get entries i ≡ Some e → IsWalked entries i e

-- the names in the files are identifiers
abbrev pub are_named : List Source → Bool
are_named files = list_all (λ s. list_all is_identifier_part (names_of s.tree)) files

-- what stands in a list stays where it is
abbrev pub Keeps : List Entry → List Entry → Type 0
Keeps before after = (k : ℕ) (e : Entry) → slice_get before k ≡ Some e → slice_get after k ≡ Some e

pub named-itself : (d : Decl) → list_all is_identifier_part (in_decl naming d) ≡ true → is_identifier_part (declared_name d).name ≡ true
named-itself (decl offset annots n b) h =
    let one = (all_parts is_identifier_part (in_annots naming annots) (n.name ∷ in_body naming b) h).1 in
    (both (is_identifier_part n.name) (list_all is_identifier_part (in_body naming b)) one).0

named_inside : (around : List Ident) (d : Decl) → list_all is_identifier_part around ≡ true → list_all is_identifier_part (in_decl naming d) ≡ true → list_all is_identifier_part (name_inside around d) ≡ true
named_inside around d h k = list_all-append is_identifier_part around ((declared_name d).name ∷ []) ∙ rw (h, named-itself d k) refl

still : (before after : List Entry) → Keeps before after → (i : ℕ) (e : Entry) (o : Option ℕ) → IsAround before i e o → IsAround after i e o
still before after keeps i e None h = tt
still before after keeps i e (Some k) h = (h.0, keeps k h.0 h.1, h.2, h.3, h.4)

walked_still : (before after : List Entry) → Keeps before after → (i : ℕ) (e : Entry) → IsWalked before i e → IsWalked after i e
walked_still before after keeps i e w = record { front = w.front; name = w.name; parts = w.parts; outer = still before after keeps i e e.outer w.outer; tree = w.tree }

-- one more
pushed : (before : List Entry) (e : Entry) → AreWalked before → IsWalked before (length before) e → AreWalked (before ++ e ∷ [])
pushed before e all one i x at = by (there-cases before e i x at) where
  keeps : Keeps before (before ++ e ∷ [])
  keeps k y h = there-kept before (e ∷ []) k y h

  by : (slice_get before i ≡ Some x) ⊎ ((i ≡ length before) × (e ≡ x)) → IsWalked (before ++ e ∷ []) i x
  by (inl h) = walked_still before (before ++ e ∷ []) keeps i x (all i x h)
  by (inr h) =
      let here = walked_still before (before ++ e ∷ []) keeps (length before) e one in
      subst (λ (k : ℕ). IsWalked (before ++ e ∷ []) k x) (sym h.0) (subst (λ (y : Entry). IsWalked (before ++ e ∷ []) (length before) y) h.1 here)

-- a walk on from a list
abbrev Walked : List Entry → List Entry → Type 0
Walked before after = AreWalked after × Keeps before after

mutual
  walked_decl : (file : ℕ) (outer : Option ℕ) (name : List Ident) (d : Decl) (before : List Entry)
      → AreWalked before → IsWalked before (length before) (record { name = name; file = file; outer = outer; tree = d })
      → Walked before (with_decl file outer name d before)
  walked_decl file outer name (decl offset annots n b) before all one =
      let e : Entry = record { name = name; file = file; outer = outer; tree = decl offset annots n b } in
      let names = (both (is_identifier_part n.name) (list_all is_identifier_part (in_body naming b)) (all_parts is_identifier_part (in_annots naming annots) (n.name ∷ in_body naming b) one.tree).1).1 in
      let rest = walked_body file (length before) name b (before ++ e ∷ []) (pushed before e all one) e (there-last before e) refl refl one.parts names in
      (rest.0, λ k x at. rest.1 k x (there-kept before (e ∷ []) k x at))

  walked_body : (file number : ℕ) (name : List Ident) (b : Body) (before : List Entry)
      → AreWalked before → (o : Entry) → slice_get before number ≡ Some o → o.name ≡ name → body o.tree ≡ b
      → list_all is_identifier_part name ≡ true → list_all is_identifier_part (in_body naming b) ≡ true
      → Walked before (with_body file number name b before)
  walked_body file number name (parcelable ms) before all o at is same parts names = walked_members file number name ms before all o at is (ap may_hold same) parts names
  walked_body file number name (union ms) before all o at is same parts names = walked_members file number name ms before all o at is (ap may_hold same) parts names
  walked_body file number name (enum es) before all o at is same parts names = (all, λ k x h. h)
  walked_body file number name (interface oneway ms) before all o at is same parts names = walked_members file number name ms before all o at is (ap may_hold same) parts names

  walked_members : (file number : ℕ) (name : List Ident) (ms : Members) (before : List Entry)
      → AreWalked before → (o : Entry) → slice_get before number ≡ Some o → o.name ≡ name → may_hold (body o.tree) ≡ true
      → list_all is_identifier_part name ≡ true → list_all is_identifier_part (in_members naming ms) ≡ true
      → Walked before (with_members file number name ms before)
  walked_members file number name none before all o at is may parts names = (all, λ k x h. h)
  walked_members file number name (field f ms) before all o at is may parts names =
      walked_members file number name ms before all o at is may parts (all_parts is_identifier_part (in_field naming f) (in_members naming ms) names).1
  walked_members file number name (constant c ms) before all o at is may parts names =
      walked_members file number name ms before all o at is may parts (all_parts is_identifier_part (in_constant naming c) (in_members naming ms) names).1
  walked_members file number name (method m ms) before all o at is may parts names =
      walked_members file number name ms before all o at is may parts (all_parts is_identifier_part (in_method naming m) (in_members naming ms) names).1
  walked_members file number name (nested d ms) before all o at is may parts names =
      let two = all_parts is_identifier_part (in_decl naming d) (in_members naming ms) names in
      let around : IsAround before (length before) (record { name = name_inside name d; file = file; outer = Some number; tree = d }) (Some number) =
      (o, at, slice_get_within before number o at, ap (λ front. name_inside front d) (sym is), may) in
      let one : IsWalked before (length before) (record { name = name_inside name d; file = file; outer = Some number; tree = d }) =
      record { front = name; name = refl; parts = named_inside name d parts two.0; outer = around; tree = two.0 } in
      let first = walked_decl file (Some number) (name_inside name d) d before all one in
      let rest = walked_members file number name ms (with_decl file (Some number) (name_inside name d) d before) first.0 o (first.1 number o at) is may parts two.1 in
      (rest.0, λ k x h. rest.1 k x (first.1 k x h))

package_parts : (p : Option DottedTree) → of_option naming.dotted p ≡ parts_of p
package_parts None = refl
package_parts (Some d) = refl

walked_file : (file : ℕ) (s : Source) (before : List Entry) → AreWalked before → list_all is_identifier_part (names_of s.tree) ≡ true → AreWalked (with_file file s before)
unfolding names_of
walked_file file s before all names =
    let one = all_parts is_identifier_part (of_option naming.dotted s.tree.«package») (of_each naming.dotted s.tree.imports ++ in_decl naming s.tree.declared) names in
    let tree = (all_parts is_identifier_part (of_each naming.dotted s.tree.imports) (in_decl naming s.tree.declared) one.1).1 in
    let parts = subst (λ (ps : List Ident). list_all is_identifier_part ps ≡ true) (package_parts s.tree.«package») one.0 in
    let name = name_inside (parts_of s.tree.«package») s.tree.declared in
    let e : Entry = record { name = name; file = file; outer = None; tree = s.tree.declared } in
    let entry : IsWalked before (length before) e =
    record { front = parts_of s.tree.«package»; name = refl; parts = named_inside (parts_of s.tree.«package») s.tree.declared parts tree; outer = tt; tree = tree } in
    (walked_decl file None name s.tree.declared before all entry).0

walked_files : (file : ℕ) (files : List Source) (before : List Entry) → AreWalked before → are_named files ≡ true → AreWalked (with_files file files before)
walked_files file [] before all names = all
walked_files file (s ∷ more) before all names =
    let two = both (list_all is_identifier_part (names_of s.tree)) (are_named more) names in
    walked_files (file + 1) more (with_file file s before) (walked_file file s before all two.0) two.1

-- what holds of every declaration of files whose names are identifiers
pub walked : (files : List Source) → are_named files ≡ true → AreWalked (declarations files)
walked files names = walked_files 0 files [] (λ i e at. cc) names
