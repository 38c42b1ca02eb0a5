-- Each enum in the tree of a file has an enumerator, as the syntax has it.
use Rattle.std.proofs.Common.{◌≡◌, ◌+◌, ℕ, Bool, true, ◌&&◌, List, [], ◌∷◌, ◌++◌, length, Option, Some, None, slice_get, refl}
use Rattle.std.specs.List.{list_all}
use Rattle.aidl_base.specs.declared.name.Ident.{Ident}
use Rattle.aidl_base.proofs.lemmas.Tests.{both}
use Rattle.aidl_syntax.specs.declared.token.Token.{Token}
use Rattle.aidl_syntax.specs.declared.tree.NameTree.{NameTree}
use Rattle.aidl_syntax.specs.Productions.{IsDecl, IsBody, AreMembers, AreInterfaceMembers, IsFile}
use Rattle.aidl_syntax.specs.Trees.{Decl, Body, Members}
use Rattle.aidl_syntax.specs.Trees.Decl.{decl}
use Rattle.aidl_syntax.specs.Trees.Body.{parcelable, union, enum, interface}
use Rattle.aidl_syntax.specs.Trees.Members.{none, field, constant, method, nested}
use Rattle.aidl_syntax.specs.Members.{body}
use Rattle.declared_names.specs.Declarations.{Entry, declarations, with_decl, with_body, with_members, with_file, with_files, name_inside}
use Rattle.declared_names.specs.Names.{parts_of}
use Rattle.aidl_syntax.specs.Sources.{Source}
use Rattle.tree_schema.proofs.lemmas.walked.Placed.{Each, each-at}
use Rattle.tree_schema.proofs.valued.Enums.{has_enumerator}

-- each enum of a declaration has an enumerator
abbrev mutual
  pub is_filled : Decl → Bool
  is_filled (decl offset annots n b) = has_enumerator b && is_filled_body b

  is_filled_body : Body → Bool
  is_filled_body (parcelable ms) = are_filled ms
  is_filled_body (union ms) = are_filled ms
  is_filled_body (enum es) = true
  is_filled_body (interface oneway ms) = are_filled ms

  are_filled : Members → Bool
  are_filled none = true
  are_filled (field f ms) = are_filled ms
  are_filled (constant c ms) = are_filled ms
  are_filled (method m ms) = are_filled ms
  are_filled (nested d ms) = is_filled d && are_filled ms

mutual
  decl_filled : (ts : List Token) (d : Decl) → IsDecl ts d → is_filled d ≡ true
  decl_filled ts (decl offset annots n b) h = body_filled h.1 n b h.4

  body_filled : (ts : List Token) (n : NameTree) (b : Body) → IsBody ts n b → (has_enumerator b && is_filled_body b) ≡ true
  body_filled ts n (parcelable ms) h = members_filled h.1 ms h.5
  body_filled ts n (union ms) h = members_filled h.1 ms h.5
  body_filled ts n (interface oneway ms) h = interface_filled h.1 ms h.5
  body_filled ts n (enum []) h = absurd h.4.3.1.3
  body_filled ts n (enum (e ∷ es)) h = refl

  members_filled : (ts : List Token) (ms : Members) → AreMembers ts ms → are_filled ms ≡ true
  members_filled ts none h = refl
  members_filled ts (field f ms) h = members_filled h.1 ms h.4
  members_filled ts (constant c ms) h = members_filled h.1 ms h.4
  members_filled ts (method m ms) h = absurd h
  members_filled ts (nested d ms) h = rw (decl_filled h.0 d h.3, members_filled h.1 ms h.4) refl

  interface_filled : (ts : List Token) (ms : Members) → AreInterfaceMembers ts ms → are_filled ms ≡ true
  interface_filled ts none h = refl
  interface_filled ts (field f ms) h = absurd h
  interface_filled ts (constant c ms) h = interface_filled h.1 ms h.4
  interface_filled ts (method m ms) h = interface_filled h.1 ms h.4
  interface_filled ts (nested d ms) h = rw (decl_filled h.0 d h.3, interface_filled h.1 ms h.4) refl

-- the tree of the tokens of a file
pub file-filled : (ts : List Token) (s : Source) → IsFile ts s.tree → is_filled s.tree.declared ≡ true
file-filled ts s h = decl_filled h.0.4.1 s.tree.declared h.0.4.4

abbrev Filled : Entry → Type 0
Filled e = has_enumerator (body e.tree) ≡ true

each_push : {X : Type 0} (P : X → Type 0) (xs : List X) (x : X) → Each P xs → P x → Each P (xs ++ x ∷ [])
each_push P [] x h p = (p, tt)
each_push P (y ∷ xs) x h p = (h.0, each_push P xs x h.1 p)

mutual
  decl_each : (file : ℕ) (outer : Option ℕ) (part : List Ident) (d : Decl) (before : List Entry) → is_filled d ≡ true → Each Filled before → Each Filled (with_decl file outer part d before)
  decl_each file outer part (decl offset annots n b) before h old =
      let two = both (has_enumerator b) (is_filled_body b) h in
      let e : Entry = record { name = part; file = file; outer = outer; tree = decl offset annots n b } in
      body_each file (length before) part b (before ++ e ∷ []) two.1 (each_push Filled before e old two.0)

  body_each : (file number : ℕ) (part : List Ident) (b : Body) (before : List Entry) → is_filled_body b ≡ true → Each Filled before → Each Filled (with_body file number part b before)
  body_each file number part (parcelable ms) before h old = members_each file number part ms before h old
  body_each file number part (union ms) before h old = members_each file number part ms before h old
  body_each file number part (enum es) before h old = old
  body_each file number part (interface oneway ms) before h old = members_each file number part ms before h old

  members_each : (file number : ℕ) (part : List Ident) (ms : Members) (before : List Entry) → are_filled ms ≡ true → Each Filled before → Each Filled (with_members file number part ms before)
  members_each file number part none before h old = old
  members_each file number part (field f ms) before h old = members_each file number part ms before h old
  members_each file number part (constant c ms) before h old = members_each file number part ms before h old
  members_each file number part (method m ms) before h old = members_each file number part ms before h old
  members_each file number part (nested d ms) before h old =
      let two = both (is_filled d) (are_filled ms) h in
      members_each file number part ms (with_decl file (Some number) (name_inside part d) d before) two.1 (decl_each file (Some number) (name_inside part d) d before two.0 old)

files_each : (n : ℕ) (fs : List Source) (before : List Entry) → list_all (λ s. is_filled s.tree.declared) fs ≡ true → Each Filled before → Each Filled (with_files n fs before)
files_each n [] before h old = old
files_each n (s ∷ fs) before h old =
    let two = both (is_filled s.tree.declared) (list_all (λ (r : Source). is_filled r.tree.declared) fs) h in
    files_each (n + 1) fs (with_file n s before) two.1 (decl_each n None (name_inside (parts_of s.tree.«package») s.tree.declared) s.tree.declared before two.0 old)

-- each enum of each declaration has an enumerator
pub files-filled : (files : List Source) → list_all (λ s. is_filled s.tree.declared) files ≡ true → (k : ℕ) (e : Entry) → slice_get (declarations files) k ≡ Some e → has_enumerator (body e.tree) ≡ true
files-filled files h k e at = each-at Filled (declarations files) (files_each 0 files [] h tt) k e at
