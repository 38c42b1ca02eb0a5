-- The declarations of a tree of files in the order of their numbers: file by file, and in a file by the place of
-- their names.
use Rattle.std.specs.Prelude.{ℕ, ◌+◌, List, [], ◌∷◌, ◌++◌, length, Option, Some, None}
use Rattle.aidl_base.specs.declared.name.Ident.{Ident}
use Rattle.aidl_syntax.specs.Trees.{Decl, Body, Members}
use Rattle.aidl_syntax.specs.Trees.Decl.{decl}
use Rattle.aidl_syntax.specs.Trees.Body.{parcelable, union, enum, interface}
use Rattle.aidl_syntax.specs.Trees.Members.{none, field, constant, method, nested}
use Rattle.aidl_syntax.specs.Members.{declared_name}
use Rattle.declared_names.specs.Names.{parts_of}
use Rattle.aidl_syntax.specs.Sources.{Source}

-- a declaration: its canonical name, the number of its file, the number of the declaration that encloses it, and
-- its tree
pub record Entry : Type 0 where
  pub name : List Ident
  pub file : ℕ
  pub outer : Option ℕ
  pub tree : Decl

-- the canonical name of what a declaration encloses, or of what a package does
abbrev pub name_inside : List Ident → Decl → List Ident
name_inside around d = around ++ (declared_name d).name ∷ []

-- A walk adds each declaration, with its canonical name, behind those before it. So its number is how many these are.
abbrev mutual
  pub with_decl : ℕ → Option ℕ → List Ident → Decl → List Entry → List Entry
  with_decl file outer name (decl offset annots n body) before =
      with_body file (length before) name body (before
      ++ record { name = name; file = file; outer = outer; tree = decl offset annots n body } ∷ [])

  -- those inside the body of the declaration with this number and this name
  pub with_body : ℕ → ℕ → List Ident → Body → List Entry → List Entry
  with_body file number name (parcelable ms) before = with_members file number name ms before
  with_body file number name (union ms) before = with_members file number name ms before
  with_body file number name (enum es) before = before
  with_body file number name (interface oneway ms) before = with_members file number name ms before

  pub with_members : ℕ → ℕ → List Ident → Members → List Entry → List Entry
  with_members file number name none before = before
  with_members file number name (field f ms) before = with_members file number name ms before
  with_members file number name (constant c ms) before = with_members file number name ms before
  with_members file number name (method m ms) before = with_members file number name ms before
  with_members file number name (nested d ms) before =
      with_members file number name ms (with_decl file (Some number) (name_inside name d) d before)

-- the declarations of a file
abbrev pub with_file : ℕ → Source → List Entry → List Entry
with_file file s before =
    with_decl file None (name_inside (parts_of s.tree.«package») s.tree.declared) s.tree.declared before

-- those of files that have the numbers from one on
abbrev pub with_files : ℕ → List Source → List Entry → List Entry
with_files file [] before = before
with_files file (s ∷ more) before = with_files (file + 1) more (with_file file s before)

-- the declarations of a tree
abbrev pub declarations : List Source → List Entry
declarations files = with_files 0 files []
