-- When the declarations of trees are those of a schema, each once (own). Their numbers are others: trees go file by
-- file, and in a file by nesting.
use Rattle.std.specs.Prelude.{◌≡◌, ℕ, List, length, Option, Some, None, slice_get}
use Rattle.aidl_base.specs.declared.name.Ident.{Ident}
use Rattle.aidl_syntax.specs.Trees.{map_option}
use Rattle.aidl_syntax.specs.Sources.{Source}
use Rattle.declared_names.specs.Declarations.{Entry, declarations}
use Rattle.aidl_schema.specs.declared.schema.Decl.{Decl}
use Rattle.aidl_schema.specs.Holds.{AreApart}
use Rattle.dump_reading.specs.Bare.{bare_decl}
use Rattle.dump_reading.specs.DumpTrees.{decl_tree, nested_trees}

-- the canonical name of the declaration with a number, where there is one
abbrev pub name_at : {X : Type 0} → (X → List Ident) → List X → Option ℕ → Option (List Ident)
name_at name xs None = None
name_at name xs (Some number) = map_option name (slice_get xs number)

-- A declaration of trees is the declaration of a schema with the number n: it has its name, stands inside the same
-- one, and is written, offsets aside, as that is.
pub record IsDeclaration (S : List Decl) (files : List Source) (n : ℕ) (e : Entry) : Type 0 where
  pub declared : Decl
  pub at : slice_get S n ≡ Some declared
  pub named : e.name ≡ declared.name.0
  pub around : name_at (λ x. x.name) (declarations files) e.outer ≡ name_at (λ d. d.name.0) S declared.outer
  pub written : bare_decl e.tree ≡ decl_tree S declared (nested_trees S (length S) n)

-- Each declaration of the trees is one of the schema, and each of the schema is one of the trees and one alone.
pub record AreDeclared (S : List Decl) (files : List Source) : Type 0 where
  pub count : length (declarations files) ≡ length S
  pub each : (j : ℕ) (e : Entry) → slice_get (declarations files) j ≡ Some e → (n : ℕ) × IsDeclaration S files n e
  pub whole : (n : ℕ) (d : Decl) → slice_get S n ≡ Some d
      → (j : ℕ) × (e : Entry) × (slice_get (declarations files) j ≡ Some e) × IsDeclaration S files n e
  pub apart : AreApart (λ e. e.name) (declarations files)
