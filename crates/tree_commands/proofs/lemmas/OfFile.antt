-- What is answered of a file by the schema of a tree, which the words may name, step by step.
use Rattle.std.proofs.Common.{◌≡◌, ℕ, List, [], Option, Some, None, Ok, Err, refl, subst, inl, inr}
use Rattle.std.specs.Prelude.{Result, Vec}
use Rattle.std.specs.declared.alloc.Global.{Global}
use Rattle.aidl_base.specs.declared.limit.Limit.{Limit}
use Rattle.aidl_base.specs.declared.limit.LimitName.TheVariants.{TextBytes}
use Rattle.aidl_outside.specs.Files.{Files}
use Rattle.aidl_schema.specs.declared.schema.Decl.{Decl}
use Rattle.tree_commands.specs.declared.in_tree.Tree.{Tree}
use Rattle.tree_commands.specs.InTree.{BySchema, Checked, InTree, OfFile}
use Rattle.tree_commands.specs.Named.{AreLoaded, AreNotLoaded, IsNamed, IsSchemaIn, IsUncheckedIn, PassesIn}
use Rattle.tree_commands.proofs.lemmas.Reading.{then_found, then_refused}
use Rattle.tool_frame.specs.Answer.{Answer, Found, Then}
use Rattle.tool_frame.specs.Refusals.{file_at, there}
use Rattle.tool_frame.specs.Results.{held}
use Rattle.tool_frame.specs.Trees.{tree_at}

-- what is answered by its schema
abbrev SchemaIn : Option Tree → BySchema → Answer → Type 0
SchemaIn None = λ by_schema. by_schema []
SchemaIn (Some t) = Checked t.root.now t.files

in_tree : (tree : Option (List ℕ)) (files : Files) (t : Option Tree) (next : (BySchema → Answer → Type 0) → Answer → Type 0) (a : Answer) → IsNamed tree files t → next (SchemaIn t) a → InTree tree files next a
in_tree None files None next a is h = h
in_tree None files (Some t) next a is h = absurd is
in_tree (Some root) files None next a is h = absurd is
in_tree (Some root) files (Some t) next a (same, found) h =
    then_found (tree_at files root) t.files (λ sources. next (Checked root sources)) a found (subst (λ r. next (Checked r t.files) a) same h)

passes : (tree : Option (List ℕ)) (files : Files) (next : (BySchema → Answer → Type 0) → Answer → Type 0) (a : Answer) → PassesIn tree files a → InTree tree files next a
passes None files next a passed = absurd passed
passes (Some root) files next a passed = then_refused (tree_at files root) (λ sources. next (Checked root sources)) a passed

unchecked : (t : Option Tree) (next : BySchema) (a : Answer) → IsUncheckedIn t a → SchemaIn t next a
unchecked None next a is = absurd is
unchecked (Some t) next a is = inl (a, is, refl)

by_schema : (t : Option Tree) (S : List Decl) (next : BySchema) (a : Answer) → IsSchemaIn t S → next S a → SchemaIn t next a
by_schema None S next a is h = subst (λ (T : List Decl). next T a) is h
by_schema (Some t) S next a is h = inr (S, is, h)

module _ (bytes_of : Found (List ℕ) → Found (List ℕ)) (tree : Option (List ℕ)) (path : List ℕ) (next : List ℕ → BySchema) (files : Files) (a : Answer) where
  abbrev Next : Found (List ℕ) → (BySchema → Answer → Type 0) → Answer → Type 0
  Next file schema = Then (bytes_of file) (λ bytes. schema (next bytes))

  -- nothing is loaded
  pub not_loaded : AreNotLoaded path tree files a → OfFile bytes_of tree path next files a
  not_loaded h = go (there path (file_at TextBytes files path)) h where
    go : (file : Found (Found (List ℕ))) → Then file (λ file. PassesIn tree files) a → Then file (λ file. InTree tree files (Next file)) a
    go (Ok file) passed = passes tree files (Next file) a passed
    go (Err gone) is = is

  module _ (file : Result (Vec ℕ Global) Limit) (t : Option Tree) (loaded : AreLoaded path tree files (file, t)) where
    over : Next (held file) (SchemaIn t) a → OfFile bytes_of tree path next files a
    over h = then_found (there path (file_at TextBytes files path)) (held file) (λ file. InTree tree files (Next file)) a loaded.0 (in_tree tree files t (Next (held file)) a loaded.1 h)

    -- the bytes are refused
    pub no_bytes : bytes_of (held file) ≡ Err a → OfFile bytes_of tree path next files a
    no_bytes refused = over (then_refused (bytes_of (held file)) (λ bytes. SchemaIn t (next bytes)) a refused)

    module _ (bytes : List ℕ) (read : bytes_of (held file) ≡ Ok bytes) where
      of_bytes : SchemaIn t (next bytes) a → OfFile bytes_of tree path next files a
      of_bytes h = over (then_found (bytes_of (held file)) bytes (λ bytes. SchemaIn t (next bytes)) a read h)

      -- the tree is
      pub no_schema : IsUncheckedIn t a → OfFile bytes_of tree path next files a
      no_schema is = of_bytes (unchecked t (next bytes) a is)

      -- neither is
      pub of_schema : (S : List Decl) → IsSchemaIn t S → next bytes S a → OfFile bytes_of tree path next files a
      of_schema S is h = of_bytes (by_schema t S (next bytes) a is h)
