-- What comes of a step of a command that reads: of what it finds, or of its refusal.
use Rattle.std.proofs.Common.{◌≡◌, ℕ, List, Ok, Err, inl, inr, refl, sym, subst}
use Rattle.std.specs.Prelude.{Vec}
use Rattle.std.specs.declared.alloc.Global.{Global}
use Rattle.aidl_base.specs.declared.source_file.SourceFile.{SourceFile}
use Rattle.aidl_schema.specs.declared.schema.Decl.{Decl}
use Rattle.tree_commands.specs.Opens.{HasSchema, IsChecked, Unchecked}
use Rattle.tree_commands.specs.Both.{InBoth, IsFaultOfOne, IsOneUnchecked}
use Rattle.tree_commands.specs.ByTree.{ByBoth, ByTree, OverBoth}
use Rattle.aidl_outside.specs.Files.{Files}
use Rattle.tool_frame.specs.declared.printed.Early.{Early}
use Rattle.tool_frame.specs.declared.printed.Early.TheVariants as early
use Rattle.tool_frame.specs.Answer.{Answer, AsAnswer, Found, FoundThen, Refusing, Then}
use Rattle.tool_frame.specs.Results.{Finds, printed}
use Rattle.tool_frame.specs.Trees.{tree_at}
use Rattle.tool_frame.proofs.lemmas.Halts.{IfAnswered}
use Rattle.tree_commands.specs.Results.{EndsBy}
use Rattle.type_check.specs.Checked.{IsSchemaOf}

pub then_refused : {X : Type 0} (found : Found X) (next : X → Answer → Type 0) (a : Answer) → found ≡ Err a → Then found next a
then_refused found next a e = subst (λ f. Then f next a) (sym e) refl

pub then_found : {X : Type 0} (found : Found X) (x : X) (next : X → Answer → Type 0) (a : Answer) → found ≡ Ok x → next x a → Then found next a
then_found found x next a e h = subst (λ f. Then f next a) (sym e) h

-- a tree with a schema
pub has_schema : (tree : Found (List SourceFile)) (files : List SourceFile) (S : List Decl) → tree ≡ Ok files → IsSchemaOf files S → HasSchema tree S
has_schema tree files S e is = subst (λ t. HasSchema t S) (sym e) is

-- by the schema of a tree
module _ (root : List ℕ) (next : List Decl → Answer → Type 0) (a : Answer) where
  pub by_unchecked : (tree : Found (List SourceFile)) → Unchecked root tree a → ByTree AsAnswer root tree next a
  by_unchecked (Ok files) h = inl (a, h, refl)
  by_unchecked (Err passed) h = h

  pub by_checked : (tree : Found (List SourceFile)) (S : List Decl) → HasSchema tree S → next S a → ByTree AsAnswer root tree next a
  by_checked (Ok files) S s h = inr (S, s, h)
  by_checked (Err passed) S s h = absurd s

-- an early end by one of these answers
pub early_by : (end : Early) (Is Said : Answer → Type 0) → ((a : Answer) → Is a → Said a) → EndsBy Is end → IfAnswered end Said
early_by (early.Answered p) Is Said more h = more (printed p) h
early_by early.OutOfMemory Is Said more h = tt

-- an early end of a step to bytes
pub early_bytes : (end : Early) (found : Found (List ℕ)) (Said : Answer → Type 0) → ((a : Answer) → found ≡ Err a → Said a)
    → Finds {T = Vec ℕ Global} (λ (v : Vec ℕ Global). v.items) (Err end) found → IfAnswered end Said
early_bytes (early.Answered p) found Said more h = more (printed p) h
early_bytes early.OutOfMemory found Said more h = tt

-- over both trees
module _ {A : Type 0} (Refuses : Refusing A) (next : List SourceFile → List SourceFile → A → Type 0) (x : A) where
  pub both_long : (a : Answer) → Refuses a x → (first second : Found (List SourceFile)) → Then first (λ olds passed. second ≡ Err passed) a → OverBoth Refuses first second next x
  both_long a is (Ok olds) second passed = subst (λ t. FoundThen Refuses t (next olds) x) (sym passed) is
  both_long a is (Err passed) second e = subst (λ refusal. Refuses refusal x) e is

  pub both_found : (first second : Found (List SourceFile)) (olds news : List SourceFile) → first ≡ Ok olds → second ≡ Ok news → next olds news x → OverBoth Refuses first second next x
  both_found first second olds news e f h = subst (λ t. OverBoth Refuses t second next x) (sym e) (subst (λ t. FoundThen Refuses t (next olds) x) (sym f) h)

-- by both schemas
module _ {A : Type 0} (Refuses : Refusing A) (old new : List ℕ) (next : List Decl → List Decl → A → Type 0) (x : A) where
  pub both_faulty : (olds news : List SourceFile) (a : Answer) → Refuses a x → IsFaultOfOne old olds new news a → ByBoth Refuses old olds new news next x
  both_faulty olds news a is (inl (refusal, faulty, e)) = inl (refusal, faulty, subst (λ r. Refuses r x) e is)
  both_faulty olds news a is (inr (S, schema, faulty)) = inr (S, schema, inl (a, faulty, is))

  abbrev Both : List SourceFile → List SourceFile → A → Type 0
  Both olds news = ByBoth Refuses old olds new news next

  pub both_checked : (first second : Found (List SourceFile)) (S T : List Decl) → HasSchema first S → HasSchema second T → next S T x → OverBoth Refuses first second Both x
  both_checked (Ok olds) (Ok news) S T s t h = inr (S, s, inr (T, t, h))
  both_checked (Ok olds) (Err passed) S T s t h = absurd t
  both_checked (Err passed) second S T s t h = absurd s

-- in both trees
module _ (old new : List ℕ) (files : Files) (by_schemas : List Decl → List Decl → Answer → Type 0) (a : Answer) where
  unchecked_by : (first second : Found (List SourceFile)) → OverBoth AsAnswer first second (λ olds. IsFaultOfOne old olds new) a
      → OverBoth AsAnswer first second (λ olds news. ByBoth AsAnswer old olds new news by_schemas) a
  unchecked_by (Ok olds) (Ok news) h = both_faulty AsAnswer old new by_schemas a olds news a refl h
  unchecked_by (Ok olds) (Err passed) h = h
  unchecked_by (Err passed) second h = h

  pub in_both_unchecked : IsOneUnchecked old new files a → InBoth old new files by_schemas a
  in_both_unchecked h = unchecked_by (tree_at files old) (tree_at files new) h

  pub in_both_checked : (S T : List Decl) → IsChecked files old S → IsChecked files new T → by_schemas S T a → InBoth old new files by_schemas a
  in_both_checked S T s t h = both_checked AsAnswer old new by_schemas a (tree_at files old) (tree_at files new) S T s t h
