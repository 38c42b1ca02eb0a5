-- Each tree of files has an answer, where each schema and each refusal gives one.
use Rattle.std.proofs.Common.{◌≢◌, ℕ, zero, suc, ◌⊎◌, List, [], ◌∷◌, ◌++◌, Some, None, Ok, Err, inl, inr, refl}
use Rattle.std.specs.List.{All, flat_map, slice_get}
use Rattle.std.proofs.lemmas.List.Elements.{All-head, All-tail, All-weaker}
use Rattle.aidl_base.specs.declared.source_file.SourceFile.{SourceFile}
use Rattle.aidl_syntax.specs.declared.token.Token.{Token}
use Rattle.aidl_syntax.specs.Tokens.{Tokens}
use Rattle.aidl_schema.specs.declared.schema.Decl.{Decl}
use Rattle.parse_places.specs.Viable.{HasTree, IsFaultPlace}
use Rattle.tree_files.specs.Files.{HasLimit, HasTokens}
use Rattle.tool_frame.specs.Answer.{Answer, Found, FoundThen, Refusing, limit_passed}
use Rattle.type_check.specs.declared.fault.CheckFault.{CheckFault}
use Rattle.type_check.specs.declared.fault.CheckFault.TheVariants as fault
use Rattle.type_check.specs.Checked.{IsSchemaOf}
use Rattle.type_check.specs.Refusals.{IsRefusal}
use Rattle.tree_commands.specs.ByTree.{ByBoth, ByFiles, OverBoth}
use Rattle.tree_commands.specs.Faults.{AreSyntaxLines, IsAnswerOf, IsLineOf, IsSyntaxLine, refused}
use Rattle.tree_commands.specs.Lines.{breach_line, lex_line, place_line}
use Rattle.parse_places.proofs.Viability.{tree_or_place}
use Rattle.type_check.proofs.lemmas.SomeAnswer.{checked-or-refused}

-- Refusals of files.
module _ (root : List ℕ) where
  line_of : (file : SourceFile) → HasTokens file → (text : List ℕ) × IsSyntaxLine root file text
  line_of file t = by_place t.0 t.1 (tree_or_place t.0)
    where
      by_place : (ts : List Token) → Tokens file.bytes ts → HasTree ts ⊎ ((HasTree ts → ⊥) × ((k : ℕ) × IsFaultPlace ts k)) → (text : List ℕ) × IsSyntaxLine root file text
      by_place ts t (inl tree) = (place_line root file ts None, (ts, t, None, tree, refl))
      by_place ts t (inr h) = (place_line root file ts (Some h.1.0), (ts, t, Some h.1.0, (h.0, h.1.1), refl))

  line_at : (files : List SourceFile) → All HasTokens files → (n : ℕ) → (text : List ℕ) × IsLineOf root (slice_get files n) text
  line_at [] all n = ([], refl)
  line_at (f ∷ fs) all zero = line_of f (All-head HasTokens f fs all)
  line_at (f ∷ fs) all (suc n) = line_at fs (All-tail HasTokens f fs all) n

  lines_of : (files : List SourceFile) → All HasTokens files → (rows : List ℕ) → (text : List ℕ) × AreSyntaxLines root files rows text
  lines_of files all [] = ([], refl)
  lines_of files all (n ∷ ns) = let first = line_at files all n in let rest = lines_of files all ns in (first.0 ++ rest.0, (first.0, rest.0, first.1, rest.1, refl))

  pub fault_answered : (files : List SourceFile) (e : CheckFault) → e ≢ fault.OutOfMemory → IsRefusal files e → (answer : Answer) × IsAnswerOf root files e answer
  fault_answered files (fault.Limit l) differs h = (limit_passed l.which, refl)
  fault_answered files (fault.Lex rows) differs h = (refused (flat_map (lex_line root files) rows), refl)
  fault_answered files (fault.Syntax rows) differs h =
      let lines = lines_of files (All-weaker (HasLimit None) HasTokens (λ f t. (t.0, t.1)) files h.1) rows in
      (refused lines.0, (lines.0, lines.1, refl))
  fault_answered files (fault.Breaches rows) differs h = (refused (flat_map (breach_line root files) rows), refl)
  fault_answered files fault.OutOfMemory differs h = absurd (differs refl)

  module _ {A : Type 0} (Refuses : Refusing A) (refuses : (refusal : Answer) → (x : A) × Refuses refusal x) where
    by_answer : (files : List SourceFile) (next : List Decl → A → Type 0)
        → ((schema : List Decl) × IsSchemaOf files schema) ⊎ ((e : CheckFault) × (e ≢ fault.OutOfMemory) × IsRefusal files e)
        → ((S : List Decl) → (x : A) × next S x) → (x : A) × ByFiles Refuses root files next x
    by_answer files next (inl h) goes = let x = goes h.0 in (x.0, inr (h.0, h.1, x.1))
    by_answer files next (inr h) goes =
        let answer = fault_answered files h.0 h.1 h.2 in
        let x = refuses answer.0 in
        (x.0, inl (answer.0, (h.0, h.2, answer.1), x.1))

    pub by_files : (files : List SourceFile) (next : List Decl → A → Type 0) → ((S : List Decl) → (x : A) × next S x) → (x : A) × ByFiles Refuses root files next x
    by_files files next goes = by_answer files next (checked-or-refused files) goes

-- Steps.
module _ {A : Type 0} (Refuses : Refusing A) (refuses : (refusal : Answer) → (x : A) × Refuses refusal x) where
  pub by_found : {X : Type 0} (found : Found X) (next : X → A → Type 0) → ((x : X) → (y : A) × next x y) → (y : A) × FoundThen Refuses found next y
  by_found (Ok x) next goes = goes x
  by_found (Err refusal) next goes = refuses refusal

  -- over the files of two trees
  pub by_over_both : (first second : Found (List SourceFile)) (next : List SourceFile → List SourceFile → A → Type 0) → ((olds news : List SourceFile) → (y : A) × next olds news y)
      → (y : A) × OverBoth Refuses first second next y
  by_over_both first second next goes = by_found first (λ olds. FoundThen Refuses second (next olds)) (λ olds. by_found second (next olds) (goes olds))

  -- by the schemas of the files of two trees
  pub by_both : (old new : List ℕ) (olds news : List SourceFile) (next : List Decl → List Decl → A → Type 0) → ((S T : List Decl) → (x : A) × next S T x)
      → (x : A) × ByBoth Refuses old olds new news next x
  by_both old new olds news next goes = by_files old Refuses refuses olds (λ S. ByFiles Refuses new news (next S)) (λ S. by_files new Refuses refuses news (next S) (goes S))
