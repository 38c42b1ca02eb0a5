-- Files have one answer at the most.
use Rattle.std.proofs.Common.{◌≡◌, ◌≢◌, ◌<◌, ◌≤◌, ◌+◌, ℕ, zero, suc, List, [], ◌∷◌, ◌++◌, take, Option, Some, None, slice_get, inl, inr, refl, sym, ◌∙◌, ap, subst, append_assoc, arith}
use Rattle.aidl_base.specs.declared.source_file.SourceFile.{SourceFile}
use Rattle.aidl_schema.specs.declared.schema.Decl.{Decl}
use Rattle.aidl_lexer.proofs.lemmas.meaning.OneLexing.{one_list}
use Rattle.aidl_syntax.specs.declared.token.Token.{Token}
use Rattle.parse_places.specs.Viable.{HasTree, Viable, IsFaultPlace}
use Rattle.tool_frame.specs.Answer.{Answer}
use Rattle.tree_files.proofs.lemmas.OneAnswer as parsing
use Rattle.type_check.proofs.lemmas.OneAnswer as checking
use Rattle.type_check.specs.declared.fault.CheckFault.{CheckFault}
use Rattle.type_check.specs.declared.fault.CheckFault.TheVariants as fault
use Rattle.type_check.specs.Checked.{IsSchemaOf}
use Rattle.type_check.specs.Refusals.{IsRefusal}
use Rattle.tree_commands.specs.Faults.{AreSyntaxLines, IsAnswerOf, IsFaultAnswer, IsLineOf, IsPlace, IsSyntaxLine, refused}
use Rattle.tree_commands.specs.Lines.{place_line}

-- Tokens have one place.

take_less : (j k : ℕ) (ts : List Token) → j ≤ k → (rest : List Token) × (take k ts ≡ take j ts ++ rest)
take_less zero k ts le = (take k ts, refl)
take_less (suc j) zero ts le = absurd (omega arith)
take_less (suc j) (suc k) [] le = ([], refl)
take_less (suc j) (suc k) (t ∷ ts) le = let p = take_less j k ts (omega arith) in (p.0, ap (λ us. t ∷ us) p.1)

viable_less : (j k : ℕ) (ts : List Token) → j ≤ k → Viable (take k ts) → Viable (take j ts)
viable_less j k ts le (more, h) = let p = take_less j k ts le in (p.0 ++ more, subst HasTree (ap (λ us. us ++ more) p.1 ∙ append_assoc (take j ts) p.0 more) h)

not_before : (ts : List Token) (j k : ℕ) → IsFaultPlace ts j → IsFaultPlace ts k → j < k → ⊥
not_before ts j k (v, inl e) (w, inl d) lt = omega arith
not_before ts j k (v, inl e) (w, inr (l, d)) lt = omega arith
not_before ts j k (v, inr (l, stop)) (w, q) lt = stop (viable_less (j + 1) k ts (omega arith) w)

same_place : (ts : List Token) (j k : ℕ) → IsFaultPlace ts j → IsFaultPlace ts k → j ≡ k
same_place ts j k p q = go (λ lt. not_before ts j k p q lt) (λ lt. not_before ts k j q p lt) where
  go : (j < k → ⊥) → (k < j → ⊥) → j ≡ k
  go f g = omega arith

one_place : (ts : List Token) (p q : Option ℕ) → IsPlace ts p → IsPlace ts q → p ≡ q
one_place ts None None h k = refl
one_place ts None (Some b) h k = absurd (k.0 h)
one_place ts (Some a) None h k = absurd (h.0 k)
one_place ts (Some a) (Some b) h k = ap Some (same_place ts a b h.1 k.1)

not_memory : (root : List ℕ) (files : List SourceFile) (r : CheckFault) (a : Answer) → IsAnswerOf root files r a → r ≢ fault.OutOfMemory
not_memory root files (fault.Limit l) a h e = cc
not_memory root files (fault.Lex rows) a h e = cc
not_memory root files (fault.Syntax rows) a h e = cc
not_memory root files (fault.Breaches rows) a h e = cc
not_memory root files fault.OutOfMemory a h e = h

module _ (files : List SourceFile) where
  pub one_schema : (S T : List Decl) → IsSchemaOf files S → IsSchemaOf files T → S ≡ T
  one_schema = checking.one_schema files (λ ps qs h k. parsing.one-trees files ps qs h.trees k.trees) (parsing.one-refusal files) (parsing.never files)

  pub one_refusal : (q r : CheckFault) → q ≢ fault.OutOfMemory → r ≢ fault.OutOfMemory → IsRefusal files q → IsRefusal files r → q ≡ r
  one_refusal = checking.one_refusal files (λ ps qs h k. parsing.one-trees files ps qs h.trees k.trees) (parsing.one-refusal files) (parsing.never files)

  pub never_both : (S : List Decl) (r : CheckFault) → r ≢ fault.OutOfMemory → IsSchemaOf files S → IsRefusal files r → ⊥
  never_both = checking.never files (λ ps qs h k. parsing.one-trees files ps qs h.trees k.trees) (parsing.one-refusal files) (parsing.never files)

module _ (root : List ℕ) (files : List SourceFile) where
  one_syntax_line : (f : SourceFile) (a b : List ℕ) → IsSyntaxLine root f a → IsSyntaxLine root f b → a ≡ b
  one_syntax_line f a b h k =
      let same : h.0 ≡ k.0 = one_list f.bytes h.0 k.0 h.1 k.1 in
      let place : h.2 ≡ k.2 = one_place k.0 h.2 k.2 (subst (λ (ts : List Token). IsPlace ts h.2) same h.3) k.3 in
      h.4 ∙ ap (λ (ts : List Token). place_line root f ts h.2) same ∙ ap (place_line root f k.0) place ∙ sym k.4

  one_line_of : (o : Option SourceFile) (a b : List ℕ) → IsLineOf root o a → IsLineOf root o b → a ≡ b
  one_line_of None a b h k = h ∙ sym k
  one_line_of (Some f) a b h k = one_syntax_line f a b h k

  one_lines : (ns a b : List ℕ) → AreSyntaxLines root files ns a → AreSyntaxLines root files ns b → a ≡ b
  one_lines [] a b h k = h ∙ sym k
  one_lines (n ∷ ns) a b h k =
      h.4 ∙ ap (λ z. z ++ h.1) (one_line_of (slice_get files n) h.0 k.0 h.2 k.2) ∙ ap (λ z. k.0 ++ z) (one_lines ns h.1 k.1 h.3 k.3) ∙ sym k.4

  one_answer_of : (r : CheckFault) (a b : Answer) → IsAnswerOf root files r a → IsAnswerOf root files r b → a ≡ b
  one_answer_of (fault.Limit l) a b h k = h ∙ sym k
  one_answer_of (fault.Lex rows) a b h k = h ∙ sym k
  one_answer_of (fault.Syntax rows) a b h k = h.2 ∙ ap refused (one_lines rows h.0 k.0 h.1 k.1) ∙ sym k.2
  one_answer_of (fault.Breaches rows) a b h k = h ∙ sym k
  one_answer_of fault.OutOfMemory a b h k = absurd h

  pub one_fault_answer : (a b : Answer) → IsFaultAnswer root files a → IsFaultAnswer root files b → a ≡ b
  one_fault_answer a b h k =
      let same : h.0 ≡ k.0 = one_refusal files h.0 k.0 (not_memory root files h.0 a h.2) (not_memory root files k.0 b k.2) h.1 k.1 in
      one_answer_of k.0 a b (subst (λ (r : CheckFault). IsAnswerOf root files r a) same h.2) k.2

  pub never_faulty : (S : List Decl) (a : Answer) → IsSchemaOf files S → IsFaultAnswer root files a → ⊥
  never_faulty S a h k = never_both files S k.0 (not_memory root files k.0 a k.2) h k.1
