-- What comes of a tree is one thing at the most, where what comes of its schema is; or any two things of it are related, where those are.
use Rattle.std.proofs.Common.{◌≡◌, ℕ, List, [], ◌∷◌, map, Ok, Err, inl, inr, refl, sym, ap, ◌∙◌, subst}
use Rattle.std.specs.Str.{encode_utf8_all}
use Rattle.std.proofs.lemmas.Str.{cons_from_encodes}
use Rattle.aidl_base.specs.declared.source_file.SourceFile.{SourceFile}
use Rattle.aidl_schema.specs.declared.schema.Decl.{Decl}
use Rattle.tool_frame.specs.Answer.{Answer, Found, FoundThen, Refusing}
use Rattle.tree_commands.specs.ByTree.{ByBoth, ByFiles, ByTree, OverBoth}
use Rattle.tree_commands.proofs.lemmas.OneAnswer.{never_faulty, one_fault_answer, one_schema}

-- texts with the same bytes are the same
same_text : (xs ys : List ℕ) → encode_utf8_all xs ≡ encode_utf8_all ys → xs ≡ ys
same_text [] [] e = refl
same_text (x ∷ xs) [] e = let made = cons_from_encodes [] (encode_utf8_all xs) x (sym e) in let never : ◌≡◌ {A = List ℕ} [] (x ∷ made.0) = made.1 in cc
same_text xs (y ∷ ys) e = let made = cons_from_encodes xs (encode_utf8_all ys) y e in made.1 ∙ ap (λ es. y ∷ es) (same_text made.0 ys made.2)

-- Files are known by what they are seen as, where that has the bytes of their paths and their own.
module _ {T : Type 0} (seen : SourceFile → T) (parts : (f g : SourceFile) → seen f ≡ seen g → (encode_utf8_all f.path ≡ encode_utf8_all g.path) × (f.bytes ≡ g.bytes)) where
  same_file : (f g : SourceFile) → seen f ≡ seen g → f ≡ g
  same_file f g e =
      let both = parts f g e in
      ap (λ t. let h : SourceFile = record { path = t; bytes = f.bytes } in h) (same_text f.path g.path both.0) ∙ ap (λ b. let h : SourceFile = record { path = g.path; bytes = b } in h) both.1

  pub same_files : (fs gs : List SourceFile) → map seen fs ≡ map seen gs → fs ≡ gs
  same_files [] [] e = refl
  same_files (f ∷ fs) [] e = cc
  same_files [] (g ∷ gs) e = cc
  same_files (f ∷ fs) (g ∷ gs) e =
      let first : seen f ≡ seen g = cc in
      let others : map seen fs ≡ map seen gs = cc in
      ap (λ h. h ∷ fs) (same_file f g first) ∙ ap (λ hs. g ∷ hs) (same_files fs gs others)

module _ {A B : Type 0} (R : A → B → Type 0) (P : Refusing A) (Q : Refusing B) (refused : (a : Answer) (x : A) (y : B) → P a x → Q a y → R x y) where
  -- of a step
  pub by_found : {X : Type 0} (p : X → A → Type 0) (q : X → B → Type 0) → ((z : X) (x : A) (y : B) → p z x → q z y → R x y)
      → (found : Found X) (x : A) (y : B) → FoundThen P found p x → FoundThen Q found q y → R x y
  by_found p q goes (Ok z) x y h k = goes z x y h k
  by_found p q goes (Err a) x y h k = refused a x y h k

  -- by the schema of files
  pub by_files : (p : List Decl → A → Type 0) (q : List Decl → B → Type 0) → ((S : List Decl) (x : A) (y : B) → p S x → q S y → R x y)
      → (root : List ℕ) (files : List SourceFile) (x : A) (y : B) → ByFiles P root files p x → ByFiles Q root files q y → R x y
  by_files p q goes root files x y (inl h) (inl k) =
      refused k.0 x y (subst (λ (a : Answer). P a x) (one_fault_answer root files h.0 k.0 h.1 k.1) h.2) k.2
  by_files p q goes root files x y (inl h) (inr k) = absurd (never_faulty root files k.0 h.0 k.1 h.1)
  by_files p q goes root files x y (inr h) (inl k) = absurd (never_faulty root files h.0 k.0 h.1 k.1)
  by_files p q goes root files x y (inr h) (inr k) =
      goes k.0 x y (subst (λ (S : List Decl). p S x) (one_schema files h.0 k.0 h.1 k.1) h.2) k.2

  -- by the schema of a tree
  pub by_tree : (p : List Decl → A → Type 0) (q : List Decl → B → Type 0) → ((S : List Decl) (x : A) (y : B) → p S x → q S y → R x y)
      → (root : List ℕ) (tree : Found (List SourceFile)) (x : A) (y : B) → ByTree P root tree p x → ByTree Q root tree q y → R x y
  by_tree p q goes root tree = by_found (λ files. ByFiles P root files p) (λ files. ByFiles Q root files q) (λ files. by_files p q goes root files) tree

  -- over the files of two trees
  pub by_over_both : (p : List SourceFile → List SourceFile → A → Type 0) (q : List SourceFile → List SourceFile → B → Type 0)
      → ((olds news : List SourceFile) (x : A) (y : B) → p olds news x → q olds news y → R x y)
      → (first second : Found (List SourceFile)) (x : A) (y : B) → OverBoth P first second p x → OverBoth Q first second q y → R x y
  by_over_both p q goes first second =
      by_found (λ olds. FoundThen P second (p olds)) (λ olds. FoundThen Q second (q olds)) (λ olds. by_found (p olds) (q olds) (goes olds) second) first

  -- by the schemas of the files of two trees
  pub by_both_files : (p : List Decl → List Decl → A → Type 0) (q : List Decl → List Decl → B → Type 0) → ((S T : List Decl) (x : A) (y : B) → p S T x → q S T y → R x y)
      → (old new : List ℕ) (olds news : List SourceFile) (x : A) (y : B) → ByBoth P old olds new news p x → ByBoth Q old olds new news q y → R x y
  by_both_files p q goes old new olds news =
      by_files (λ S. ByFiles P new news (p S)) (λ S. ByFiles Q new news (q S)) (λ S. by_files (p S) (q S) (goes S) new news) old olds

  -- by the schemas of two trees
  pub by_both : (p : List Decl → List Decl → A → Type 0) (q : List Decl → List Decl → B → Type 0) → ((S T : List Decl) (x : A) (y : B) → p S T x → q S T y → R x y)
      → (old new : List ℕ) (first second : Found (List SourceFile)) (x : A) (y : B)
      → OverBoth P first second (λ olds news. ByBoth P old olds new news p) x → OverBoth Q first second (λ olds news. ByBoth Q old olds new news q) y → R x y
  by_both p q goes old new =
      by_over_both (λ olds news. ByBoth P old olds new news p) (λ olds news. ByBoth Q old olds new news q) (λ olds news. by_both_files p q goes old new olds news)
