-- What is found once one more file was looked at, case by case.
use Rattle.std.proofs.Common.{nat_eq, ◌≡◌, ◌≢◌, ℕ, true, false, List, [], ◌∷◌, ◌++◌, length, Option, Some, None, Result, Ok, Err, OnOk, refl, sym, ◌∙◌, ap, subst, zero-add}
use Rattle.std.specs.List.{AllZip}
use Rattle.std.proofs.lemmas.List.Elements.{All-push}
use Rattle.std.specs.Option.{is_none}
use Rattle.aidl_base.proofs.lemmas.Tests.{both}
use Rattle.aidl_base.specs.declared.limit.LimitName.{LimitName}
use Rattle.aidl_base.specs.declared.source_file.SourceFile.{SourceFile}
use Rattle.aidl_syntax.specs.declared.tree.ParsedFile.{ParsedFile}
use Rattle.aidl_syntax.specs.declared.token.Token.{Token}
use Rattle.aidl_syntax.specs.Tokens.{Tokens}
use Rattle.aidl_syntax.specs.Productions.{IsFile}
use Rattle.aidl_syntax.specs.Trees.{File, file_of}
use Rattle.aidl_lexer.proofs.lemmas.meaning.OneLexing.{one_list}
use Rattle.aidl_lexer.specs.declared.fault.LexFault.{LexFault}
use Rattle.aidl_lexer.specs.declared.fault.LexFault.TheVariants as lexical
use Rattle.aidl_lexer.specs.Naming.{number_of, offset_of}
use Rattle.aidl_lexer.specs.Gives.{HasFault}
use Rattle.tree_files.specs.declared.fault.LexBreach.{LexBreach}
use Rattle.tree_files.specs.declared.found.Found.{Found}
use Rattle.tree_files.specs.Files.{HasTokens, HasLimit, HasTree, IsParsed}
use Rattle.tree_files.specs.Refusals.{Rows, IsLexBreach, IsTreeless}
use Rattle.tree_files.specs.steps.Standing.{IsFirst, Extends, wants_trees}
use Rattle.tree_files.proofs.Rows.{rows-good, rows-next}
use Rattle.tree_files.proofs.Limits.{first-stays, first-here}

-- what follows where the result is Ok
pub on_ok : {A E : Type 0} (r : Result A E) (P Q : Type 0) → (P → Q) → OnOk r P → OnOk r Q
on_ok (Ok x) P Q f h = f h
on_ok (Err e) P Q f h = tt

some-item : {A : Type 0} (xs : List A) (x : A) → xs ++ x ∷ [] ≡ [] → ⊥
some-item [] x e = cc
some-item (y ∷ ys) x e = cc

-- what the test for trees says
pub closed : (faults : List LexBreach) (limit : Option LimitName) → wants_trees faults limit ≡ false → faults ≡ [] → limit ≡ None → ⊥
closed [] None e z o = cc
closed [] (Some w) e z o = cc
closed (b ∷ bs) limit e z o = cc

was-none : (limit : Option LimitName) → is_none limit ≡ true → limit ≡ None
was-none None e = refl
was-none (Some w) e = cc

pub open-limit : (faults : List LexBreach) (limit : Option LimitName) → wants_trees faults limit ≡ true → limit ≡ None
open-limit faults limit e = was-none limit (both (nat_eq (length faults) 0) (is_none limit) e).1

not-none : (w : LimitName) → ◌≡◌ {A = Option LimitName} (Some w) None → ⊥
not-none w e = cc

pub has-tokens : (o : Option LimitName) (f : SourceFile) → HasLimit o f → HasTokens f
has-tokens o f h = (h.0, h.1)

-- the fault of a file's bytes, with its number
breach : (n : ℕ) (f : SourceFile) (b : LexBreach) (e : LexFault) → b.fault ≡ e → b.file ≡ n → e ≢ lexical.OutOfMemory → HasFault f.bytes e → IsLexBreach n f b
breach n f b (lexical.BadByte o) e m differs h = (m, 1, o, ap number_of e, ap offset_of e, h)
breach n f b (lexical.OpenComment o) e m differs h = (m, 2, o, ap number_of e, ap offset_of e, h)
breach n f b (lexical.OpenLiteral o) e m differs h = (m, 3, o, ap number_of e, ap offset_of e, h)
breach n f b (lexical.BadNumber o) e m differs h = (m, 4, o, ap number_of e, ap offset_of e, h)
breach n f b lexical.OutOfMemory e m differs h = absurd (differs refl)

-- the file has no tokens
pub faulty : (n : ℕ) (f : SourceFile) (s : Found) (rows : List LexBreach) (b : LexBreach) → rows ≡ s.faults ++ b ∷ [] → b.file ≡ n → b.fault ≢ lexical.OutOfMemory → HasFault f.bytes b.fault
    → Extends n f s (record { faults = rows; limit = s.limit; treeless = s.treeless; parsed = s.parsed })
faulty n f s rows b e m differs h = λ files l st. record {
  faults = subst (Rows HasTokens IsLexBreach 0 (files ++ f ∷ [])) (sym e) (rows-next HasTokens IsLexBreach 0 n files f s.faults b (sym l ∙ sym (zero-add (length files))) (breach n f b b.fault refl m differs h) st.faults);
  limit = λ z. absurd (some-item s.faults b (sym e ∙ z));
  treeless = λ z _. absurd (some-item s.faults b (sym e ∙ z));
  parsed = λ z _ _. absurd (some-item s.faults b (sym e ∙ z));
}

-- the file has tokens, and a file without tokens or a limit was found already
pub kept : (n : ℕ) (f : SourceFile) (s : Found) → HasTokens f → (s.faults ≡ [] → s.limit ≡ None → ⊥) → Extends n f s s
kept n f s t closed = λ files l st. record {
  faults = rows-good HasTokens IsLexBreach 0 files f s.faults t st.faults;
  limit = λ z. first-stays files f s.limit (closed z) (st.limit z);
  treeless = λ z o. absurd (closed z o);
  parsed = λ z o _. absurd (closed z o);
}

-- the file's tokens pass a limit, as the first
pub limited : (n : ℕ) (f : SourceFile) (s : Found) (w : LimitName) → s.limit ≡ None → HasLimit (Some w) f
    → Extends n f s (record { faults = s.faults; limit = Some w; treeless = s.treeless; parsed = s.parsed })
limited n f s w none h = λ files l st. record {
  faults = rows-good HasTokens IsLexBreach 0 files f s.faults (has-tokens (Some w) f h) st.faults;
  limit = λ z. first-here files f w (subst (IsFirst files) none (st.limit z)) h;
  treeless = λ z o. absurd (not-none w o);
  parsed = λ z o _. absurd (not-none w o);
}

-- no limit is passed yet
within : (files : List SourceFile) (f : SourceFile) (o : Option LimitName) → o ≡ None → HasLimit None f → IsFirst files o → IsFirst (files ++ f ∷ []) o
within files f o none h a = subst (IsFirst (files ++ f ∷ [])) (sym none) (All-push (HasLimit None) files f (subst (IsFirst files) none a) h)

-- what stands for no list of the file's tokens stands for none
pub lacks-tree : (f : SourceFile) (ts : List Token) → Tokens f.bytes ts → ((tree : File) → IsFile ts tree → ⊥) → HasTree f → ⊥
lacks-tree f ts t never h = never h.2 (subst (λ us. IsFile us h.2) (one_list f.bytes h.0 ts h.1 t) h.3)

-- no tree stands for the file's tokens
pub treeless : (n : ℕ) (f : SourceFile) (s : Found) (rows : List ℕ) → rows ≡ s.treeless ++ n ∷ [] → s.limit ≡ None → HasLimit None f → (HasTree f → ⊥)
    → Extends n f s (record { faults = s.faults; limit = s.limit; treeless = rows; parsed = s.parsed })
treeless n f s rows e none h lacks = λ files l st. record {
  faults = rows-good HasTokens IsLexBreach 0 files f s.faults (has-tokens None f h) st.faults;
  limit = λ z. within files f s.limit none h (st.limit z);
  treeless = λ z o. subst (Rows HasTree IsTreeless 0 (files ++ f ∷ [])) (sym e) (rows-next HasTree IsTreeless 0 n files f s.treeless n (sym l ∙ sym (zero-add (length files))) (refl, lacks) (st.treeless z o));
  parsed = λ z o r. absurd (some-item s.treeless n (sym e ∙ r));
}

zip-next : (files : List SourceFile) (f : SourceFile) (ps : List ParsedFile) (p : ParsedFile) → IsParsed f p → AllZip IsParsed files ps → AllZip IsParsed (files ++ f ∷ []) (ps ++ p ∷ [])
zip-next [] f [] p h a = (h, tt)
zip-next [] f (q ∷ ps) p h a = absurd a
zip-next (e ∷ files) f [] p h a = absurd a
zip-next (e ∷ files) f (q ∷ ps) p h a = (a.0, zip-next files f ps p h a.1)

pub has-tree : (f : SourceFile) (p : ParsedFile) → IsParsed f p → HasTree f
has-tree f p h = (h.1.0, h.1.1, file_of p.tree, h.1.2)

-- a tree stands for the file's tokens
pub parsed : (n : ℕ) (f : SourceFile) (s : Found) (ps : List ParsedFile) (p : ParsedFile) → ps ≡ s.parsed ++ p ∷ [] → s.limit ≡ None → HasLimit None f → IsParsed f p
    → Extends n f s (record { faults = s.faults; limit = s.limit; treeless = s.treeless; parsed = ps })
parsed n f s ps p e none h t = λ files l st. record {
  faults = rows-good HasTokens IsLexBreach 0 files f s.faults (has-tokens None f h) st.faults;
  limit = λ z. within files f s.limit none h (st.limit z);
  treeless = λ z o. rows-good HasTree IsTreeless 0 files f s.treeless (has-tree f p t) (st.treeless z o);
  parsed = λ z o r. subst (AllZip IsParsed (files ++ f ∷ [])) (sym e) (zip-next files f s.parsed p t (st.parsed z o r));
}
