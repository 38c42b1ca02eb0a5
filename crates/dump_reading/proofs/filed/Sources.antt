-- The files of a dump as they are parsed are what stands for it.
use Rattle.std.proofs.Common.{◌≡◌, ℕ, zero, suc, List, [], ◌∷◌, map, Some, slice_get, refl, sym, ap, ◌∙◌, subst}
use Rattle.std.specs.List.{All, AllZip}
use Rattle.std.specs.List.Sorted.{IsStrictlyIncreasing}
use Rattle.std.specs.Str.{encode_utf8_all}
use Rattle.std.proofs.lemmas.List.Elements.{All-nil, All-cons, All-weaker}
use Rattle.aidl_base.specs.declared.source_file.SourceFile.{SourceFile}
use Rattle.aidl_syntax.specs.declared.token.Token.{Token}
use Rattle.aidl_syntax.specs.declared.tree.ParsedFile.{ParsedFile}
use Rattle.aidl_syntax.specs.Sources.{source_of}
use Rattle.aidl_syntax.specs.Tokens.{Tokens}
use Rattle.aidl_syntax.specs.Trees as syntax
use Rattle.aidl_syntax.specs.Productions.{IsFile}
use Rattle.aidl_syntax.specs.Walks.{places_of}
use Rattle.aidl_syntax.specs.Parses.{FileParse}
use Rattle.aidl_syntax.proofs.lemmas.Leaves.{ascend}
use Rattle.aidl_lexer.proofs.lemmas.meaning.OneLexing.{one_list}
use Rattle.aidl_parser.proofs.lemmas.productions.Parses.{one_tree}
use Rattle.tree_files.specs.Files.{IsParsed, HasTokens, HasTree}
use Rattle.aidl_schema.specs.declared.schema.Decl.{Decl}
use Rattle.api_dump.specs.Dump.{File, file_of, dump_text}
use Rattle.dump_reading.specs.Bare.{bare_file}
use Rattle.dump_reading.specs.DumpTrees.{file_tree}
use Rattle.dump_reading.specs.Dumped.{IsSourceOf, AreSources}
use Rattle.dump_reading.specs.Files.{file_pair}
use Rattle.dump_reading.specs.Reading.{IsTop, HaveTrees}

module _ (S : List Decl) where
  -- a file of the dump with its tree
  abbrev pub HasItsTree : File → Type 0
  HasItsTree g = (x : ℕ × Decl) × IsTop S x × (g ≡ file_of S x) × ((ts : List Token) × Tokens g.1 ts × (t : syntax.File) × IsFile ts t × (bare_file t ≡ file_tree S x))

  one_source : (f : SourceFile) (p : ParsedFile) (g : File) → IsParsed f p → file_pair f ≡ g → HasItsTree g → IsSourceOf S g (source_of p)
  one_source f p g h e q =
      let r = q.3 in
      let bytes : g.1 ≡ f.bytes = ap (λ z. z.1) (sym e) in
      let same : h.1.0 ≡ r.0 = one_list f.bytes h.1.0 r.0 h.1.1 (subst (λ bs. Tokens bs r.0) bytes r.1) in
      let tree : syntax.file_of p.tree ≡ r.2 = one_tree r.0 (syntax.file_of p.tree) r.2 (subst (λ (ts : List Token). IsFile ts (syntax.file_of p.tree)) same h.1.2) r.3 in
      (ap encode_utf8_all h.0 ∙ ap (λ z. z.0) e, q.0, q.1, q.2, ap bare_file tree ∙ r.4)

  sources : (fs : List SourceFile) (ps : List ParsedFile) (gs : List File) → AllZip IsParsed fs ps → map file_pair fs ≡ gs → ((i : ℕ) (g : File) → slice_get gs i ≡ Some g → HasItsTree g) → AreSources S gs (map source_of ps)
  sources [] [] [] h e q = tt
  sources [] [] (g ∷ gs) h e q = cc
  sources [] (p ∷ ps) gs h e q = absurd h
  sources (f ∷ fs) [] gs h e q = absurd h
  sources (f ∷ fs) (p ∷ ps) [] h e q = cc
  sources (f ∷ fs) (p ∷ ps) (g ∷ gs) h e q =
      let here : file_pair f ≡ g = cc in let rest : map file_pair fs ≡ gs = cc in
      (one_source f p g h.0 here (q zero g refl), sources fs ps gs h.1 rest (λ i x at. q (suc i) x at))

  pub are_sources : HaveTrees S → (fs : List SourceFile) (ps : List ParsedFile) → AllZip IsParsed fs ps → map file_pair fs ≡ dump_text S → AreSources S (dump_text S) (map source_of ps)
  are_sources trees fs ps h e = sources fs ps (dump_text S) h e (λ i g at. let r = trees i g at in (r.0, r.1, r.2, r.3))

-- of the tree of any bytes the places ascend
is_rising : (p : ParsedFile) (bytes : List ℕ) → FileParse bytes p.tree → IsStrictlyIncreasing (places_of (syntax.file_of p.tree))
is_rising p bytes (tokens, cut, file) = ascend bytes tokens (syntax.file_of p.tree) cut file

pub rising : (fs : List SourceFile) (ps : List ParsedFile) → AllZip IsParsed fs ps → All (λ s. IsStrictlyIncreasing (places_of s.tree)) (map source_of ps)
rising [] [] h = All-nil (λ s. IsStrictlyIncreasing (places_of s.tree))
rising [] (p ∷ ps) h = absurd h
rising (f ∷ fs) [] h = absurd h
rising (f ∷ fs) (p ∷ ps) h = All-cons (λ s. IsStrictlyIncreasing (places_of s.tree)) (source_of p) (map source_of ps) (is_rising p f.bytes h.0.1) (rising fs ps h.1)

-- Each file has tokens, and a tree.
module _ (S : List Decl) where
  each_has : (fs : List SourceFile) (gs : List File) → map file_pair fs ≡ gs → ((i : ℕ) (g : File) → slice_get gs i ≡ Some g → HasItsTree S g) → All HasTree fs
  each_has [] gs e q = All-nil HasTree
  each_has (f ∷ fs) [] e q = cc
  each_has (f ∷ fs) (g ∷ gs) e q =
      let here : file_pair f ≡ g = cc in let rest : map file_pair fs ≡ gs = cc in
      let r = (q zero g refl).3 in
      let bytes : g.1 ≡ f.bytes = ap (λ z. z.1) (sym here) in
      All-cons HasTree f fs (r.0, subst (λ bs. Tokens bs r.0) bytes r.1, r.2, r.3) (each_has fs gs rest (λ i x at. q (suc i) x at))

  pub all_trees : HaveTrees S → (fs : List SourceFile) → map file_pair fs ≡ dump_text S → All HasTree fs
  all_trees trees fs e = each_has fs (dump_text S) e (λ i g at. let r = trees i g at in (r.0, r.1, r.2, r.3))

  pub all_tokens : HaveTrees S → (fs : List SourceFile) → map file_pair fs ≡ dump_text S → All HasTokens fs
  all_tokens trees fs e = All-weaker HasTree HasTokens (λ f h. (h.0, h.1)) fs (all_trees trees fs e)
