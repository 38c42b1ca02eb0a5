-- The dump of a valid schema reads back as this schema, or passes a limit.
use Rattle.std.proofs.Common.{◌≢◌, ◌⊎◌, ℕ, List, ◌++◌, map, inl, inr, refl, subst, sym, ap, ◌∙◌}
use Rattle.aidl_base.specs.declared.limit.Limit.{Limit}
use Rattle.aidl_base.specs.declared.source_file.SourceFile.{SourceFile}
use Rattle.aidl_names.specs.Refusals.{IsAccepted}
use Rattle.aidl_names.specs.Rules.{other_imports, taken}
use Rattle.aidl_schema.specs.declared.schema.Decl.{Decl}
use Rattle.aidl_schema.specs.Valid.{IsValid}
use Rattle.aidl_schema.proofs.lemmas.Valids.{all_hold, decls_apart, few_decls, names_ascend}
use Rattle.aidl_syntax.specs.declared.tree.ParsedFile.{ParsedFile}
use Rattle.aidl_syntax.specs.Sources.{Source, source_of}
use Rattle.aidl_syntax.specs.Tokens.{Tokens}
use Rattle.api_dump.specs.Dump.{dump_text, file_pieces}
use Rattle.declared_names.specs.Declarations.{declarations}
use Rattle.declared_names.specs.Numbered.{in_each}
use Rattle.dump_reading.specs.Dumped.{AreSources}
use Rattle.dump_reading.specs.Files.{AreDumped}
use Rattle.dump_reading.specs.Reading.{HaveTrees}
use Rattle.dump_reading.proofs.Back.{never_lexical, never_treeless, no_rows, trees_back}
use Rattle.dump_reading.proofs.filed.Files.{IsFileOf, all_at, all_files}
use Rattle.dump_reading.proofs.filed.Sources.{all_tokens, all_trees, are_sources, rising}
use Rattle.dump_reading.proofs.grown.Declarations.{file_made}
use Rattle.dump_reading.proofs.grown.Made.{kinds_at}
use Rattle.dump_reading.proofs.named.Accepted.{nothing}
use Rattle.dump_reading.proofs.named.Entries.{are_entries}
use Rattle.dump_reading.proofs.named.Files.{files_stand}
use Rattle.dump_reading.proofs.named.Stand.{inside_none, left_out_none, passed_none, taken_none, unknown_none}
use Rattle.dump_reading.proofs.spelled.Declarations.{file_laid}
use Rattle.dump_reading.proofs.spelled.Laid.{cut_laid}
use Rattle.dump_reading.proofs.spelled.Plain.{tokens_at}
use Rattle.dump_reading.proofs.spelled.Texts.{text_plain}
use Rattle.dump_reading.proofs.valued.Enums.{enums_bare}
use Rattle.tree_files.specs.declared.fault.FilesFault.{FilesFault}
use Rattle.tree_files.specs.declared.fault.LexBreach.{LexBreach}
use Rattle.tree_files.specs.declared.fault.FilesFault.TheVariants as files
use Rattle.tree_files.specs.Files.{HasTokens, HasTree}
use Rattle.tree_files.specs.Parsed.{AreParsed}
use Rattle.tree_files.specs.Refusals as parsing
use Rattle.tree_files.specs.Refusals.{IsLexBreach, IsTreeless}
use Rattle.tree_files.proofs.lemmas.SomeAnswer.{parsed-or-refused}
use Rattle.type_check.specs.declared.fault.CheckFault.TheVariants as check
use Rattle.type_check.specs.Checked.{IsSchemaOf}
use Rattle.type_check.specs.Refusals.{IsRefusal}

module _ (S : List Decl) (valid : IsValid S) where
  -- the tokens of each file stand for a tree
  pub have_trees : HaveTrees S
  have_trees = λ i f e.
      let of = all_at (IsFileOf S) _ (all_files S) i f e in
      let x = of.0 in let ps = file_pieces S x in
      let hold = all_hold S valid in
      let laid_so = file_laid S hold x.0 x.1 of.1.0 in
      let tree = (file_made S hold (enums_bare S valid.enums) x.0 x.1 of.1.0).at (tokens_at 0 ps) (kinds_at 0 ps) in
      (x, of.1, of.2, (tokens_at 0 ps, subst (λ bs. Tokens bs (tokens_at 0 ps)) (sym (ap (λ g. g.1) of.2 ∙ text_plain ps laid_so)) (cut_laid 0 ps laid_so), tree.0, tree.1, tree.2))

  -- no limit on declarations is passed, and no rule of the names stage broken
  pub accepted : (sources : List Source) → AreSources S (dump_text S) sources → IsAccepted sources
  accepted sources h =
      let hold = all_hold S valid in let sorted = names_ascend S valid in let apart = decls_apart S valid in let few = few_decls S valid in
      let entries = are_entries S hold sorted apart sources h in
      let enums = enums_bare S valid.enums in
      let f = files_stand S hold sources h in (
        passed_none S hold sorted apart valid.members valid.limits enums few sources entries,
        nothing sources f.0
            (ap (λ spots. spots ++ taken (declarations sources) ++ in_each other_imports 0 sources) (inside_none S hold sorted apart valid.members valid.limits enums few sources entries)
            ∙ ap (λ spots. spots ++ in_each other_imports 0 sources) (taken_none S hold sorted apart valid.members valid.limits enums few sources entries) ∙ f.2) f.1
            (unknown_none S hold sorted apart valid.members valid.limits enums few sources entries) (left_out_none S hold sorted apart valid.members valid.limits enums few sources entries),
      )

  -- files that are parsed have this schema
  pub back : (fs : List SourceFile) (trees : List ParsedFile) → AreDumped S fs → AreParsed fs trees → IsSchemaOf fs S
  back fs trees e p =
      let hold = all_hold S valid in let sorted = names_ascend S valid in let apart = decls_apart S valid in
      let h = are_sources S have_trees fs trees p.trees e in (
        trees,
        p,
        trees_back S hold sorted apart (enums_bare S valid.enums) valid.names valid.bounds (map source_of trees) (are_entries S hold sorted apart (map source_of trees) h) (rising fs trees p.trees)
            (accepted (map source_of trees) h),
      )

  -- no file is without tokens, and none without a tree
  pub never_cut : (fs : List SourceFile) → AreDumped S fs → (rows : List LexBreach) → parsing.IsRefusal fs (files.Lex rows) → ⊥
  never_cut fs e rows h = h.2 (no_rows HasTokens IsLexBreach never_lexical 0 fs (all_tokens S have_trees fs e) rows h.1)

  pub never_stopped : (fs : List SourceFile) → AreDumped S fs → (rows : List ℕ) → parsing.IsRefusal fs (files.Syntax rows) → ⊥
  never_stopped fs e rows h = h.3 (no_rows HasTree IsTreeless never_treeless 0 fs (all_trees S have_trees fs e) rows h.2)

  module _ (fs : List SourceFile) (dumped : AreDumped S fs) where
    abbrev BackOrLimit : Type 0
    BackOrLimit = IsSchemaOf fs S ⊎ ((l : Limit) × IsRefusal fs (check.Limit l))

    by_refusal : (e : FilesFault) → e ≢ files.OutOfMemory → parsing.IsRefusal fs e → BackOrLimit
    by_refusal (files.Limit l) differs h = inr (l, inl h)
    by_refusal (files.Lex rows) differs h = absurd (never_cut fs dumped rows h)
    by_refusal (files.Syntax rows) differs h = absurd (never_stopped fs dumped rows h)
    by_refusal files.OutOfMemory differs h = absurd (differs refl)

    by_answer : ((trees : List ParsedFile) × AreParsed fs trees) ⊎ ((e : FilesFault) × (e ≢ files.OutOfMemory) × parsing.IsRefusal fs e) → BackOrLimit
    by_answer (inl h) = inl (back fs h.0 dumped h.1)
    by_answer (inr h) = by_refusal h.0 h.1 h.2

    pub back_or_limit : BackOrLimit
    back_or_limit = by_answer (parsed-or-refused fs)
