use Rattle.std.proofs.Common.{◌≡◌, ◌<◌, ◌≤◌, ◌+◌, ℕ, List, length, get_or, map, take, sym, subst, arith}
use Rattle.std.specs.List.{All}
use Rattle.std.proofs.lemmas.List.{take_all}
use Rattle.std.proofs.lemmas.List.Elements.{All-get_or, All-map, All-more}
use Rattle.aidl_syntax.specs.Sources.{IsOfBytes, Source, source_of}
use Rattle.aidl_syntax.specs.declared.tree.ParsedFile.{ParsedFile}
use Rattle.tree_schema.specs.Named.{HasIdentifiers}
use Rattle.tree_schema.proofs.Trees.{AreHeld, ArePlaced}
use Rattle.tree_schema.proofs.laws.law_trees.Goals as goal

-- what holds of the files so far holds of one more
one_more : (P : Source → Type 0) (files : List ParsedFile) (i : ℕ) (f : ParsedFile) → i < length files → f ≡ get_or files i f → P (source_of f)
    → All (λ g. P (source_of g)) (take i files) → All (λ g. P (source_of g)) (take (i + 1) files)
one_more P files i f lt is here all = All-more (λ g. P (source_of g)) files i f lt all (subst (λ g. P (source_of g)) is here)

of_all : (P : Source → Type 0) (files : List ParsedFile) (i : ℕ) → length files ≤ i → All (λ g. P (source_of g)) (take i files) → All P (map source_of files)
of_all P files i le all = All-map P source_of files (subst (All (λ f. P (source_of f))) (take_all i files le) all)

pub loop-file-preserved : goal.loop-file-preserved
loop-file-preserved c =
    let files = c.args.files.now in
    let i = c.loop-file.file-index in
    let f = c.file-item.result in
    let is : IsOfBytes f = subst IsOfBytes (sym c.file-item.is) (All-get_or IsOfBytes files i f (omega arith) c.requires.each) in
    record {
      names = one_more HasIdentifiers files i f (omega arith) c.file-item.is (c.law_tree.ensures.names is.0 (is.1, is.3, is.4)) c.loop-file.invariant.names;
      places = one_more ArePlaced files i f (omega arith) c.file-item.is (c.law_tree.ensures.ascend is.0 (is.1, is.3, is.4)) c.loop-file.invariant.places;
      literals = one_more AreHeld files i f (omega arith) c.file-item.is (c.law_tree.ensures.literals is.0 (is.1, is.3, is.4)) c.loop-file.invariant.literals;
    }

pub returns-clause-names : goal.returns-clause-names
returns-clause-names c = of_all HasIdentifiers c.args.files.now c.loop-file.file-index (omega arith) c.loop-file.invariant.names

pub returns-clause-places : goal.returns-clause-places
returns-clause-places c = of_all ArePlaced c.args.files.now c.loop-file.file-index (omega arith) c.loop-file.invariant.places

pub returns-clause-literals : goal.returns-clause-literals
returns-clause-literals c = of_all AreHeld c.args.files.now c.loop-file.file-index (omega arith) c.loop-file.invariant.literals
