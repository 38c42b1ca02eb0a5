use Rattle.std.proofs.Common.{◌≤◌, List, map, length, get_or, sym, ◌∙◌, ap, subst, arith}
use Rattle.aidl_syntax.specs.declared.tree.DottedTree.{DottedTree}
use Rattle.aidl_syntax.specs.declared.tree.ParsedFile.{ParsedFile}
use Rattle.aidl_syntax.specs.Sources.{source_of}
use Rattle.declared_names.specs.Declarations.{Entry, declarations}
use Rattle.declared_names.specs.Entries.{entry_of}
use Rattle.name_resolution.specs.Imports.{meant_through}
use Rattle.name_resolution.specs.Asked.{Knows}
use Rattle.name_resolution.proofs.lemmas.Told.{known_there}
use Rattle.name_resolution.proofs.lemmas.Places.{there}
use Rattle.name_resolution.proofs.OfFiles.{in_some_file, in_no_file, table_at, as_many}
use Rattle.name_resolution.proofs.resolution.resolved.Goals as goal

pub meaning_in_file-requires-clause-imports : goal.meaning_in_file-requires-clause-imports
meaning_in_file-requires-clause-imports c =
    let files : List ParsedFile = c.args.resolver.now.0 in
    let kept : List (List DottedTree) = c.args.resolver.now.1 in
    let w = there c.files-files.result.now files c.args.number c.in-Some.file.now c.files-files.ensures c.in-Some.ensures.lookup.3.0 c.in-Some.ensures.lookup.1 in
    table_at files c.args.number c.in-Some.file.now kept c.index-all-number.result c.imports-all.ensures.meant w.0 w.1
    (c.index-all-number.is ∙ ap (λ (z : List (List DottedTree)). get_or z c.args.number c.index-all-number.result) c.imports-all.ensures.same)

pub meaning_in_file-requires-clause-known : goal.meaning_in_file-requires-clause-known
meaning_in_file-requires-clause-known c =
    let files : List ParsedFile = c.args.resolver.now.0 in
    let kept : List (List DottedTree) = c.args.resolver.now.1 in
    let w = there c.files-files.result.now files c.args.number c.in-Some.file.now c.files-files.ensures c.in-Some.ensures.lookup.3.0 c.in-Some.ensures.lookup.1 in
    let l = as_many files kept c.imports-all.ensures.meant in
    let lt = w.0 in
    let Told : List Entry → Type 0 = λ es. Knows (meant_through c.index-all-number.result es c.args.name.now) c.args.known in
    subst Told (sym c.declarations-declarations.ensures)
    (known_there kept (declarations (map source_of files)) c.args.number c.index-all-number.result c.args.name.now c.args.known (omega (arith, l, lt))
    (c.index-all-number.is ∙ ap (λ (z : List (List DottedTree)). get_or z c.args.number c.index-all-number.result) c.imports-all.ensures.same) c.requires.known)

pub returns-in-Some : goal.returns-in-Some
returns-in-Some c =
    let files : List ParsedFile = c.args.resolver.now.0 in
    let w = there c.files-files.result.now files c.args.number c.in-Some.file.now c.files-files.ensures c.in-Some.ensures.lookup.3.0 c.in-Some.ensures.lookup.1 in
    in_some_file files c.args.number c.args.scope c.args.name.now (map entry_of c.declarations-declarations.result.now) c.in-Some.file.now c.meaning_in_file.result c.declarations-declarations.ensures
    w.0 w.1 c.meaning_in_file.ensures

pub returns-in-None : goal.returns-in-None
returns-in-None c =
    let Beyond : List ParsedFile → Type 0 = λ z. length z ≤ c.args.number in
    in_no_file c.args.resolver.now.0 c.args.number c.args.scope c.args.name.now (subst Beyond c.files-files.ensures c.in-None.ensures.lookup.3)
