use Rattle.std.proofs.Common.{List, ◌++◌, ◌∷◌, [], Option, Some, None, refl, sym, ◌∙◌, ap, map, length}
use Rattle.std.proofs.lemmas.List.{length-map}
use Rattle.aidl_base.specs.declared.name.Ident.{Ident}
use Rattle.declared_names.specs.Declarations.{Entry}
use Rattle.declared_names.specs.declared.found.Found.{Found}
use Rattle.name_resolution.specs.declared.meaning.Resolved.{Resolved}
use Rattle.aidl_syntax.specs.Sources.{source_of}
use Rattle.name_resolution.specs.Resolution.{first_declared}
use Rattle.declared_names.specs.Entries.{entry_of}
use Rattle.name_resolution.proofs.lemmas.Candidates.{tried}
use Rattle.name_resolution.proofs.resolution.first_declared.Goals as goal

pub returns-in-Some-in_enclosing : goal.returns-in-Some-in_enclosing
returns-in-Some-in_enclosing c =
    tried (map entry_of c.args.declarations.now) (source_of c.args.file.now) c.args.scope _ c.args.name.now None (Some c.in-Some-in_enclosing.meaning) _ _
    c.in-None.ensures (ap (λ (z : List Found). length z) c.as_slice-found.ensures.same ∙ sym (length-map c.args.declarations.now entry_of)) c.in-Some-in_enclosing.ensures refl refl

pub returns-in-Some-through_imports : goal.returns-in-Some-through_imports
returns-in-Some-through_imports c =
    tried (map entry_of c.args.declarations.now) (source_of c.args.file.now) c.args.scope _ c.args.name.now None None (Some c.in-Some-through_imports.meaning) _
    c.in-None.ensures (ap (λ (z : List Found). length z) c.as_slice-found.ensures.same ∙ sym (length-map c.args.declarations.now entry_of)) c.in-None-in_enclosing.ensures
    (c.in-Some-through_imports.ensures ∙ ap (λ (m : List Entry → List Ident → Option Resolved). m (map entry_of c.args.declarations.now) c.args.name.now) c.requires.imports) refl

pub returns : goal.returns
returns c =
    tried (map entry_of c.args.declarations.now) (source_of c.args.file.now) c.args.scope _ c.args.name.now None None None c.declared-2.result
    c.in-None.ensures (ap (λ (z : List Found). length z) c.as_slice-found.ensures.same ∙ sym (length-map c.args.declarations.now entry_of)) c.in-None-in_enclosing.ensures
    (c.in-None-through_imports.ensures ∙ ap (λ (m : List Entry → List Ident → Option Resolved). m (map entry_of c.args.declarations.now) c.args.name.now) c.requires.imports)
    (c.declared-2.ensures ∙ ap (λ front. first_declared (map entry_of c.args.declarations.now) ((front ++ c.args.name.now) ∷ [])) c.package-front.ensures)
